-- Slips: when one fits a sheet.
use Rattle.std.specs.Prelude.{◌≡◌, ◌-◌, ◌≤◌, Bool, true, false, slice_index_or}
use Rattle.sheet.specs.Plain.{Entry, Plain}
use Rattle.sheet.specs.declared.slip.Slip.{Slip}

abbrev pub is_opened : Entry → Bool
is_opened Entry.empty = false
is_opened (Entry.standing r) = false
is_opened (Entry.opened r) = true

-- the slip's job is the sheet's, and its position open
pub record Fits (s : Slip) (p : Plain) : Type 0 where
  pub same_job : s.job ≡ p.job
  pub low : 1 ≤ s.position
  pub high : s.position ≤ 32
  pub opened : is_opened (slice_index_or p.entries (s.position - 1) Entry.empty) ≡ true
