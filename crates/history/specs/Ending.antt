-- A sheet after every slip that was out for it was withdrawn.
use Rattle.std.specs.Prelude.{◌≡◌, ℕ, map}
use Rattle.feeder.specs.Laws.{Told}
use Rattle.sheet.specs.Happened.{Sound, plain_of}
use Rattle.sheet.specs.Plain.{Entry, Plain}
use Rattle.sheet.specs.declared.sheet.Sheet.{Sheet}

-- an open position stands again with the record that was kept for it; any other is as it was
abbrev pub stands_again : Entry → Entry
stands_again Entry.empty = Entry.empty
stands_again (Entry.standing r) = Entry.standing r
stands_again (Entry.opened r) = Entry.standing r

abbrev pub all_withdrawn : Plain → Plain
all_withdrawn p = record { job = p.job; level = p.level; entries = map stands_again p.entries }

pub record Withdrawn {F : Type 0} (meaning : F → ℕ → Told) (before after : Sheet F) : Type 0 where
  pub plain : plain_of after ≡ all_withdrawn (plain_of before)
  pub sound : Sound meaning before → Sound meaning after
  pub same_feeder : after.feeder ≡ before.feeder
