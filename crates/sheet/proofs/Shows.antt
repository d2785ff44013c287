-- What a sound sheet shows is what the plain sheet works out.
use Rattle.std.proofs.Common.{◌≡◌, ℕ, ◌+◌, ◌≤◌, List, [], ◌∷◌, map, drop, Ok, Err, sym, refl, ap, ◌∙◌, arith}
use Rattle.feeder.specs.Laws.{Told}
use Rattle.sheet.specs.Position.{entry_of, again}
use Rattle.sheet.specs.Calls.{Shown, shown, total, accepted_in, refused_in, open_in}
use Rattle.sheet.specs.Happened.{entries_of, shown_of, total_of}
use Rattle.sheet.specs.Stored.{open_one, open_ones, standing_in, stands_one}
use Rattle.sheet.specs.declared.counts.Counts.{Counts}
use Rattle.sheet.specs.declared.position.State.{State}
use Rattle.sheet.specs.declared.position.State.TheVariants as state

-- the plain sheet shows a state as it is after judging again
shown_again : (told : Told) (s : State) → shown told (entry_of s) ≡ shown_of (again told s)
shown_again told state.Empty = refl
shown_again told (state.Standing bar v) = refl
shown_again told (state.Open bar) = refl

-- so of a sound table in the counts
total_again : (told : Told) (one : Shown → ℕ) (table : List State) → total told one (entries_of table) ≡ total_of one (map (again told) table)
total_again told one [] = refl
total_again told one (p ∷ rest) =
    ap (λ s. one s + total told one (entries_of rest)) (shown_again told p)
    ∙ ap (λ n. one (shown_of (again told p)) + n) (total_again told one rest)

pub total_sound : (told : Told) (one : Shown → ℕ) (table : List State) → map (again told) table ≡ table → total_of one table ≡ total told one (entries_of table)
total_sound told one table sound = sym (total_again told one table ∙ ap (total_of one) sound)

-- what is counted, with what is left to count, comes to the whole
pub record Counting (table : List State) (c : Counts) (i : ℕ) : Type 0 where
  pub accepted : c.accepted + total_of accepted_in (drop i table) ≡ total_of accepted_in table
  pub refused : c.refused + total_of refused_in (drop i table) ≡ total_of refused_in table
  pub opened : c.opened + total_of open_in (drop i table) ≡ total_of open_in table
  pub few : c.accepted + c.refused + c.opened ≤ i

-- as many stand as are accepted or refused

stands_shown : (s : State) → accepted_in (shown_of s) + refused_in (shown_of s) ≡ stands_one (entry_of s)
stands_shown state.Empty = refl
stands_shown (state.Standing bar (Ok _)) = refl
stands_shown (state.Standing bar (Err _)) = refl
stands_shown (state.Open bar) = refl

pub standing_total : (table : List State) → total_of accepted_in table + total_of refused_in table ≡ standing_in (entries_of table)
standing_total [] = refl
standing_total (s ∷ rest) = omega (arith, stands_shown s, standing_total rest)

opens_shown : (s : State) → open_in (shown_of s) ≡ open_one (entry_of s)
opens_shown state.Empty = refl
opens_shown (state.Standing bar v) = refl
opens_shown (state.Open bar) = refl

pub open_total : (table : List State) → total_of open_in table ≡ open_ones (entries_of table)
open_total [] = refl
open_total (s ∷ rest) = omega (arith, opens_shown s, open_total rest)
