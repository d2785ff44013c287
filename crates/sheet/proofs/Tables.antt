-- One position of the table changed, beside the plain sheet.
use Rattle.std.proofs.Common.{◌≡◌, ℕ, ◌+◌, ◌-◌, ◌<◌, ◌≤◌, true, leb, List, map, length, get_or, set, Ok, Err, sym, refl, ap, ◌∙◌, arith}
use Rattle.std.proofs.lemmas.List.{get_or-map, map-set}
use Rattle.std.proofs.lemmas.Simd.{map-map}
use Rattle.std.proofs.lemmas.Bool.{and_from, le-leb, cond-true}
use Rattle.busbar.specs.Rounding.{within}
use Rattle.busbar.specs.declared.question.Question.{Question}
use Rattle.feeder.specs.Laws.{Told, level_inside}
use Rattle.sheet.specs.Plain.{Entry, Plain, put, change_at, change_entry}
use Rattle.sheet.specs.Position.{entry_of, again, RightState}
use Rattle.sheet.specs.Happened.{entries_of}
use Rattle.sheet.specs.declared.position.Change.{Change}
use Rattle.sheet.specs.declared.position.State.{State}
use Rattle.sheet.specs.declared.position.State.TheVariants as state

pub place_inside : (n : ℕ) → 1 ≤ n → n ≤ 32 → within 1 32 n ≡ true
place_inside n low high = and_from (leb 1 n) (leb n 32) (le-leb 1 n low) (le-leb n 32 high)

-- a change at a position of the sheet is the change of its entry

module _ (table : List State) (outside : Question) (n i : ℕ) (c : Change) (d : State) (full : length table ≡ 32) (place : i + 1 ≡ n) (inside : i < 32) where
  index : n - 1 ≡ i
  index = omega arith

  at_entry : change_at outside (entries_of table) n c ≡ put (entries_of table) n (change_entry (entry_of (get_or table i d)) c)
  at_entry =
      cond-true (within 1 32 n) _ _ (place_inside n (omega arith) (omega arith))
      ∙ ap (λ j. put (entries_of table) n (change_entry (get_or (entries_of table) j Entry.empty) c)) index
      ∙ ap (λ e. put (entries_of table) n (change_entry e c)) (get_or-map entry_of table i d Entry.empty (omega arith))

  pub changed_to : (s : State) → change_entry (entry_of (get_or table i d)) c ≡ Ok (entry_of s) → change_at outside (entries_of table) n c ≡ Ok (entries_of (set table i s))
  changed_to s is =
      at_entry ∙ ap (put (entries_of table) n) is
      ∙ ap (λ j. Ok (set (entries_of table) j (entry_of s))) index
      ∙ ap Ok (sym (map-set entry_of table i s))

  pub changed_not : (no_to : Question) → change_entry (entry_of (get_or table i d)) c ≡ Err no_to → change_at outside (entries_of table) n c ≡ Err no_to
  changed_not no_to is = at_entry ∙ ap (put (entries_of table) n) is

-- working out a right verdict again changes nothing
right_again : (told : Told) (s : State) → RightState told s → again told s ≡ s
right_again told state.Empty h = refl
right_again told (state.Standing bar v) h = ap (state.Standing bar) (sym h)
right_again told (state.Open bar) h = refl

-- and so the table stays sound where the new state is right
pub sound_with : (told : Told) (table : List State) (i : ℕ) (s : State) → map (again told) table ≡ table → RightState told s
    → map (again told) (set table i s) ≡ set table i s
sound_with told table i s sound right =
    map-set (again told) table i s ∙ ap (λ t. set t i (again told s)) sound
    ∙ ap (set table i) (right_again told s right)

-- a table that is sound under figures is so under the same figures told otherwise
pub sound_under : (told same : Told) (table : List State) → told ≡ same → map (again told) table ≡ table → map (again same) table ≡ table
sound_under told same table is sound = ap (λ t. map (again t) table) (sym is) ∙ sound

-- judging again keeps every entry, and twice is as good as once

again_entry : (told : Told) (s : State) → entry_of (again told s) ≡ entry_of s
again_entry told state.Empty = refl
again_entry told (state.Standing bar v) = refl
again_entry told (state.Open bar) = refl

pub again_entries : (told : Told) (table : List State) → entries_of (map (again told) table) ≡ entries_of table
again_entries told table = map-map entry_of (again told) table ∙ (λ k. map (λ s. again_entry told s k) table)

again_twice : (told : Told) (s : State) → again told (again told s) ≡ again told s
again_twice told state.Empty = refl
again_twice told (state.Standing bar v) = refl
again_twice told (state.Open bar) = refl

pub again_sound : (told : Told) (table : List State) → map (again told) (map (again told) table) ≡ map (again told) table
again_sound told table = map-map (again told) (again told) table ∙ (λ k. map (λ s. again_twice told s k) table)

-- two plain sheets with the same parts are the same
pub same_plain : (a b : Plain) → a.job ≡ b.job → a.level ≡ b.level → a.entries ≡ b.entries → a ≡ b
same_plain a b j l e = λ i. record { job = j i; level = l i; entries = e i }

pub level_inside_true : (n : ℕ) → 100 ≤ n → n ≤ 100000 → level_inside n ≡ true
level_inside_true n low high = and_from (leb 100 n) (leb n 100000) (le-leb 100 n low) (le-leb n 100000 high)
