-- Taking a slip out of those in hand to spend it, and putting it back where it was not spent.
use Rattle.std.proofs.Common.{◌≡◌, ℕ, ◌<◌, List, length, get_or, Some, None, Option, sym, ap, ◌∙◌, subst, arith}
use Rattle.std.proofs.lemmas.List.{drop-map, get_or-map, map-append, take-map}
use Rattle.std.proofs.lemmas.Grind.{common_steps}
use Rattle.std.specs.List.{insert, remove}
use Rattle.busbar.specs.declared.question.Question.{Question}
use Rattle.busbar.specs.declared.record.Record.{Record}
use Rattle.feeder.specs.Laws.{Told}
use Rattle.sheet.specs.Calls.{Answer}
use Rattle.sheet.specs.Happened.{Happened}
use Rattle.sheet.specs.declared.sheet.Sheet.{Sheet}
use Rattle.sheet.specs.declared.slip.Slip.{Slip}
use Rattle.history.proofs.Searches.{found_inside}
use Rattle.history.specs.Values.{answer, not_in_hand}
use Rattle.history.specs.Hand.{Did, Found, Hand, can_be_made, hand_after, hand_of, holds, slip_of, spending, without}

-- what was taken out and put back at its place
pub put_back_is : {X : Type 0} (xs : List X) (i : ℕ) (x : X) → i < length xs → x ≡ get_or xs i x → insert (remove xs i) i x ≡ xs
put_back_is xs i x lt is = grind (arith, common_steps)

hand_removed : (slips : List Slip) (i : ℕ) → hand_of (remove slips i) ≡ remove (hand_of slips) i
hand_removed slips i = simp (map-append, take-map, drop-map)

pub can_spend : (h : Hand) (job n : ℕ) (bar : Option Record) → can_be_made h (spending job n bar) ≡ holds h job n
can_spend h job n bar = grind arith

hand_without : (h : Hand) (job n : ℕ) (bar : Option Record) → hand_after h (spending job n bar) Answer.done ≡ without h job n
hand_without h job n bar = grind arith

hand_kept : (h : Hand) (job n : ℕ) (bar : Option Record) (no_to : Question) → hand_after h (spending job n bar) (Answer.refused no_to) ≡ h
hand_kept h job n bar no_to = grind arith

-- the slip was not there
pub not_there : {F : Type 0} (meaning : F → ℕ → Told) (before : Sheet F) (slips seen : List Slip) (job n : ℕ) (bar : Option Record)
    → seen ≡ slips → Found (hand_of seen) job n None → Did meaning before (hand_of slips) (spending job n bar) not_in_hand before (hand_of slips)
not_there meaning before slips seen job n bar all found =
    Did.not_made (can_spend (hand_of slips) job n bar ∙ rw all at found)

module _ {F : Type 0} (meaning : F → ℕ → Told) (before after : Sheet F) (slips seen : List Slip) (slip : Slip) (job n i : ℕ) (bar : Option Record)
    (all : seen ≡ slips) (found : Found (hand_of seen) job n (Some i)) (taken : slip ≡ get_or slips i slip) where
  there : Found (hand_of slips) job n (Some i)
  there = rw all at found

  -- the slip that was taken is the one that was looked for
  named : slip_of slip ≡ (job, n)
  named = ap slip_of taken ∙ sym (get_or-map slip_of slips i slip (0, 0) (found_inside slips job n i there)) ∙ there.1

  as_called : (a : Answer) → Happened meaning before (spending slip.job slip.position bar) a after → Happened meaning before (spending job n bar) a after
  as_called a did = subst (λ (s : ℕ × ℕ). Happened meaning before (spending s.0 s.1 bar) a after) named did

  pub spent_now : (fewer : List Slip) → fewer ≡ remove slips i → Happened meaning before (spending slip.job slip.position bar) Answer.done after
      → Did meaning before (hand_of slips) (spending job n bar) (answer Answer.done) after (hand_of fewer)
  spent_now fewer is did =
      subst (Did meaning before (hand_of slips) (spending job n bar) (answer Answer.done) after)
      (hand_without (hand_of slips) job n bar ∙ there.3 ∙ sym (ap hand_of is ∙ hand_removed slips i))
      (Did.made (can_spend (hand_of slips) job n bar ∙ there.2) (as_called Answer.done did))

  pub not_spent : (fewer again : List Slip) (back : Slip) (no_to : Question) → fewer ≡ remove slips i → back ≡ slip → again ≡ insert fewer i back
      → Happened meaning before (spending slip.job slip.position bar) (Answer.refused no_to) after
      → Did meaning before (hand_of slips) (spending job n bar) (answer (Answer.refused no_to)) after (hand_of again)
  not_spent fewer again back no_to is same put did =
      let inside = found_inside slips job n i there in
      let whole : again ≡ slips = grind (arith, put_back_is) in
      subst (Did meaning before (hand_of slips) (spending job n bar) (answer (Answer.refused no_to)) after)
      (hand_kept (hand_of slips) job n bar no_to ∙ ap hand_of (sym whole))
      (Did.made (can_spend (hand_of slips) job n bar ∙ there.2) (as_called (Answer.refused no_to) did))

pub ruleset spending_one = (not_there, spent_now, not_spent)
