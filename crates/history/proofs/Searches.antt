-- Finding the first slip of a job and position in hand, and the calls that spend none.
use Rattle.std.proofs.Common.{◌≡◌, ℕ, zero, suc, ◌<◌, Bool, true, false, List, [], ◌∷◌, ◌++◌, length, Some, None, Option, Result, refl, subst, arith, MatchOption, MatchResult}
use lib.ListN.{length-map}
use Rattle.std.proofs.lemmas.List.{map_push}
use Rattle.std.proofs.lemmas.Bool.Decides.{nat_tests}
use Rattle.std.specs.List.{AllWithin, HoldsAt}
use Rattle.busbar.specs.declared.question.Question.{Question}
use Rattle.feeder.specs.Laws.{Told}
use Rattle.sheet.specs.Calls.{Answer, Call}
use Rattle.sheet.specs.Happened.{Happened, answered, loaded_or_no, state_or_no}
use Rattle.sheet.specs.declared.load.NotLoaded.{NotLoaded}
use Rattle.sheet.specs.declared.position.State.{State}
use Rattle.sheet.specs.declared.sheet.Sheet.{Sheet}
use Rattle.sheet.specs.declared.slip.Slip.{Slip}
use Rattle.history.specs.Values.{Reply, answer, call_of, not_in_hand, reply_of}
use Rattle.history.specs.Hand.{Did, Found, Hand, Made, can_be_made, hand_after, hand_of, is_slip, slip_of}
use Rattle.history.specs.declared.call.Answer.{Answer as GivenAnswer}
use Rattle.history.specs.declared.call.Answer.TheVariants as given
use Rattle.history.specs.declared.call.Call.{Call as AskedCall}

module _ (job n : ℕ) where
  abbrev pub this_one : Slip → Bool
  this_one s = is_slip job n (slip_of s)

  abbrev pub other_one : Slip → Type 0
  other_one s = this_one s ≡ false

  -- the first such slip lies at i
  found_at : (slips : List Slip) (i : ℕ) → i < length slips → HoldsAt (λ s. this_one s ≡ true) slips i → AllWithin other_one slips 0 i → Found (hand_of slips) job n (Some i)
  found_at [] i lt here before = absurd (omega arith)
  found_at (s ∷ rest) zero lt here before = let this = here s in grind (arith, nat_tests)
  found_at (s ∷ rest) (suc i) lt here before =
      let later = found_at rest i (omega arith) here (λ k d low high. before (suc k) d (omega arith) (omega arith)) in
      let other = before 0 s (omega arith) (omega arith) in
      grind arith

  -- there is none
  found_none : (slips : List Slip) → AllWithin other_one slips 0 (length slips) → Found (hand_of slips) job n None
  found_none [] none = refl
  found_none (s ∷ rest) none =
      let first = none 0 s (omega arith) (omega arith) in
      let later = found_none rest (λ k d low high. none (suc k) d (omega arith) (omega arith)) in
      grind arith

  pub found_of : (slips : List Slip) (r : Option ℕ)
      → MatchOption r (AllWithin other_one slips 0 (length slips)) (λ i. (i < length slips) × HoldsAt (λ s. this_one s ≡ true) slips i × AllWithin other_one slips 0 i)
      → Found (hand_of slips) job n r
  found_of slips r is = grind (arith, found_at, found_none)

as_long : (slips : List Slip) → length (hand_of slips) ≡ length slips
as_long slips = length-map slips slip_of

pub found_inside : (slips : List Slip) (job n i : ℕ) → Found (hand_of slips) job n (Some i) → i < length slips
found_inside slips job n i found = omega (arith, as_long slips, found.0)

-- the slip that was given, at the end of those in hand
pub opened_with : {F : Type 0} (meaning : F → ℕ → Told) (before after : Sheet F) (slips more : List Slip) (slip : Slip) (n job m : ℕ)
    → Happened meaning before (Call.opening n) (Answer.gave_slip slip.job slip.position) after → job ≡ slip.job → m ≡ slip.position → more ≡ slips ++ slip ∷ []
    → Did meaning before (hand_of slips) (Call.opening n) (answer (Answer.gave_slip job m)) after (hand_of more)
opened_with meaning before after slips more slip n job m did jobs places items = rw (jobs, places, items, map_push slip_of slips slip) (Did.made refl did)

pub not_opened : {F : Type 0} (meaning : F → ℕ → Told) (before after : Sheet F) (h : Hand) (n : ℕ) (no_to : Question)
    → Happened meaning before (Call.opening n) (Answer.refused no_to) after → Did meaning before h (Call.opening n) (answer (Answer.refused no_to)) after h
not_opened meaning before after h n no_to did = Did.made refl did

pub ruleset opening = (opened_with, not_opened)

-- what a call gave, as a reply

pub replied_done : (outcome : Result (Unit {0}) Question) (a : GivenAnswer) → MatchResult outcome (λ _. a ≡ given.Done) (λ no_to. a ≡ given.Refused no_to) → reply_of a ≡ answer (answered Answer.done outcome)
replied_done outcome a is = grind arith

pub replied_loaded : (outcome : Result (Unit {0}) NotLoaded) (a : GivenAnswer) → MatchResult outcome (λ _. a ≡ given.Done) (λ no_to. a ≡ given.NotLoaded no_to) → reply_of a ≡ answer (loaded_or_no outcome)
replied_loaded outcome a is = grind arith

pub replied_state : (outcome : Result State Question) (a : GivenAnswer) → MatchResult outcome (λ state. a ≡ given.Shows state) (λ no_to. a ≡ given.Refused no_to) → reply_of a ≡ answer (state_or_no outcome)
replied_state outcome a is = grind arith

-- a call that needs no slip
pub plainly : {F : Type 0} (meaning : F → ℕ → Told) (before after : Sheet F) (h : Hand) (call this : AskedCall) (a : Answer) (r : Reply)
    → call ≡ this → Happened meaning before (call_of this) a after → r ≡ answer a → can_be_made h (call_of this) ≡ true → hand_after h (call_of this) a ≡ h
    → Did meaning before h (call_of call) r after h
plainly meaning before after h call this a r called did replied free same =
    rw (called, replied) (subst (Did meaning before h (call_of this) (answer a) after) same (Did.made free did))

pub made_plainly : {F : Type 0} (meaning : F → ℕ → Told) (before after : Sheet F) (h : Hand) (call this : AskedCall) (r : Reply)
    → call ≡ this → Made meaning before (call_of this) r after → can_be_made h (call_of this) ≡ true → ((a : Answer) → hand_after h (call_of this) a ≡ h)
    → Did meaning before h (call_of call) r after h
made_plainly meaning before after h call this (answer a) called did free same = plainly meaning before after h call this a (answer a) called did refl free (same a)
made_plainly meaning before after h call this not_in_hand called did free same = absurd did

pub ruleset plain_calls = (plainly, made_plainly, replied_done, replied_loaded, replied_state)
