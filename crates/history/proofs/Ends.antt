-- Withdrawing a slip that fits, and what is left when none is out.
use Rattle.std.proofs.Common.{◌≡◌, ℕ, suc, ◌+◌, ◌-◌, ◌≤◌, true, false, eqb, List, [], ◌∷◌, ◌++◌, map, length, get_or, set, Ok, sym, refl, ap, ◌∙◌, arith}
use lib.ListN.{length-map}
use lib.Seq.{map-set_same}
use Rattle.std.proofs.lemmas.List.{get_or_past, map_push}
use Rattle.std.proofs.lemmas.Bool.{cond-true, eq-eqb}
use Rattle.std.proofs.lemmas.Bool.Decides.{nat_tests}
use Rattle.std.proofs.lemmas.Grind.{common_steps}
use Rattle.busbar.specs.declared.question.Question.TheVariants as q
use Rattle.feeder.specs.Laws.{Told}
use Rattle.sheet.specs.Calls.{Answer, Call, settle}
use Rattle.sheet.specs.Happened.{Happened, Sound, plain_of}
use Rattle.sheet.specs.Plain.{Entry, Plain, change_at, change_by_slip}
use Rattle.sheet.specs.Position.{entry_of}
use Rattle.sheet.specs.Slips.{Fits, is_opened}
use Rattle.sheet.specs.Stored.{open_one}
use Rattle.sheet.specs.declared.position.Change.TheVariants as change
use Rattle.sheet.specs.declared.sheet.Sheet.{Sheet}
use Rattle.sheet.specs.declared.slip.Slip.{Slip}
use Rattle.history.specs.Both.{OutOfBoth}
use Rattle.history.specs.Ending.{Withdrawn, all_withdrawn, stands_again}
use Rattle.history.specs.Hand.{hand_of, is_slip, open_for, slip_of, times, times_one}
use Rattle.history.proofs.Balance.{change_balances, times_given, with_entries}

-- a slip fits where its position is open

opened_is : (e : Entry) → 1 ≤ open_one e → is_opened e ≡ true
opened_is e h = grind arith

pub open_fits : (p : Plain) (s : Slip) → 1 ≤ open_for p s.job s.position → Fits s p
open_fits p s h = grind (arith, common_steps, opened_is)

-- the plain sheet after the withdrawal

taken_back : (p : Plain) (s : Slip) (e : Entry) → Fits s p → get_or p.entries (s.position - 1) Entry.empty ≡ e → is_opened e ≡ true
    → change_by_slip p s.job s.position change.Withdraw ≡ Ok (set p.entries (s.position - 1) (stands_again e))
taken_back p s e fits is open_now = grind (arith, common_steps)

-- standing again, one position or all, comes to the same in the end
twice : (e : Entry) → stands_again (stands_again e) ≡ stands_again e
twice e = grind arith

again_same : (es : List Entry) (i : ℕ) → map stands_again (set es i (stands_again (get_or es i Entry.empty))) ≡ map stands_again es
again_same es i = map-set_same stands_again es i (stands_again (get_or es i Entry.empty)) Entry.empty (twice (get_or es i Entry.empty))

-- nothing open: nothing to withdraw
nothing_left : (es : List Entry) → ((i : ℕ) → open_one (get_or es i Entry.empty) ≡ 0) → map stands_again es ≡ es
nothing_left [] none = refl
nothing_left (e ∷ es) none =
    let first = none 0 in
    let rest = nothing_left es (λ i. none (suc i)) in
    grind arith

pub shut_same : (p : Plain) → length p.entries ≡ 32 → ((job n : ℕ) → open_for p job n ≡ 0) → all_withdrawn p ≡ p
shut_same p full none = ap (with_entries p) (nothing_left p.entries (λ i. let here = none p.job (i + 1) in grind (arith, common_steps, get_or_past)))

-- one slip withdrawn from the sheet that it fits
module _ {F : Type 0} (meaning : F → ℕ → Told) (before after : Sheet F) (s : Slip) (fits : Fits s (plain_of before))
    (did : Happened meaning before (Call.withdraw s.job s.position) Answer.done after) where
  abbrev p : Plain
  p = plain_of before

  abbrev fewer_open : List Entry
  fewer_open = set p.entries (s.position - 1) (stands_again (get_or p.entries (s.position - 1) Entry.empty))

  spent_so : change_by_slip p s.job s.position change.Withdraw ≡ Ok fewer_open
  spent_so = taken_back p s (get_or p.entries (s.position - 1) Entry.empty) fits refl fits.opened

  after_is : plain_of after ≡ with_entries p fewer_open
  after_is = did.plain ∙ ap (λ r. (settle p Answer.done r).0) spent_so

  pub again_in_the_end : all_withdrawn (plain_of after) ≡ all_withdrawn p
  again_in_the_end = ap all_withdrawn after_is ∙ ap (with_entries p) (again_same p.entries (s.position - 1))

  pub one_fewer : (job n : ℕ) → open_for (plain_of after) job n + times_one (is_slip job n (slip_of s)) ≡ open_for p job n
  one_fewer job n =
      let full : length p.entries ≡ 32 = length-map before.table entry_of ∙ before.full in
      let inner : change_at q.SlipFits p.entries s.position change.Withdraw ≡ Ok fewer_open = sym (cond-true _ _ _ (eq-eqb _ _ fits.same_job)) ∙ spent_so in
      let balance = change_balances p s.position job n change.Withdraw q.SlipFits fewer_open full inner in
      let same : times_one (is_slip job n (slip_of s)) ≡ times_one (is_slip job n (p.job, s.position)) = ap (λ j. times_one (is_slip job n (j, s.position))) fits.same_job in
      omega (arith, balance, same, ap (λ x. open_for x job n) after_is)

-- while slips are being withdrawn
pub record Ending {F G : Type 0} (meaning_f : F → ℕ → Told) (meaning_g : G → ℕ → Told) (s₀ s : Sheet F) (t₀ t : Sheet G) (slips : List Slip) : Type 0 where
  pub out : OutOfBoth (hand_of slips) (plain_of s) (plain_of t)
  pub first_same : all_withdrawn (plain_of s) ≡ all_withdrawn (plain_of s₀)
  pub second_same : all_withdrawn (plain_of t) ≡ all_withdrawn (plain_of t₀)
  pub first_sound : Sound meaning_f s₀ → Sound meaning_f s
  pub second_sound : Sound meaning_g t₀ → Sound meaning_g t
  pub first_feeder : s.feeder ≡ s₀.feeder
  pub second_feeder : t.feeder ≡ t₀.feeder

module _ {F G : Type 0} {meaning_f : F → ℕ → Told} {meaning_g : G → ℕ → Told} {s₀ s : Sheet F} {t₀ t : Sheet G} {slips : List Slip} (rest : List Slip) (slip : Slip)
    (inv : Ending meaning_f meaning_g s₀ s t₀ t slips) (apart : eqb s₀.job t₀.job ≡ false) (popped : slips ≡ rest ++ slip ∷ []) where
  weight : (job n : ℕ) → times (hand_of slips) job n ≡ times (hand_of rest) job n + times_one (is_slip job n (slip_of slip))
  weight job n = grind (arith, map_push, times_given)

  itself : times_one (is_slip slip.job slip.position (slip_of slip)) ≡ 1
  itself = grind (arith, nat_tests)

  first_job : s.job ≡ s₀.job
  first_job = ap (λ (x : Plain). x.job) inv.first_same

  second_job : t.job ≡ t₀.job
  second_job = ap (λ (x : Plain). x.job) inv.second_same

  pub fits_first : slip.job ≡ s.job → Fits slip (plain_of s)
  fits_first mine =
      let out = inv.out slip.job slip.position in
      let more = weight slip.job slip.position in
      open_fits (plain_of s) slip (grind (arith, nat_tests, itself, first_job, second_job))

  pub fits_second : (slip.job ≡ s.job → ⊥) → Fits slip (plain_of t)
  fits_second not_mine =
      let out = inv.out slip.job slip.position in
      let more = weight slip.job slip.position in
      open_fits (plain_of t) slip (grind (arith, nat_tests, itself))

  pub ending_first : (after : Sheet F) → slip.job ≡ s.job → Happened meaning_f s (Call.withdraw slip.job slip.position) Answer.done after → Ending meaning_f meaning_g s₀ after t₀ t rest
  ending_first after mine did = record {
    out = λ job n. omega (arith, inv.out job n, weight job n, one_fewer meaning_f s after slip (fits_first mine) did job n);
    first_same = again_in_the_end meaning_f s after slip (fits_first mine) did ∙ inv.first_same;
    second_same = inv.second_same;
    first_sound = λ h. did.sound (inv.first_sound h);
    second_sound = inv.second_sound;
    first_feeder = did.same_feeder ∙ inv.first_feeder;
    second_feeder = inv.second_feeder;
  }

  pub ending_second : (after : Sheet G) → (slip.job ≡ s.job → ⊥) → Happened meaning_g t (Call.withdraw slip.job slip.position) Answer.done after → Ending meaning_f meaning_g s₀ s t₀ after rest
  ending_second after not_mine did = record {
    out = λ job n. omega (arith, inv.out job n, weight job n, one_fewer meaning_g t after slip (fits_second not_mine) did job n);
    first_same = inv.first_same;
    second_same = again_in_the_end meaning_g t after slip (fits_second not_mine) did ∙ inv.second_same;
    first_sound = inv.first_sound;
    second_sound = λ h. did.sound (inv.second_sound h);
    first_feeder = inv.first_feeder;
    second_feeder = did.same_feeder ∙ inv.second_feeder;
  }

pub ended : {F G : Type 0} {meaning_f : F → ℕ → Told} {meaning_g : G → ℕ → Told} {s₀ s : Sheet F} {t₀ t : Sheet G} {slips : List Slip}
    → Ending meaning_f meaning_g s₀ s t₀ t slips → slips ≡ [] → Withdrawn meaning_f s₀ s × Withdrawn meaning_g t₀ t
ended {s = s} {t = t} inv none =
    let nothing : (job n : ℕ) → open_for (plain_of s) job n + open_for (plain_of t) job n ≡ 0 = λ job n. sym (inv.out job n) ∙ ap (λ l. times (hand_of l) job n) none in (
      record {
        plain = sym (shut_same (plain_of s) (length-map s.table entry_of ∙ s.full) (λ job n. omega (arith, nothing job n))) ∙ inv.first_same;
        sound = inv.first_sound;
        same_feeder = inv.first_feeder;
      },
      record {
        plain = sym (shut_same (plain_of t) (length-map t.table entry_of ∙ t.full) (λ job n. omega (arith, nothing job n))) ∙ inv.second_same;
        sound = inv.second_sound;
        same_feeder = inv.second_feeder;
      },
    )
