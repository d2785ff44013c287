-- Over any call, slips in hand and open positions change together.
use Rattle.std.proofs.Common.{◌≡◌, ℕ, ◌+◌, ◌*◌, Bool, true, cond, List, length, Result, refl, arith}
use Rattle.std.proofs.lemmas.Grind.{common_steps}
use Rattle.busbar.specs.declared.question.Question.{Question}
use Rattle.busbar.specs.declared.question.Question.TheVariants as q
use Rattle.feeder.specs.Laws.{Told, level_inside}
use Rattle.sheet.specs.Calls.{Answer, Call, settle, settle_load, step}
use Rattle.sheet.specs.Plain.{Entry, Plain, change_at, change_by_slip}
use Rattle.sheet.specs.Stored.{LoadNo, load_of}
use Rattle.sheet.specs.declared.position.Change.{Change}
use Rattle.sheet.specs.declared.position.Change.TheVariants as change
use Rattle.history.specs.Hand.{Hand, can_be_made, hand_after, holds, open_for, times, without}
use Rattle.history.proofs.Balance.{change_balances, counts, given_by, spent_by, times_given, times_without}
use Rattle.history.proofs.Loads.{load_shut, none_open}

-- what both weigh before and after
abbrev pub Balanced : Hand → Plain → Hand → Plain → ℕ → ℕ → Type 0
Balanced h p k q job n = times k job n + open_for p job n ≡ times h job n + open_for q job n

module _ (p : Plain) (h : Hand) (job n : ℕ) (full : length p.entries ≡ 32) where
  -- a change of position m, with the hand as it is after a yes
  settled : (c : Call) (a : Answer) (outside : Question) (m : ℕ) (ch : Change) (r : Result (List Entry) Question) → r ≡ change_at outside p.entries m ch
      → times (hand_after h c a) job n + counts p m job n * spent_by ch ≡ times h job n + counts p m job n * given_by ch
      → ((no_to : Question) → hand_after h c (Answer.refused no_to) ≡ h)
      → Balanced h p (hand_after h c (settle p a r).1) (settle p a r).0 job n
  settled c a outside m ch r is hands kept = grind (arith, change_balances)

  -- a change by a slip of job j
  by_slip : (c : Call) (j m : ℕ) (ch : Change) → holds h j m ≡ true → spent_by ch ≡ 1 → given_by ch ≡ 0
      → hand_after h c Answer.done ≡ without h j m → ((no_to : Question) → hand_after h c (Answer.refused no_to) ≡ h)
      → Balanced h p (hand_after h c (settle p Answer.done (change_by_slip p j m ch)).1) (settle p Answer.done (change_by_slip p j m ch)).0 job n
  by_slip c j m ch has spends gives done kept = grind (arith, common_steps, settled, times_without)

  opens : (m : ℕ) → Balanced h p (hand_after h (Call.opening m) (settle p (Answer.gave_slip p.job m) (change_at q.PositionNumber p.entries m change.Open)).1) (settle p (Answer.gave_slip p.job m) (change_at q.PositionNumber p.entries m change.Open)).0 job n
  opens m =
      settled (Call.opening m) (Answer.gave_slip p.job m) q.PositionNumber m change.Open (change_at q.PositionNumber p.entries m change.Open) refl
      (omega (arith, times_given h (p.job, m) job n)) (λ no_to. refl)

  loads : (bytes : List ℕ) (r : Result (ℕ × List Entry) LoadNo) → load_of p bytes ≡ r → Balanced h p h (settle_load p r).0 job n
  loads bytes r is = grind (arith, load_shut, none_open)

  level_set : (b : Bool) (level : ℕ) → Balanced h p h (cond {A = Plain × Answer} b (record { job = p.job; level = level; entries = p.entries }, Answer.done) (p, Answer.refused q.Level)).0 job n
  level_set b level = grind arith

  pub step_balances : (tells : ℕ → Told) (c : Call) → can_be_made h c ≡ true → Balanced h p (hand_after h c (step tells p c).1) (step tells p c).0 job n
  step_balances tells (Call.enter m r) made =
      settled (Call.enter m r) Answer.done q.PositionNumber m (change.Enter r) (change_at q.PositionNumber p.entries m (change.Enter r)) refl refl (λ no_to. refl)
  step_balances tells (Call.strike m) made =
      settled (Call.strike m) Answer.done q.PositionNumber m change.Strike (change_at q.PositionNumber p.entries m change.Strike) refl refl (λ no_to. refl)
  step_balances tells (Call.set_level level) made = level_set (level_inside level) level
  step_balances tells (Call.opening m) made = opens m
  step_balances tells (Call.close j m r) made = by_slip (Call.close j m r) j m (change.Close r) made refl refl refl (λ no_to. refl)
  step_balances tells (Call.withdraw j m) made = by_slip (Call.withdraw j m) j m change.Withdraw made refl refl refl (λ no_to. refl)
  step_balances tells (Call.save buffer) made = refl
  step_balances tells (Call.load bytes) made = loads bytes (load_of p bytes) refl
  step_balances tells (Call.ask_position m) made = refl
  step_balances tells Call.ask_counts made = refl
  step_balances tells Call.ask_release made = refl
  step_balances tells Call.ask_level made = refl
  step_balances tells Call.ask_job made = refl
