-- Slips and open positions: what a change of one position does to both.
use Rattle.std.proofs.Common.{◌≡◌, ℕ, ◌+◌, ◌-◌, ◌*◌, ◌≤◌, true, false, List, [], ◌∷◌, ◌++◌, length, get_or, set, Ok, Err, Option, Result, arith, get_or-set_other, get_or-set_same}
use Rattle.std.proofs.lemmas.Bool.Decides.{nat_tests}
use Rattle.std.proofs.lemmas.Grind.{common_steps}
use Rattle.busbar.specs.declared.question.Question.{Question}
use Rattle.busbar.specs.declared.record.Record.{Record}
use Rattle.sheet.specs.Plain.{Entry, Plain, change_at, change_entry, put, stands_if}
use Rattle.sheet.specs.Stored.{open_one}
use Rattle.sheet.specs.declared.position.Change.{Change}
use Rattle.sheet.specs.declared.position.Change.TheVariants as change
use Rattle.history.specs.Hand.{Hand, holds, is_slip, open_for, times, times_one, without}

-- slips that a change gives, and that it spends

abbrev pub given_by : Change → ℕ
given_by (change.Enter r) = 0
given_by change.Strike = 0
given_by change.Open = 1
given_by (change.Close r) = 0
given_by change.Withdraw = 0

abbrev pub spent_by : Change → ℕ
spent_by (change.Enter r) = 0
spent_by change.Strike = 0
spent_by change.Open = 0
spent_by (change.Close r) = 1
spent_by change.Withdraw = 1

stood : (o : Option Question) (r : Record) (x : Entry) → stands_if o r ≡ Ok x → open_one x ≡ 0
stood o r x is = grind arith

-- an entry becomes open as a slip is given, and is no longer open as one is spent
weighs : (e x : Entry) (c : Change) → change_entry e c ≡ Ok x → open_one x + spent_by c ≡ open_one e + given_by c
weighs e x c is = grind (arith, stood)

abbrev pub with_entries : Plain → List Entry → Plain
with_entries p es = record { job = p.job; level = p.level; entries = es }

module _ (p : Plain) (m : ℕ) (job n : ℕ) where
  -- whether the slip of position m is the one that is counted
  abbrev pub counts : ℕ
  counts = times_one (is_slip job n (p.job, m))

  abbrev was : Entry
  was = get_or p.entries (m - 1) Entry.empty

  -- the counted position is the changed one
  put_here : (e : Entry) → length p.entries ≡ 32 → 1 ≤ m → m ≤ 32 → is_slip job n (p.job, m) ≡ true
      → open_for (with_entries p (set p.entries (m - 1) e)) job n + counts * open_one was ≡ open_for p job n + counts * open_one e
  put_here e full low high this = grind (arith, common_steps, get_or-set_same)

  -- another position is counted
  other : (e : Entry) → 1 ≤ m → is_slip job n (p.job, m) ≡ false → open_for (with_entries p (set p.entries (m - 1) e)) job n ≡ open_for p job n
  other e low not_this = grind (arith, common_steps, get_or-set_other)

  put_open : (e : Entry) → length p.entries ≡ 32 → 1 ≤ m → m ≤ 32
      → open_for (with_entries p (set p.entries (m - 1) e)) job n + counts * open_one was ≡ open_for p job n + counts * open_one e
  put_open e full low high = grind (arith, put_here, other)

  -- a change that went through
  changed_open : (c : Change) (after : List Entry) → length p.entries ≡ 32 → 1 ≤ m → m ≤ 32 → (x : Result Entry Question) → change_entry was c ≡ x → put p.entries m x ≡ Ok after
      → open_for (with_entries p after) job n + counts * spent_by c ≡ open_for p job n + counts * given_by c
  changed_open c after full low high (Ok e) is done =
      let put_is = put_open e full low high in
      let weight = weighs was e c is in
      grind arith
  changed_open c after full low high (Err no_to) is done = cc

  pub change_balances : (c : Change) (outside : Question) (after : List Entry) → length p.entries ≡ 32 → change_at outside p.entries m c ≡ Ok after
      → open_for (with_entries p after) job n + counts * spent_by c ≡ open_for p job n + counts * given_by c
  change_balances c outside after full is =
      let changed = changed_open c after full in
      grind (arith, nat_tests)

-- what the hand weighs

pub times_given : (h : Hand) (s : ℕ × ℕ) (job n : ℕ) → times (h ++ s ∷ []) job n ≡ times h job n + times_one (is_slip job n s)
times_given [] s job n = omega arith
times_given (t ∷ h) s job n = omega (arith, times_given h s job n)

-- the first such slip taken away
pub times_without : (job m : ℕ) (h : Hand) (j n : ℕ) → holds h job m ≡ true → times (without h job m) j n + times_one (is_slip j n (job, m)) ≡ times h j n
times_without job m [] j n has = cc
times_without job m (s ∷ h) j n has = let rest = times_without job m h j n in grind (arith, common_steps)
