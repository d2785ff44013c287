-- The sheet beside the plain sheet, and what it is that a call did.
use Rattle.std.specs.Prelude.{◌≡◌, ℕ, ◌+◌, List, [], ◌∷◌, map, Ok, Err, Result}
use Rattle.busbar.specs.declared.question.Question.{Question}
use Rattle.feeder.specs.Laws.{Told}
use Rattle.sheet.specs.Plain.{Entry, Plain, change_at, change_by_slip}
use Rattle.sheet.specs.Position.{entry_of, again}
use Rattle.sheet.specs.Calls.{Call, Answer, Shown, step, accepted_in, refused_in, open_in}
use Rattle.sheet.specs.Stored.{no_at}
use Rattle.sheet.specs.declared.counts.Counts.{Counts}
use Rattle.sheet.specs.declared.load.NotLoaded.{NotLoaded}
use Rattle.sheet.specs.declared.position.Change.{Change}
use Rattle.sheet.specs.declared.position.State.{State}
use Rattle.sheet.specs.declared.position.State.TheVariants as state
use Rattle.sheet.specs.declared.sheet.Sheet.{Sheet}
use Rattle.sheet.specs.declared.slip.Slip.{Slip}
use Rattle.sheet.specs.declared.slip.Unspent.{Unspent}

abbrev pub entries_of : List State → List Entry
entries_of table = map entry_of table

abbrev pub plain_of : {F : Type 0} → Sheet F → Plain
plain_of s = record { job = s.job; level = s.level.value; entries = entries_of s.table }

-- every standing verdict is the one on its record, at the sheet's level, by its feeder's meaning
abbrev pub Sound : {F : Type 0} → (F → ℕ → Told) → Sheet F → Type 0
Sound meaning s = map (again (meaning s.feeder s.level.value)) s.table ≡ s.table

-- a call on the sheet `before` was answered a and left the sheet `after`
pub record Happened {F : Type 0} (meaning : F → ℕ → Told) (before : Sheet F) (c : Call) (a : Answer) (after : Sheet F) : Type 0 where
  pub plain : plain_of after ≡ (step (meaning before.feeder) (plain_of before) c).0
  pub answer : Sound meaning before → a ≡ (step (meaning before.feeder) (plain_of before) c).1
  pub sound : Sound meaning before → Sound meaning after
  pub same_feeder : after.feeder ≡ before.feeder

-- a result as an answer: this one where it is a yes, else the question

abbrev pub answered : {T : Type 0} → Answer → Result T Question → Answer
answered a (Ok _) = a
answered a (Err no_to) = Answer.refused no_to

abbrev pub slip_or_no : Result Slip Question → Answer
slip_or_no (Ok s) = Answer.gave_slip s.job s.position
slip_or_no (Err no_to) = Answer.refused no_to

-- a state, and the counts, as they are shown

abbrev pub shown_of : State → Shown
shown_of state.Empty = Shown.nothing
shown_of (state.Standing bar v) = Shown.stands bar.bar v
shown_of (state.Open bar) = Shown.is_open bar.bar

abbrev pub state_or_no : Result State Question → Answer
state_or_no (Ok s) = Answer.shows (shown_of s)
state_or_no (Err no_to) = Answer.refused no_to

abbrev pub counts_shown : Counts → Answer
counts_shown c = Answer.counted c.accepted c.refused c.opened

-- the sum of a number over the positions of a table, and the counts over it

abbrev pub total_of : (Shown → ℕ) → List State → ℕ
total_of one [] = 0
total_of one (s ∷ rest) = one (shown_of s) + total_of one rest

abbrev pub counts_of : List State → Counts
counts_of table = record { accepted = total_of accepted_in table; refused = total_of refused_in table; opened = total_of open_in table }

-- a load's result
abbrev pub loaded_or_no : {T : Type 0} → Result T NotLoaded → Answer
loaded_or_no (Ok _) = Answer.done
loaded_or_no (Err no_to) = Answer.not_loaded (no_at no_to.block no_to.question)

-- a slip that was not spent comes back as it was, with the question
abbrev pub spent_or_no : {T : Type 0} → Result T Unspent → Answer
spent_or_no (Ok _) = Answer.done
spent_or_no (Err back) = Answer.refused back.question

abbrev pub SlipBack : {T : Type 0} → Slip → Result T Unspent → Type 0
SlipBack slip (Ok _) = Unit {0}
SlipBack slip (Err back) = back.slip ≡ slip

-- the entries are those expected where the answer is a yes; else they are as they were, and the no is the expected one
abbrev pub Outcome : {T : Type 0} → Result (List Entry) Question → Result T Question → List Entry → List Entry → Type 0
Outcome expected (Ok _) before after = expected ≡ Ok after
Outcome expected (Err no_to) before after = (expected ≡ Err no_to) × (after ≡ before)

-- one position of the sheet changed, or nothing
pub record ChangedAt {F T : Type 0} (meaning : F → ℕ → Told) (before : Sheet F) (outside : Question) (n : ℕ) (c : Change) (r : Result T Question) (after : Sheet F) : Type 0 where
  pub entries : Outcome (change_at outside (entries_of before.table) n c) r (entries_of before.table) (entries_of after.table)
  pub sound : Sound meaning before → Sound meaning after
  pub same_level : after.level ≡ before.level
  pub same_job : after.job ≡ before.job
  pub same_feeder : after.feeder ≡ before.feeder

-- the entries are those expected where the slip was spent; else they are as they were, and the no is the expected one
abbrev pub SlipOutcome : {T : Type 0} → Result (List Entry) Question → Result T Unspent → List Entry → List Entry → Type 0
SlipOutcome expected (Ok _) before after = expected ≡ Ok after
SlipOutcome expected (Err back) before after = (expected ≡ Err back.question) × (after ≡ before)

pub record ChangedBySlip {F T : Type 0} (meaning : F → ℕ → Told) (before : Sheet F) (slip : Slip) (c : Change) (r : Result T Unspent) (after : Sheet F) : Type 0 where
  pub entries : SlipOutcome (change_by_slip (plain_of before) slip.job slip.position c) r (entries_of before.table) (entries_of after.table)
  pub sound : Sound meaning before → Sound meaning after
  pub same_level : after.level ≡ before.level
  pub same_job : after.job ≡ before.job
  pub same_feeder : after.feeder ≡ before.feeder

-- every verdict worked out again at the sheet's level, and nothing else
pub record Rejudged {F : Type 0} (meaning : F → ℕ → Told) (before after : Sheet F) : Type 0 where
  pub table : after.table ≡ map (again (meaning before.feeder before.level.value)) before.table
  pub same_level : after.level ≡ before.level
  pub same_job : after.job ≡ before.job
  pub same_feeder : after.feeder ≡ before.feeder
