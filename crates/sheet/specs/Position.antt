-- A position of the sheet beside the entry of the plain sheet.
use Rattle.std.specs.Prelude.{◌≡◌, ℕ, Ok, Err, Option, Result}
use Rattle.busbar.specs.Verdict.{verdict}
use Rattle.busbar.specs.declared.checked.CheckedRecord.{CheckedRecord}
use Rattle.busbar.specs.declared.question.Question.{Question}
use Rattle.busbar.specs.declared.record.Record.{Record}
use Rattle.sheet.specs.Plain.{Entry, stand, change_entry}
use Rattle.sheet.specs.declared.position.Change.{Change}
use Rattle.sheet.specs.declared.position.State.{State}
use Rattle.sheet.specs.declared.position.State.TheVariants as state

abbrev pub entry_of : State → Entry
entry_of state.Empty = Entry.empty
entry_of (state.Standing bar v) = Entry.standing bar.bar
entry_of (state.Open bar) = Entry.opened bar.bar

-- a standing position's verdict is the one on its record
abbrev pub RightState : Option (ℕ × ℕ) → State → Type 0
RightState told state.Empty = Unit {0}
RightState told (state.Standing bar v) = v ≡ verdict bar.bar told
RightState told (state.Open bar) = Unit {0}

-- a record standing with its verdict
abbrev pub judged : Option (ℕ × ℕ) → CheckedRecord → State
judged told bar = state.Standing bar (verdict bar.bar told)

-- the same position with its verdict worked out under other figures
abbrev pub again : Option (ℕ × ℕ) → State → State
again told state.Empty = state.Empty
again told (state.Standing bar v) = judged told bar
again told (state.Open bar) = state.Open bar

-- the code's answer is the plain sheet's, and its verdict the right one
abbrev pub Answers : Option (ℕ × ℕ) → Result Entry Question → Result State Question → Type 0
Answers told expected (Ok s) = (expected ≡ Ok (entry_of s)) × RightState told s
Answers told expected (Err no_to) = expected ≡ Err no_to

abbrev pub Stands : Record → Option (ℕ × ℕ) → Result State Question → Type 0
Stands r told answer = Answers told (stand r) answer

abbrev pub Changed : State → Change → Option (ℕ × ℕ) → Result State Question → Type 0
Changed s c told answer = Answers told (change_entry (entry_of s) c) answer
