-- The law: what holds of any two boards after any two lists of calls.
use Rattle.std.specs.Prelude.{◌≡◌, ℕ, ◌-◌, ◌≤◌, List, slice_index_or}
use Rattle.busbar.specs.Exact.{Exact}
use Rattle.busbar.specs.Harder.{NoEasier, NoSofter}
use Rattle.busbar.specs.Verdict.{Verdict, verdict}
use Rattle.busbar.specs.declared.checked.CheckedRecord.{CheckedRecord}
use Rattle.busbar.specs.declared.record.Record.{Record}
use Rattle.feeder.specs.Laws.{Told}
use Rattle.sheet.specs.Calls.{Call, Answer}
use Rattle.sheet.specs.Happened.{plain_of}
use Rattle.sheet.specs.Plain.{fresh, positions}
use Rattle.sheet.specs.declared.position.State.TheVariants as state
use Rattle.sheet.specs.declared.sheet.Sheet.{Sheet}
use Rattle.history.specs.Course.{Course, New, plain_after, plain_answers}

-- the record x stands at position n of the sheet, with the verdict v
pub record StandsAt {F : Type 0} (s : Sheet F) (n : ℕ) (x : CheckedRecord) (v : Verdict) : Type 0 where
  pub low : 1 ≤ n
  pub high : n ≤ positions
  pub state_is : slice_index_or s.table (n - 1) state.Empty ≡ state.Standing x v

-- a verdict, with its figure and limit, is the definitions', and says what it says exactly
pub record Right (told : Told) (x : Record) (v : Verdict) : Type 0 where
  pub defined : v ≡ verdict x told
  pub exact : Exact x told v

-- One board: answers and saved blocks, level, positions and records are the plain sheet's after the same list,
-- and every standing verdict is right for its record at the sheet's level under the sheet's feeder.
pub record Agreement {F : Type 0} (meaning : F → ℕ → Told) (f : F) (job : ℕ) (calls : List Call) (answers : List Answer) (s : Sheet F) : Type 0 where
  pub same_answers : answers ≡ plain_answers (meaning f) (fresh job) calls
  pub same_plain : plain_of s ≡ plain_after (meaning f) (fresh job) calls
  pub same_feeder : s.feeder ≡ f
  pub verdicts_right : (n : ℕ) (x : CheckedRecord) (v : Verdict) → StandsAt s n x v → Right (meaning f s.level.value) x.bar v

-- a standing position of s that is no easier than one of t, at a level no lower, is refused where that one is,
-- on the same ground or an earlier one
abbrev pub NoSofterThan : {F G : Type 0} → Sheet F → Sheet G → Type 0
NoSofterThan s t =
    (n m : ℕ) (x y : CheckedRecord) (v w : Verdict) → StandsAt s n x v → StandsAt t m y w
    → NoEasier x.bar y.bar → t.level.value ≤ s.level.value → NoSofter v w

-- Two boards. The feeders may be of any make; where they mean the same at every level, neither board is softer.
pub record TwoBoards {F G : Type 0} (meaning_f : F → ℕ → Told) (f : F) (meaning_g : G → ℕ → Told) (g : G) (s : Sheet F) (t : Sheet G) : Type 0 where
  pub first_no_softer : ((level : ℕ) → meaning_f f level ≡ meaning_g g level) → NoSofterThan s t
  pub second_no_softer : ((level : ℕ) → meaning_f f level ≡ meaning_g g level) → NoSofterThan t s

-- the law for one board, and for two, of every course from a new sheet

abbrev pub OneBoardLaw : {F : Type 0} → (F → ℕ → Told) → Type 0
OneBoardLaw {F} meaning =
    (f : F) (job : ℕ) (new s : Sheet F) (calls : List Call) (answers : List Answer)
    → New meaning f job new → Course meaning new calls answers s → Agreement meaning f job calls answers s

abbrev pub TwoBoardsLaw : {F G : Type 0} → (F → ℕ → Told) → (G → ℕ → Told) → Type 0
TwoBoardsLaw {F} {G} meaning_f meaning_g =
    (f : F) (job_f : ℕ) (new_f s : Sheet F) (calls_f : List Call) (answers_f : List Answer)
    (g : G) (job_g : ℕ) (new_g t : Sheet G) (calls_g : List Call) (answers_g : List Answer)
    → New meaning_f f job_f new_f → Course meaning_f new_f calls_f answers_f s
    → New meaning_g g job_g new_g → Course meaning_g new_g calls_g answers_g t
    → TwoBoards meaning_f f meaning_g g s t
