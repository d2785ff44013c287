-- What the parts of a load answer, beside the definition of a load.
use Rattle.std.specs.Prelude.{◌≡◌, ℕ, ◌+◌, ◌-◌, ◌*◌, ◌/◌, ◌≤◌, List, map, length, replicate, Ok, Err, Result, slice_set}
use Rattle.busbar.specs.declared.question.Question.{Question}
use Rattle.busbar.specs.declared.ranged.Ranged.{Ranged}
use Rattle.feeder.specs.Laws.{Told}
use Rattle.stored.specs.Read.{read_line}
use Rattle.sheet.specs.Plain.{Entry, Plain, positions}
use Rattle.sheet.specs.Position.{entry_of, again, RightState}
use Rattle.sheet.specs.Happened.{entries_of}
use Rattle.sheet.specs.Stored.{line_entered, load_lines, load_of, no_at, number_of_line, with_level}
use Rattle.sheet.specs.declared.load.NotLoaded.{NotLoaded}
use Rattle.sheet.specs.declared.load.Placed.{Placed}
use Rattle.sheet.specs.declared.position.State.{State}

-- a block put a position into the table, with the right verdict, or got a no
pub record PutAt (part : List ℕ) (last : ℕ) (told : Told) (x : Placed) : Type 0 where
  pub entered_is : (entries : List Entry) → line_entered entries (read_line part last) ≡ Ok (slice_set entries (x.place.value - 1) (entry_of x.state))
  pub number_is : number_of_line (read_line part last) ≡ x.place.value
  pub right : RightState told x.state

abbrev pub LineRead : List ℕ → ℕ → Told → Result Placed Question → Type 0
LineRead part last told (Ok x) = PutAt part last told x
LineRead part last told (Err no_to) = (entries : List Entry) → line_entered entries (read_line part last) ≡ Err no_to

-- all blocks after block 0 make this table, with the right verdicts, or one got a no
pub record Filled (bytes : List ℕ) (count : ℕ) (told : Told) (table : List State) : Type 0 where
  pub entries_are : load_lines count bytes 1 0 (replicate positions Entry.empty) ≡ Ok (entries_of table)
  pub sound : map (again told) table ≡ table
  pub long : length table ≡ 32

abbrev pub LinesRead : List ℕ → ℕ → Told → Result (List State) NotLoaded → Type 0
LinesRead bytes count told (Ok table) = Filled bytes count told table
LinesRead bytes count told (Err no_to) = load_lines count bytes 1 0 (replicate positions Entry.empty) ≡ Err (no_at no_to.block no_to.question)

-- what was asked before the blocks after block 0 got a yes, with this level, or one got a no
pub record LevelFound (p : Plain) (bytes : List ℕ) (l : Ranged 100 100000) : Type 0 where
  pub load_is : load_of p bytes ≡ with_level l.value (load_lines (length bytes / 512 - 1) bytes 1 0 (replicate positions Entry.empty))
  pub room : 512 * (length bytes / 512 - 1 + 1) ≤ length bytes

abbrev pub LevelRead : Plain → List ℕ → Result (Ranged 100 100000) NotLoaded → Type 0
LevelRead p bytes (Ok l) = LevelFound p bytes l
LevelRead p bytes (Err no_to) = load_of p bytes ≡ Err (no_at no_to.block no_to.question)
