-- The plain sheet: the sheet as one would keep it on paper.
use Rattle.std.specs.Prelude.{ℕ, ◌-◌, cond, List, replicate, Some, None, Ok, Err, Option, Result, ◌==◌, slice_index_or, slice_set}
use Rattle.busbar.specs.Rounding.{within}
use Rattle.busbar.specs.Record.{record_no}
use Rattle.busbar.specs.declared.question.Question.{Question}
use Rattle.busbar.specs.declared.question.Question.TheVariants as q
use Rattle.busbar.specs.declared.record.Record.{Record}
use Rattle.sheet.specs.declared.position.Change.{Change}
use Rattle.sheet.specs.declared.position.Change.TheVariants.{Enter, Strike, Open, Close, Withdraw}

-- what is written at a position
pub data Entry : Type 0 where
  empty : Entry
  standing : Record → Entry
  opened : Record → Entry

-- a record stands, unless one of its questions gets a no
abbrev pub stands_if : Option Question → Record → Result Entry Question
stands_if None r = Ok (standing r)
stands_if (Some no_to) r = Err no_to

abbrev pub stand : Record → Result Entry Question
stand r = stands_if (record_no r) r

-- an entry and the change asked for decide what it becomes
abbrev pub change_entry : Entry → Change → Result Entry Question
change_entry empty (Enter r) = stand r
change_entry empty Strike = Err q.PositionStanding
change_entry empty Open = Err q.PositionStanding
change_entry empty (Close r) = Err q.SlipFits
change_entry empty Withdraw = Err q.SlipFits
change_entry (standing k) (Enter r) = Err q.PositionEmpty
change_entry (standing k) Strike = Ok empty
change_entry (standing k) Open = Ok (opened k)
change_entry (standing k) (Close r) = Err q.SlipFits
change_entry (standing k) Withdraw = Err q.SlipFits
change_entry (opened k) (Enter r) = Err q.PositionEmpty
change_entry (opened k) Strike = Err q.PositionStanding
change_entry (opened k) Open = Err q.PositionStanding
change_entry (opened k) (Close r) = stand r
change_entry (opened k) Withdraw = Ok (standing k)

-- how many positions a sheet has
abbrev pub positions : ℕ
positions = 32

pub record Plain : Type 0 where
  pub job : ℕ
  pub level : ℕ
  -- by position, the first is position 1
  pub entries : List Entry

-- a new one has level 100,000 and no entries
abbrev pub fresh : ℕ → Plain
fresh j = record { job = j; level = 100000; entries = replicate positions empty }

-- One position changed, or the question that gets a no. A position outside the sheet gets `outside`.

abbrev pub put : List Entry → ℕ → Result Entry Question → Result (List Entry) Question
put entries n (Ok e) = Ok (slice_set entries (n - 1) e)
put entries n (Err no_to) = Err no_to

abbrev pub change_at : Question → List Entry → ℕ → Change → Result (List Entry) Question
change_at outside entries n c =
    cond (within 1 positions n) (put entries n (change_entry (slice_index_or entries (n - 1) empty) c)) (Err outside)

-- a slip's job has to be the sheet's, and its position open
abbrev pub change_by_slip : Plain → ℕ → ℕ → Change → Result (List Entry) Question
change_by_slip p slip_job n c = cond (slip_job == p.job) (change_at q.SlipFits p.entries n c) (Err q.SlipFits)
