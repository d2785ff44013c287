-- What each call and each question does to the plain sheet, and what it answers.
use Rattle.std.specs.Prelude.{ℕ, ◌+◌, ◌-◌, Bool, cond, ◌&&◌, List, [], ◌∷◌, length, Ok, Err, Result, ◌==◌, nat_lt, slice_index_or}
use Rattle.busbar.specs.Rounding.{within}
use Rattle.busbar.specs.Verdict.{Verdict, verdict}
use Rattle.busbar.specs.declared.question.Question.{Question}
use Rattle.busbar.specs.declared.question.Question.TheVariants as q
use Rattle.busbar.specs.declared.record.Record.{Record}
use Rattle.feeder.specs.Laws.{Told, level_inside}
use Rattle.sheet.specs.Plain.{Entry, Plain, positions, change_at, change_by_slip}
use Rattle.sheet.specs.Stored.{LoadNo, load_of, saved_blocks, buffer_after}
use Rattle.sheet.specs.declared.position.Change.TheVariants as change

-- a slip counts as its job and position, a buffer as the call receives it
pub data Call : Type 0 where
  enter : ℕ → Record → Call
  strike : ℕ → Call
  set_level : ℕ → Call
  opening : ℕ → Call
  close : ℕ → ℕ → Record → Call
  withdraw : ℕ → ℕ → Call
  save : List ℕ → Call
  load : List ℕ → Call
  ask_position : ℕ → Call
  ask_counts : Call
  ask_release : Call
  ask_level : Call
  ask_job : Call

-- what the question of a position shows
pub data Shown : Type 0 where
  nothing : Shown
  stands : Record → Verdict → Shown
  is_open : Record → Shown

pub data Answer : Type 0 where
  done : Answer
  refused : Question → Answer
  gave_slip : ℕ → ℕ → Answer
  -- what a save answers, and the buffer afterwards
  saved : Result ℕ Question → List ℕ → Answer
  -- a load's no, with the number of the block that it is about
  not_loaded : LoadNo → Answer
  shows : Shown → Answer
  counted : ℕ → ℕ → ℕ → Answer
  says : Bool → Answer
  number : ℕ → Answer

-- a verdict is worked out when it is asked for
abbrev pub shown : Told → Entry → Shown
shown told Entry.empty = nothing
shown told (Entry.standing r) = stands r (verdict r told)
shown told (Entry.opened r) = is_open r

-- how many of the entries are accepted, refused, open

abbrev pub accepted_one : Verdict → ℕ
accepted_one (Ok _) = 1
accepted_one (Err _) = 0

abbrev pub refused_one : Verdict → ℕ
refused_one (Ok _) = 0
refused_one (Err _) = 1

abbrev pub accepted_in : Shown → ℕ
accepted_in nothing = 0
accepted_in (stands r v) = accepted_one v
accepted_in (is_open r) = 0

abbrev pub refused_in : Shown → ℕ
refused_in nothing = 0
refused_in (stands r v) = refused_one v
refused_in (is_open r) = 0

abbrev pub open_in : Shown → ℕ
open_in nothing = 0
open_in (stands r v) = 0
open_in (is_open r) = 1

-- the sum of a number over the entries
abbrev pub total : Told → (Shown → ℕ) → List Entry → ℕ
total told one [] = 0
total told one (e ∷ rest) = one (shown told e) + total told one rest

-- released exactly if one at least is accepted, and none refused or open
abbrev pub may_be_released : ℕ → ℕ → ℕ → Bool
may_be_released good bad open_ones = nat_lt 0 good && bad == 0 && open_ones == 0

-- the entries where the change went through, else the sheet as it was
abbrev pub settle : Plain → Answer → Result (List Entry) Question → Plain × Answer
settle p a (Ok es) = (record { job = p.job; level = p.level; entries = es }, a)
settle p a (Err no_to) = (p, refused no_to)

abbrev pub settle_load : Plain → Result (ℕ × List Entry) LoadNo → Plain × Answer
settle_load p (Ok found) = (record { job = p.job; level = found.0; entries = found.1 }, done)
settle_load p (Err no_to) = (p, not_loaded no_to)

abbrev pub step : (ℕ → Told) → Plain → Call → Plain × Answer
step tells p (enter n r) = settle p done (change_at q.PositionNumber p.entries n (change.Enter r))
step tells p (strike n) = settle p done (change_at q.PositionNumber p.entries n change.Strike)
step tells p (opening n) = settle p (gave_slip p.job n) (change_at q.PositionNumber p.entries n change.Open)
step tells p (close j n r) = settle p done (change_by_slip p j n (change.Close r))
step tells p (withdraw j n) = settle p done (change_by_slip p j n change.Withdraw)
step tells p (set_level n) =
    cond (level_inside n) (record { job = p.job; level = n; entries = p.entries }, done) (p, refused q.Level)
step tells p (save buffer) =
    (p, saved (saved_blocks p (length buffer)) (buffer_after p buffer (saved_blocks p (length buffer))))
step tells p (load bytes) = settle_load p (load_of p bytes)
step tells p (ask_position n) =
    (p, cond (within 1 positions n) (shows (shown (tells p.level) (slice_index_or p.entries (n - 1) Entry.empty))) (refused q.PositionNumber))
step tells p ask_counts =
    let told = tells p.level in
    (p, counted (total told accepted_in p.entries) (total told refused_in p.entries) (total told open_in p.entries))
step tells p ask_release =
    let told = tells p.level in
    (p, says (may_be_released (total told accepted_in p.entries) (total told refused_in p.entries) (total told open_in p.entries)))
step tells p ask_level = (p, number p.level)
step tells p ask_job = (p, number p.job)
