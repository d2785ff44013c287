-- Room that was reserved: for the answers and the slips of the calls to come.
use Rattle.std.specs.Prelude.{◌≡◌, ℕ, ◌+◌, ◌-◌, ◌≤◌, ◌≢◌, [], Vec, vec_items, vec_len, vec_capacity}
use Rattle.std.specs.declared.alloc.Global.{Global}
use Rattle.history.specs.declared.both.Board.{Board}
use Rattle.history.specs.declared.both.Room.{Room}
use Rattle.history.specs.declared.call.Answer.{Answer}
use Rattle.history.specs.declared.call.Call.{Call}

-- how many more fit under the capacity that is there
abbrev pub room_in : {X : Type 0} → Vec X Global → ℕ
room_in v = vec_capacity v - vec_len v

-- no answer yet, and room for one to each call
pub record AnswersFor (calls : Vec Call Global) (answers : Vec Answer Global) : Type 0 where
  pub none_yet : vec_items answers ≡ []
  pub room : vec_len calls ≤ room_in answers

-- two boards of two jobs, no slip in hand, and room for all answers and all slips
pub record CanRun {F G : Type 0} (first : Board F) (second : Board G) (room : Room) : Type 0 where
  pub apart : first.job ≢ second.job
  pub first_answers : AnswersFor first.calls room.first_answers
  pub second_answers : AnswersFor second.calls room.second_answers
  pub none_out : vec_items room.slips ≡ []
  pub slips : vec_len first.calls + vec_len second.calls ≤ room_in room.slips
