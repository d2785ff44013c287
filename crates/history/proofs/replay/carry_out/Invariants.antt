use Rattle.std.proofs.Common.{◌+◌, ◌≤◌, map, length, vec_items}
use Rattle.history.specs.Hand.{Replayed, hand_of}
use Rattle.history.specs.Room.{room_in}
use Rattle.history.specs.Values.{call_of, reply_of}
use Rattle.history.proofs.replay.carry_out.Given as goal

abbrev pub invariant-loop-call : goal.invariant-loop-call
invariant-loop-call g l = record {
  replayed :
      Replayed g.F.Feeder.meaning l.initial.sheet (hand_of (vec_items l.initial.slips)) (map call_of l.yielded) (map reply_of (vec_items l.answers)) l.sheet (hand_of (vec_items l.slips));
  slips : room_in l.initial.slips ≤ room_in l.slips + length l.yielded;
  answers : room_in l.initial.answers ≤ room_in l.answers + length l.yielded;
}
