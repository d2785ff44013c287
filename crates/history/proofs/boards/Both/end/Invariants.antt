use Rattle.std.proofs.Common.{vec_items, vec_len}
use Rattle.history.proofs.Ends.{Ending}
use Rattle.history.proofs.boards.Both.end.Given as goal

abbrev pub invariant-loop-slip : goal.invariant-loop-slip
invariant-loop-slip g l = Ending g.F.Feeder.meaning g.G.Feeder.meaning l.initial.first l.first l.initial.second l.second (vec_items l.slips)

abbrev pub decreases-loop-slip : goal.decreases-loop-slip
decreases-loop-slip g l = vec_len l.slips
