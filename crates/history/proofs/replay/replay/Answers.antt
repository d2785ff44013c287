use Rattle.std.proofs.Common.{rules}
use Rattle.history.proofs.Replays.{ran}
use Rattle.history.proofs.replay.replay.Goals as goal

pub returns : goal.returns
returns g c = search (rules, ran)
