use Rattle.std.proofs.Common.{rules}
use Rattle.feeder.specs.Curves.{last_before_last}
use Rattle.feeder.proofs.curve.Curve.ends_before.Goals as goal

pub returns : goal.returns
returns c = search (rules, last_before_last)
