use Rattle.std.proofs.Common.{vec_items, rules}
use Rattle.feeder.specs.Curves.{takes_is}
use Rattle.feeder.proofs.curve.Curve.takes.Goals as goal

pub returns : goal.returns
returns c =
    let is = takes_is (vec_items c.args.self.now.points) c.args.point.now c.args.self.now.order in
    search rules
