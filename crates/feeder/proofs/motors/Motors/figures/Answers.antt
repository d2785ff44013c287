use Rattle.std.proofs.Common.{sym, subst, rules}
use Rattle.feeder.specs.Laws.{InRanges}
use Rattle.feeder.proofs.motors.Motors.figures.Goals as goal

pub overflow_add-peak : goal.overflow_add-peak
overflow_add-peak g c =
    let told = subst InRanges (sym c.in_ok-peak.ensures) ((g.met.F.Feeder.lawful c.args.self.now.below).in_ranges c.args.level) in
    search rules

pub overflow_add-heat : goal.overflow_add-heat
overflow_add-heat g c =
    let told = subst InRanges (sym c.in_ok-peak.ensures) ((g.met.F.Feeder.lawful c.args.self.now.below).in_ranges c.args.level) in
    search rules
