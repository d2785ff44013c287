use Rattle.std.proofs.Common.{rules}
use Rattle.busbar.proofs.Ranges.{ranges}
use Rattle.busbar.proofs.Bounds.{main_stress_most, sub_bar_stress_most, stress_factor_most}
use Rattle.busbar.proofs.checked.CheckedRecord.figures.Goals as goal

pub overflow_add-result : goal.overflow_add-result
overflow_add-result c =
    let inside = ranges c.args.self.now.bar c.args.self.now.passed in
    let main = main_stress_most c.args.self.now.bar _ inside c.span_force-force.result.most in
    let sub = sub_bar_stress_most _ _ _ _ inside.sub_bars_in (stress_factor_most c.args.self.now.bar.reclosing) c.sub_force.result.most in
    search rules
