use Rattle.std.proofs.Common.{arith, rules}
use Rattle.busbar.proofs.Ranges.{ranges}
use Rattle.busbar.proofs.Bounds.{current_force_most, span_top, span_force_most}
use Rattle.busbar.proofs.checked.CheckedRecord.span_force.Goals as goal

pub overflow_mul-along : goal.overflow_mul-along
overflow_mul-along c =
    let inside = ranges c.args.self.now.bar c.args.self.now.passed in
    let currents = current_force_most c.args.self.now.bar.kind c.args.peak.value (omega arith) in
    search (rules, span_top)

pub overflow_mul-along-2 : goal.overflow_mul-along-2
overflow_mul-along-2 c =
    let inside = ranges c.args.self.now.bar c.args.self.now.passed in
    let currents = current_force_most c.args.self.now.bar.kind c.args.peak.value (omega arith) in
    search (rules, span_top)

pub invariant_of-result : goal.invariant_of-result
invariant_of-result c =
    let inside = ranges c.args.self.now.bar c.args.self.now.passed in
    search (rules, span_force_most)
