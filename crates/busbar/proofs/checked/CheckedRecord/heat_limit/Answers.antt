use Rattle.std.proofs.Common.{rules}
use Rattle.busbar.proofs.Ranges.{ranges}
use Rattle.busbar.proofs.Bounds.{rated_current_most, heat_top}
use Rattle.busbar.proofs.checked.CheckedRecord.heat_limit.Goals as goal

pub overflow_mul-result : goal.overflow_mul-result
overflow_mul-result c =
    let most = rated_current_most c.args.self.now.bar (ranges c.args.self.now.bar c.args.self.now.passed) in
    search rules

pub overflow_mul-result-2 : goal.overflow_mul-result-2
overflow_mul-result-2 c =
    let most = rated_current_most c.args.self.now.bar (ranges c.args.self.now.bar c.args.self.now.passed) in
    search (rules, heat_top)
