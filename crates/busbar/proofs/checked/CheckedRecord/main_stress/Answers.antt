use Rattle.std.proofs.Common.{rules}
use Rattle.busbar.proofs.Ranges.{ranges}
use Rattle.busbar.proofs.Bounds.{bending_share_most, stress_factor_most, stress_top}
use Rattle.busbar.proofs.checked.CheckedRecord.main_stress.Goals as goal

pub overflow_mul-share-3 : goal.overflow_mul-share-3
overflow_mul-share-3 c =
    let inside = ranges c.args.self.now.bar c.args.self.now.passed in
    let v = stress_factor_most c.args.self.now.bar.reclosing in
    let b = bending_share_most c.args.self.now.bar.scheme in
    search (rules, stress_top)
