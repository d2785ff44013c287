use Rattle.std.proofs.Common.{Some, arith, rules}
use Rattle.busbar.proofs.Ranges.{bars_in}
use Rattle.busbar.proofs.Bounds.{sub_bar_force_most}
use Rattle.busbar.proofs.checked.CheckedRecord.sub_force.Goals as goal
use Rattle.busbar.proofs.checked.CheckedRecord.sub_force.Goals.{in-None, in-Some}

pub invariant_of-result : goal.invariant_of-result
invariant_of-result c =
    elim c.match-self.branch [
      | in-None w ↦ search rules
      | in-Some w ↦
          let inside = bars_in c.args.self.now.bar w.in-Some.bars c.args.self.now.passed w.in-Some.is in
          let most = sub_bar_force_most (Some w.in-Some.bars) c.args.peak.value c.args.self.now.bar.span inside (omega arith) in
          search rules
    ]
