use Rattle.sheet.proofs.Shows.{Counting}
use Rattle.sheet.proofs.counts.Counts.of.Given as goal

abbrev pub invariant-loop-state : goal.invariant-loop-state
invariant-loop-state l = Counting l.table l.counts l.state-index
