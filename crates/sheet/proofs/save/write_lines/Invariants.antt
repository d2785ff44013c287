use Rattle.sheet.proofs.Stores.{Lines}
use Rattle.sheet.proofs.save.write_lines.Given as goal

abbrev pub invariant-loop-i : goal.invariant-loop-i
invariant-loop-i l = Lines l.table l.initial.lines l.lines l.at l.i
