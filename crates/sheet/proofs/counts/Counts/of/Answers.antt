use Rattle.std.proofs.Common.{arith}
use Rattle.std.proofs.lemmas.List.{at_drop_all}
use Rattle.sheet.specs.Calls.{accepted_in, refused_in, open_in}
use Rattle.sheet.specs.Happened.{total_of}
use Rattle.sheet.proofs.Shows.{standing_total, open_total}
use Rattle.sheet.proofs.counts.Counts.of.Goals as goal

pub returns-clause-standing : goal.returns-clause-standing
returns-clause-standing c =
    let table = c.args.table.now in
    let i = c.loop-state.state-index in
    omega (arith, standing_total table, at_drop_all (total_of accepted_in) table i (omega arith), at_drop_all (total_of refused_in) table i (omega arith), c.loop-state.invariant)

pub returns-clause-opened : goal.returns-clause-opened
returns-clause-opened c =
    let table = c.args.table.now in
    omega (arith, open_total table, at_drop_all (total_of open_in) table c.loop-state.state-index (omega arith), c.loop-state.invariant)
