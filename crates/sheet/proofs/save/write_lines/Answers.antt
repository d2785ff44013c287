use Rattle.sheet.proofs.Stores.{lines_kept, lines_more}
use Rattle.sheet.proofs.save.write_lines.Goals as goal
use Rattle.sheet.proofs.save.write_lines.Goals.{in-Standing, in_default}

pub loop-i-preserved : goal.loop-i-preserved
loop-i-preserved c =
    let table = c.args.table.now in
    let now = c.loop-i in
    let state = c.index-table-i in
    elim c.match-state.branch [
      | in-Standing w ↦
          rw w.at-is (lines_more table c.args.lines.now now.lines now.at now.i state.result now.invariant c.loop-i-test.true state.is w.in-Standing.bar w.in-Standing.field-1 w.write_block.new.part c.match-state.lines w.in-Standing.is c.requires.room w.write_block.ensures w.lines-is c.match-state.auto.lines)
      | in_default w ↦
          rw (w.at-is, w.lines-is) (lines_kept table c.args.lines.now now.lines now.at now.i state.result now.invariant c.loop-i-test.true state.is w.in_default.not-Standing)
    ]
