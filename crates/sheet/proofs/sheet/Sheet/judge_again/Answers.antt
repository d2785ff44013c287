use Rattle.std.proofs.Common.{set, sym, ap, ◌∙◌, arith}
use Rattle.std.proofs.lemmas.List.Edits.{map_over_more}
use Rattle.sheet.specs.Position.{again}
use Rattle.sheet.proofs.sheet.Sheet.judge_again.Goals as goal

pub loop-state-preserved : goal.loop-state-preserved
loop-state-preserved g c =
    let told = c.tell-told.result in
    let table = c.loop-state.state-items in
    let item = c.state-item in
    ap (set table c.loop-state.state-index) (c.judged_again.ensures ∙ ap (again told) (sym item.is))
    ∙ map_over_more (again told) c.args.self.now.table table c.loop-state.state-index item.result (omega arith) c.loop-state.invariant item.is
