use Rattle.std.proofs.Common.{◌+◌, Ok, Err, ◌∙◌, arith, rules}
use Rattle.std.proofs.lemmas.Result.{err_from_is_err_and}
use Rattle.std.specs.Iterator.Adapters.{enumerate_count}
use Rattle.sheet.proofs.Loads.{numbered, reading_none, reading_more, reading_stops, reading_all}
use Rattle.sheet.proofs.load.read_lines.Goals as goal

pub loop-i-init : goal.loop-i-init
loop-i-init c = (search rules, tt, search rules, reading_none c.args.bytes.now _ c.args.told _ c.requires (search rules) (search rules))

pub loop-i-preserved : goal.loop-i-preserved
loop-i-preserved c =
    let inv = c.loop-i.invariant in
    let steps = c.in-Some.ensures.steps in
    let read = numbered c.in-Some.part.now c.loop-i.last c.args.told (enumerate_count c.loop-i.i-iterator + 1) c.place_line.result c.map_err.result (Ok c.in_ok-placed.placed) _ c.place_line.ensures c.map_err.ensures.cases c.in_ok-placed.was (λ e d post. search rules) in
    (search rules, tt, steps.0.0 ∙ inv.2, reading_more _ _ _ _ _ _ _ _ inv.3 steps.0.1.0 (steps.0.1.1 ∙ inv.2) c.in_ok-placed.placed c.offset.result _ c.offset.ensures.place steps.2 read)

pub returns-in_err-placed : goal.returns-in_err-placed
returns-in_err-placed c =
    let no = err_from_is_err_and c.from_residual.result c.from_residual.ensures.1 in
    let inv = c.loop-i.invariant in
    let steps = c.in-Some.ensures.steps in
    let read = numbered c.in-Some.part.now c.loop-i.last c.args.told (enumerate_count c.loop-i.i-iterator + 1) c.place_line.result c.map_err.result (Err c.in_err-placed.field-0.0) _ c.place_line.ensures c.map_err.ensures.cases c.in_err-placed.was (λ e d post. search rules) in
    rw (no.1, no.2) (reading_stops _ _ _ _ _ _ _ _ inv.3 steps.0.1.0 (steps.0.1.1 ∙ inv.2) c.in_err-placed.field-0.0 read)

pub returns : goal.returns
returns c = let e = c.in-None.ensures.steps in reading_all c.args.bytes.now _ c.args.told c.loop-i.table _ _ c.loop-i.invariant.3 (omega arith)
