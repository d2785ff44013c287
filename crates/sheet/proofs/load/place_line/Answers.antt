use Rattle.std.proofs.Common.{refl, sym}
use Rattle.std.proofs.lemmas.Result.{err_from_is_err_and}
use Rattle.sheet.proofs.Loads.{line_put, line_not}
use Rattle.sheet.proofs.load.place_line.Goals as goal

pub returns-in_err-state : goal.returns-in_err-state
returns-in_err-state c =
    let no = err_from_is_err_and c.from_residual-in_err-state.result c.from_residual-in_err-state.ensures.1 in
    rw (no.1, no.2) (line_not _ _ c.args.told (record { number = c.in_ok-stored.stored.place.value; bar = c.in_ok-stored.stored.bar }) _ (sym c.in_ok-stored.ensures) c.in_err-state.ensures)

pub returns : goal.returns
returns c = line_put _ _ _ (record { number = c.in_ok-stored.stored.place.value; bar = c.in_ok-stored.stored.bar }) _ (sym c.in_ok-stored.ensures) refl c.in_ok-state.ensures
