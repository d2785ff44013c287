use Rattle.std.proofs.Common.{◌≡◌, ◌+◌, refl, subst, arith}
use Rattle.std.proofs.lemmas.Result.{err_from_is_err_and}
use Rattle.sheet.specs.Position.{RightState}
use Rattle.sheet.proofs.Tables.{changed_to, changed_not, sound_with}
use Rattle.sheet.proofs.sheet.Sheet.change.Goals as goal

pub returns-in_err-self : goal.returns-in_err-self
returns-in_err-self g c =
    let sheet = c.args.self.now in
    let no = err_from_is_err_and c.from_residual-in_err-self.result c.from_residual-in_err-self.ensures.1 in
    let place : c.offset-at.result + 1 ≡ c.args.position = grind arith in
    rw (no.1, no.2) record {
      entries = (changed_not sheet.table c.args.outside c.args.position c.offset-at.result c.args.change c.index-self-at.result sheet.full place (omega arith) _ c.in_err-self.ensures, refl);
      sound = λ h. h;
      same_level = refl;
      same_job = refl;
      same_feeder = refl;
    }

pub returns : goal.returns
returns g c =
    let sheet = c.args.self.now in
    let found = c.in_ok-self.ensures in
    let place : c.offset-at.result + 1 ≡ c.args.position = grind arith in
    record {
      entries = changed_to sheet.table c.args.outside c.args.position c.offset-at.result c.args.change c.index-self-at.result sheet.full place (omega arith) _ found.0;
      sound = λ h. sound_with _ _ _ _ h (subst (λ t. RightState t c.in_ok-self.field-0) c.tell-told.ensures found.1);
      same_level = refl;
      same_job = refl;
      same_feeder = refl;
    }
