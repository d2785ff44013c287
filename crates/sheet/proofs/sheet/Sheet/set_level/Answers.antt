use Rattle.std.proofs.Common.{◌≡◌, arith, rules}
use Rattle.sheet.proofs.Levels.{level_revised}
use Rattle.sheet.proofs.sheet.Sheet.set_level.Goals as goal

pub returns : goal.returns
returns g c =
    let at : c.in_ok-self.field-0.value ≡ c.args.level = grind arith in
    search (rules, level_revised)
