use Rattle.std.proofs.Common.{rules, refl}
use Rattle.sheet.proofs.Tables.{sound_under}
use Rattle.sheet.proofs.sheet.Sheet.load.Goals as goal

pub returns : goal.returns
returns g c =
    let level = c.in_ok-level.ensures in
    let lines = c.in_ok-self.ensures in
    record {
      plain = search rules;
      answer = λ _. search rules;
      sound = λ _. search (rules, sound_under);
      same_feeder = refl;
    }
