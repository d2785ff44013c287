use Rattle.std.proofs.Common.{refl, rules}
use Rattle.sheet.proofs.Shows.{total_sound}
use Rattle.sheet.proofs.sheet.Sheet.counts.Goals as goal

pub returns : goal.returns
returns g c = record {
  plain = refl;
  answer = λ sound. search (rules, total_sound);
  sound = λ sound. sound;
  same_feeder = refl;
}
