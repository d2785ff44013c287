-- What a question that let the next one be asked says.
use Rattle.std.proofs.Common.{◌≡◌, Bool, true, false, Ok, refl}
use Rattle.busbar.specs.Question.{asked}
use Rattle.busbar.specs.declared.question.Question.{Question}

pub asked_yes : (question : Question) (b : Bool) (u : Unit {0}) → asked question b ≡ Ok u → b ≡ true
asked_yes question true u is = refl
asked_yes question false u is = cc
