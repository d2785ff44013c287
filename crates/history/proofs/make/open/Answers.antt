use Rattle.std.proofs.Common.{rules}
use Rattle.history.proofs.Searches.{opening}
use Rattle.history.proofs.make.open.Goals as goal

pub returns-in-Ok-clause-did : goal.returns-in-Ok-clause-did
returns-in-Ok-clause-did g c = search (rules, opening)

pub returns-in-Err-clause-did : goal.returns-in-Err-clause-did
returns-in-Err-clause-did g c = search (rules, opening)
