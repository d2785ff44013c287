use Rattle.std.proofs.Common.{rules}
use Rattle.history.proofs.Spends.{spending_one}
use Rattle.history.proofs.make.spend.Goals as goal

pub returns-in_default-clause-did : goal.returns-in_default-clause-did
returns-in_default-clause-did g c = search (rules, spending_one)

pub returns-in-Ok-clause-did : goal.returns-in-Ok-clause-did
returns-in-Ok-clause-did g c = search (rules, spending_one)

pub returns-in-Err-clause-did : goal.returns-in-Err-clause-did
returns-in-Err-clause-did g c = let put = rw c.unwrap.ensures at c.insert.ensures.items in search (rules, spending_one)
