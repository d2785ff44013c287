use Rattle.std.proofs.Common.{rules}
use Rattle.history.proofs.Boths.{boths}
use Rattle.history.proofs.both.run_both.Goals as goal

pub invariant_of-result : goal.invariant_of-result
invariant_of-result g c = record { apart = search (rules, boths, g.met.F.Feeder.lawful, g.met.G.Feeder.lawful); out = search (rules, boths, g.met.F.Feeder.lawful, g.met.G.Feeder.lawful) }

pub returns : goal.returns
returns g c = search (rules, boths, g.met.F.Feeder.lawful, g.met.G.Feeder.lawful)
