use Rattle.std.proofs.Common.{◌≡◌, true, false, rules, tests}
use Rattle.std.proofs.lemmas.Iterator.{IsFirst-from_position, YieldsList-from_slice}
use Rattle.history.proofs.Searches.{found_of, this_one}
use Rattle.history.proofs.slips.find.Goals as goal

pub returns : goal.returns
returns c =
    let slips = c.args.slips.now in
    let this = this_one c.args.job c.args.position in
    found_of _ _ slips _ (IsFirst-from_position _ _ _ (λ s. this s ≡ true) (λ s. this s ≡ false) c.position.ensures.ran (YieldsList-from_slice slips cc) (λ x q k. search (rules, tests)) (λ x q k. search (rules, tests)))
