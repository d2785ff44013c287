use Rattle.std.proofs.Common.{◌%◌, ◌^◌, ℕ, ◌*◌, ap, ◌∙◌, rules, refl, arith, tests}
use Rattle.std.proofs.lemmas.Iterator.{YieldsList-from_slice, YieldsList-from_range, YieldsList-from_zip, YieldsList-from_map}
use Rattle.std.proofs.lemmas.Iterator.Consumers.{fits_from_yields_list, sum_from_yields_List}
use Rattle.std.specs.Iterator.Adapters.{zip_first}
use Rattle.stored.specs.Block.{check_of}
use Rattle.stored.proofs.Blocks.{weigh_all, weigh_fits}
use Rattle.stored.proofs.block.check.Goals as goal

pub sum-sum-requires-clause-fits : goal.sum-sum-requires-clause-fits
sum-sum-requires-clause-fits c =
    let places = ap zip_first c.map.ensures.source ∙ c.zip.ensures.first in
    let first = ap (λ p. p.start) places in
    let last = ap (λ p. p.end) places in
    fits_from_yields_list c.map.result (2 ^ 32) (YieldsList-from_map _ (λ (p : ℕ × ℕ). p.0 * p.1) (YieldsList-from_zip (YieldsList-from_range c.map.result.iter.a.start c.map.result.iter.a.end 510 refl (omega arith)) (YieldsList-from_slice c.args.bytes.now (search rules))) c.map.ensures.closure (λ x r q k. search (rules, tests)))
    (weigh_fits c.map.result.iter.a.start 510 c.args.bytes.now (λ k. (c.type_inv.bytes k).fits) (omega arith))

pub returns : goal.returns
unfolding check_of
returns c =
    let places = ap zip_first c.map.ensures.source ∙ c.zip.ensures.first in
    ap (λ n. n % 65521)
    (sum_from_yields_List c.map.result c.sum-sum.result c.sum-sum.ensures.ran (YieldsList-from_map _ (λ (p : ℕ × ℕ). p.0 * p.1) (YieldsList-from_zip (YieldsList-from_range _ _ 510 places (search rules)) (YieldsList-from_slice c.args.bytes.now (search rules))) c.map.ensures.closure (λ x r q k. search (rules, tests)))
    ∙ weigh_all 0 510 c.args.bytes.now)
