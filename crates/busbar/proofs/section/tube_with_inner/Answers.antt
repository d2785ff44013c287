use Rattle.std.proofs.Common.{arith, rules}
use Rattle.busbar.proofs.Sizes.{power4_most, power4_less, plastic_most, tube_modulus_most}
use Rattle.busbar.proofs.section.tube_with_inner.Goals as goal

pub overflow_sub-fourths : goal.overflow_sub-fourths
overflow_sub-fourths c = omega (arith, power4_less _ _ c.requires.hollow)

pub overflow_mul-result : goal.overflow_mul-result
overflow_mul-result c = search (rules, power4_most)

pub overflow_cast-result : goal.overflow_cast-result
overflow_cast-result c = search (rules, tube_modulus_most)

pub nonzero_div-result-3 : goal.nonzero_div-result-3
nonzero_div-result-3 c = omega (arith, power4_less _ _ c.requires.hollow)

pub overflow_cast-result-3 : goal.overflow_cast-result-3
overflow_cast-result-3 c = search (rules, plastic_most)
