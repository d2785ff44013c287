-- A rounded figure within its limit holds exactly; past its limit it fails exactly with the limit cut by a thousandth.
use Rattle.std.proofs.Common.{ℕ, ◌+◌, ◌*◌, ◌<◌, ◌≤◌, mul-le-mul_right, mul-pos, arith, lit≤}
use Rattle.busbar.specs.Factors.{phase_factor}
use Rattle.busbar.specs.Exact.{Fraction, ◌⊗◌, Within, whole, cut}
use Rattle.busbar.specs.declared.record.FaultKind.{FaultKind}
use Rattle.busbar.specs.declared.record.FaultKind.TheVariants.{ThreePhase, TwoLine}
use Rattle.busbar.proofs.Fractions.{factor_below, within_from, within_gives}

-- m is near c millionths of p: at least that, and at most e more
pub record NearPart (m c : ℕ) (p : Fraction) (e : ℕ) : Type 0 where
  pub low : c * p.top ≤ 1000000 * (m * p.bottom)
  pub high : 1000000 * (m * p.bottom) ≤ c * p.top + 1000000 * (e * p.bottom)

-- c above is at most one part in 866,025 more than c below
factors_close : (kind : FaultKind) → 866025 * phase_factor kind ≤ 866026 * factor_below kind
factors_close ThreePhase = lit≤ tt
factors_close TwoLine = lit≤ tt

module _ (kind : FaultKind) (p z : Fraction) (m s : ℕ) where
  pub sum_holds : (L : Fraction) (e : ℕ) → 0 < p.bottom → NearPart m (phase_factor kind) p e → z.top ≤ s * z.bottom → (m + s) * L.bottom ≤ L.top → Within kind p z (L ⊗ whole)
  sum_holds L e pos near low fits =
      within_from kind p z (L ⊗ whole) pos
      (omega (
        arith,
        mul-le-mul_right (z.bottom * L.bottom) near.low,
        mul-le-mul_right (p.bottom * L.bottom) low,
        mul-le-mul_right (p.bottom * z.bottom) fits,
      ))

  pub sum_fails : (L : Fraction) → 0 < p.bottom → 0 < z.bottom → 0 < L.bottom → NearPart m (phase_factor kind) p 4 → s * z.bottom ≤ z.top + 2 * z.bottom → L.top < (m + s) * L.bottom → 20000 * L.bottom ≤ L.top → Within kind p z (L ⊗ cut) → ⊥
  sum_fails L pos_p pos_z pos_L near high past large holds =
      let linear = within_gives kind p z (L ⊗ cut) holds in
      let volume : 0 < p.bottom * z.bottom * L.bottom = mul-pos (mul-pos pos_p pos_z) pos_L in
      omega (
        arith,
        mul-le-mul_right (z.bottom * L.bottom) near.high,
        mul-le-mul_right (p.bottom * L.bottom) high,
        mul-le-mul_right (p.bottom * z.bottom) past,
        mul-le-mul_right (p.bottom * z.bottom) large,
        mul-le-mul_right (p.top * (z.bottom * L.bottom)) (factors_close kind),
        linear,
        volume,
      )
