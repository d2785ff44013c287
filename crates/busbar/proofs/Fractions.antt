-- Rounded figures beside exact fractions: how near they are, and the root of three.
use Rattle.std.proofs.Common.{◌≡◌, ℕ, ◌+◌, ◌-◌, ◌*◌, ◌<◌, ◌≤◌, ap, ⊎_elim, mul-le-mul_right, mul-le-mul, arith}
use Rattle.std.proofs.lemmas.Bool.{cases_lt}
use Rattle.busbar.specs.Factors.{phase_factor}
use Rattle.busbar.specs.Rounding.{up}
use Rattle.busbar.specs.Exact.{Fraction, ◌÷◌, ◌⊗◌, ◌≼◌, Within}
use Rattle.busbar.specs.declared.record.FaultKind.{FaultKind}
use Rattle.busbar.specs.declared.record.FaultKind.TheVariants.{ThreePhase, TwoLine}
use Rattle.busbar.proofs.Rounds.{le_up, up_lt}

-- u is at least the fraction x, and at most x + e
pub record Near (u : ℕ) (x : Fraction) (e : ℕ) : Type 0 where
  pub low : x.top ≤ u * x.bottom
  pub high : u * x.bottom ≤ x.top + e * x.bottom

pub near_up : (n d : ℕ) → 0 < d → Near (up n d) (n ÷ d) 1
near_up n d h = record { low = le_up n d h; high = omega (arith, up_lt n d h) }

-- one more factor n over d, rounded up again, in whatever order the product t is written
pub near_next : (u : ℕ) (x : Fraction) (e n d m t : ℕ) → Near u x e → 0 < d → e * n ≤ m * d → t ≡ u * n → Near (up t d) (x ⊗ (n ÷ d)) (m + 1)
near_next u x e n d m t near h small is =
    let r : ℕ = up t d in
    record {
      low = omega (arith, mul-le-mul_right n near.low, mul-le-mul_right x.bottom (le_up t d h), ap (λ v. v * x.bottom) is);
      high = omega (arith, mul-le-mul_right n near.high, mul-le-mul_right x.bottom (up_lt t d h), mul-le-mul_right x.bottom small, ap (λ v. v * x.bottom) is);
    }

-- 866,026 millionths are at least √3/2
pub root_three : (a b : ℕ) → 866026 * a ≤ 1000000 * b → 3 * (a * a) ≤ 4 * (b * b)
root_three a b h = omega (arith, mul-le-mul h h)

-- and 866,025 at most
pub root_three_back : (a b : ℕ) → 3 * (a * a) ≤ 4 * (b * b) → 866025 * a ≤ 1000000 * b
root_three_back a b h =
    ⊎_elim (λ past. absurd (omega (arith, mul-le-mul past past, h))) (λ le. le) (cases_lt (1000000 * b) (866025 * a))

-- over a million it bounds the kind's factor from below, as phase-factor does from above
abbrev pub factor_below : FaultKind → ℕ
factor_below ThreePhase = 866025
factor_below TwoLine = 1000000

-- c millionths of p, and z, come to at most L
abbrev pub Linear : ℕ → Fraction → Fraction → Fraction → Type 0
Linear c p z L =
    c * p.top * (z.bottom * L.bottom) + 1000000 * z.top * (p.bottom * L.bottom)
    ≤ 1000000 * L.top * (p.bottom * z.bottom)

-- what a positive factor on both sides leaves
cancel : (m n k : ℕ) → 0 < k → m * k ≤ n * k → m ≤ n
cancel m n k h le = ⊎_elim (λ past. absurd (omega (arith, mul-le-mul_right k past))) (λ l. l) (cases_lt n m)

difference : (x y : ℕ) → y ≤ x → (x - y) + y ≡ x
difference x y h = omega arith

pub within_from : (kind : FaultKind) (p z L : Fraction) → 0 < p.bottom → Linear (phase_factor kind) p z L → Within kind p z L
within_from TwoLine p z L h linear = omega arith
within_from ThreePhase p z L h linear =
    let small : z ≼ L = cancel (z.top * L.bottom) (L.top * z.bottom) p.bottom h (omega arith) in
    let left : ℕ = L.top * z.bottom - z.top * L.bottom in
    let split : left + z.top * L.bottom ≡ L.top * z.bottom = difference (L.top * z.bottom) (z.top * L.bottom) small in
    let scaled : 866026 * (p.top * (L.bottom * z.bottom)) ≤ 1000000 * (left * p.bottom) =
    omega (arith, ap (λ v. v * p.bottom) split) in
    (small, omega (arith, root_three (p.top * (L.bottom * z.bottom)) (left * p.bottom) scaled))

pub within_gives : (kind : FaultKind) (p z L : Fraction) → Within kind p z L → Linear (factor_below kind) p z L
within_gives TwoLine p z L h = omega arith
within_gives ThreePhase p z L h =
    let left : ℕ = L.top * z.bottom - z.top * L.bottom in
    let split : left + z.top * L.bottom ≡ L.top * z.bottom = difference (L.top * z.bottom) (z.top * L.bottom) h.0 in
    let root = root_three_back (p.top * (L.bottom * z.bottom)) (left * p.bottom) (omega (arith, h.1)) in
    omega (arith, ap (λ v. v * p.bottom) split, root)
