-- The largest products of the section makers, each from the size limits.
use Rattle.std.proofs.Common.{◌≡◌, ℕ, ◌+◌, ◌-◌, ◌*◌, ◌/◌, ◌<◌, ◌≤◌, ap, le_of_lt, mul-le-mul_right, mul-le-mul, arith, lit≤}
use native.Mathlib.Nat.{div-le_of_le-mul}
use Rattle.std.proofs.lemmas.Nat.{mul-lt}

pub rod_most : (D : ℕ) → D ≤ 200 → 314159 * D * D * D ≤ 2513272000000
rod_most D h = mul-le-mul (mul-le-mul (mul-le-mul {n₂ = 314159} (lit≤ tt) h) h) h

pub square_most : (D : ℕ) → D ≤ 200 → D * D ≤ 40000
square_most D h = mul-le-mul h h

pub cube_most : (D : ℕ) → D ≤ 200 → D * D * D ≤ 8000000
cube_most D h = mul-le-mul (square_most D h) h

pub power4_most : (D : ℕ) → D ≤ 200 → D * D * D * D ≤ 1600000000
power4_most D h = mul-le-mul (cube_most D h) h

-- a smaller inner diameter has smaller powers
pub square_less : (g D : ℕ) → g < D → g * g < D * D
square_less g D h = mul-lt g g D D h h

pub cube_less : (g D : ℕ) → g < D → g * g * g < D * D * D
cube_less g D h = mul-lt (g * g) g (D * D) D (square_less g D h) h

pub power4_less : (g D : ℕ) → g < D → g * g * g * g < D * D * D * D
power4_less g D h = mul-lt (g * g * g) g (D * D * D) D (cube_less g D h) h

module _ (g D : ℕ) (less : g < D) where
  -- a tube's plastic factor is at most a rod's
  plastic_top : 17000 * D * (D * D * D - g * g * g) ≤ (D * D * D * D - g * g * g * g) * 17000
  plastic_top =
      let x : ℕ = D * D * D - g * g * g in
      let ex : x + g * g * g ≡ D * D * D = omega (arith, cube_less g D less) in
      omega (arith, ap (λ v. D * v) ex, power4_less g D less, mul-le-mul_right (g * g * g) (le_of_lt less))

  pub plastic_most : 17000 * D * (D * D * D - g * g * g) / (D * D * D * D - g * g * g * g) ≤ 17000
  plastic_most = div-le_of_le-mul (D * D * D * D - g * g * g * g) plastic_top

  -- and its modulus at most that of the largest rod
  pub tube_modulus_most : D ≤ 200 → 314159 * (D * D * D * D - g * g * g * g) / (3200 * D) ≤ 785397500
  tube_modulus_most size =
      div-le_of_le-mul (3200 * D) (omega (arith, mul-le-mul_right D (cube_most D size), power4_less g D less))
