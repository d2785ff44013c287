-- What a feeder's meaning obeys.
use Rattle.std.specs.Prelude.{◌≡◌, ℕ, ◌≤◌, Bool, false, cond, ◌&&◌, Some, None, Option, nat_le}
use Rattle.busbar.specs.Rounding.{within}
use Rattle.busbar.specs.Harder.{NoSmaller}

-- peak and heat, or nothing
abbrev pub Told : Type 0
Told = Option (ℕ × ℕ)

-- the levels at which a feeder may tell something
abbrev pub level_inside : ℕ → Bool
level_inside n = within 100 100000 n

-- the pair, where it passes neither maximum
abbrev pub within_maxima : ℕ → ℕ → Told
within_maxima peak heat = cond (nat_le peak 300000 && nat_le heat 200000000000000) (Some (peak, heat)) None

-- what is told lies in the ranges of peak and heat
abbrev pub InRanges : Told → Type 0
InRanges None = Unit {0}
InRanges (Some t) = (1 ≤ t.0) × (t.0 ≤ 300000) × (1 ≤ t.1) × (t.1 ≤ 200000000000000)

-- what a function from levels to figures obeys, to be a feeder's meaning
pub record Lawful (tells : ℕ → Told) : Type 0 where
  -- nothing outside levels 100 to 100,000
  pub outside : (n : ℕ) → level_inside n ≡ false → tells n ≡ None
  -- inside, a peak of 1 to 300,000 and a heat of 1 to 200,000,000,000,000
  pub in_ranges : (n : ℕ) → InRanges (tells n)
  -- as the level rises neither falls, and above a level that got nothing every level gets nothing
  pub rises : (m n : ℕ) → 100 ≤ m → m ≤ n → NoSmaller (tells n) (tells m)
