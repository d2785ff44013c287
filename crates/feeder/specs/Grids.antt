-- A grid keeps the law.
use Rattle.std.specs.Prelude.{ℕ, ◌*◌, ◌≤◌, Some}
use Rattle.std.proofs.Common.{sym, subst, mul-le-mul, le_refl, arith, lit≤}
use Rattle.std.proofs.lemmas.Bool.{cond-true, cond-false, cond_both}
use Rattle.busbar.specs.Harder.{NoSmaller}
use Rattle.busbar.proofs.Ranges.{In, inside_of}
use Rattle.busbar.proofs.Rounds.{le_up, up_le, up_mono}
use Rattle.feeder.specs.Figures.{nothing_largest, level_below}
use Rattle.feeder.specs.Laws.{Lawful, InRanges, level_inside}
use Rattle.feeder.specs.Grid.{grid_peak, grid_heat, grid_tells}

pub record Sizes (kappa s T : ℕ) : Type 0 where
  pub kappa_in : In 1000 2000 kappa
  pub factor_in : In 1 3000 s
  pub duration_in : In 20 5000 T

-- the products, and the figures

pub peak_top : (n kappa : ℕ) → n ≤ 100000 → kappa ≤ 2000 → n * kappa * 1414214 ≤ 282842800000000
peak_top n kappa hn hk = mul-le-mul (mul-le-mul hn hk) (le_refl 1414214)

pub square_top : (n s : ℕ) → n ≤ 100000 → s ≤ 3000 → n * n * s ≤ 30000000000000
square_top n s hn hs = mul-le-mul (mul-le-mul hn hn) hs

pub heat_top : (n s T : ℕ) → n ≤ 100000 → s ≤ 3000 → T ≤ 5000 → n * n * s * T ≤ 150000000000000000
heat_top n s T hn hs hT = mul-le-mul (square_top n s hn hs) hT

pub peak_most : (n kappa : ℕ) → n ≤ 100000 → kappa ≤ 2000 → grid_peak kappa n ≤ 300000
peak_most n kappa hn hk = up_le _ 1000000000 300000 (lit≤ tt) (omega (arith, peak_top n kappa hn hk))

module _ (kappa s T : ℕ) (sizes : Sizes kappa s T) where
  figures_in : (n : ℕ) → In 100 100000 n → InRanges (Some (grid_peak kappa n, grid_heat s T n))
  figures_in n h =
      let peak : 100000 ≤ n * kappa = mul-le-mul {n₁ = 100} {m₁ = 1000} h.least sizes.kappa_in.least in
      let heat : 200000 ≤ n * n * s * T =
      mul-le-mul {n₁ = 10000} {m₁ = 20} (mul-le-mul {n₁ = 10000} {m₁ = 1} (mul-le-mul {n₁ = 100} {m₁ = 100} h.least h.least) sizes.factor_in.least) sizes.duration_in.least in (
        omega (arith, le_up (n * kappa * 1414214) 1000000000 (lit≤ tt)),
        peak_most n kappa h.most sizes.kappa_in.most,
        omega (arith, le_up (n * n * s * T) 1000 (lit≤ tt)),
        up_le _ 1000 200000000000000 (lit≤ tt) (omega (arith, heat_top n s T h.most sizes.factor_in.most sizes.duration_in.most)),
      )

  figures_rise : (m n : ℕ) → m ≤ n → NoSmaller (Some (grid_peak kappa n, grid_heat s T n)) (Some (grid_peak kappa m, grid_heat s T m))
  figures_rise m n h = (
    up_mono _ _ 1000000000 1000000000 (lit≤ tt) (mul-le-mul (mul-le-mul h (le_refl kappa)) (le_refl 1414214)) (lit≤ tt),
    up_mono _ _ 1000 1000 (lit≤ tt) (mul-le-mul (mul-le-mul (mul-le-mul h h) (le_refl s)) (le_refl T)) (lit≤ tt),
  )

  pub grid_lawful : Lawful (grid_tells kappa s T)
  grid_lawful = record {
    outside = λ n h. cond-false (level_inside n) _ _ h;
    in_ranges = λ n. cond_both (level_inside n) _ _ InRanges (λ e. figures_in n (inside_of 100 100000 n e)) (λ _. tt);
    rises = λ m n least le.
        cond_both (level_inside n) _ _ (λ t. NoSmaller t (grid_tells kappa s T m))
        (λ e. subst (NoSmaller (Some (grid_peak kappa n, grid_heat s T n))) (sym (cond-true (level_inside m) _ _ (level_below m n least le e))) (figures_rise m n le))
        (λ _. nothing_largest _);
  }
