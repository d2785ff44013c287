-- A grid: what a network brings at its own fault level.
use Rattle.std.specs.Prelude.{ℕ, ◌*◌, Bool, cond, ◌&&◌, Some, None}
use Rattle.busbar.specs.Rounding.{up, within}
use Rattle.feeder.specs.Laws.{Told, level_inside}

-- kappa in thousandths, s = m + n in thousandths, duration T in ms
abbrev pub grid_sizes : ℕ → ℕ → ℕ → Bool
grid_sizes kappa s T = within 1000 2000 kappa && within 1 3000 s && within 20 5000 T

abbrev pub grid_peak : ℕ → ℕ → ℕ
grid_peak kappa n = up (n * kappa * 1414214) 1000000000

abbrev pub grid_heat : ℕ → ℕ → ℕ → ℕ
grid_heat s T n = up (n * n * s * T) 1000

abbrev pub grid_tells : ℕ → ℕ → ℕ → ℕ → Told
grid_tells kappa s T n = cond (level_inside n) (Some (grid_peak kappa n, grid_heat s T n)) None
