-- Which line the list has for a position.
use Rattle.std.specs.Prelude.{ℕ, cond, Some, None, Option}
use Rattle.busbar.specs.Rounding.{within}
use Rattle.busbar.specs.Verdict.{figures_under}
use Rattle.busbar.specs.declared.record.Record.{Record}
use Rattle.busbar.specs.declared.verdict.Figures.{Figures}
use Rattle.sheet.specs.declared.position.State.{State}
use Rattle.sheet.specs.declared.position.State.TheVariants as state
use Rattle.listing.specs.declared.line.Line.{Line}
use Rattle.listing.specs.declared.line.Line.TheVariants as line

-- a bar's figures, where a peak was told that a feeder may tell
abbrev pub figures_for : Record → Option (ℕ × ℕ) → Option Figures
figures_for x None = None
figures_for x (Some t) = cond (within 1 300000 t.0) (Some (figures_under x t.0)) None

-- an empty position has none
abbrev pub line_of : ℕ → Option (ℕ × ℕ) → State → Option Line
line_of n told state.Empty = None
line_of n told (state.Standing bar v) = Some (line.Standing n v (figures_for bar.bar told))
line_of n told (state.Open bar) = Some (line.Open n)
