use Rattle.std.proofs.Common.{rules}
use Rattle.busbar.specs.Rounding.{up}
use Rattle.feeder.specs.Grids.{peak_top, square_top, heat_top, peak_most}
use Rattle.feeder.proofs.grid.Grid.figures.Goals as goal

pub overflow_mul-peak-2 : goal.overflow_mul-peak-2
overflow_mul-peak-2 c = search (rules, peak_top)

pub overflow_mul-heat-2 : goal.overflow_mul-heat-2
overflow_mul-heat-2 c = search (rules, square_top)

pub overflow_mul-heat-3 : goal.overflow_mul-heat-3
overflow_mul-heat-3 c = search (rules, heat_top)

pub overflow_cast-result : goal.overflow_cast-result
unfolding up
overflow_cast-result c = search (rules, peak_most)

pub returns : goal.returns
unfolding up
returns c = search rules
