-- Motors over a feeder: running machines that add to what it brings.
use Rattle.std.specs.Prelude.{ℕ, ◌+◌, Bool, ◌&&◌, Some, None, nat_le}
use Rattle.feeder.specs.Laws.{Told, within_maxima}

abbrev pub motors_sizes : ℕ → ℕ → Bool
motors_sizes peak heat = nat_le peak 50000 && nat_le heat 50000000000000

-- nothing where the feeder below has nothing, or where a sum passes its maximum
abbrev pub motors_tell : ℕ → ℕ → Told → Told
motors_tell peak heat None = None
motors_tell peak heat (Some t) = within_maxima (t.0 + peak) (t.1 + heat)
