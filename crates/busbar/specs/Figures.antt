-- The figures of one bar under a peak I, each with its rounding.
use Rattle.std.specs.Prelude.{ℕ, ◌*◌, ◌/◌, Some, None, Option}
use Rattle.busbar.specs.Rounding.{up}
use Rattle.busbar.specs.Factors.{support_share, bending_share, phase_factor, load_factor, stress_factor}
use Rattle.busbar.specs.declared.record.FaultKind.{FaultKind}
use Rattle.busbar.specs.declared.record.Record.{Record}
use Rattle.busbar.specs.declared.section.SubBars.{SubBars}

-- U, 0.1 µN
abbrev pub current_force : FaultKind → ℕ → ℕ
current_force kind I = up (I * I * phase_factor kind) 500000

-- F, 10 µN
abbrev pub span_force : Record → ℕ → ℕ
span_force x I = up (current_force x.kind I * x.span * x.distance_factor) (100000 * x.centre_distance)

-- G, 10 µN
abbrev pub sub_bar_force : Option SubBars → ℕ → ℕ
sub_bar_force None I = 0
sub_bar_force (Some s) I = up (I * I * s.spacing) (50 * s.count * s.count * s.distance)

abbrev pub sub_force : Record → ℕ → ℕ
sub_force x I = sub_bar_force x.section.sub_bars I

-- main stress from F, kPa
abbrev pub main_stress_of : Record → ℕ → ℕ
main_stress_of x F = up (stress_factor x.reclosing * bending_share x.scheme * F * x.span) (800 * x.section.modulus)

-- sub-bar stress from G, kPa
abbrev pub sub_bar_stress : Option SubBars → ℕ → ℕ → ℕ
sub_bar_stress None v G = 0
sub_bar_stress (Some s) v G = up (v * G * s.spacing) (16 * s.modulus)

abbrev pub sub_stress_of : Record → ℕ → ℕ
sub_stress_of x G = sub_bar_stress x.section.sub_bars (stress_factor x.reclosing) G

-- R from F, mN
abbrev pub support_load_of : Record → ℕ → ℕ
support_load_of x F = up (F * support_share x.scheme * load_factor x.kind) 100000000

-- M, 0.1 A
abbrev pub rated_current : Record → ℕ
rated_current x = x.rated_density * x.section.area / 100
