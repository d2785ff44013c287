-- The house values that scheme, fault kind and reclosing stand for.
use Rattle.std.specs.Prelude.{ℕ, Bool, cond}
use Rattle.busbar.specs.declared.record.FaultKind.{FaultKind}
use Rattle.busbar.specs.declared.record.FaultKind.TheVariants.{ThreePhase, TwoLine}
use Rattle.busbar.specs.declared.record.Scheme.{Scheme}
use Rattle.busbar.specs.declared.record.Scheme.TheVariants.{BothSimple, FixedAndSimple, BothFixed, TwoSpans, MoreSpans}

-- the number that a scheme is stored under
abbrev pub scheme_number : Scheme → ℕ
scheme_number BothSimple = 1
scheme_number FixedAndSimple = 2
scheme_number BothFixed = 3
scheme_number TwoSpans = 4
scheme_number MoreSpans = 5

-- alpha of the worse support, thousandths
abbrev pub support_share : Scheme → ℕ
support_share BothSimple = 500
support_share FixedAndSimple = 625
support_share BothFixed = 500
support_share TwoSpans = 1250
support_share MoreSpans = 1100

-- beta, hundredths
abbrev pub bending_share : Scheme → ℕ
bending_share BothSimple = 100
bending_share FixedAndSimple = 73
bending_share BothFixed = 50
bending_share TwoSpans = 73
bending_share MoreSpans = 73

-- c, millionths
abbrev pub phase_factor : FaultKind → ℕ
phase_factor ThreePhase = 866026
phase_factor TwoLine = 1000000

-- V, thousandths
abbrev pub load_factor : FaultKind → ℕ
load_factor ThreePhase = 2700
load_factor TwoLine = 2000

-- v, tenths
abbrev pub stress_factor : Bool → ℕ
stress_factor reclosing = cond reclosing 18 10
