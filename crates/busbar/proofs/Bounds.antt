-- How large the figures and their products can come, so that each fits 64 bits.
use Rattle.std.proofs.Common.{ℕ, ◌*◌, ◌≤◌, Bool, true, false, Some, None, Option, mul-le-mul, arith, lit≤}
use Rattle.busbar.specs.Factors.{support_share, bending_share, phase_factor, load_factor, stress_factor}
use Rattle.busbar.specs.Figures.{current_force, span_force, sub_bar_force, main_stress_of, sub_bar_stress, rated_current}
use Rattle.busbar.specs.declared.record.FaultKind.{FaultKind}
use Rattle.busbar.specs.declared.record.FaultKind.TheVariants.{ThreePhase, TwoLine}
use Rattle.busbar.specs.declared.record.Record.{Record}
use Rattle.busbar.specs.declared.record.Scheme.{Scheme}
use Rattle.busbar.specs.declared.record.Scheme.TheVariants.{BothSimple, FixedAndSimple, BothFixed, TwoSpans, MoreSpans}
use Rattle.busbar.specs.declared.section.SubBars.{SubBars}
use Rattle.busbar.proofs.Ranges.{Ranges, SubBarsIn}
use Rattle.busbar.proofs.Rounds.{up_le}

-- the factors

pub phase_factor_most : (k : FaultKind) → phase_factor k ≤ 1000000
phase_factor_most ThreePhase = lit≤ tt
phase_factor_most TwoLine = lit≤ tt

pub load_factor_most : (k : FaultKind) → load_factor k ≤ 2700
load_factor_most ThreePhase = lit≤ tt
load_factor_most TwoLine = lit≤ tt

pub support_share_most : (s : Scheme) → support_share s ≤ 1250
support_share_most BothSimple = lit≤ tt
support_share_most FixedAndSimple = lit≤ tt
support_share_most BothFixed = lit≤ tt
support_share_most TwoSpans = lit≤ tt
support_share_most MoreSpans = lit≤ tt

pub bending_share_most : (s : Scheme) → bending_share s ≤ 100
bending_share_most BothSimple = lit≤ tt
bending_share_most FixedAndSimple = lit≤ tt
bending_share_most BothFixed = lit≤ tt
bending_share_most TwoSpans = lit≤ tt
bending_share_most MoreSpans = lit≤ tt

pub stress_factor_most : (b : Bool) → stress_factor b ≤ 18
stress_factor_most true = lit≤ tt
stress_factor_most false = lit≤ tt

-- the products above a division bar

pub current_top : (I c : ℕ) → I ≤ 300000 → c ≤ 1000000 → I * I * c ≤ 90000000000000000
current_top I c hI hc = mul-le-mul (mul-le-mul hI hI) hc

pub span_top : (U l k : ℕ) → U ≤ 180000000000 → l ≤ 3000 → k ≤ 1500 → U * l * k ≤ 810000000000000000
span_top U l k hU hl hk = mul-le-mul (mul-le-mul hU hl) hk

pub sub_top : (I d : ℕ) → I ≤ 300000 → d ≤ 3000 → I * I * d ≤ 270000000000000
sub_top I d hI hd = mul-le-mul (mul-le-mul hI hI) hd

pub stress_top : (v b F l : ℕ) → v ≤ 18 → b ≤ 100 → F ≤ 405000000000 → l ≤ 3000 → v * b * F * l ≤ 2187000000000000000
stress_top v b F l hv hb hF hl = mul-le-mul (mul-le-mul (mul-le-mul hv hb) hF) hl

pub bent_top : (v G d : ℕ) → v ≤ 18 → G ≤ 405000000000 → d ≤ 3000 → v * G * d ≤ 21870000000000000
bent_top v G d hv hG hd = mul-le-mul (mul-le-mul hv hG) hd

-- and that below G

pub shared_bottom : (n e : ℕ) → 2 ≤ n → 13 ≤ e → 2600 ≤ 50 * n * n * e
shared_bottom n e hn he = mul-le-mul {n₁ = 200} (mul-le-mul {n₁ = 100} (mul-le-mul {n₁ = 50} {n₂ = 50} (lit≤ tt) hn) hn) he

-- the forces

pub current_force_most : (k : FaultKind) (I : ℕ) → I ≤ 300000 → current_force k I ≤ 180000000000
current_force_most k I h = up_le _ 500000 _ (lit≤ tt) (current_top I (phase_factor k) h (phase_factor_most k))

pub span_force_most : (x : Record) (I : ℕ) → Ranges x → I ≤ 300000 → span_force x I ≤ 405000000000
span_force_most x I r h =
    up_le _ (100000 * x.centre_distance) _
    (omega (arith, r.distance_in.least))
    (omega (arith, r.distance_in.least, span_top _ _ _ (current_force_most x.kind I h) r.span_in.most r.factor_in.most))

pub sub_bar_force_most : (o : Option SubBars) (I span : ℕ) → SubBarsIn o span → I ≤ 300000 → sub_bar_force o I ≤ 405000000000
sub_bar_force_most None I span r h = lit≤ tt
sub_bar_force_most (Some s) I span r h =
    let bottom = shared_bottom _ _ r.0.least r.2.least in
    up_le _ (50 * s.count * s.count * s.distance) _ (omega arith) (omega (arith, sub_top _ _ h r.3.most))

-- the stresses

pub main_stress_most : (x : Record) (F : ℕ) → Ranges x → F ≤ 405000000000 → main_stress_of x F ≤ 273375000000
main_stress_most x F r h =
    up_le _ (800 * x.section.modulus) _
    (omega (arith, r.modulus_in.least))
    (omega (arith, r.modulus_in.least, stress_top _ _ _ _ (stress_factor_most x.reclosing) (bending_share_most x.scheme) h r.span_in.most))

pub sub_bar_stress_most : (o : Option SubBars) (v G span : ℕ) → SubBarsIn o span → v ≤ 18 → G ≤ 405000000000 → sub_bar_stress o v G ≤ 136687500000
sub_bar_stress_most None v G span r hv hG = lit≤ tt
sub_bar_stress_most (Some s) v G span r hv hG =
    up_le _ (16 * s.modulus) _ (omega (arith, r.1.least)) (omega (arith, r.1.least, bent_top _ _ _ hv hG r.3.most))

-- the rated current and the heat limit

pub rated_current_most : (x : Record) → Ranges x → rated_current x ≤ 64000000
rated_current_most x r =
    omega (arith, mul-le-mul r.density_in.most r.area_in.most)

pub heat_top : (M : ℕ) → M ≤ 64000000 → 10 * M * M ≤ 40960000000000000
heat_top M h = mul-le-mul (mul-le-mul {n₂ = 10} (lit≤ tt) h) h
