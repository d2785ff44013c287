-- The grounds taken exactly: the same formulas as fractions without any rounding, and with the true root of three.
use Rattle.std.specs.Prelude.{◌≡◌, ℕ, ◌+◌, ◌-◌, ◌*◌, ◌<◌, ◌≤◌, Some, None, Ok, Err, Option}
use Rattle.busbar.specs.Factors.{support_share, bending_share, load_factor, stress_factor}
use Rattle.busbar.specs.Verdict.{Verdict, figures_told}
use Rattle.busbar.specs.declared.record.FaultKind.{FaultKind}
use Rattle.busbar.specs.declared.record.FaultKind.TheVariants.{ThreePhase, TwoLine}
use Rattle.busbar.specs.declared.record.Record.{Record}
use Rattle.busbar.specs.declared.section.SubBars.{SubBars}
use Rattle.busbar.specs.declared.verdict.Ground.{Ground}
use Rattle.busbar.specs.declared.verdict.Ground.TheVariants as grounds

-- a fraction: top over bottom
pub record Fraction : Type 0 where
  pub top : ℕ
  pub bottom : ℕ

infix 40 ◌÷◌
infixl 35 ◌⊗◌
infixl 30 ◌⊕◌
infixl 30 ◌⊖◌
infix 20 ◌≼◌
abbrev pub ◌÷◌ : ℕ → ℕ → Fraction
n ÷ d = record { top = n; bottom = d }

abbrev pub ◌⊗◌ : Fraction → Fraction → Fraction
x ⊗ y = (x.top * y.top) ÷ (x.bottom * y.bottom)

abbrev pub ◌⊕◌ : Fraction → Fraction → Fraction
x ⊕ y = (x.top * y.bottom + y.top * x.bottom) ÷ (x.bottom * y.bottom)

-- the difference, where y is at most x
abbrev pub ◌⊖◌ : Fraction → Fraction → Fraction
x ⊖ y = (x.top * y.bottom - y.top * x.bottom) ÷ (x.bottom * y.bottom)

-- x is at most y; both bottoms are above 0
abbrev pub ◌≼◌ : Fraction → Fraction → Type 0
x ≼ y = x.top * y.bottom ≤ y.top * x.bottom

-- The figures under a peak I. Of those that carry the phase factor, c is given in millionths:
-- 1,000,000 gives the part that the factor 1, or √3/2, is then put to.

abbrev pub exact_current : ℕ → ℕ → Fraction
exact_current c I = (I * I * c) ÷ 500000

abbrev pub exact_force : Record → ℕ → ℕ → Fraction
exact_force x c I = exact_current c I ⊗ ((x.span * x.distance_factor) ÷ (100000 * x.centre_distance))

abbrev pub exact_main_stress : Record → ℕ → ℕ → Fraction
exact_main_stress x c I =
    exact_force x c I ⊗ ((stress_factor x.reclosing * bending_share x.scheme * x.span) ÷ (800 * x.section.modulus))

abbrev pub exact_load : Record → ℕ → ℕ → Fraction
exact_load x c I = exact_force x c I ⊗ ((support_share x.scheme * load_factor x.kind) ÷ 100000000)

abbrev pub exact_sub_bar_stress : Option SubBars → ℕ → ℕ → Fraction
exact_sub_bar_stress None v I = 0 ÷ 1
exact_sub_bar_stress (Some s) v I =
    (I * I * s.spacing) ÷ (50 * s.count * s.count * s.distance) ⊗ ((v * s.spacing) ÷ (16 * s.modulus))

abbrev pub exact_sub_stress : Record → ℕ → Fraction
exact_sub_stress x I = exact_sub_bar_stress x.section.sub_bars (stress_factor x.reclosing) I

-- The limits.

abbrev pub exact_rated_current : Record → Fraction
exact_rated_current x = (x.rated_density * x.section.area) ÷ 100

abbrev pub exact_heat_limit : Record → Fraction
exact_heat_limit x = (10 ÷ 1) ⊗ (exact_rated_current x ⊗ exact_rated_current x)

abbrev pub exact_yield_limit : Record → Fraction
exact_yield_limit x = (1000 * x.yield_stress) ÷ 1

abbrev pub exact_plastic_limit : Record → Fraction
exact_plastic_limit x = (x.section.plastic_factor * x.yield_stress) ÷ 10

abbrev pub exact_strength_limit : Record → Fraction
exact_strength_limit x = (1000 * x.support_strength) ÷ 1

-- p times the factor of the kind, and z, come to at most L. For three phases the factor is √3/2, and
-- p√3/2 + z ≤ L says that z ≤ L and 3p² ≤ 4(L − z)².
abbrev pub Within : FaultKind → Fraction → Fraction → Fraction → Type 0
Within TwoLine p z L = p ⊕ z ≼ L
Within ThreePhase p z L = (z ≼ L) × ((3 ÷ 1) ⊗ (p ⊗ p) ≼ (4 ÷ 1) ⊗ ((L ⊖ z) ⊗ (L ⊖ z)))

-- a ground's inequality, with its limit taken at a part of it
abbrev pub Holds : Ground → Fraction → Record → ℕ → ℕ → Type 0
Holds grounds.Figures part x I Q = Unit {0}
Holds grounds.Heat part x I Q = Q ÷ 1 ≼ exact_heat_limit x ⊗ part
Holds grounds.SubBarStress part x I Q = exact_sub_stress x I ≼ exact_yield_limit x ⊗ part
Holds grounds.TotalStress part x I Q =
    Within x.kind (exact_main_stress x 1000000 I) (exact_sub_stress x I) (exact_plastic_limit x ⊗ part)
Holds grounds.SupportLoad part x I Q =
    Within x.kind (exact_load x 1000000 I) (0 ÷ 1) (exact_strength_limit x ⊗ part)

-- the whole limit, and the limit cut by one part in a thousand
abbrev pub whole : Fraction
whole = 1 ÷ 1

abbrev pub cut : Fraction
cut = 999 ÷ 1000

-- every fraction above has a bottom above 0
pub record Bottoms (x : Record) (I : ℕ) : Type 0 where
  pub main_stress_bottom : 0 < (exact_main_stress x 1000000 I).bottom
  pub sub_stress_bottom : 0 < (exact_sub_stress x I).bottom
  pub load_bottom : 0 < (exact_load x 1000000 I).bottom
  pub heat_bottom : 0 < (exact_heat_limit x).bottom
  pub plastic_bottom : 0 < (exact_plastic_limit x).bottom

-- accepted: every ground holds exactly
pub record HoldsWhole (x : Record) (I Q : ℕ) : Type 0 where
  pub heat_holds : Holds grounds.Heat whole x I Q
  pub sub_bars_hold : Holds grounds.SubBarStress whole x I Q
  pub total_holds : Holds grounds.TotalStress whole x I Q
  pub load_holds : Holds grounds.SupportLoad whole x I Q

-- refused: on ground 1 since no figures were told, on another since its exact inequality fails once its limit is cut.
-- As ground 1 always holds where figures were told, nobody is refused on it then.
abbrev pub ExactUnder : Record → ℕ → ℕ → Verdict → Type 0
ExactUnder x I Q (Ok _) = HoldsWhole x I Q
ExactUnder x I Q (Err r) = Holds r.ground cut x I Q → ⊥

abbrev pub RefusedOnFigures : Verdict → Type 0
RefusedOnFigures (Ok _) = ⊥
RefusedOnFigures (Err r) = (r.ground ≡ grounds.Figures) × (r.figure ≡ 0) × (r.limit ≡ 0)

abbrev pub ExactOn : Record → Option (ℕ × ℕ) → Verdict → Type 0
ExactOn x None v = RefusedOnFigures v
ExactOn x (Some t) v = Bottoms x t.0 × ExactUnder x t.0 t.1 v

-- what a verdict on what was told says exactly
abbrev pub Exact : Record → Option (ℕ × ℕ) → Verdict → Type 0
Exact x told v = ExactOn x (figures_told told) v
