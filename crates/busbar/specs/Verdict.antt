-- The verdict: the first ground that fails, with figure and limit.
use Rattle.std.specs.Prelude.{ℕ, ◌+◌, ◌*◌, ◌/◌, cond, ◌&&◌, Some, None, Ok, Err, Option, Result, List, ◌++◌, codes, nat_le}
use Rattle.std.specs.Fmt.{decimal}
use Rattle.busbar.specs.Rounding.{within}
use Rattle.busbar.specs.Figures.{span_force, sub_force, main_stress_of, sub_stress_of, support_load_of, rated_current}
use Rattle.busbar.specs.declared.record.Record.{Record}
use Rattle.busbar.specs.declared.verdict.Figures.{Figures}
use Rattle.busbar.specs.declared.verdict.Ground.{Ground}
use Rattle.busbar.specs.declared.verdict.Ground.TheVariants as grounds
use Rattle.busbar.specs.declared.verdict.Refusal.{Refusal}

-- accepted, or refused with the ground that failed
abbrev pub Verdict : Type 0
Verdict = Result (Unit {0}) Refusal

abbrev pub ground_number : Ground → ℕ
ground_number grounds.Figures = 1
ground_number grounds.Heat = 2
ground_number grounds.SubBarStress = 3
ground_number grounds.TotalStress = 4
ground_number grounds.SupportLoad = 5

-- the figures under a peak I

unfoldable pub figures_under : Record → ℕ → Figures
figures_under x I = record {
  main_stress = main_stress_of x (span_force x I);
  sub_stress = sub_stress_of x (sub_force x I);
  total_stress = main_stress_of x (span_force x I) + sub_stress_of x (sub_force x I);
  support_load = support_load_of x (span_force x I);
}

-- the limits

unfoldable pub heat_limit : Record → ℕ
heat_limit x = 10 * rated_current x * rated_current x

abbrev pub yield_limit : Record → ℕ
yield_limit x = 1000 * x.yield_stress

unfoldable pub plastic_limit : Record → ℕ
plastic_limit x = x.section.plastic_factor * x.yield_stress / 10

abbrev pub strength_limit : Record → ℕ
strength_limit x = 1000 * x.support_strength

-- a ground's figure and limit under a peak I and a heat Q

abbrev pub figure_of : Ground → Record → ℕ → ℕ → ℕ
figure_of grounds.Figures x I Q = 0
figure_of grounds.Heat x I Q = Q
figure_of grounds.SubBarStress x I Q = (figures_under x I).sub_stress
figure_of grounds.TotalStress x I Q = (figures_under x I).total_stress
figure_of grounds.SupportLoad x I Q = (figures_under x I).support_load

abbrev pub limit_of : Ground → Record → ℕ
limit_of grounds.Figures x = 0
limit_of grounds.Heat x = heat_limit x
limit_of grounds.SubBarStress x = yield_limit x
limit_of grounds.TotalStress x = plastic_limit x
limit_of grounds.SupportLoad x = strength_limit x

abbrev pub refused_on : (ground : Ground) (figure limit : ℕ) → Verdict
refused_on g figure limit = Err (record { ground = g; figure = figure; limit = limit })

-- a ground is passed where its figure is within its limit
abbrev pub passed_on : (ground : Ground) (figure limit : ℕ) → Verdict
passed_on g figure limit = cond (nat_le figure limit) (Ok tt) (refused_on g figure limit)

-- how a refusal is printed
abbrev pub refusal_text : Refusal → List ℕ
refusal_text r = codes "refused " ++ decimal (ground_number r.ground)

-- on a ground: the next one where the figure is within the limit, else refused here
abbrev pub then_on : Record → ℕ → ℕ → Ground → Verdict → Verdict
then_on x I Q g next =
    cond (nat_le (figure_of g x I Q) (limit_of g x)) next (refused_on g (figure_of g x I Q) (limit_of g x))

abbrev pub verdict_under : Record → ℕ → ℕ → Verdict
verdict_under x I Q =
    then_on x I Q grounds.Heat
    (then_on x I Q grounds.SubBarStress (then_on x I Q grounds.TotalStress (then_on x I Q grounds.SupportLoad (Ok tt))))

-- what a feeder told, where it lies in a feeder's ranges; anything else counts as nothing
abbrev pub figures_told : Option (ℕ × ℕ) → Option (ℕ × ℕ)
figures_told None = None
figures_told (Some t) = cond (within 1 300000 t.0 && within 1 200000000000000 t.1) (Some t) None

abbrev pub verdict_on : Record → Option (ℕ × ℕ) → Verdict
verdict_on x None = refused_on grounds.Figures 0 0
verdict_on x (Some t) = verdict_under x t.0 t.1

unfoldable pub verdict : Record → Option (ℕ × ℕ) → Verdict
verdict x told = verdict_on x (figures_told told)
