-- A verdict says what the exact inequalities say: accepted holds, refused fails with the limit cut by a thousandth.
use Rattle.std.proofs.Common.{◌≡◌, ℕ, ◌+◌, ◌*◌, ◌<◌, ◌≤◌, true, Some, None, Option, refl, mul-le-mul_right, mul-le-mul, mul-pos, arith, lit≤}
use Rattle.std.proofs.lemmas.Bool.{cond_both, leb-true, leb-false}
use Rattle.busbar.specs.Factors.{phase_factor}
use Rattle.busbar.specs.Figures.{span_force, sub_bar_force, sub_force, main_stress_of, sub_bar_stress, sub_stress_of, support_load_of, rated_current}
use Rattle.busbar.specs.Record.{passes}
use Rattle.busbar.specs.Verdict.{figures_under, heat_limit, plastic_limit, verdict_under, verdict_on, figures_told, verdict}
use Rattle.busbar.specs.Exact.{◌÷◌, exact_force, exact_main_stress, exact_load, exact_sub_bar_stress, exact_sub_stress, exact_plastic_limit, exact_strength_limit, Holds, whole, cut, Bottoms, ExactUnder, ExactOn, Exact}
use Rattle.busbar.specs.declared.record.Record.{Record}
use Rattle.busbar.specs.declared.section.SubBars.{SubBars}
use Rattle.busbar.specs.declared.verdict.Ground.TheVariants as grounds
use Rattle.busbar.proofs.Ranges.{Ranges, SubBarsIn, ranges}
use Rattle.busbar.proofs.Bounds.{bending_share_most, stress_factor_most, support_share_most, load_factor_most, shared_bottom}
use Rattle.busbar.proofs.Fractions.{Near, near_up, near_next}
use Rattle.busbar.proofs.Margins.{NearPart, sum_holds, sum_fails}

-- Each rounded figure is near its fraction, by a few units.

module _ (x : Record) (I : ℕ) (r : Ranges x) where
  force_near : Near (span_force x I) (exact_force x (phase_factor x.kind) I) 4
  force_near =
      near_next _ _ 1 _ (100000 * x.centre_distance) 3 _ (near_up (I * I * phase_factor x.kind) 500000 (lit≤ tt))
      (omega (arith, r.distance_in.least))
      (omega (arith, mul-le-mul r.span_in.most r.factor_in.most, r.distance_in.least))
      (omega arith)

  main_stress_near : Near (main_stress_of x (span_force x I)) (exact_main_stress x (phase_factor x.kind) I) 4
  main_stress_near =
      near_next _ _ 4 _ (800 * x.section.modulus) 3 _ force_near
      (omega (arith, r.modulus_in.least))
      (omega (arith, mul-le-mul (mul-le-mul (stress_factor_most x.reclosing) (bending_share_most x.scheme)) r.span_in.most, r.modulus_in.least))
      (omega arith)

  load_near : Near (support_load_of x (span_force x I)) (exact_load x (phase_factor x.kind) I) 4
  load_near =
      near_next _ _ 4 _ 100000000 3 _ force_near (lit≤ tt)
      (omega (arith, mul-le-mul (support_share_most x.scheme) (load_factor_most x.kind)))
      (omega arith)

sub_stress_near : (o : Option SubBars) (v I span : ℕ) → SubBarsIn o span → v ≤ 18 → Near (sub_bar_stress o v (sub_bar_force o I)) (exact_sub_bar_stress o v I) 2
sub_stress_near None v I span r hv = record { low = lit≤ tt; high = lit≤ tt }
sub_stress_near (Some s) v I span r hv =
    let bottom = shared_bottom _ _ r.0.least r.2.least in
    near_next _ _ 1 _ (16 * s.modulus) 1 _ (near_up (I * I * s.spacing) (50 * s.count * s.count * s.distance) (omega arith))
    (omega (arith, r.1.least))
    (omega (arith, mul-le-mul hv r.3.most, r.1.least))
    (omega arith)

-- The parts that the kind's factor is put to.

module _ (x : Record) (I : ℕ) (r : Ranges x) where
  main_stress_part : NearPart (main_stress_of x (span_force x I)) (phase_factor x.kind) (exact_main_stress x 1000000 I) 4
  main_stress_part =
      let near = main_stress_near x I r in record { low = omega (arith, near.low); high = omega (arith, near.high) }

  load_part : NearPart (support_load_of x (span_force x I)) (phase_factor x.kind) (exact_load x 1000000 I) 4
  load_part =
      let near = load_near x I r in record { low = omega (arith, near.low); high = omega (arith, near.high) }

-- Every bottom is above 0.

sub_stress_bottom_of : (o : Option SubBars) (v I span : ℕ) → SubBarsIn o span → 0 < (exact_sub_bar_stress o v I).bottom
sub_stress_bottom_of None v I span r = lit≤ tt
sub_stress_bottom_of (Some s) v I span r =
    let shared = shared_bottom _ _ r.0.least r.2.least in
    mul-pos {m = 50 * s.count * s.count * s.distance} (omega arith) (omega (arith, r.1.least))

pub bottoms : (x : Record) (I : ℕ) → Ranges x → Bottoms x I
bottoms x I r =
    let force : 0 < (exact_force x 1000000 I).bottom = omega (arith, r.distance_in.least) in
    record {
      main_stress_bottom = mul-pos {m = (exact_force x 1000000 I).bottom} force (omega (arith, r.modulus_in.least));
      sub_stress_bottom = sub_stress_bottom_of _ _ I _ r.sub_bars_in;
      load_bottom = mul-pos {m = (exact_force x 1000000 I).bottom} force (lit≤ tt);
      heat_bottom = lit≤ tt;
      plastic_bottom = lit≤ tt;
    }

-- Ground by ground.

module _ (x : Record) (I Q : ℕ) (r : Ranges x) where
  heat_whole : Q ≤ heat_limit x → Holds grounds.Heat whole x I Q
  unfolding heat_limit
  heat_whole h =
      let down : rated_current x * 100 ≤ x.rated_density * x.section.area = omega arith in
      omega (arith, mul-le-mul down down)

  heat_cut : heat_limit x < Q → Holds grounds.Heat cut x I Q → ⊥
  unfolding heat_limit
  heat_cut h holds =
      let M : ℕ = rated_current x in
      let SA : ℕ = x.rated_density * x.section.area in
      let least : 1500000 ≤ SA = mul-le-mul r.density_in.least r.area_in.least in
      let next : SA ≤ (M + 1) * 100 = omega arith in
      let large : 15000 ≤ M = omega arith in
      omega (arith, mul-le-mul next next, mul-le-mul_right M large, holds)

  sub_near : Near (sub_stress_of x (sub_force x I)) (exact_sub_stress x I) 2
  sub_near = sub_stress_near _ _ I _ r.sub_bars_in (stress_factor_most x.reclosing)

  sub_bars_whole : (figures_under x I).sub_stress ≤ 1000 * x.yield_stress → Holds grounds.SubBarStress whole x I Q
  unfolding figures_under
  sub_bars_whole h = omega (arith, sub_near.low, mul-le-mul_right (exact_sub_stress x I).bottom h)

  sub_bars_cut : 1000 * x.yield_stress < (figures_under x I).sub_stress → Holds grounds.SubBarStress cut x I Q → ⊥
  unfolding figures_under
  sub_bars_cut h holds =
      omega (
        arith,
        sub_near.high,
        mul-le-mul_right (exact_sub_stress x I).bottom h,
        holds,
        mul-le-mul_right (exact_sub_stress x I).bottom r.yield_in.least,
        (bottoms x I r).sub_stress_bottom,
      )

  total_whole : (figures_under x I).total_stress ≤ plastic_limit x → Holds grounds.TotalStress whole x I Q
  unfolding figures_under plastic_limit
  total_whole h =
      sum_holds x.kind _ _ _ _ (exact_plastic_limit x) 4 (bottoms x I r).main_stress_bottom (main_stress_part x I r) sub_near.low (omega arith)

  total_cut : plastic_limit x < (figures_under x I).total_stress → Holds grounds.TotalStress cut x I Q → ⊥
  unfolding figures_under plastic_limit
  total_cut h =
      sum_fails x.kind _ _ _ _ (exact_plastic_limit x) (bottoms x I r).main_stress_bottom (bottoms x I r).sub_stress_bottom (lit≤ tt)
      (main_stress_part x I r) sub_near.high (omega arith) (mul-le-mul {n₁ = 10000} {m₁ = 20} r.plastic_in.least r.yield_in.least)

  load_whole : (figures_under x I).support_load ≤ 1000 * x.support_strength → Holds grounds.SupportLoad whole x I Q
  unfolding figures_under
  load_whole h =
      sum_holds x.kind _ (0 ÷ 1) _ 0 (exact_strength_limit x) 4 (bottoms x I r).load_bottom (load_part x I r) (lit≤ tt) (omega arith)

  load_cut : 1000 * x.support_strength < (figures_under x I).support_load → Holds grounds.SupportLoad cut x I Q → ⊥
  unfolding figures_under
  load_cut h =
      sum_fails x.kind _ (0 ÷ 1) _ 0 (exact_strength_limit x) (bottoms x I r).load_bottom (lit≤ tt) (lit≤ tt)
      (load_part x I r) (lit≤ tt) (omega arith) (omega (arith, r.strength_in.least))

  exact_under : ExactUnder x I Q (verdict_under x I Q)
  exact_under =
      cond_both _ _ _ (ExactUnder x I Q)
      (λ q. cond_both _ _ _ (ExactUnder x I Q)
      (λ s. cond_both _ _ _ (ExactUnder x I Q)
      (λ t. cond_both _ _ _ (ExactUnder x I Q)
      (λ l. record {
        heat_holds = heat_whole (leb-true _ _ q);
        sub_bars_hold = sub_bars_whole (leb-true _ _ s);
        total_holds = total_whole (leb-true _ _ t);
        load_holds = load_whole (leb-true _ _ l);
      })
      (λ l. load_cut (leb-false _ _ l)))
      (λ t. total_cut (leb-false _ _ t)))
      (λ s. sub_bars_cut (leb-false _ _ s)))
      (λ q. heat_cut (leb-false _ _ q))

exact_on : (x : Record) → Ranges x → (told : Option (ℕ × ℕ)) → ExactOn x told (verdict_on x told)
exact_on x r None = (refl, refl, refl)
exact_on x r (Some t) = (bottoms x t.0 r, exact_under x t.0 t.1 r)

pub exact : (x : Record) → passes x ≡ true → (told : Option (ℕ × ℕ)) → Exact x told (verdict x told)
unfolding verdict
exact x h told = exact_on x (ranges x h) (figures_told told)
