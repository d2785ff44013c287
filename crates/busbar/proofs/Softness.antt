-- A duty that is no easier gets no softer verdict.
use Rattle.std.proofs.Common.{◌≡◌, ℕ, ◌*◌, ◌≤◌, Bool, true, false, cond, leb, Some, None, Ok, Err, Option, sym, refl, ap, subst, le_refl, mul-le-mul, mul-le-mul_left, arith, lit≤}
use Rattle.std.proofs.lemmas.Bool.{cond_both, leb-true, both_ways, le-leb, cond-true}
use Rattle.busbar.specs.Factors.{support_share, bending_share, phase_factor, load_factor, stress_factor}
use Rattle.busbar.specs.Figures.{current_force, span_force, sub_bar_force, sub_force, main_stress_of, sub_bar_stress, sub_stress_of, support_load_of, rated_current}
use Rattle.busbar.specs.Record.{passes}
use Rattle.busbar.specs.Verdict.{Verdict, ground_number, figures_under, heat_limit, plastic_limit, figure_of, limit_of, refused_on, then_on, verdict_under, verdict_on, figures_told, verdict}
use Rattle.busbar.specs.Harder.{NoEasier, NoEasierSubBars, NoSmaller, NoSofter, NoSofterThanEasier}
use Rattle.busbar.specs.declared.record.Record.{Record}
use Rattle.busbar.specs.declared.section.SubBars.{SubBars}
use Rattle.busbar.specs.declared.verdict.Ground.{Ground}
use Rattle.busbar.specs.declared.verdict.Ground.TheVariants as grounds
use Rattle.busbar.proofs.Ranges.{Ranges, SubBarsIn, ranges}
use Rattle.busbar.proofs.Rounds.{up_mono}
use Rattle.busbar.proofs.Bounds.{shared_bottom}

-- Figures rise and limits fall with the duty.

stress_factor_mono : (b d : Bool) → (d ≡ true → b ≡ true) → stress_factor d ≤ stress_factor b
stress_factor_mono true true h = lit≤ tt
stress_factor_mono true false h = lit≤ tt
stress_factor_mono false false h = lit≤ tt
stress_factor_mono false true h = absurd (both_ways false refl (h refl))

sub_stress_mono : (o p : Option SubBars) (v w I K span : ℕ) → SubBarsIn o span → NoEasierSubBars o p → w ≤ v → K ≤ I → sub_bar_stress p w (sub_bar_force p K) ≤ sub_bar_stress o v (sub_bar_force o I)
sub_stress_mono None None v w I K span r e hv hI = lit≤ tt
sub_stress_mono None (Some t) v w I K span r e hv hI = absurd e
sub_stress_mono (Some s) None v w I K span r e hv hI = absurd e
sub_stress_mono (Some s) (Some t) v w I K span r e hv hI =
    let bottom = shared_bottom _ _ r.0.least r.2.least in
    let count : s.count ≤ t.count = omega (arith, e.same_count) in
    let force : sub_bar_force (Some t) K ≤ sub_bar_force (Some s) I =
    up_mono _ _ _ (50 * s.count * s.count * s.distance) (omega arith)
    (mul-le-mul (mul-le-mul hI hI) e.spacing_no_smaller)
    (mul-le-mul (mul-le-mul (mul-le-mul (le_refl 50) count) count) e.bar_distance_no_greater) in
    up_mono _ _ _ (16 * s.modulus) (omega (arith, r.1.least))
    (mul-le-mul (mul-le-mul hv force) e.spacing_no_smaller)
    (mul-le-mul_left 16 e.bar_modulus_no_greater)

module _ (x y : Record) (r : Ranges x) (e : NoEasier x y) (I K : ℕ) (more : K ≤ I) where
  force_mono : span_force y K ≤ span_force x I
  force_mono =
      let phase : phase_factor y.kind ≤ phase_factor x.kind = omega (arith, ap phase_factor e.same_kind) in
      let currents : current_force y.kind K ≤ current_force x.kind I =
      up_mono _ _ 500000 500000 (lit≤ tt) (mul-le-mul (mul-le-mul more more) phase) (lit≤ tt) in
      up_mono _ _ _ (100000 * x.centre_distance) (omega (arith, r.distance_in.least))
      (mul-le-mul (mul-le-mul currents e.span_no_smaller) e.factor_no_smaller)
      (mul-le-mul_left 100000 e.distance_no_greater)

  main_stress_mono : main_stress_of y (span_force y K) ≤ main_stress_of x (span_force x I)
  main_stress_mono =
      let share : bending_share y.scheme ≤ bending_share x.scheme = omega (arith, ap bending_share e.same_scheme) in
      let v = stress_factor_mono x.reclosing y.reclosing e.reclosing_kept in
      up_mono _ _ _ (800 * x.section.modulus) (omega (arith, r.modulus_in.least))
      (mul-le-mul (mul-le-mul (mul-le-mul v share) force_mono) e.span_no_smaller)
      (mul-le-mul_left 800 e.modulus_no_greater)

  sub_mono : sub_stress_of y (sub_force y K) ≤ sub_stress_of x (sub_force x I)
  sub_mono =
      sub_stress_mono _ _ _ _ I K _ r.sub_bars_in e.sub_bars_no_easier
      (stress_factor_mono x.reclosing y.reclosing e.reclosing_kept) more

  load_mono : support_load_of y (span_force y K) ≤ support_load_of x (span_force x I)
  load_mono =
      let share : support_share y.scheme ≤ support_share x.scheme = omega (arith, ap support_share e.same_scheme) in
      let factor : load_factor y.kind ≤ load_factor x.kind = omega (arith, ap load_factor e.same_kind) in
      up_mono _ _ 100000000 100000000 (lit≤ tt) (mul-le-mul (mul-le-mul force_mono share) factor) (lit≤ tt)

  figure_mono : (Q P : ℕ) → P ≤ Q → (g : Ground) → figure_of g y K P ≤ figure_of g x I Q
  unfolding figures_under
  figure_mono Q P h grounds.Figures = lit≤ tt
  figure_mono Q P h grounds.Heat = h
  figure_mono Q P h grounds.SubBarStress = sub_mono
  figure_mono Q P h grounds.TotalStress = omega (arith, main_stress_mono, sub_mono)
  figure_mono Q P h grounds.SupportLoad = load_mono

limit_mono : (x y : Record) → NoEasier x y → (g : Ground) → limit_of g x ≤ limit_of g y
unfolding heat_limit plastic_limit
limit_mono x y e grounds.Figures = lit≤ tt
limit_mono x y e grounds.Heat =
    let current : rated_current x ≤ rated_current y = omega (arith, mul-le-mul e.density_no_greater e.area_no_greater) in
    mul-le-mul (mul-le-mul_left 10 current) current
limit_mono x y e grounds.SubBarStress = mul-le-mul_left 1000 e.yield_no_greater
limit_mono x y e grounds.TotalStress = omega (arith, mul-le-mul e.plastic_no_greater e.yield_no_greater)
limit_mono x y e grounds.SupportLoad = mul-le-mul_left 1000 e.strength_no_greater

-- The chain of grounds keeps that.

-- refused, if at all, on the ground g or a later one
abbrev Later : Ground → Verdict → Type 0
Later g (Ok _) = Unit {0}
Later g (Err r) = ground_number g ≤ ground_number r.ground

later_step : (g h : Ground) (b : Bool) (next : Verdict) (f l : ℕ) → ground_number h ≤ ground_number g → Later h next → Later h (cond b next (refused_on g f l))
later_step g h b next f l le after = cond_both b next (refused_on g f l) (Later h) (λ _. after) (λ _. le)

refused_no_softer : (g : Ground) (f l : ℕ) (w : Verdict) → Later g w → NoSofter (refused_on g f l) w
refused_no_softer g f l (Ok _) h = tt
refused_no_softer g f l (Err s) h = h

step : (g : Ground) (v w : Verdict) (f l f' l' : ℕ) → f' ≤ f → l ≤ l' → NoSofter v w → Later g w
    → NoSofter (cond (leb f l) v (refused_on g f l)) (cond (leb f' l') w (refused_on g f' l'))
step g v w f l f' l' more less rest after =
    cond_both (leb f l) v (refused_on g f l) (λ t. NoSofter t (cond (leb f' l') w (refused_on g f' l')))
    (λ holds.
    let easier : leb f' l' ≡ true = le-leb f' l' (omega (arith, leb-true f l holds)) in
    subst (NoSofter v) (sym (cond-true (leb f' l') w (refused_on g f' l') easier)) rest)
    (λ fails. refused_no_softer g f l _ (later_step g g (leb f' l') w f' l' (le_refl _) after))

module _ (x y : Record) (r : Ranges x) (e : NoEasier x y) (I K Q P : ℕ) (more : K ≤ I) (hotter : P ≤ Q) where
  -- the two chains from the ground g on, over what comes after it
  chain : (g : Ground) (v w : Verdict) → NoSofter v w → Later g w → NoSofter (then_on x I Q g v) (then_on y K P g w)
  chain g v w rest after =
      step g v w _ _ _ _ (figure_mono x y r e I K more Q P hotter g) (limit_mono x y e g) rest after

  under_no_softer : NoSofter (verdict_under x I Q) (verdict_under y K P)
  under_no_softer =
      let load : Verdict = then_on y K P grounds.SupportLoad (Ok tt) in
      let total : Verdict = then_on y K P grounds.TotalStress load in
      let load_later : (h : Ground) → ground_number h ≤ 5 → Later h load = λ h le. later_step grounds.SupportLoad h _ (Ok tt) _ _ le tt in
      let total_later : (h : Ground) → ground_number h ≤ 4 → Later h total =
      λ h le. later_step grounds.TotalStress h _ load _ _ le (load_later h (omega arith)) in
      chain grounds.Heat _ _
      (chain grounds.SubBarStress _ _
      (chain grounds.TotalStress _ _ (chain grounds.SupportLoad (Ok tt) (Ok tt) tt tt) (load_later grounds.TotalStress (lit≤ tt)))
      (total_later grounds.SubBarStress (lit≤ tt)))
      (later_step grounds.SubBarStress grounds.Heat _ total _ _ (lit≤ tt) (total_later grounds.Heat (lit≤ tt)))

-- ground 1 is the earliest
first_ground : (g : Ground) → 1 ≤ ground_number g
first_ground grounds.Figures = lit≤ tt
first_ground grounds.Heat = lit≤ tt
first_ground grounds.SubBarStress = lit≤ tt
first_ground grounds.TotalStress = lit≤ tt
first_ground grounds.SupportLoad = lit≤ tt

no_figures_first : (w : Verdict) → Later grounds.Figures w
no_figures_first (Ok _) = tt
no_figures_first (Err s) = first_ground s.ground

on_no_softer : (x y : Record) → Ranges x → NoEasier x y → (s t : Option (ℕ × ℕ)) → NoSmaller s t → NoSofter (verdict_on x s) (verdict_on y t)
on_no_softer x y r e None t h = refused_no_softer grounds.Figures 0 0 (verdict_on y t) (no_figures_first _)
on_no_softer x y r e (Some s) None h = absurd h
on_no_softer x y r e (Some s) (Some t) h = under_no_softer x y r e s.0 t.0 s.1 t.1 h.0 h.1

pub no_softer : (x : Record) (told : Option (ℕ × ℕ)) → passes x ≡ true → NoSofterThanEasier x told (verdict x told)
unfolding verdict
no_softer x told h y told' h' e more = on_no_softer x y (ranges x h) e (figures_told told) (figures_told told') more
