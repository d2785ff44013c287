-- Motors keep the law, whatever lawful feeder is below.
use Rattle.std.specs.Prelude.{◌≡◌, ℕ, ◌+◌, ◌≤◌, true, ◌&&◌, Some, None, nat_le}
use Rattle.std.proofs.Common.{sym, ap, subst, arith}
use Rattle.std.proofs.lemmas.Bool.{and_parts, and_from, leb-true, le-leb, cond-true, cond_both}
use Rattle.busbar.specs.Harder.{NoSmaller}
use Rattle.feeder.specs.Figures.{nothing_largest}
use Rattle.feeder.specs.Laws.{Told, Lawful, InRanges, within_maxima}
use Rattle.feeder.specs.Motors.{motors_tell}

-- a pair within both maxima
maxima_true : (x y : ℕ) → (nat_le x 300000 && nat_le y 200000000000000) ≡ true → (x ≤ 300000) × (y ≤ 200000000000000)
maxima_true x y h =
    let (peak, heat) = and_parts (nat_le x 300000) (nat_le y 200000000000000) h in (leb-true _ _ peak, leb-true _ _ heat)

-- cutting off at the maxima keeps the order: what passes one stays nothing above
pub maxima_rise : (x y x' y' : ℕ) → x' ≤ x → y' ≤ y → NoSmaller (within_maxima x y) (within_maxima x' y')
maxima_rise x y x' y' hx hy =
    cond_both (nat_le x 300000 && nat_le y 200000000000000) (Some (x, y)) None (λ t. NoSmaller t (within_maxima x' y'))
    (λ e.
    let most = maxima_true x y e in
    let low : (nat_le x' 300000 && nat_le y' 200000000000000) ≡ true =
    and_from (nat_le x' 300000) (nat_le y' 200000000000000) (le-leb x' 300000 (omega arith)) (le-leb y' 200000000000000 (omega arith)) in
    subst (NoSmaller (Some (x, y))) (sym (cond-true (nat_le x' 300000 && nat_le y' 200000000000000) (Some (x', y')) None low)) (hx, hy))
    (λ _. nothing_largest (within_maxima x' y'))

pub maxima_in_ranges : (x y : ℕ) → 1 ≤ x → 1 ≤ y → InRanges (within_maxima x y)
maxima_in_ranges x y hx hy =
    cond_both (nat_le x 300000 && nat_le y 200000000000000) (Some (x, y)) None InRanges
    (λ e. let most = maxima_true x y e in (hx, most.0, hy, most.1)) (λ _. tt)

module _ (peak heat : ℕ) where
  sum_in_ranges : (t : Told) → InRanges t → InRanges (motors_tell peak heat t)
  sum_in_ranges None h = tt
  sum_in_ranges (Some t) h = maxima_in_ranges (t.0 + peak) (t.1 + heat) (omega (arith, h.0)) (omega (arith, h.2))

  sum_rises : (s t : Told) → NoSmaller s t → NoSmaller (motors_tell peak heat s) (motors_tell peak heat t)
  sum_rises None t h = nothing_largest (motors_tell peak heat t)
  sum_rises (Some s) None h = absurd h
  sum_rises (Some s) (Some t) h =
      maxima_rise (s.0 + peak) (s.1 + heat) (t.0 + peak) (t.1 + heat) (omega (arith, h.0)) (omega (arith, h.1))

  pub motors_lawful : (below : ℕ → Told) → Lawful below → Lawful (λ n. motors_tell peak heat (below n))
  motors_lawful below law = record {
    outside = λ n h. ap (motors_tell peak heat) (law.outside n h);
    in_ranges = λ n. sum_in_ranges (below n) (law.in_ranges n);
    rises = λ m n least le. sum_rises (below n) (below m) (law.rises m n least le);
  }
