-- What rounding up does to a quotient.
use Rattle.std.proofs.Common.{◌≡◌, ℕ, ◌+◌, ◌*◌, ◌/◌, ◌%◌, ◌<◌, ◌≤◌, ◌⊎◌, ap, inl, inr, ⊎_elim, mul-le-mul_right, mul-le-mul_left, div-add-mod', arith}
use Rattle.std.proofs.lemmas.Bool.{cases_lt}
use Rattle.std.proofs.lemmas.Nat.{mod_below}
use Rattle.busbar.specs.Rounding.{up}

-- the quotient is whole, or one more than its whole part
up_ways : (n d : ℕ) → ((up n d ≡ n / d) × (n % d ≡ 0)) ⊎ ((up n d ≡ n / d + 1) × (0 < n % d))
unfolding up
up_ways n d = ⊎_elim (λ h. inr (omega arith, h)) (λ h. inl (omega arith, omega arith)) (cases_lt 0 (n % d))

-- the quotient is at most its rounding
pub le_up : (n d : ℕ) → 0 < d → n ≤ up n d * d
le_up n d h =
    let split = div-add-mod' n d in
    let rest = mod_below n d h in
    ⊎_elim (λ w. omega (arith, ap (λ x. x * d) w.0, w.1)) (λ w. omega (arith, ap (λ x. x * d) w.0, w.1)) (up_ways n d)

-- and less than one below it
pub up_lt : (n d : ℕ) → 0 < d → up n d * d < n + d
up_lt n d h =
    let split = div-add-mod' n d in
    ⊎_elim (λ w. omega (arith, ap (λ x. x * d) w.0, w.1)) (λ w. omega (arith, ap (λ x. x * d) w.0, w.1)) (up_ways n d)

-- what bounds the quotient bounds its rounding
pub up_le : (n d x : ℕ) → 0 < d → n ≤ x * d → up n d ≤ x
up_le n d x h b =
    ⊎_elim (λ past. absurd (omega (arith, mul-le-mul_right d past, up_lt n d h))) (λ le. le) (cases_lt x (up n d))

-- more on top and less below round to no less
pub up_mono : (n m d e : ℕ) → 0 < e → n ≤ m → e ≤ d → up n d ≤ up m e
up_mono n m d e h top bottom =
    up_le n d (up m e) (omega arith) (omega (arith, le_up m e h, mul-le-mul_left (up m e) bottom))
