-- Bytes joined by `|` come to 0 exactly where each of them is 0.
use Rattle.std.proofs.Common.{◌≡◌, ℕ, zero, suc, ◌+◌, ◌<◌, ◌≤◌, ◌&&◌, false, List, get_or, length, take, nat_eq, refl, sym, ap, ◌∙◌, arith}
use Rattle.std.specs.Int.Bits.{bit_or}
use Rattle.std.proofs.lemmas.Bool.{ne_eqb}
use Rattle.std.proofs.lemmas.Nat.{le_or_l}
use Rattle.std.proofs.lemmas.List.Folds.{list_all_more}
use Rattle.stored.specs.Read.{zeros}

more_than_none : (n : ℕ) → 1 ≤ n → nat_eq n 0 ≡ false
more_than_none n h = ne_eqb n 0 (λ none. absurd (omega (arith, none, h)))

pub joined_zero : (a b : ℕ) → nat_eq (bit_or a b) 0 ≡ (nat_eq a 0 && nat_eq b 0)
joined_zero zero b = refl
joined_zero (suc a) b =
    let more : suc a ≤ bit_or (suc a) b = le_or_l (suc a) b in
    more_than_none (bit_or (suc a) b) (omega (arith, more)) ∙ ap (λ s. s && nat_eq b 0) (sym (more_than_none (suc a) (omega arith)))

-- one byte more
pub zeros_joined : (xs : List ℕ) (i joined : ℕ) → i < length xs → nat_eq joined 0 ≡ zeros (take i xs) → nat_eq (bit_or joined (get_or xs i 0)) 0 ≡ zeros (take (i + 1) xs)
zeros_joined xs i joined low so_far =
    joined_zero joined (get_or xs i 0) ∙ ap (λ b. b && nat_eq (get_or xs i 0) 0) so_far ∙ sym (list_all_more (λ b. nat_eq b 0) xs i 0 low)
