-- What `array::from_fn` makes, where each call leaves its closure as it was.
use denote.Param.Members.{Mut}
use Rattle.std.proofs.Common.{◌≡◌, ℕ, ◌+◌, ◌<◌, ◌≤◌, zero, suc, List, get_or, map, sym, ap, ◌∙◌, subst, inl, inr, arith}
use Rattle.std.proofs.lemmas.Bool.{cases_eq}
use Rattle.std.proofs.lemmas.List.FromFn.{fill_by_all}
use Rattle.std.specs.Array.{IsFromFnResult, IsFromFnResultFrom}
use Rattle.std.specs.Fn.{Called}
use Rattle.std.specs.List.{range_with_len}

made_at : {F : Type 0} (g : Mut F (ℕ × Unit {0}) ℕ) (f : F) (h : ℕ → ℕ) → ((x y : ℕ) (q : F) → Called g f (x, tt) y q → (q ≡ f) × (y ≡ h x))
    → (ys : List ℕ) (i n k : ℕ) → IsFromFnResultFrom g f ys i n → i ≤ k → k < i + n → get_or ys k 0 ≡ h k
made_at g f h same ys i zero k e low high = absurd (omega arith)
made_at g f h same ys i (suc n) k (q, y, here, called, rest) low high =
    let stays = same i y q called in
    elim (cases_eq i k) [
      | inl e ↦ ap (λ j. get_or ys j 0) (sym e) ∙ here.1 0 ∙ stays.1 ∙ ap h e
      | inr other ↦ made_at g f h same ys (i + 1) n k (subst (λ p. IsFromFnResultFrom g p ys (i + 1) n) stays.0 rest) (omega arith) (omega arith)
    ]

pub made_by : {F : Type 0} (g : Mut F (ℕ × Unit {0}) ℕ) (f : F) (h : ℕ → ℕ) → ((x y : ℕ) (q : F) → Called g f (x, tt) y q → (q ≡ f) × (y ≡ h x))
    → (ys : List ℕ) (n : ℕ) → IsFromFnResult g f ys n → ys ≡ map h (range_with_len 0 n)
made_by g f h same ys n made = fill_by_all h ys n 0 made.long (λ k low. made_at g f h same ys 0 n k made.each (omega arith) (omega arith))
