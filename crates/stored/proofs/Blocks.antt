-- Blocks: their check, and that what is written byte by byte is the block.
use Rattle.std.proofs.Common.{◌≡◌, ℕ, ◌+◌, ◌*◌, ◌/◌, ◌%◌, ◌<◌, ◌≤◌, zero, suc, List, [], ◌∷◌, ◌++◌, length, get_or, map, sum, take, drop, set, sym, refl, ap, ◌∙◌, mul-le-mul, arith, lit≤, cond, eqb, ◌^◌, length-append, length-drop, take-append-drop}
use Rattle.std.proofs.lemmas.List.{set-append_right, take_at, length-take-le}
use Rattle.std.proofs.lemmas.List.Sums.{sum_by-cons}
use Rattle.std.proofs.lemmas.List.FromFn.{length-map-range_with_len}
use Rattle.std.proofs.lemmas.Bool.{cond-true, eq-eqb}
use Rattle.std.specs.List.{range_with_len, zip}
use Rattle.stored.specs.Block.{weighted, check_of, body_of, block_of, sealed}

-- the sum over each place and its byte is the weighted sum of the bytes that have a place
pub weigh_all : (i n : ℕ) (xs : List ℕ) → sum (map (λ (p : ℕ × ℕ). p.0 * p.1) (zip (range_with_len (i + 1) n) xs)) ≡ weighted i (take n xs)
weigh_all i zero xs = refl
weigh_all i (suc n) [] = refl
weigh_all i (suc n) (b ∷ rest) =
    sum_by-cons (λ x. x) ((i + 1) * b) (map (λ (p : ℕ × ℕ). p.0 * p.1) (zip (range_with_len (i + 1 + 1) n) rest))
    ∙ ap (λ s. (i + 1) * b + s) (weigh_all (i + 1) n rest)

weigh_most : (a n : ℕ) (xs : List ℕ) → ((k : ℕ) → get_or xs k 0 < 256) → a + n ≤ 511 → sum (map (λ (p : ℕ × ℕ). p.0 * p.1) (zip (range_with_len a n) xs)) ≤ n * 130050
weigh_most a zero xs small room = omega arith
weigh_most a (suc n) [] small room = omega arith
weigh_most a (suc n) (b ∷ rest) small room =
    let here : a * b ≤ 130050 = mul-le-mul {n₂ = 510} {m₂ = 255} (omega arith) (omega (arith, small 0)) in
    let whole = sum_by-cons (λ x. x) (a * b) (map (λ (p : ℕ × ℕ). p.0 * p.1) (zip (range_with_len (a + 1) n) rest)) in
    omega (arith, here, whole, weigh_most (a + 1) n rest (λ k. small (suc k)) (omega arith))

-- and it fits 32 bits
pub weigh_fits : (a n : ℕ) (xs : List ℕ) → ((k : ℕ) → get_or xs k 0 < 256) → a + n ≤ 511 → sum (map (λ (p : ℕ × ℕ). p.0 * p.1) (zip (range_with_len a n) xs)) < 2 ^ 32
weigh_fits a n xs small room = omega (arith, weigh_most a n xs small room)

-- the last two bytes of a block
two_last : (xs : List ℕ) (x y : ℕ) → length xs ≡ 2 → set (set xs 0 x) 1 y ≡ x ∷ y ∷ []
two_last [] x y h = absurd (omega arith)
two_last (a ∷ []) x y h = absurd (omega arith)
two_last (a ∷ (b ∷ [])) x y h = refl
two_last (a ∷ (b ∷ (c ∷ rest))) x y h = absurd (omega arith)

-- a part with the check of its body behind the body
pub seal_written : (xs : List ℕ) (c high low : ℕ) → length xs ≡ 512 → c ≡ check_of (take 510 xs) → high ≡ c / 256 → low ≡ c % 256
    → set (set xs 510 high) 511 low ≡ cond (eqb (length xs) 512) (sealed (take 510 xs)) xs
seal_written xs c high low len is first second =
    let long : length (take 510 xs) ≡ 510 = length-take-le 510 xs (omega arith) in
    ap (λ l. set (set l 510 high) 511 low) (sym (take-append-drop 510 xs))
    ∙ ap (λ l. set l 511 low) (set-append_right (take 510 xs) (drop 510 xs) 510 510 high long (lit≤ tt))
    ∙ set-append_right (take 510 xs) (set (drop 510 xs) 0 high) 510 511 low long (lit≤ tt)
    ∙ ap (λ l. take 510 xs ++ l) (two_last (drop 510 xs) high low (length-drop 510 xs ∙ omega arith))
    ∙ (λ i. take 510 xs ++ (first i ∷ second i ∷ []))
    ∙ ap (λ v. take 510 xs ++ (v / 256 ∷ v % 256 ∷ [])) is
    ∙ sym (cond-true _ _ _ (eq-eqb _ _ len))

pub body_long : (byte_at : ℕ → ℕ) → length (body_of byte_at) ≡ 510
unfolding body_of
body_long byte_at = length-map-range_with_len byte_at 0 510

-- a part of 512 bytes, once a body is written over its front, and sealed
pub block_written : (xs front body new : List ℕ) (byte_at : ℕ → ℕ) → length xs ≡ 512 → front ≡ body → body ≡ body_of byte_at
    → new ≡ cond (eqb (length (front ++ drop 510 xs)) 512) (sealed (take 510 (front ++ drop 510 xs))) (front ++ drop 510 xs)
    → new ≡ cond (eqb (length xs) 512) (block_of byte_at) xs
block_written xs front body new byte_at len copied made written =
    let long : length front ≡ 510 = ap length (copied ∙ made) ∙ body_long byte_at in
    written
    ∙ cond-true _ _ _ (eq-eqb _ _ (length-append front (drop 510 xs) ∙ omega (arith, length-drop 510 xs)))
    ∙ ap sealed (take_at front (drop 510 xs) 510 long ∙ copied ∙ made)
    ∙ sym (cond-true _ _ _ (eq-eqb _ _ len))
