-- A fuse keeps the law, whatever lawful feeder is below.
use Rattle.std.specs.Prelude.{◌≡◌, ℕ, suc, ◌+◌, ◌-◌, ◌<◌, ◌≤◌, Bool, true, false, ◌&&◌, leb, List, [], ◌∷◌, ◌++◌, length, get_or, drop, Some, None, Option, nat_le, nat_lt, slice_index_or, refl}
use Rattle.std.proofs.Math.Bool.{and_assoc}
use Rattle.std.proofs.Common.{sym, ap, subst, ◌∙◌, le_refl, arith}
use Rattle.std.proofs.lemmas.List.{at_drop_more, at_drop_all}
use Rattle.std.proofs.lemmas.Bool.{and_parts, leb-true, leb-false, le-leb, lt-leb, cond-true, cond-false, cond_both, and_from}
use Rattle.busbar.specs.Rounding.{within}
use Rattle.busbar.specs.Harder.{NoSmaller}
use Rattle.busbar.proofs.Ranges.{inside_of}
use Rattle.feeder.specs.Figures.{nothing_largest}
use Rattle.feeder.specs.Laws.{Told, Lawful, InRanges, level_inside}
use Rattle.feeder.specs.Fuse.{point_inside, may_follow, follows_on, in_order, counting, smaller_of, fuse_tells, last_before, takes}
use Rattle.feeder.specs.declared.point.Point.{Point}

-- what a point lets through, as figures
abbrev through : Option Point → Told
through None = None
through (Some p) = Some (p.peak, p.heat)

inside_ranges : (p : Point) → point_inside p ≡ true → InRanges (through (Some p))
inside_ranges p h =
    let (front, heat) = and_parts (level_inside p.level && within 1 300000 p.peak) (within 1 200000000000000 p.heat) h in
    let peak = (and_parts (level_inside p.level) (within 1 300000 p.peak) front).1 in
    let P = inside_of 1 300000 p.peak peak in
    let Q = inside_of 1 200000000000000 p.heat heat in
    (P.least, P.most, Q.least, Q.most)

-- the parts of a curve in order

follows_parts : (p q : Point) (rest : List Point) → follows_on p (q ∷ rest) ≡ true → (may_follow p q ≡ true) × (in_order (q ∷ rest) ≡ true)
follows_parts p q rest h =
    let (front, tail) = and_parts (may_follow p q && point_inside q) (follows_on q rest) h in
    let (follow, inside) = and_parts (may_follow p q) (point_inside q) front in
    (follow, and_from (point_inside q) (follows_on q rest) inside tail)

may_follow_true : (p q : Point) → may_follow p q ≡ true → (p.peak ≤ q.peak) × (p.heat ≤ q.heat)
may_follow_true p q h =
    let (front, heat) = and_parts (nat_lt p.level q.level && nat_le p.peak q.peak) (nat_le p.heat q.heat) h in
    (leb-true _ _ (and_parts (nat_lt p.level q.level) (nat_le p.peak q.peak) front).1, leb-true _ _ heat)

order_after : (p : Point) (rest : List Point) → follows_on p rest ≡ true → in_order rest ≡ true
order_after p [] h = refl
order_after p (q ∷ rest) h = (follows_parts p q rest h).1

-- what comes after a point lets through no less than it
after : (p : Point) (rest : List Point) (n : ℕ) → follows_on p rest ≡ true → NoSmaller (through (counting rest n)) (through (Some p))
after p [] n h = tt
after p (q ∷ rest) n h =
    let (follow, order) = follows_parts p q rest h in
    let (peak, heat) = may_follow_true p q follow in
    let tail = after q rest n (and_parts (point_inside q) (follows_on q rest) order).1 in
    cond_both (nat_le n q.level) (Some q) (counting rest n) (λ o. NoSmaller (through o) (through (Some p)))
    (λ _. (peak, heat))
    (λ _. more (through (counting rest n)) tail peak heat)
  where
    more : (t : Told) → NoSmaller t (through (Some q)) → p.peak ≤ q.peak → p.heat ≤ q.heat → NoSmaller t (through (Some p))
    more None h a b = tt
    more (Some t) h a b = (omega (arith, h.0), omega (arith, h.1))

-- the point that counts lets through no less at a higher level, and none counts above a level at which none does
point_rises : (points : List Point) (m n : ℕ) → in_order points ≡ true → m ≤ n → NoSmaller (through (counting points n)) (through (counting points m))
point_rises [] m n h le = tt
point_rises (p ∷ rest) m n h le =
    let tail = (and_parts (point_inside p) (follows_on p rest) h).1 in
    let recursive = point_rises rest m n (order_after p rest tail) le in
    cond_both (nat_le m p.level) (Some p) (counting rest m) (λ o. NoSmaller (through (counting (p ∷ rest) n)) (through o))
    (λ _. cond_both (nat_le n p.level) (Some p) (counting rest n) (λ o. NoSmaller (through o) (through (Some p)))
    (λ _. (le_refl _, le_refl _)) (λ _. after p rest n tail))
    (λ past.
    let above : leb n p.level ≡ false = lt-leb n p.level (omega (arith, leb-false m p.level past)) in
    subst (λ o. NoSmaller (through o) (through (counting rest m))) (sym (cond-false (nat_le n p.level) (Some p) (counting rest n) above)) recursive)

point_in_ranges : (points : List Point) (n : ℕ) → in_order points ≡ true → InRanges (through (counting points n))
point_in_ranges [] n h = tt
point_in_ranges (p ∷ rest) n h =
    let (inside, tail) = and_parts (point_inside p) (follows_on p rest) h in
    cond_both (nat_le n p.level) (Some p) (counting rest n) (λ o. InRanges (through o))
    (λ _. inside_ranges p inside) (λ _. point_in_ranges rest n (order_after p rest tail))

-- one point more at the end

pub last_before_last : (xs : List Point) (p q : Point) → 0 < length xs → q ≡ slice_index_or xs (length xs - 1) q → may_follow q p ≡ last_before xs p
last_before_last [] p q h e = absurd (omega arith)
last_before_last (a ∷ []) p q h e = ap (λ x. may_follow x p) e
last_before_last (a ∷ (b ∷ rest)) p q h e =
    let place : length (a ∷ (b ∷ rest)) - 1 ≡ suc (length (b ∷ rest) - 1) = omega arith in
    last_before_last (b ∷ rest) p q (omega arith) (subst (λ k. q ≡ slice_index_or (a ∷ (b ∷ rest)) k q) place e)

and_swap : (x y : Bool) → (x && y && true) ≡ (y && x)
and_swap true true = refl
and_swap true false = refl
and_swap false true = refl
and_swap false false = refl

and_left_true : (x y : Bool) → x ≡ true → (x && y) ≡ y
and_left_true x y h = ap (λ b. b && y) h

follows_push : (rest : List Point) (q p : Point) → follows_on q rest ≡ true → follows_on q (rest ++ (p ∷ [])) ≡ (point_inside p && last_before (q ∷ rest) p)
follows_push [] q p h = and_swap (may_follow q p) (point_inside p)
follows_push (r ∷ rest) q p h =
    let (front, tail) = and_parts (may_follow q r && point_inside r) (follows_on r rest) h in
    and_left_true (may_follow q r && point_inside r) (follows_on r (rest ++ (p ∷ []))) front ∙ follows_push rest r p tail

order_push : (xs : List Point) (p : Point) → in_order xs ≡ true → in_order (xs ++ (p ∷ [])) ≡ (point_inside p && last_before xs p)
order_push [] p h = refl
order_push (q ∷ rest) p h =
    let (inside, tail) = and_parts (point_inside q) (follows_on q rest) h in
    and_left_true (point_inside q) (follows_on q (rest ++ (p ∷ []))) inside ∙ follows_push rest q p tail

-- what the code tests is what the definition asks
pub takes_is : (xs : List Point) (p : Point) → in_order xs ≡ true → takes xs p ≡ (nat_lt (length xs) 8 && point_inside p && last_before xs p)
takes_is xs p h =
    ap (λ b. nat_lt (length xs) 8 && b) (order_push xs p h) ∙ sym (and_assoc (nat_lt (length xs) 8) (point_inside p) (last_before xs p))

-- the search for the point that counts, step by step, over the points xs that a curve ys lends

pub counts_here : (xs ys : List Point) (i n : ℕ) (d : Point) → xs ≡ ys → counting xs n ≡ counting (drop i xs) n → i < length xs → n ≤ (get_or xs i d).level → Some (slice_index_or xs i d) ≡ counting ys n
counts_here xs ys i n d same inv h le =
    sym (ap (λ l. counting l n) (sym same) ∙ inv ∙ at_drop_more (λ l. counting l n) xs i d h
    ∙ cond-true (nat_le n (get_or xs i d).level) _ _ (le-leb _ _ le))

pub counts_later : (xs : List Point) (i n : ℕ) (d : Point) → counting xs n ≡ counting (drop i xs) n → i < length xs → (get_or xs i d).level < n → counting xs n ≡ counting (drop (i + 1) xs) n
counts_later xs i n d inv h lt =
    inv ∙ at_drop_more (λ l. counting l n) xs i d h ∙ cond-false (nat_le n (get_or xs i d).level) _ _ (lt-leb _ _ lt)

pub counts_nowhere : (xs ys : List Point) (i n : ℕ) → xs ≡ ys → counting xs n ≡ counting (drop i xs) n → length xs ≤ i → None ≡ counting ys n
counts_nowhere xs ys i n same inv h =
    sym (ap (λ l. counting l n) (sym same) ∙ inv ∙ at_drop_all (λ l. counting l n) xs i h)

-- the smaller of two figures

smaller_nothing : (o : Option Point) → smaller_of o None ≡ None
smaller_nothing None = refl
smaller_nothing (Some p) = refl

smaller_in_ranges : (o : Option Point) (t : Told) → InRanges (through o) → InRanges t → InRanges (smaller_of o t)
smaller_in_ranges None None h k = tt
smaller_in_ranges None (Some t) h k = tt
smaller_in_ranges (Some p) None h k = tt
smaller_in_ranges (Some p) (Some t) h k =
    (omega (arith, h.0, k.0), omega (arith, h.1), omega (arith, h.2, k.2), omega (arith, h.3))

smaller_rises : (o u : Option Point) (s t : Told) → NoSmaller (through o) (through u) → NoSmaller s t → NoSmaller (smaller_of o s) (smaller_of u t)
smaller_rises None u None t h k = nothing_largest _
smaller_rises None u (Some s) t h k = nothing_largest _
smaller_rises (Some p) u None t h k = nothing_largest _
smaller_rises (Some p) None (Some s) t h k = absurd h
smaller_rises (Some p) (Some q) (Some s) None h k = absurd k
smaller_rises (Some p) (Some q) (Some s) (Some t) h k = (omega (arith, h.0, k.0), omega (arith, h.1, k.1))

pub fuse_lawful : (points : List Point) → in_order points ≡ true → (below : ℕ → Told) → Lawful below → Lawful (λ n. fuse_tells points n (below n))
fuse_lawful points order below law = record {
  outside = λ n h. ap (smaller_of (counting points n)) (law.outside n h) ∙ smaller_nothing (counting points n);
  in_ranges = λ n. smaller_in_ranges (counting points n) (below n) (point_in_ranges points n order) (law.in_ranges n);
  rises = λ m n least le. smaller_rises (counting points n) (counting points m) (below n) (below m) (point_rises points m n order le) (law.rises m n least le);
}
