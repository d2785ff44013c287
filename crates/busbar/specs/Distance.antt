-- The effective distance e between the bars of a stack, by count, thickness and height.
use Rattle.std.specs.Prelude.{ℕ, cond, ◌&&◌, List, [], ◌∷◌, ◌==◌, slice_index}

-- the place of a height among the columns, 8 for any other height
abbrev pub column_of : ℕ → ℕ
column_of b =
    cond (b == 40) 0 (cond (b == 50) 1 (cond (b == 60) 2 (cond (b == 80) 3
    (cond (b == 100) 4 (cond (b == 120) 5 (cond (b == 160) 6 (cond (b == 200) 7 8)))))))

-- the rows, with 0 for a dash; no row for any other count or thickness
abbrev pub row_of : ℕ → ℕ → List ℕ
row_of n t =
    cond (n == 2 && t == 5) (20 ∷ 24 ∷ 27 ∷ 33 ∷ 40 ∷ 0 ∷ 0 ∷ 0 ∷ [])
    (cond (n == 2 && t == 10) (28 ∷ 31 ∷ 34 ∷ 41 ∷ 47 ∷ 54 ∷ 67 ∷ 80 ∷ [])
    (cond (n == 3 && t == 5) (0 ∷ 13 ∷ 15 ∷ 18 ∷ 22 ∷ 0 ∷ 0 ∷ 0 ∷ [])
    (cond (n == 3 && t == 10) (17 ∷ 19 ∷ 20 ∷ 23 ∷ 27 ∷ 30 ∷ 37 ∷ 43 ∷ [])
    [])))

-- e, or 0 where the table has no such stack
abbrev pub stack_distance : ℕ → ℕ → ℕ → ℕ
stack_distance n t b = slice_index (row_of n t) (column_of b)
