-- What is told, compared: nothing is the largest, and the levels below a good one are good.
use Rattle.std.specs.Prelude.{◌≡◌, ℕ, ◌≤◌, true, Some, None, nat_le}
use Rattle.std.proofs.Common.{arith}
use Rattle.std.proofs.lemmas.Bool.{and_parts, and_from, leb-true, le-leb}
use Rattle.busbar.specs.Harder.{NoSmaller}
use Rattle.feeder.specs.Laws.{Told, level_inside}

pub nothing_largest : (t : Told) → NoSmaller None t
nothing_largest None = tt
nothing_largest (Some t) = tt

pub level_below : (m n : ℕ) → 100 ≤ m → m ≤ n → level_inside n ≡ true → level_inside m ≡ true
level_below m n least le h =
    let most = leb-true n 100000 (and_parts (nat_le 100 n) (nat_le n 100000) h).1 in
    and_from (nat_le 100 m) (nat_le m 100000) (le-leb 100 m least) (le-leb m 100000 (omega arith))
