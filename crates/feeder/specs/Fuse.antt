-- A fuse over a feeder: a curve of points that cuts what the feeder brings.
use Rattle.std.specs.Prelude.{◌≡◌, ℕ, min, Bool, true, false, ◌&&◌, List, [], ◌∷◌, ◌++◌, length, Some, None, Ok, Err, Option, Result, nat_le, nat_lt}
use Rattle.std.specs.List.{find}
use Rattle.busbar.specs.declared.question.Question.TheVariants.{CurvePoint}
use Rattle.busbar.specs.Rounding.{within}
use Rattle.feeder.specs.Laws.{Told, level_inside}
use Rattle.feeder.specs.declared.point.CurveError.{CurveError}
use Rattle.feeder.specs.declared.point.CurveError.TheVariants.{Refused, Memory}
use Rattle.feeder.specs.declared.point.Point.{Point}

-- a point's level, peak and heat lie in a feeder's ranges
abbrev pub point_inside : Point → Bool
point_inside p = level_inside p.level && within 1 300000 p.peak && within 1 200000000000000 p.heat

-- q may follow p: its level is higher, its peak and heat no lower
abbrev pub may_follow : Point → Point → Bool
may_follow p q = nat_lt p.level q.level && nat_le p.peak q.peak && nat_le p.heat q.heat

-- every point follows the one before it
abbrev pub follows_on : Point → List Point → Bool
follows_on p [] = true
follows_on p (q ∷ rest) = may_follow p q && point_inside q && follows_on q rest

-- levels rise strictly, peaks and heats never fall, and every point is inside the ranges
abbrev pub in_order : List Point → Bool
in_order [] = true
in_order (p ∷ rest) = point_inside p && follows_on p rest

-- the first point whose level is not below the asked one
abbrev pub counting : List Point → ℕ → Option Point
counting points n = find (λ p. nat_le n p.level) points

-- the smaller peak and the smaller heat of point and feeder; nothing where either has nothing
abbrev pub smaller_of : Option Point → Told → Told
smaller_of None None = None
smaller_of None (Some t) = None
smaller_of (Some p) None = None
smaller_of (Some p) (Some t) = Some (min p.peak t.0, min p.heat t.1)

abbrev pub fuse_tells : List Point → ℕ → Told → Told
fuse_tells points n told = smaller_of (counting points n) told

-- p may follow the last of the points
abbrev pub last_before : List Point → Point → Bool
last_before [] p = true
last_before (q ∷ []) p = may_follow q p
last_before (q ∷ (r ∷ rest)) p = last_before (r ∷ rest) p

-- one point more: at most eight, and still in order
abbrev pub takes : List Point → Point → Bool
takes points p = nat_lt (length points) 8 && in_order (points ++ (p ∷ []))

-- why a point did not go onto the curve: 42 where it may not, and memory only where it may
abbrev pub SaysWhy : List Point → Point → CurveError → Type 0
SaysWhy points p (Refused q) = (q ≡ CurvePoint) × (takes points p ≡ false)
SaysWhy points p Memory = takes points p ≡ true

-- adding p to the points leaves the points after, and answers r
abbrev pub Added : {T : Type 0} → List Point → Point → List Point → Result T CurveError → Type 0
Added points p after (Ok _) = (takes points p ≡ true) × (after ≡ points ++ (p ∷ []))
Added points p after (Err e) = SaysWhy points p e × (after ≡ points)
