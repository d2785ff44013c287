-- A record's questions, in their order.
use Rattle.std.specs.Prelude.{ℕ, Bool, true, cond, not, ◌&&◌, ◌||◌, List, [], ◌∷◌, is_some, Some, None, Option, ◌==◌, nat_le}
use Rattle.busbar.specs.Rounding.{within}
use Rattle.busbar.specs.declared.question.Question.{Question}
use Rattle.busbar.specs.declared.question.Question.TheVariants as q
use Rattle.busbar.specs.declared.record.Record.{Record}
use Rattle.busbar.specs.declared.section.Section.{Section}
use Rattle.busbar.specs.declared.section.SubBars.{SubBars}

-- a question, and whether it gets a yes
abbrev pub Answered : Type 0
Answered = Question × Bool

-- the first of a list that got a no
abbrev pub first_no : List Answered → Option Question
first_no [] = None
first_no (a ∷ rest) = cond a.1 (first_no rest) (Some a.0)

abbrev pub sub_bars_inside : Option SubBars → Bool
sub_bars_inside None = true
sub_bars_inside (Some s) =
    within 2 3 s.count && within 10000 1000000000 s.modulus && within 13 80 s.distance && within 20 3000 s.spacing

abbrev pub section_inside : Section → Bool
section_inside s =
    within 10000 1000000000 s.modulus
    && within 30000 32000000 s.area
    && within 10000 17000 s.plastic_factor
    && sub_bars_inside s.sub_bars

-- a round section's k is 1,000
abbrev pub factor_round : Record → Bool
factor_round r = not r.section.round || r.distance_factor == 1000

-- without sub-bars there are no pieces to fit
abbrev pub spacing_fits_in : Option SubBars → ℕ → Bool
spacing_fits_in None span = true
spacing_fits_in (Some s) span = nat_le s.spacing span

abbrev pub spacing_fits : Record → Bool
spacing_fits r = spacing_fits_in r.section.sub_bars r.span

abbrev pub record_questions : Record → List Answered
record_questions r =
    (q.SectionFigures, section_inside r.section)
    ∷ (q.Span, within 50 3000 r.span)
    ∷ (q.CentreDistance, within 20 1000 r.centre_distance)
    ∷ (q.DistanceFactor, within 100 1500 r.distance_factor && factor_round r)
    ∷ (q.YieldStress, within 20 400 r.yield_stress)
    ∷ (q.RatedDensity, within 50 200 r.rated_density)
    ∷ (q.SupportStrength, within 100 100000 r.support_strength)
    ∷ (q.PieceSpacing, spacing_fits r)
    ∷ []

-- the first of a record's questions that gets a no
abbrev pub record_no : Record → Option Question
record_no r = first_no (record_questions r)

-- every question got a yes
abbrev pub passes : Record → Bool
passes r = not (is_some (record_no r))
