-- What a record's yeses say of its numbers.
use Rattle.std.proofs.Common.{◌≡◌, ℕ, ◌≤◌, Bool, true, false, not, List, [], ◌∷◌, is_some, Some, None, Option, refl, subst}
use Rattle.std.proofs.lemmas.Bool.{and_parts, leb-true, both_ways}
use Rattle.busbar.specs.Rounding.{within}
use Rattle.busbar.specs.Record.{Answered, first_no, record_questions, passes, sub_bars_inside, factor_round, spacing_fits_in}
use Rattle.busbar.specs.declared.question.Question.{Question}
use Rattle.busbar.specs.declared.record.Record.{Record}
use Rattle.busbar.specs.declared.section.SubBars.{SubBars}

pub record In (low high x : ℕ) : Type 0 where
  pub least : low ≤ x
  pub most : x ≤ high

-- the sub-bars' figures inside their limits, and their pieces inside the span
abbrev pub SubBarsIn : Option SubBars → ℕ → Type 0
SubBarsIn None span = Unit {0}
SubBarsIn (Some s) span =
    In 2 3 s.count × In 10000 1000000000 s.modulus × In 13 80 s.distance × In 20 3000 s.spacing × (s.spacing ≤ span)

pub record Ranges (r : Record) : Type 0 where
  pub modulus_in : In 10000 1000000000 r.section.modulus
  pub area_in : In 30000 32000000 r.section.area
  pub plastic_in : In 10000 17000 r.section.plastic_factor
  pub span_in : In 50 3000 r.span
  pub distance_in : In 20 1000 r.centre_distance
  pub factor_in : In 100 1500 r.distance_factor
  pub yield_in : In 20 400 r.yield_stress
  pub density_in : In 50 200 r.rated_density
  pub strength_in : In 100 100000 r.support_strength
  pub sub_bars_in : SubBarsIn r.section.sub_bars r.span

-- every question of the list got a yes
abbrev Yeses : List Answered → Type 0
Yeses [] = Unit {0}
Yeses (a ∷ rest) = (a.1 ≡ true) × Yeses rest

yes_then : (b : Bool) (question : Question) (rest : List Answered) → not (is_some (first_no ((question, b) ∷ rest))) ≡ true → (b ≡ true) × (not (is_some (first_no rest)) ≡ true)
yes_then true question rest h = (refl, h)
yes_then false question rest h = absurd (both_ways false refl h)

yeses : (l : List Answered) → not (is_some (first_no l)) ≡ true → Yeses l
yeses [] h = tt
yeses (a ∷ rest) h = let p = yes_then a.1 a.0 rest h in (p.0, yeses rest p.1)

pub inside_of : (low high x : ℕ) → within low high x ≡ true → In low high x
inside_of low high x h =
    let p = and_parts _ _ h in record { least = leb-true low x p.0; most = leb-true x high p.1 }

sub_bars_of : (o : Option SubBars) (span : ℕ) → sub_bars_inside o ≡ true → spacing_fits_in o span ≡ true → SubBarsIn o span
sub_bars_of None span h f = tt
sub_bars_of (Some s) span h f =
    let (front, spacing) = and_parts _ _ h in
    let (front', distance) = and_parts _ _ front in
    let (count, modulus) = and_parts _ _ front' in
    (inside_of _ _ _ count, inside_of _ _ _ modulus, inside_of _ _ _ distance, inside_of _ _ _ spacing, leb-true _ _ f)

pub ranges : (r : Record) → passes r ≡ true → Ranges r
ranges r h =
    let y = yeses (record_questions r) h in
    let (front, sub_bars_alike) = and_parts _ (sub_bars_inside r.section.sub_bars) y.0 in
    let (front', plastic) = and_parts _ (within 10000 17000 r.section.plastic_factor) front in
    let (modulus, area) = and_parts _ (within 30000 32000000 r.section.area) front' in
    record {
      modulus_in = inside_of _ _ _ modulus;
      area_in = inside_of _ _ _ area;
      plastic_in = inside_of _ _ _ plastic;
      span_in = inside_of _ _ _ y.1.0;
      distance_in = inside_of _ _ _ y.1.1.0;
      factor_in = inside_of _ _ _ (and_parts (within 100 1500 r.distance_factor) (factor_round r) y.1.1.1.0).0;
      yield_in = inside_of _ _ _ y.1.1.1.1.0;
      density_in = inside_of _ _ _ y.1.1.1.1.1.0;
      strength_in = inside_of _ _ _ y.1.1.1.1.1.1.0;
      sub_bars_in = sub_bars_of r.section.sub_bars r.span sub_bars_alike y.1.1.1.1.1.1.1.0;
    }

-- of the sub-bars that a record was found to have
pub bars_in : (r : Record) (s : SubBars) → passes r ≡ true → r.section.sub_bars ≡ Some s → SubBarsIn (Some s) r.span
bars_in r s h e = subst (λ o. SubBarsIn o r.span) e (ranges r h).sub_bars_in
