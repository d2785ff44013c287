-- When one duty is no easier than another, and that it then gets no softer verdict.
use Rattle.std.specs.Prelude.{◌≡◌, ℕ, ◌≤◌, true, Some, None, Ok, Err, Option}
use Rattle.busbar.specs.Record.{passes}
use Rattle.busbar.specs.Verdict.{Verdict, ground_number, figures_told, verdict}
use Rattle.busbar.specs.declared.record.Record.{Record}
use Rattle.busbar.specs.declared.section.SubBars.{SubBars}

-- sub-bars s are no easier than t: as many, tied at no smaller spacing, each no stiffer and no further apart
pub record NoEasierBars (s t : SubBars) : Type 0 where
  pub same_count : s.count ≡ t.count
  pub spacing_no_smaller : t.spacing ≤ s.spacing
  pub bar_modulus_no_greater : s.modulus ≤ t.modulus
  pub bar_distance_no_greater : s.distance ≤ t.distance

-- both have sub-bars, or both have none
abbrev pub NoEasierSubBars : Option SubBars → Option SubBars → Type 0
NoEasierSubBars None None = Unit {0}
NoEasierSubBars None (Some t) = ⊥
NoEasierSubBars (Some s) None = ⊥
NoEasierSubBars (Some s) (Some t) = NoEasierBars s t

-- the record x is no easier than y
pub record NoEasier (x y : Record) : Type 0 where
  pub same_kind : x.kind ≡ y.kind
  pub same_scheme : x.scheme ≡ y.scheme
  pub reclosing_kept : y.reclosing ≡ true → x.reclosing ≡ true
  pub span_no_smaller : y.span ≤ x.span
  pub factor_no_smaller : y.distance_factor ≤ x.distance_factor
  pub distance_no_greater : x.centre_distance ≤ y.centre_distance
  pub yield_no_greater : x.yield_stress ≤ y.yield_stress
  pub density_no_greater : x.rated_density ≤ y.rated_density
  pub strength_no_greater : x.support_strength ≤ y.support_strength
  pub modulus_no_greater : x.section.modulus ≤ y.section.modulus
  pub area_no_greater : x.section.area ≤ y.section.area
  pub plastic_no_greater : x.section.plastic_factor ≤ y.section.plastic_factor
  pub sub_bars_no_easier : NoEasierSubBars x.section.sub_bars y.section.sub_bars

-- figures s are no smaller than t; no figures count as the largest
abbrev pub NoSmaller : Option (ℕ × ℕ) → Option (ℕ × ℕ) → Type 0
NoSmaller None None = Unit {0}
NoSmaller None (Some t) = Unit {0}
NoSmaller (Some s) None = ⊥
NoSmaller (Some s) (Some t) = (t.0 ≤ s.0) × (t.1 ≤ s.1)

-- where w is refused, v is refused too, on the same ground or an earlier one
abbrev pub NoSofter : Verdict → Verdict → Type 0
NoSofter (Ok _) (Ok _) = Unit {0}
NoSofter (Err r) (Ok _) = Unit {0}
NoSofter (Ok _) (Err s) = ⊥
NoSofter (Err r) (Err s) = ground_number r.ground ≤ ground_number s.ground

-- the verdict v on x under what was told is no softer than that on any easier record under no larger figures
abbrev pub NoSofterThanEasier : Record → Option (ℕ × ℕ) → Verdict → Type 0
NoSofterThanEasier x told v =
    (y : Record) (told' : Option (ℕ × ℕ)) → passes y ≡ true → NoEasier x y
    → NoSmaller (figures_told told) (figures_told told') → NoSofter v (verdict y told')
