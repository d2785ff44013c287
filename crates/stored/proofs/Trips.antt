-- What a written block is read back as.
use Rattle.std.proofs.Common.{◌≡◌, ℕ, ◌+◌, ◌*◌, ◌/◌, ◌%◌, ◌<◌, ◌≤◌, Bool, true, false, cond, ◌&&◌, eqb, leb, List, [], ◌∷◌, take, drop, Some, None, Ok, Err, Option, sym, refl, ap, ◌∙◌, arith}
use Rattle.std.proofs.lemmas.List.{take_at}
use Rattle.std.proofs.lemmas.List.FromFn.{length-map-range_with_len}
use Rattle.std.proofs.lemmas.Bool.{cond-true, eq-eqb, ne_eqb, and_from, le-leb, lt-ltb}
use Rattle.busbar.specs.Rounding.{within}
use Rattle.busbar.specs.Record.{passes}
use Rattle.busbar.proofs.Ranges.{SubBarsIn, ranges}
use Rattle.busbar.specs.declared.question.Question.TheVariants as q
use Rattle.busbar.specs.declared.record.FaultKind.{FaultKind}
use Rattle.busbar.specs.declared.record.FaultKind.TheVariants.{ThreePhase, TwoLine}
use Rattle.busbar.specs.declared.record.Record.{Record}
use Rattle.busbar.specs.declared.record.Scheme.{Scheme}
use Rattle.busbar.specs.declared.record.Scheme.TheVariants.{BothSimple, FixedAndSimple, BothFixed, TwoSpans, MoreSpans}
use Rattle.busbar.specs.declared.section.SubBars.{SubBars}
use Rattle.stored.specs.Block.{check_of, body_of, block_of, header_byte, position_byte, bars_of, kind_flag}
use Rattle.busbar.specs.Factors.{scheme_number}
use Rattle.stored.specs.Read.{check_right, header_layout, read_header, zeros, line_layout, scheme_from, kind_from, bars_from, record_from, read_line}

-- four bytes make their number again
pub four_bytes : (x : ℕ) → x / 16777216 * 16777216 + x / 65536 % 256 * 65536 + x / 256 % 256 * 256 + x % 256 ≡ x
four_bytes x = omega arith

pub two_bytes : (x : ℕ) → x / 256 * 256 + x % 256 ≡ x
two_bytes x = omega arith

-- a block's front is its body, and its check is right
pub body_front : (byte_at : ℕ → ℕ) → take 510 (block_of byte_at) ≡ body_of byte_at
unfolding body_of
body_front byte_at =
    take_at (body_of byte_at) (check_of (body_of byte_at) / 256 ∷ check_of (body_of byte_at) % 256 ∷ []) 510 (length-map-range_with_len byte_at 0 510)

pub check_written : (byte_at : ℕ → ℕ) → check_right (block_of byte_at) ≡ true
unfolding body_of
check_written byte_at = eq-eqb _ _ (ap check_of (body_front byte_at) ∙ sym (two_bytes (check_of (body_of byte_at))))

-- block 0 is read back
header_laid_out : (job level count : ℕ) → header_layout (block_of (header_byte job level count)) count ≡ true
unfolding body_of
header_laid_out job level count =
    and_from _ _ (eq-eqb count count refl) (ap (λ l. zeros (drop 9 l)) (body_front (header_byte job level count)))

level_inside_here : (level : ℕ) → 100 ≤ level → level ≤ 100000 → within 100 100000 level ≡ true
level_inside_here level low high = and_from (leb 100 level) (leb level 100000) (le-leb _ _ low) (le-leb _ _ high)

pub header_trip : (job level count : ℕ) → 100 ≤ level → level ≤ 100000 → read_header (block_of (header_byte job level count)) count job ≡ Ok level
unfolding body_of read_header
header_trip job level count low high =
    cond-true _ _ _ (check_written (header_byte job level count))
    ∙ cond-true _ _ _ (header_laid_out job level count)
    ∙ cond-true _ _ _ (eq-eqb _ _ (two_bytes job))
    ∙ ap (λ l. cond (within 100 100000 l) (Ok l) (Err q.Level)) (four_bytes level)
    ∙ cond-true _ _ _ (level_inside_here level low high)

-- a position's block is read back

abbrev line_of : ℕ → Record → List ℕ
line_of n r = block_of (position_byte n r)

scheme_trip : (s : Scheme) → (within 1 5 (scheme_number s) ≡ true) × (scheme_from (scheme_number s) ≡ s)
scheme_trip BothSimple = (refl, refl)
scheme_trip FixedAndSimple = (refl, refl)
scheme_trip BothFixed = (refl, refl)
scheme_trip TwoSpans = (refl, refl)
scheme_trip MoreSpans = (refl, refl)

-- the flags by their three parts
abbrev flags_by : FaultKind → Bool → Bool → ℕ
flags_by kind reclosing round = kind_flag kind + cond reclosing 2 0 + cond round 4 0

pub record FlagsTrip (k : FaultKind) (a b : Bool) : Type 0 where
  pub small : leb (flags_by k a b) 7 ≡ true
  pub kind_back : kind_from (flags_by k a b) ≡ k
  pub reclosing_back : eqb (flags_by k a b / 2 % 2) 1 ≡ a
  pub round_back : eqb (flags_by k a b / 4 % 2) 1 ≡ b

flags_trip : (k : FaultKind) (a b : Bool) → FlagsTrip k a b
flags_trip ThreePhase true true = record { small = refl; kind_back = refl; reclosing_back = refl; round_back = refl }
flags_trip ThreePhase true false = record { small = refl; kind_back = refl; reclosing_back = refl; round_back = refl }
flags_trip ThreePhase false true = record { small = refl; kind_back = refl; reclosing_back = refl; round_back = refl }
flags_trip ThreePhase false false = record { small = refl; kind_back = refl; reclosing_back = refl; round_back = refl }
flags_trip TwoLine true true = record { small = refl; kind_back = refl; reclosing_back = refl; round_back = refl }
flags_trip TwoLine true false = record { small = refl; kind_back = refl; reclosing_back = refl; round_back = refl }
flags_trip TwoLine false true = record { small = refl; kind_back = refl; reclosing_back = refl; round_back = refl }
flags_trip TwoLine false false = record { small = refl; kind_back = refl; reclosing_back = refl; round_back = refl }

-- the sub-bars: two at least, where there are any
abbrev SomeBars : Option SubBars → Type 0
SomeBars None = Unit {0}
SomeBars (Some s) = 2 ≤ s.count

-- bars-from by its four numbers
abbrev bars_by : ℕ → ℕ → ℕ → ℕ → Option SubBars
bars_by n w e d =
    cond (eqb n 0 && eqb w 0 && eqb e 0 && eqb d 0) None (Some (record { count = n; modulus = w; distance = e; spacing = d }))

bars_trip : (o : Option SubBars) → SomeBars o → bars_by (bars_of o).count (bars_of o).modulus (bars_of o).distance (bars_of o).spacing ≡ o
bars_trip None h = refl
bars_trip (Some s) h =
    ap (λ b. cond (b && eqb s.modulus 0 && eqb s.distance 0 && eqb s.spacing 0) None (Some s)) (ne_eqb s.count 0 (λ e. omega arith))

line_laid_out : (n last : ℕ) (r : Record) → 1 ≤ n → n ≤ 32 → last < n → line_layout (line_of n r) last ≡ true
unfolding body_of
line_laid_out n last r low high after =
    let place = and_from (leb 1 n) (leb n 32) (le-leb _ _ low) (le-leb _ _ high) in
    let flags = flags_trip r.kind r.reclosing r.section.round in
    let behind = ap (λ l. zeros (drop 53 l)) (body_front (position_byte n r)) in
    and_from _ _ (and_from _ _ (and_from _ _ (and_from _ _ place (lt-ltb _ _ after)) (scheme_trip r.scheme).0) flags.small) behind

record_trip : (n : ℕ) (r : Record) → SomeBars r.section.sub_bars → record_from (line_of n r) ≡ r
unfolding body_of
record_trip n r bars =
    let flags = flags_trip r.kind r.reclosing r.section.round in
    let b : SubBars = bars_of r.section.sub_bars in
    let back : bars_from (line_of n r) ≡ r.section.sub_bars =
    (λ i. bars_by b.count (four_bytes b.modulus i) (four_bytes b.distance i) (four_bytes b.spacing i)) ∙ bars_trip r.section.sub_bars bars in
    λ i. record {
      kind = flags.kind_back i;
      scheme = (scheme_trip r.scheme).1 i;
      reclosing = flags.reclosing_back i;
      span = four_bytes r.span i;
      centre_distance = four_bytes r.centre_distance i;
      distance_factor = four_bytes r.distance_factor i;
      yield_stress = four_bytes r.yield_stress i;
      rated_density = four_bytes r.rated_density i;
      support_strength = four_bytes r.support_strength i;
      section = record {
        modulus = four_bytes r.section.modulus i;
        area = four_bytes r.section.area i;
        plastic_factor = four_bytes r.section.plastic_factor i;
        round = flags.round_back i;
        sub_bars = back i;
      };
    }

some_bars : (o : Option SubBars) (span : ℕ) → SubBarsIn o span → SomeBars o
some_bars None span h = tt
some_bars (Some s) span h = h.0.least

pub line_trip : (n last : ℕ) (r : Record) → passes r ≡ true → 1 ≤ n → n ≤ 32 → last < n → read_line (line_of n r) last ≡ Ok (record { number = n; bar = r })
unfolding body_of read_line
line_trip n last r h low high after =
    cond-true _ _ _ (check_written (position_byte n r))
    ∙ cond-true _ _ _ (line_laid_out n last r low high after)
    ∙ ap (λ x. Ok (record { number = n; bar = x })) (record_trip n r (some_bars _ _ (ranges r h).sub_bars_in))
