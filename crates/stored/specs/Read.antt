-- Reading a block: check, layout, and what it holds.
use Rattle.std.specs.Prelude.{ℕ, ◌+◌, ◌*◌, ◌/◌, ◌%◌, Bool, cond, ◌&&◌, List, take, drop, Some, None, Ok, Err, Option, Result, ◌==◌, nat_le, nat_lt, slice_index}
use Rattle.std.specs.List.{list_all}
use Rattle.busbar.specs.Rounding.{within}
use Rattle.busbar.specs.declared.question.Question.{Question}
use Rattle.busbar.specs.declared.question.Question.TheVariants as q
use Rattle.busbar.specs.declared.record.FaultKind.{FaultKind}
use Rattle.busbar.specs.declared.record.FaultKind.TheVariants.{ThreePhase, TwoLine}
use Rattle.busbar.specs.declared.record.Record.{Record}
use Rattle.busbar.specs.declared.record.Scheme.{Scheme}
use Rattle.busbar.specs.declared.record.Scheme.TheVariants.{BothSimple, FixedAndSimple, BothFixed, TwoSpans, MoreSpans}
use Rattle.busbar.specs.declared.section.SubBars.{SubBars}
use Rattle.stored.specs.Block.{check_of}

-- numbers, most significant byte first; a byte past the end is 0

abbrev pub byte_at : List ℕ → ℕ → ℕ
byte_at part i = slice_index part i

abbrev pub number_at_16 : List ℕ → ℕ → ℕ
number_at_16 part i = byte_at part i * 256 + byte_at part (i + 1)

abbrev pub number_at : List ℕ → ℕ → ℕ
number_at part i =
    byte_at part i * 16777216 + byte_at part (i + 1) * 65536 + byte_at part (i + 2) * 256 + byte_at part (i + 3)

-- the check is right
abbrev pub check_right : List ℕ → Bool
check_right part = check_of (take 510 part) == number_at_16 part 510

abbrev pub zeros : List ℕ → Bool
zeros bytes = list_all (λ b. b == 0) bytes

-- bytes 0 and 1 are as said, the count is right, and every byte that holds nothing is 0
abbrev pub header_layout : List ℕ → ℕ → Bool
header_layout part count =
    (byte_at part 0 == 1) && byte_at part 1 == 1 && byte_at part 8 == count && zeros (drop 9 (take 510 part))

-- the position is 1 to 32 and above the last one, the scheme 1 to 5, the flags at most 7, and every byte that holds nothing is 0
abbrev pub line_layout : List ℕ → ℕ → Bool
line_layout part last =
    (byte_at part 0 == 2) && within 1 32 (byte_at part 1) && nat_lt last (byte_at part 1) && within 1 5 (byte_at part 2)
    && nat_le (byte_at part 3) 7 && zeros (drop 53 (take 510 part))

-- what a block holds

abbrev pub scheme_from : ℕ → Scheme
scheme_from n =
    cond (n == 1) BothSimple (cond (n == 2) FixedAndSimple (cond (n == 3) BothFixed (cond (n == 4) TwoSpans MoreSpans)))

abbrev pub kind_from : ℕ → FaultKind
kind_from flags = cond (flags % 2 == 1) TwoLine ThreePhase

-- no sub-bars where n, w, e and d are all 0; leftovers beside n = 0 stay
abbrev pub bars_from : List ℕ → Option SubBars
bars_from part =
    cond (byte_at part 52 == 0 && number_at part 40 == 0 && number_at part 44 == 0 && number_at part 48 == 0) None
    (Some (record { count = byte_at part 52; modulus = number_at part 40; distance = number_at part 44; spacing = number_at part 48 }))

abbrev pub record_from : List ℕ → Record
record_from part = record {
  kind = kind_from (byte_at part 3);
  scheme = scheme_from (byte_at part 2);
  reclosing = (byte_at part 3 / 2 % 2 == 1);
  span = number_at part 4;
  centre_distance = number_at part 8;
  distance_factor = number_at part 12;
  yield_stress = number_at part 16;
  rated_density = number_at part 20;
  support_strength = number_at part 24;
  section = record {
    modulus = number_at part 28;
    area = number_at part 32;
    plastic_factor = number_at part 36;
    round = (byte_at part 3 / 4 % 2 == 1);
    sub_bars = bars_from part;
  };
}

-- block by block: check right? 31. Layout right? 32. Then block 0: job equal? 33, level? 21

abbrev pub header_level : List ℕ → ℕ → Result ℕ Question
header_level part job =
    cond (number_at_16 part 2 == job) (cond (within 100 100000 (number_at part 4)) (Ok (number_at part 4)) (Err q.Level)) (Err q.SameJob)

unfoldable pub read_header : List ℕ → ℕ → ℕ → Result ℕ Question
read_header part count job =
    cond (check_right part) (cond (header_layout part count) (header_level part job) (Err q.BlockLayout)) (Err q.BlockCheck)

-- the position and the record that a block holds
pub record StoredLine : Type 0 where
  pub number : ℕ
  pub bar : Record

unfoldable pub read_line : List ℕ → ℕ → Result StoredLine Question
read_line part last =
    cond (check_right part)
    (cond (line_layout part last) (Ok (record { number = byte_at part 1; bar = record_from part })) (Err q.BlockLayout))
    (Err q.BlockCheck)
