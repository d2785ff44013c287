-- The blocks of the stored form, version 1: 512 bytes each, numbers most significant byte first.
use Rattle.std.specs.Prelude.{ℕ, ◌+◌, ◌-◌, ◌*◌, ◌/◌, ◌%◌, cond, List, [], ◌∷◌, ◌++◌, map, Some, None, Option, ◌==◌, nat_lt, slice_index}
use Rattle.std.specs.List.{range_with_len}
use Rattle.busbar.specs.Factors.{scheme_number}
use Rattle.busbar.specs.declared.record.FaultKind.{FaultKind}
use Rattle.busbar.specs.declared.record.FaultKind.TheVariants.{ThreePhase, TwoLine}
use Rattle.busbar.specs.declared.record.Record.{Record}
use Rattle.busbar.specs.declared.section.SubBars.{SubBars}

-- the byte at place j of a number of 32 bits, and of one of 16

abbrev pub byte_of_32 : ℕ → ℕ → ℕ
byte_of_32 x j =
    cond (j == 0) (x / 16777216) (cond (j == 1) (x / 65536 % 256) (cond (j == 2) (x / 256 % 256) (x % 256)))

abbrev pub byte_of_16 : ℕ → ℕ → ℕ
byte_of_16 x j = cond (j == 0) (x / 256) (x % 256)

-- the check: the sum of (i + 1) times the byte i, modulo 65,521

abbrev pub weighted : ℕ → List ℕ → ℕ
weighted i [] = 0
weighted i (b ∷ rest) = (i + 1) * b + weighted (i + 1) rest

unfoldable pub check_of : List ℕ → ℕ
check_of bytes = weighted 0 bytes % 65521

-- 510 bytes, and their check at 510 and 511
unfoldable pub body_of : (ℕ → ℕ) → List ℕ
body_of byte_at = map byte_at (range_with_len 0 510)

-- a body with its check behind it
abbrev pub sealed : List ℕ → List ℕ
sealed body = body ++ (check_of body / 256 ∷ check_of body % 256 ∷ [])

abbrev pub block_of : (ℕ → ℕ) → List ℕ
block_of byte_at = sealed (body_of byte_at)

-- block 0: kind 1, version 1, job, level, and the count of the blocks after it
abbrev pub header_byte : ℕ → ℕ → ℕ → ℕ → ℕ
header_byte job level count i =
    cond (nat_lt i 2) 1 (cond (nat_lt i 4) (byte_of_16 job (i - 2)) (cond (nat_lt i 8) (byte_of_32 level (i - 4)) (cond (i == 8) count 0)))

-- a position's block

abbrev pub kind_flag : FaultKind → ℕ
kind_flag ThreePhase = 0
kind_flag TwoLine = 1

abbrev pub flags_of : Record → ℕ
flags_of r = kind_flag r.kind + cond r.reclosing 2 0 + cond r.section.round 4 0

-- n, w, e and d, zeros without sub-bars
abbrev pub bars_of : Option SubBars → SubBars
bars_of None = record { count = 0; modulus = 0; distance = 0; spacing = 0 }
bars_of (Some s) = s

-- the twelve fields of 32 bits, in their order
abbrev pub fields_of : Record → List ℕ
fields_of r =
    r.span ∷ r.centre_distance ∷ r.distance_factor ∷ r.yield_stress ∷ r.rated_density ∷ r.support_strength
    ∷ r.section.modulus ∷ r.section.area ∷ r.section.plastic_factor
    ∷ (bars_of r.section.sub_bars).modulus ∷ (bars_of r.section.sub_bars).distance ∷ (bars_of r.section.sub_bars).spacing ∷ []

-- kind 2, position, scheme, flags, the fields from byte 4 on, and n at byte 52
abbrev pub lead_byte : ℕ → Record → ℕ → ℕ
lead_byte n r i = cond (i == 0) 2 (cond (i == 1) n (cond (i == 2) (scheme_number r.scheme) (flags_of r)))

abbrev pub position_byte : ℕ → Record → ℕ → ℕ
position_byte n r i =
    cond (nat_lt i 4) (lead_byte n r i)
    (cond (nat_lt i 52) (byte_of_32 (slice_index (fields_of r) ((i - 4) / 4)) ((i - 4) % 4)) (cond (i == 52) (bars_of r.section.sub_bars).count 0))
