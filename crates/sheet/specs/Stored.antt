-- The stored form of a sheet: block 0, then one block for each standing position.
use Rattle.std.specs.Prelude.{ℕ, zero, suc, ◌+◌, ◌-◌, ◌*◌, ◌/◌, ◌%◌, Bool, cond, ◌&&◌, List, [], ◌∷◌, ◌++◌, length, take, drop, replicate, Some, None, Ok, Err, Option, Result, ◌==◌, nat_le, slice_set}
use Rattle.busbar.specs.Record.{record_no}
use Rattle.busbar.specs.Rounding.{within}
use Rattle.busbar.specs.declared.question.Question.{Question}
use Rattle.busbar.specs.declared.question.Question.TheVariants as q
use Rattle.stored.specs.Block.{block_of, header_byte, position_byte}
use Rattle.stored.specs.Read.{StoredLine, read_header, read_line}
use Rattle.sheet.specs.Plain.{Entry, Plain, positions}

abbrev pub stands_one : Entry → ℕ
stands_one Entry.empty = 0
stands_one (Entry.standing r) = 1
stands_one (Entry.opened r) = 0

abbrev pub open_one : Entry → ℕ
open_one Entry.empty = 0
open_one (Entry.standing r) = 0
open_one (Entry.opened r) = 1

-- how many positions stand, and how many are open

abbrev pub standing_in : List Entry → ℕ
standing_in [] = 0
standing_in (e ∷ rest) = stands_one e + standing_in rest

abbrev pub open_ones : List Entry → ℕ
open_ones [] = 0
open_ones (e ∷ rest) = open_one e + open_ones rest

-- one block for each standing position, numbers rising from n

abbrev pub entry_block : ℕ → Entry → List ℕ
entry_block n Entry.empty = []
entry_block n (Entry.standing r) = block_of (position_byte n r)
entry_block n (Entry.opened r) = []

abbrev pub position_blocks : ℕ → List Entry → List ℕ
position_blocks n [] = []
position_blocks n (e ∷ rest) = entry_block n e ++ position_blocks (n + 1) rest

abbrev pub stored : Plain → List ℕ
stored p = block_of (header_byte p.job p.level (standing_in p.entries)) ++ position_blocks 1 p.entries

-- how many blocks a save writes: nothing may be open, and the buffer has to hold them
abbrev pub saved_blocks : Plain → ℕ → Result ℕ Question
saved_blocks p room =
    cond (open_ones p.entries == 0)
    (cond (nat_le (512 * (1 + standing_in p.entries)) room) (Ok (1 + standing_in p.entries)) (Err q.BufferRoom))
    (Err q.NothingOpen)

-- the buffer afterwards: the blocks from its start, and no byte after them
abbrev pub buffer_after : Plain → List ℕ → Result ℕ Question → List ℕ
buffer_after p buffer (Ok n) = stored p ++ drop (512 * n) buffer
buffer_after p buffer (Err no_to) = buffer

-- Loading.

-- the block number k of the bytes
abbrev pub part_of : List ℕ → ℕ → List ℕ
part_of bytes k = take 512 (drop (512 * k) bytes)

-- what one block leaves of the entries: its record stands at its position, unless a question gets a no
abbrev pub entered : List Entry → StoredLine → Option Question → Result (List Entry) Question
entered entries s None = Ok (slice_set entries (s.number - 1) (Entry.standing s.bar))
entered entries s (Some no_to) = Err no_to

abbrev pub line_entered : List Entry → Result StoredLine Question → Result (List Entry) Question
line_entered entries (Err no_to) = Err no_to
line_entered entries (Ok s) = entered entries s (record_no s.bar)

abbrev pub number_of_line : Result StoredLine Question → ℕ
number_of_line (Ok s) = s.number
number_of_line (Err no_to) = 0

-- a no, and the number of the block that it is about
pub record LoadNo : Type 0 where
  pub block : ℕ
  pub question : Question

abbrev pub no_at : ℕ → Question → LoadNo
no_at k no_to = record { block = k; question = no_to }

abbrev pub load_next : ℕ → Result (List Entry) Question → (List Entry → Result (List Entry) LoadNo) → Result (List Entry) LoadNo
load_next k (Ok entries) rest = rest entries
load_next k (Err no_to) rest = Err (no_at k no_to)

abbrev pub with_level : ℕ → Result (List Entry) LoadNo → Result (ℕ × List Entry) LoadNo
with_level level (Ok entries) = Ok (level, entries)
with_level level (Err no_to) = Err no_to

-- the blocks from number k on, `many` of them, after the position `last`
abbrev pub load_lines : ℕ → List ℕ → ℕ → ℕ → List Entry → Result (List Entry) LoadNo
load_lines zero bytes k last entries = Ok entries
load_lines (suc many) bytes k last entries =
    load_next k (line_entered entries (read_line (part_of bytes k) last)) (λ more. load_lines many bytes (k + 1) (number_of_line (read_line (part_of bytes k) last)) more)

-- level and entries of the stored sheet, or the first no
abbrev pub load_level : List ℕ → Result ℕ Question → Result (ℕ × List Entry) LoadNo
load_level bytes (Err no_to) = Err (no_at 0 no_to)
load_level bytes (Ok level) = with_level level (load_lines (length bytes / 512 - 1) bytes 1 0 (replicate positions Entry.empty))

abbrev pub length_right : ℕ → Bool
length_right n = n % 512 == 0 && within 512 (512 * (1 + positions)) n

abbrev pub load_of : Plain → List ℕ → Result (ℕ × List Entry) LoadNo
load_of p bytes =
    cond (open_ones p.entries == 0)
    (cond (length_right (length bytes)) (load_level bytes (read_header (part_of bytes 0) (length bytes / 512 - 1) p.job)) (Err (no_at 0 q.StoredLength)))
    (Err (no_at 0 q.NothingOpen))
