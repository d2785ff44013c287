-- What a save wrote is loaded back to the same level and positions.
use Rattle.std.proofs.Common.{◌≡◌, ℕ, suc, ◌+◌, ◌-◌, ◌*◌, ◌/◌, ◌%◌, ◌≤◌, true, not, leb, List, [], ◌∷◌, ◌++◌, length, take, drop, set, replicate, is_some, Some, None, Ok, Option, sym, refl, ap, ◌∙◌, append_assoc, arith, lit≤, length-append}
use Rattle.std.proofs.lemmas.List.{take_at, drop_at, drop-drop, set_at}
use Rattle.std.proofs.lemmas.Bool.{cond-true, eq-eqb, and_from, le-leb, both_ways}
use Rattle.busbar.specs.Record.{passes, record_no}
use Rattle.busbar.specs.declared.question.Question.{Question}
use Rattle.stored.specs.Block.{block_of, header_byte, position_byte}
use Rattle.stored.specs.Read.{StoredLine, read_line, read_header}
use Rattle.stored.proofs.Trips.{header_trip, line_trip}
use Rattle.sheet.specs.Plain.{Entry, Plain, positions}
use Rattle.sheet.specs.Position.{entry_of}
use Rattle.sheet.specs.Happened.{entries_of}
use Rattle.sheet.specs.Stored.{stands_one, standing_in, open_ones, entry_block, position_blocks, stored, part_of, entered, line_entered, load_next, load_lines, load_level, length_right, with_level, number_of_line}
use Rattle.sheet.specs.Trip.{LoadsAs}
use Rattle.sheet.specs.declared.position.State.{State}
use Rattle.sheet.specs.declared.position.State.TheVariants as state
use Rattle.sheet.proofs.Stores.{length_block, length_entry_block, once_at_most}

-- every record of the entries passes its questions

abbrev pub Passing : Entry → Type 0
Passing Entry.empty = Unit {0}
Passing (Entry.standing r) = passes r ≡ true
Passing (Entry.opened r) = passes r ≡ true

abbrev pub AllPassing : List Entry → Type 0
AllPassing [] = Unit {0}
AllPassing (e ∷ rest) = Passing e × AllPassing rest

passing_state : (s : State) → Passing (entry_of s)
passing_state state.Empty = tt
passing_state (state.Standing bar v) = bar.passed
passing_state (state.Open bar) = bar.passed

pub all_passing : (table : List State) → AllPassing (entries_of table)
all_passing [] = tt
all_passing (p ∷ rest) = (passing_state p, all_passing rest)

no_question : (o : Option Question) → not (is_some o) ≡ true → o ≡ None
no_question None h = refl
no_question (Some no_to) h = absurd (both_ways _ refl h)

entered_passing : (entries : List Entry) (s : StoredLine) → passes s.bar ≡ true → line_entered entries (Ok s) ≡ Ok (set entries (s.number - 1) (Entry.standing s.bar))
entered_passing entries s h = ap (entered entries s) (no_question (record_no s.bar) h)

abbrev blanks : ℕ → List Entry
blanks n = replicate n Entry.empty

-- one entry more in front
in_front : (front rest : List Entry) (e : Entry) → (front ++ (e ∷ [])) ++ rest ≡ front ++ (e ∷ rest)
in_front front rest e = append_assoc front (e ∷ []) rest

longer : (front : List Entry) (e : Entry) → length (front ++ (e ∷ [])) ≡ length front + 1
longer front e = length-append front (e ∷ [])

-- the blocks from the place of `rest` on bring back `rest`, behind what is there already
lines_back : (rest front : List Entry) (bytes : List ℕ) (k last : ℕ) → last ≤ length front → length front + length rest ≤ 32
    → AllPassing rest → open_ones rest ≡ 0 → drop (512 * k) bytes ≡ position_blocks (length front + 1) rest
    → load_lines (standing_in rest) bytes k last (front ++ blanks (length rest)) ≡ Ok (front ++ rest)
lines_back [] front bytes k last after few pass shut is = refl
lines_back (Entry.empty ∷ rest) front bytes k last after few pass shut is =
    let more : List Entry = front ++ (Entry.empty ∷ []) in
    let long : length more ≡ length front + 1 = longer front Entry.empty in
    let back = lines_back rest more bytes k last (omega arith) (omega arith) pass.1 (omega arith) (is ∙ ap (λ n. position_blocks (n + 1) rest) (sym long)) in
    ap (λ n. load_lines n bytes k last (front ++ (Entry.empty ∷ blanks (length rest)))) (omega arith)
    ∙ ap (load_lines (standing_in rest) bytes k last) (sym (in_front front (blanks (length rest)) Entry.empty))
    ∙ back ∙ ap Ok (in_front front rest Entry.empty)
lines_back (Entry.opened r ∷ rest) front bytes k last after few pass shut is = absurd (omega arith)
lines_back (Entry.standing r ∷ rest) front bytes k last after few pass shut is =
    let n : ℕ = length front + 1 in
    let more : List Entry = front ++ (Entry.standing r ∷ []) in
    let block : List ℕ = block_of (position_byte n r) in
    let long : length more ≡ length front + 1 = longer front (Entry.standing r) in
    let part : part_of bytes k ≡ block = ap (take 512) is ∙ take_at block (position_blocks (n + 1) rest) 512 (length_block (position_byte n r)) in
    let read : read_line (part_of bytes k) last ≡ Ok (record { number = n; bar = r }) =
    ap (λ p. read_line p last) part ∙ line_trip n last r pass.0 (omega arith) (omega arith) (omega arith) in
    let next : drop (512 * (k + 1)) bytes ≡ position_blocks (n + 1) rest =
    ap (λ m. drop m bytes) (omega arith) ∙ sym (drop-drop 512 (512 * k) bytes) ∙ ap (drop 512) is ∙ drop_at block (position_blocks (n + 1) rest) 512 (length_block (position_byte n r)) in
    let back = lines_back rest more bytes (k + 1) n (omega arith) (omega arith) pass.1 (omega arith) (next ∙ ap (λ m. position_blocks (m + 1) rest) (sym long)) in
    let acc : List Entry = front ++ (Entry.empty ∷ blanks (length rest)) in
    let put : set acc (n - 1) (Entry.standing r) ≡ more ++ blanks (length rest) =
    ap (λ i. set acc i (Entry.standing r)) (omega arith) ∙ set_at front Entry.empty (blanks (length rest)) (Entry.standing r) (length front) refl ∙ sym (in_front front (blanks (length rest)) (Entry.standing r)) in
    let one : stands_one (Entry.standing r) + standing_in rest ≡ suc (standing_in rest) = omega arith in
    ap (λ m. load_lines m bytes k last acc) one
    ∙ ap (λ x. load_next k (line_entered acc x) (λ es. load_lines (standing_in rest) bytes (k + 1) (number_of_line x) es)) read
    ∙ ap (λ x. load_next k x (λ es. load_lines (standing_in rest) bytes (k + 1) n es)) (entered_passing acc (record { number = n; bar = r }) pass.0 ∙ ap Ok put)
    ∙ back ∙ ap Ok (in_front front rest (Entry.standing r))

-- the whole

length_blocks : (n : ℕ) (es : List Entry) → length (position_blocks n es) ≡ 512 * standing_in es
length_blocks n [] = refl
length_blocks n (e ∷ rest) =
    length-append (entry_block n e) (position_blocks (n + 1) rest)
    ∙ omega (arith, length_entry_block n e, length_blocks (n + 1) rest)

standing_few : (es : List Entry) → standing_in es ≤ length es
standing_few [] = lit≤ tt
standing_few (e ∷ rest) = omega (arith, once_at_most e, standing_few rest)

pub stored_loads : (p : Plain) → length p.entries ≡ 32 → 100 ≤ p.level → p.level ≤ 100000 → AllPassing p.entries → open_ones p.entries ≡ 0 → LoadsAs p (stored p)
stored_loads p full low high pass shut other same_job other_shut =
    let s : ℕ = standing_in p.entries in
    let header : List ℕ = block_of (header_byte p.job p.level s) in
    let lines : List ℕ = position_blocks 1 p.entries in
    let head_long : length header ≡ 512 = length_block (header_byte p.job p.level s) in
    let long : length (stored p) ≡ 512 * (1 + s) = length-append header lines ∙ omega (arith, length_blocks 1 p.entries) in
    let few : s ≤ 32 = omega (arith, standing_few p.entries) in
    let whole : length (stored p) % 512 ≡ 0 = omega arith in
    let least : 512 ≤ length (stored p) = omega arith in
    let most : length (stored p) ≤ 16896 = omega arith in
    let right : length_right (length (stored p)) ≡ true =
    and_from _ _ (eq-eqb _ _ whole) (and_from (leb 512 (length (stored p))) (leb (length (stored p)) 16896) (le-leb _ _ least) (le-leb _ _ most)) in
    let many : length (stored p) / 512 - 1 ≡ s = omega arith in
    let first : part_of (stored p) 0 ≡ header = take_at header lines 512 head_long in
    let read : read_header (part_of (stored p) 0) (length (stored p) / 512 - 1) other.job ≡ Ok p.level =
    (λ i. read_header (first i) (many i) (same_job i)) ∙ header_trip p.job p.level s low high in
    let rest : drop (512 * 1) (stored p) ≡ position_blocks (length {A = Entry} [] + 1) p.entries = drop_at header lines 512 head_long in
    let back = lines_back p.entries [] (stored p) 1 0 (lit≤ tt) (omega arith) pass shut rest in
    cond-true _ _ _ (eq-eqb _ _ other_shut)
    ∙ cond-true _ _ _ right
    ∙ ap (load_level (stored p)) read
    ∙ ap (λ n. with_level p.level (load_lines n (stored p) 1 0 (blanks positions))) many
    ∙ ap (λ n. with_level p.level (load_lines s (stored p) 1 0 (blanks n))) (sym full)
    ∙ ap (with_level p.level) back

-- the blocks in front of what was in the buffer
pub saved_front : (p : Plain) (buffer after : List ℕ) (n : ℕ) → n ≡ standing_in p.entries → after ≡ stored p ++ drop (512 * (1 + standing_in p.entries)) buffer
    → take (512 * (1 + n)) after ≡ stored p
saved_front p buffer after n count whole =
    let s : ℕ = standing_in p.entries in
    let header : List ℕ = block_of (header_byte p.job p.level s) in
    let long : length (stored p) ≡ 512 * (1 + n) =
    length-append header (position_blocks 1 p.entries) ∙ omega (arith, length_blocks 1 p.entries, length_block (header_byte p.job p.level s), count) in
    ap (take (512 * (1 + n))) whole ∙ take_at (stored p) (drop (512 * (1 + s)) buffer) (512 * (1 + n)) long
