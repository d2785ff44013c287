-- A load goes from a sheet with nothing open to one with nothing open.
use Rattle.std.proofs.Common.{◌≡◌, ℕ, zero, suc, ◌+◌, ◌≤◌, List, [], ◌∷◌, get_or, set, replicate, Ok, Option, Result, refl, arith}
use Rattle.std.proofs.lemmas.Grind.{common_steps}
use Rattle.busbar.specs.declared.question.Question.{Question}
use Rattle.busbar.specs.declared.record.Record.{Record}
use Rattle.stored.specs.Read.{read_line}
use Rattle.stored.specs.Read.{StoredLine}
use Rattle.sheet.specs.Plain.{Entry, Plain}
use Rattle.sheet.specs.Stored.{LoadNo, entered, line_entered, load_level, load_lines, load_next, load_of, open_one, open_ones, part_of, with_level}
use Rattle.history.specs.Hand.{open_for}

-- what is open at one place is open in all
open_at : (es : List Entry) (i : ℕ) → open_one (get_or es i Entry.empty) ≤ open_ones es
open_at [] i = omega arith
open_at (e ∷ es) zero = omega arith
open_at (e ∷ es) (suc i) = omega (arith, open_at es i)

pub none_open : (p : Plain) (job n : ℕ) → open_ones p.entries ≡ 0 → open_for p job n ≡ 0
none_open p job n none = grind (arith, open_at)

-- an entry that stands opens nothing
set_shut : (es : List Entry) (i : ℕ) (r : Record) → open_ones (set es i (Entry.standing r)) ≤ open_ones es
set_shut [] i r = omega arith
set_shut (e ∷ es) zero r = omega arith
set_shut (e ∷ es) (suc i) r = omega (arith, set_shut es i r)

pub blank_shut : (n : ℕ) → open_ones (replicate n Entry.empty) ≡ 0
blank_shut zero = refl
blank_shut (suc n) = omega (arith, blank_shut n)

entered_shut : (es : List Entry) (s : StoredLine) (o : Option Question) (more : List Entry) → entered es s o ≡ Ok more → open_ones es ≡ 0 → open_ones more ≡ 0
entered_shut es s o more is shut = grind (arith, set_shut)

line_shut : (es : List Entry) (r : Result StoredLine Question) (more : List Entry) → line_entered es r ≡ Ok more → open_ones es ≡ 0 → open_ones more ≡ 0
line_shut es r more is shut = grind (arith, entered_shut)

next_shut : (k : ℕ) (r : Result (List Entry) Question) (rest : List Entry → Result (List Entry) LoadNo) (after : List Entry)
    → ((more : List Entry) → r ≡ Ok more → rest more ≡ Ok after → open_ones after ≡ 0) → load_next k r rest ≡ Ok after → open_ones after ≡ 0
next_shut k r rest after go is = grind arith

lines_shut : (many : ℕ) (bytes : List ℕ) (k last : ℕ) (es after : List Entry) → load_lines many bytes k last es ≡ Ok after → open_ones es ≡ 0 → open_ones after ≡ 0
lines_shut zero bytes k last es after is shut = cc
lines_shut (suc many) bytes k last es after is shut =
    next_shut k (line_entered es (read_line (part_of bytes k) last)) _ after
    (λ more entered rest. lines_shut many bytes (k + 1) _ more after rest (line_shut es (read_line (part_of bytes k) last) more entered shut))
    is

level_shut : (level : ℕ) (r : Result (List Entry) LoadNo) (found : ℕ × List Entry) → ((es : List Entry) → r ≡ Ok es → open_ones es ≡ 0) → with_level level r ≡ Ok found → open_ones found.1 ≡ 0
level_shut level r found go is = grind arith

header_shut : (bytes : List ℕ) (r : Result ℕ Question) (found : ℕ × List Entry) → load_level bytes r ≡ Ok found → open_ones found.1 ≡ 0
header_shut bytes r found is = grind (arith, level_shut, lines_shut, blank_shut)

pub load_shut : (p : Plain) (bytes : List ℕ) (found : ℕ × List Entry) → load_of p bytes ≡ Ok found → (open_ones p.entries ≡ 0) × (open_ones found.1 ≡ 0)
load_shut p bytes found is = grind (arith, common_steps, header_shut)
