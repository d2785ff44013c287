-- How the text of the list grows by a position.
use Rattle.std.proofs.Common.{rules, ◌≡◌, ℕ, ◌+◌, ◌<◌, ◌≤◌, List, ◌++◌, Option, Some, None, length, slice_index_or}
use Rattle.std.specs.Prelude.{drop, codes}
use Rattle.std.proofs.lemmas.List.{drop_more, drop_all}
use mathlib.Core.List.{append_assoc}
use Rattle.sheet.specs.declared.position.State.{State}
use Rattle.listing.specs.Line.{line_of}
use Rattle.listing.specs.Text.{line_ended, line_text, lines_from}

one_more : (told : Option (ℕ × ℕ)) (xs : List State) (n : ℕ) (d : State) (written whole : List ℕ) → n < length xs → written ++ lines_from (n + 1) told (drop n xs) ≡ whole
    → (written ++ line_ended (line_of (n + 1) told (slice_index_or xs n d))) ++ lines_from (n + 1 + 1) told (drop (n + 1) xs) ≡ whole
one_more told xs n d written whole inside e = search (rules, drop_more xs n d inside, append_assoc)

pub line_more : {l : _} (told : Option (ℕ × ℕ)) (xs : List State) (n : ℕ) (d : State) (written whole : List ℕ) → n < length xs → line_of (n + 1) told (slice_index_or xs n d) ≡ Some l
    → written ++ lines_from (n + 1) told (drop n xs) ≡ whole → (written ++ (line_text l ++ codes "\n")) ++ lines_from (n + 1 + 1) told (drop (n + 1) xs) ≡ whole
line_more told xs n d written whole inside is e = search (rules, one_more told xs n d written whole inside e)

pub nothing_more : (told : Option (ℕ × ℕ)) (xs : List State) (n : ℕ) (d : State) (written whole : List ℕ) → n < length xs → line_of (n + 1) told (slice_index_or xs n d) ≡ None
    → written ++ lines_from (n + 1) told (drop n xs) ≡ whole → written ++ lines_from (n + 1 + 1) told (drop (n + 1) xs) ≡ whole
nothing_more told xs n d written whole inside is e = search (rules, one_more told xs n d written whole inside e)

pub at_the_end : (told : Option (ℕ × ℕ)) (xs : List State) (n : ℕ) (written whole : List ℕ) → length xs ≤ n → written ++ lines_from (n + 1) told (drop n xs) ≡ whole → written ≡ whole
at_the_end told xs n written whole past e = search (rules, drop_all n xs past)
