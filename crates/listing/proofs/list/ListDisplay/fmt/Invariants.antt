use Rattle.std.proofs.Common.{◌≡◌, ℕ, ◌+◌, List, ◌++◌}
use Rattle.std.specs.Fmt.{HasWritten, IsPlainFormatter}
use Rattle.std.specs.Prelude.{drop}
use Rattle.listing.specs.Text.{lines_from, list_text}
use Rattle.listing.proofs.list.ListDisplay.fmt.Given as goal

-- what has been written, and what the positions that are left give, make the whole list
abbrev pub invariant-loop-before : goal.invariant-loop-before
invariant-loop-before g l =
    IsPlainFormatter l.initial.f → (written : List ℕ) × HasWritten g.W.Write.write_str_gives l.initial.f written l.f
    × (written ++ lines_from (l.before + 1) l.self.told (drop l.before l.self.states.now) ≡ list_text l.self.told l.self.states.now)
