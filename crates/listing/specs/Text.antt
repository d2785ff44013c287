-- How verdicts and lines are printed.
use Rattle.std.specs.Prelude.{ℕ, ◌+◌, Some, None, Ok, Err, Option, List, [], ◌∷◌, ◌++◌, codes}
use Rattle.std.specs.Fmt.{decimal}
use Rattle.busbar.specs.Verdict.{Verdict, refusal_text}
use Rattle.busbar.specs.declared.verdict.Figures.{Figures}
use Rattle.sheet.specs.declared.position.State.{State}
use Rattle.listing.specs.Line.{line_of}
use Rattle.listing.specs.declared.line.Line.{Line}
use Rattle.listing.specs.declared.line.Line.TheVariants as line

abbrev pub verdict_text : Verdict → List ℕ
verdict_text (Ok done) = codes "accepted"
verdict_text (Err r) = refusal_text r

-- the total stress and the support load, or that nothing is known of them
abbrev pub figures_text : Option Figures → List ℕ
figures_text (Some f) = decimal f.total_stress ++ codes " " ++ decimal f.support_load
figures_text None = codes "- -"

abbrev pub line_text : Line → List ℕ
line_text (line.Standing n v f) = decimal n ++ codes " " ++ verdict_text v ++ codes " " ++ figures_text f
line_text (line.Open n) = decimal n ++ codes " open"

-- the line of a position that is not empty, ended
abbrev pub line_ended : Option Line → List ℕ
line_ended None = []
line_ended (Some l) = line_text l ++ codes "\n"

-- the lines of the positions from n on
abbrev pub lines_from : ℕ → Option (ℕ × ℕ) → List State → List ℕ
lines_from n told [] = []
lines_from n told (s ∷ more) = line_ended (line_of n told s) ++ lines_from (n + 1) told more

abbrev pub list_text : Option (ℕ × ℕ) → List State → List ℕ
list_text told states = lines_from 1 told states
