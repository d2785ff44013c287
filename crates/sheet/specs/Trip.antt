-- What a save wrote is loaded back.
use Rattle.std.specs.Prelude.{◌≡◌, ℕ, ◌*◌, List, take, Ok, Err, Result}
use Rattle.busbar.specs.declared.question.Question.{Question}
use Rattle.sheet.specs.Plain.{Plain}
use Rattle.sheet.specs.Stored.{load_of, open_ones}

-- the bytes load to the level and the entries of p, into any sheet of the same job with nothing open
abbrev pub LoadsAs : Plain → List ℕ → Type 0
LoadsAs p bytes = (other : Plain) → other.job ≡ p.job → open_ones other.entries ≡ 0 → load_of other bytes ≡ Ok (p.level, p.entries)

-- the blocks that a save of p wrote do
abbrev pub SavedLoads : Plain → Result ℕ Question → List ℕ → Type 0
SavedLoads p (Ok n) buffer = LoadsAs p (take (512 * n) buffer)
SavedLoads p (Err no_to) buffer = Unit {0}
