-- How a hindrance is worded.
use Rattle.std.specs.Prelude.{ℕ, List, codes}
use Rattle.history.specs.declared.both.Hindrance.{Hindrance}
use Rattle.history.specs.declared.both.Hindrance.TheVariants as hindrance

abbrev pub hindrance_text : Hindrance → List ℕ
hindrance_text hindrance.SameJob = codes "two boards of one job"
hindrance_text hindrance.Memory = codes "not enough memory"
