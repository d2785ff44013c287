-- How it is worded that a point did not go onto a curve.
use Rattle.std.specs.Prelude.{ℕ, List, ◌++◌, codes}
use Rattle.std.specs.Fmt.{decimal}
use Rattle.busbar.specs.Question.{number_of}
use Rattle.feeder.specs.declared.point.CurveError.{CurveError}
use Rattle.feeder.specs.declared.point.CurveError.TheVariants.{Memory, Refused}

abbrev pub curve_error_text : CurveError → List ℕ
curve_error_text (Refused question) = codes "question " ++ decimal (number_of question)
curve_error_text Memory = codes "not enough memory"
