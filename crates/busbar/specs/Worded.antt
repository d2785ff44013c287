-- How the error of a number that stands for no scheme is worded.
use Rattle.std.specs.Prelude.{ℕ, List, ◌++◌, codes}
use Rattle.std.specs.Fmt.{decimal}
use Rattle.busbar.specs.declared.record.UnknownScheme.{UnknownScheme}

abbrev pub unknown_scheme_text : UnknownScheme → List ℕ
unknown_scheme_text e = codes "no scheme has the number " ++ decimal e.0
