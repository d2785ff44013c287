use Rattle.std.proofs.Common.{drop, sym, ap, ◌∙◌, arith}
use Rattle.std.proofs.lemmas.List.{take_all}
use Rattle.stored.specs.Read.{zeros}
use Rattle.stored.proofs.read.zero_from.Goals as goal

pub returns-then-part-lt510 : goal.returns-then-part-lt510
returns-then-part-lt510 c =
    c.zero_to_the_end.ensures ∙ ap (λ l. zeros (drop c.args.place l)) (sym (take_all 510 c.args.part.now (omega arith)))
