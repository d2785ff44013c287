use Rattle.std.proofs.Common.{drop, ap, ◌∙◌}
use Rattle.std.proofs.lemmas.List.{take_rest, drop_min}
use Rattle.stored.specs.Read.{zeros}
use Rattle.stored.proofs.read.zero_to_the_end.Goals as goal

pub returns : goal.returns
returns c =
    let bytes = c.args.bytes.now in
    c.all_zero.ensures
    ∙ ap zeros (take_rest bytes c.min.result ∙ ap (λ i. drop i bytes) c.min.ensures ∙ drop_min c.args.place bytes)
