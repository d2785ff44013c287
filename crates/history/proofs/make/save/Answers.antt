use Rattle.std.proofs.Common.{◌∙◌}
use Rattle.std.proofs.lemmas.List.{with_items_is}
use Rattle.history.proofs.make.save.Goals as goal

pub returns : goal.returns
returns g c =
    let saved = c.save-blocks in
    rw (with_items_is c.args.buffer saved.new.buffer (saved.auto.buffer ∙ c.deref_mut.ensures.len)) (rw c.deref_mut.ensures.value at saved.ensures.happened)
