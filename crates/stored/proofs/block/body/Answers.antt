use Rattle.std.proofs.Common.{rules, tests}
use Rattle.stored.specs.Block.{body_of}
use Rattle.stored.proofs.FromFn.{made_by}
use Rattle.stored.proofs.block.body.Goals as goal

pub returns : goal.returns
unfolding body_of
returns g c = made_by _ _ (g.B.Block.bytes c.args.block.now) (λ x y q k. search (rules, tests)) _ _ c.from_fn.ensures.items
