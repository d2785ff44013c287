use Rattle.std.proofs.Common.{rules}
use Rattle.stored.proofs.Blocks.{seal_written}
use Rattle.stored.proofs.block.seal.Goals as goal

pub returns-then-part-eq-BLOCK : goal.returns-then-part-eq-BLOCK
returns-then-part-eq-BLOCK c =
    seal_written c.args.part.now c.check.result _ _ c.if-part-eq-BLOCK.true c.check.ensures (search rules) (search rules)
