use Rattle.std.proofs.Common.{◌∙◌, sym, ap, length, length-take-le, arith}
use Rattle.stored.proofs.Blocks.{body_long, block_written}
use Rattle.stored.proofs.block.write_block.Goals as goal

pub slice_bounds-copy_from_slice-end-then-part-eq-BLOCK : goal.slice_bounds-copy_from_slice-end-then-part-eq-BLOCK
slice_bounds-copy_from_slice-end-then-part-eq-BLOCK g c = sym (length-take-le 510 c.args.part.now (omega arith))

pub copy_from_slice-requires : goal.copy_from_slice-requires
copy_from_slice-requires g c =
    length-take-le 510 c.args.part.now (omega arith) ∙ sym (ap length c.body.ensures ∙ body_long (g.B.Block.bytes c.args.block.now))

pub returns-then-part-eq-BLOCK : goal.returns-then-part-eq-BLOCK
returns-then-part-eq-BLOCK g c =
    block_written c.args.part.now _ _ _ (g.B.Block.bytes c.args.block.now) c.if-part-eq-BLOCK.true c.copy_from_slice.ensures.after c.body.ensures c.seal.ensures
