use Rattle.std.proofs.Common.{arith}
use Rattle.stored.proofs.Zeros.{zeros_joined}
use Rattle.stored.proofs.read.all_zero.Goals as goal

pub loop-byte-preserved : goal.loop-byte-preserved
loop-byte-preserved c =
    zeros_joined c.args.bytes.now c.loop-byte.byte-index c.loop-byte.joined (omega arith) c.loop-byte.invariant
