use Rattle.std.proofs.Common.{◌≡◌, take, nat_eq}
use Rattle.stored.specs.Read.{zeros}
use Rattle.stored.proofs.read.all_zero.Given as goal

-- the bytes passed so far are all 0 where nothing was joined in
abbrev pub invariant-loop-byte : goal.invariant-loop-byte
invariant-loop-byte l = nat_eq l.joined 0 ≡ zeros (take l.byte-index l.bytes)
