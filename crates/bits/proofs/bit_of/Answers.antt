-- Beyond the mask's sixteen places no bit is set.
use Rattle.std.proofs.Common.{refl, sym, arith}
use Rattle.bits.specs.Bits.{bit_of}
use Rattle.bits.proofs.BitLaws.{bit_beyond}
use Rattle.bits.proofs.bit_of.Goals as goal

pub returns-then-place-ge-PLACES : goal.returns-then-place-ge-PLACES
returns-then-place-ge-PLACES c = sym (bit_beyond 16 _ _ (omega arith) (omega arith))

pub returns : goal.returns
unfolding bit_of
returns c = refl
