-- The number's bit is the last of what is left of the mask.
use mathlib.Core.Path.{refl}
use Rattle.bits.specs.Bits.{bit_of}
use Rattle.peers.proofs.marked.Goals as goal

pub returns : goal.returns
unfolding bit_of
returns c = refl
