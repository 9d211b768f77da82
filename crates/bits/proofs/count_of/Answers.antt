-- The ones of the mask are the places whose bit is set.
use Rattle.std.proofs.Common.{sym, arith}
use Rattle.bits.proofs.BitLaws.{count_ones}
use Rattle.bits.proofs.count_of.Goals as goal

pub returns : goal.returns
returns c = sym (count_ones 16 _ (omega arith))
