-- A bit that is set is at most the mask.
use native.Mathlib.Omega.{arith}
use Rattle.keeper.specs.Apply.{changed, ended}
use Rattle.bits.proofs.BitLaws.{bit_le}
use Rattle.keeper.proofs.steps.ended_with.Goals as goal

pub overflow_sub-result : goal.overflow_sub-result
overflow_sub-result c =
    let x = c.args in
    omega (arith, c.bit.ensures, bit_le x.keeper.waiting x.peer c.requires.peer_value)

pub returns : goal.returns
unfolding ended changed
returns c =
    rw c.bit.ensures
