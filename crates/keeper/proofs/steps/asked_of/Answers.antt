-- A bit that is not set leaves room for its power.
use native.Mathlib.Omega.{arith}
use Rattle.keeper.specs.Apply.{changed, asked}
use Rattle.bits.proofs.BitLaws.{bit_room}
use Rattle.keeper.proofs.steps.asked_of.Goals as goal

pub overflow_add-result-2 : goal.overflow_add-result-2
overflow_add-result-2 c =
    let x = c.args in
    omega (arith, c.bit.ensures, bit_room 16 x.keeper.waiting x.peer (omega arith) (omega arith) c.requires.peer_value)

pub returns : goal.returns
unfolding asked changed
returns c =
    rw c.bit.ensures
