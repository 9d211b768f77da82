-- What stands at the front of the part from the place on stands at the place.
use native.Mathlib.Omega.{arith}
use Rattle.text.proofs.OutputLaws.{none_put}
use Rattle.digits.proofs.FrontLaws.{lent_most, lent_put}
use Rattle.digits.proofs.write.put.Goals as goal

pub returns-then-out-at : goal.returns-then-out-at
returns-then-out-at g c = none_put (omega arith)

pub overflow_add-result : goal.overflow_add-result
overflow_add-result g c =
    omega (arith, c.unwrap_or.ensures, lent_most c.args.out.now c.args.at (omega arith) c.put_front.ensures)

pub returns : goal.returns
returns g c =
    rw c.unwrap_or.ensures (lent_put c.args.out.now c.args.at (omega arith) c.put_front.ensures)
