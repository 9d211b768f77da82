-- The digits before the last two, and then these.
use native.Mathlib.Omega.{arith}
use Rattle.digits.proofs.FrontLaws.{parts_room, parts_more, parts_stop}
use Rattle.digits.proofs.front.four_front.Goals as goal

pub returns-in_err-at : goal.returns-in_err-at
returns-in_err-at c =
    let a = c.args in
    parts_stop 2 a.more a.n (omega arith) c.two_front-2.ensures c.in_err-at.was c.from_residual.ensures

pub put_two-requires-clause-at_in_bounds : goal.put_two-requires-clause-at_in_bounds
put_two-requires-clause-at_in_bounds c =
    let a = c.args in
    omega (arith, parts_room 2 a.more a.n (omega arith) c.two_front-2.ensures c.in_ok-at.was)

pub returns : goal.returns
returns c =
    let a = c.args in
    parts_more 2 a.more a.n (omega arith) c.two_front-2.ensures c.in_ok-at.was c.put_two.ensures
