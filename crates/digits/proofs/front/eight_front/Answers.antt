-- The digits before the last four, and then these.
use native.Mathlib.Omega.{arith}
use Rattle.digits.proofs.FrontLaws.{parts_room, parts_more, parts_stop}
use Rattle.digits.proofs.front.eight_front.Goals as goal

pub returns-in_err-at : goal.returns-in_err-at
returns-in_err-at c =
    let a = c.args in
    parts_stop 4 a.more a.n (omega arith) c.four_front-2.ensures c.in_err-at.was c.from_residual.ensures

pub put_four-requires-clause-at_in_bounds : goal.put_four-requires-clause-at_in_bounds
put_four-requires-clause-at_in_bounds c =
    let a = c.args in
    omega (arith, parts_room 4 a.more a.n (omega arith) c.four_front-2.ensures c.in_ok-at.was)

pub returns : goal.returns
returns c =
    let a = c.args in
    parts_more 4 a.more a.n (omega arith) c.four_front-2.ensures c.in_ok-at.was c.put_four.ensures
