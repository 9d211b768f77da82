-- At most eight digits; or at most eight, and the last eight; or at most four, and the last sixteen.
use native.Mathlib.Omega.{arith}
use Rattle.digits.proofs.FrontLaws.{parts_room, parts_more, parts_stop}
use Rattle.digits.proofs.front.number_front.Goals as goal

pub returns-in_err-at : goal.returns-in_err-at
returns-in_err-at c = parts_stop 8 0 c.args.n (omega arith) c.eight_front-then-n-lt10000000000000000.ensures c.in_err-at.was c.from_residual.ensures

pub put_eight-requires-clause-at_in_bounds : goal.put_eight-requires-clause-at_in_bounds
put_eight-requires-clause-at_in_bounds c =
    omega (arith, parts_room 8 0 c.args.n (omega arith) c.eight_front-then-n-lt10000000000000000.ensures c.in_ok-at.was)

pub returns-then-n-lt10000000000000000 : goal.returns-then-n-lt10000000000000000
returns-then-n-lt10000000000000000 c =
    parts_more 8 0 c.args.n (omega arith) c.eight_front-then-n-lt10000000000000000.ensures c.in_ok-at.was c.put_eight.ensures

pub returns-in_err-at-2 : goal.returns-in_err-at-2
returns-in_err-at-2 c = parts_stop 16 0 c.args.n (omega arith) c.four_front.ensures c.in_err-at-2.was c.from_residual-in_err-at-2.ensures

pub put_sixteen-requires-clause-at_in_bounds : goal.put_sixteen-requires-clause-at_in_bounds
put_sixteen-requires-clause-at_in_bounds c = omega (arith, parts_room 16 0 c.args.n (omega arith) c.four_front.ensures c.in_ok-at-2.was)

pub returns : goal.returns
returns c = parts_more 16 0 c.args.n (omega arith) c.four_front.ensures c.in_ok-at-2.was c.put_sixteen.ensures
