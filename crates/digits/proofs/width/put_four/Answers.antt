-- Two digits, and the two behind them.
use native.Mathlib.Omega.{arith}
use Rattle.digits.proofs.WidthLaws.{width_put, width_both}
use Rattle.digits.proofs.width.put_four.Goals as goal

pub put_two-requires : goal.put_two-requires
put_two-requires c =
    let (next, long) = width_put 2 _ (omega arith) c.put_two-next.ensures in
    record { two_bound = omega arith; at_in_bounds = omega arith }

pub returns : goal.returns
returns c =
    let a = c.args in
    width_both 2 2 a.four (omega arith) c.put_two-next.ensures c.put_two.ensures
