-- Four digits, and the four behind them.
use native.Mathlib.Omega.{arith}
use Rattle.digits.proofs.WidthLaws.{width_put, width_both}
use Rattle.digits.proofs.width.put_eight.Goals as goal

pub put_four-requires : goal.put_four-requires
put_four-requires c =
    let (next, long) = width_put 4 _ (omega arith) c.put_four-next.ensures in
    record { four_bound = omega arith; at_in_bounds = omega arith }

pub returns : goal.returns
returns c =
    let a = c.args in
    width_both 4 4 a.eight (omega arith) c.put_four-next.ensures c.put_four.ensures
