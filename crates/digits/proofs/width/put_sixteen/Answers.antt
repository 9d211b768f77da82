-- Eight digits, and the eight behind them.
use native.Mathlib.Omega.{arith}
use Rattle.digits.proofs.WidthLaws.{width_put, width_both}
use Rattle.digits.proofs.width.put_sixteen.Goals as goal

pub put_eight-requires : goal.put_eight-requires
put_eight-requires c =
    let (next, long) = width_put 8 _ (omega arith) c.put_eight-next.ensures in
    record { eight_bound = omega arith; at_in_bounds = omega arith }

pub returns : goal.returns
returns c =
    let a = c.args in
    width_both 8 8 a.sixteen (omega arith) c.put_eight-next.ensures c.put_eight.ensures
