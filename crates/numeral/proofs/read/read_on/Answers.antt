use Rattle.std.proofs.Common.{arith}
use Rattle.numeral.proofs.Reading.{digit_here, progress_more, room}
use Rattle.numeral.proofs.read.read_on.Goals as goal

pub overflow_mul-value : goal.overflow_mul-value
overflow_mul-value c = omega (arith, room 1 c.loop-next.invariant (omega arith))

pub overflow_add-value : goal.overflow_add-value
overflow_add-value c = omega (arith, room 1 c.loop-next.invariant (omega arith))

pub loop-next-preserved : goal.loop-next-preserved
loop-next-preserved c =
    progress_more c.loop-next.invariant (digit_here _ _ _ (omega arith) c.if-d-gt9.false c.digit-d.ensures) (omega arith)
