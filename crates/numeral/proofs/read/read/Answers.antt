use Rattle.std.proofs.Common.{arith}
use Rattle.numeral.proofs.Reading.{progress_none, progress_more, room}
use Rattle.numeral.proofs.read.read.Goals as goal

pub loop-four-init : goal.loop-four-init
loop-four-init g c = progress_none _ _

pub overflow_mul-value : goal.overflow_mul-value
overflow_mul-value g c = omega (arith, room 4 c.loop-four.invariant (omega arith))

pub overflow_add-value : goal.overflow_add-value
overflow_add-value g c = omega (arith, room 4 c.loop-four.invariant (omega arith), c.in-Some.ensures.small)

pub loop-four-preserved : goal.loop-four-preserved
loop-four-preserved g c = progress_more c.loop-four.invariant c.in-Some.ensures (omega arith)

pub read_on-read-requires : goal.read_on-read-requires
read_on-read-requires g c = (c.loop-four.invariant, c.digits_end-end.ensures)
