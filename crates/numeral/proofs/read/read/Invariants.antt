-- The loop's invariant is that of `read_on`, which goes on from where the loop ends. The measure
-- is what is left up to the end.
use Rattle.std.proofs.Common.{◌-◌}
use Rattle.numeral.specs.Progress.{Progress}
use Rattle.numeral.proofs.read.read.Given as goal

abbrev pub invariant-loop-four : goal.invariant-loop-four
invariant-loop-four g l = Progress l.line l.at l.value l.next

abbrev pub decreases-loop-four : goal.decreases-loop-four
decreases-loop-four g l = l.end - l.next
