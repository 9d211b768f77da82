-- The loop's invariant is `Progress`. The measure is what is left up to the end.
use Rattle.std.proofs.Common.{◌-◌}
use Rattle.numeral.specs.Progress.{Progress}
use Rattle.numeral.proofs.read.read_on.Given as goal

abbrev pub invariant-loop-next : goal.invariant-loop-next
invariant-loop-next l = Progress l.line l.at l.value l.next

abbrev pub decreases-loop-next : goal.decreases-loop-next
decreases-loop-next l = l.end - l.next
