-- `runs::read_full` ends: each read brings a byte, and what is left of the buffer is at most the whole of it.
use Rattle.std.proofs.Common.{length, ◌≤◌}
use Rattle.runs.proofs.read_full.Given as goal

abbrev pub invariant-loop-input : goal.invariant-loop-input
invariant-loop-input g l = length l.rest ≤ l.size

abbrev pub decreases-loop-input : goal.decreases-loop-input
decreases-loop-input g l = length l.rest
