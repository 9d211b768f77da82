-- The loop of `next_mark`: a line begins at `next`, and the run ends before the first marked line from there on.
use Rattle.std.proofs.Common.{◌≡◌, ◌+◌, ◌-◌, length, drop}
use Rattle.runs.specs.Marks.{run_size}
use Rattle.runs.proofs.MarkLaws.{before_mark}
use Rattle.runs.proofs.marks.next_mark.Given as goal

abbrev pub invariant-loop-next : goal.invariant-loop-next
invariant-loop-next l = l.at + run_size (drop l.at l.bytes) ≡ l.next + before_mark (drop l.next l.bytes)

abbrev pub decreases-loop-next : goal.decreases-loop-next
decreases-loop-next l = length l.bytes - l.next
