-- The loop's invariant: what is answered from here on is the answer, and the digits read so far
-- are counted. The measure is how many digits are left.
use Rattle.std.proofs.Common.{◌≡◌, ◌-◌, drop}
use Rattle.numeral.specs.Progress.{Counted}
use Rattle.numeral.specs.Reading.{groups_from}
use Rattle.numeral.proofs.groups.read_groups.Given as goal

abbrev pub invariant-loop-count : goal.invariant-loop-count
invariant-loop-count l =
    (groups_from l.initial.value l.initial.count l.initial.next (drop l.initial.next l.line) ≡ groups_from l.value l.count l.next (drop l.next l.line)) × Counted l.line l.value l.count l.next

abbrev pub decreases-loop-count : goal.decreases-loop-count
decreases-loop-count l = 19 - l.count
