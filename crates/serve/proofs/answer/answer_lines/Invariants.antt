-- The loop's invariant: the lines up to `next` are answered, the first LF behind it is at
-- `at`, and `started` is what the test would say of the keeper. Each turn answers one line more.
use mathlib.Core.Path.{◌≡◌}
use Prim.Native.Nat.{◌+◌, ◌-◌, ◌≤◌}
use lib.ListN.{length, drop}
use Rattle.keeper.specs.State.{counts_as_started}
use Rattle.keeper.proofs.StartedLaws.{Sized}
use Rattle.lines.specs.Lines.{line_length}
use Rattle.serve.specs.Serving.{Answered}
use Rattle.serve.proofs.answer.answer_lines.Given as goal

abbrev pub invariant-loop-at : goal.invariant-loop-at
invariant-loop-at l =
    (length l.out ≡ length l.initial.out)
    × (l.filled ≤ length l.out)
    × (l.at ≡ l.next + line_length (drop l.next l.bytes))
    × Answered l.initial.now (drop l.from l.bytes) l.initial.out l.now (drop l.next l.bytes) l.filled l.out
    × (l.started ≡ counts_as_started l.now)
    × Sized l.now

abbrev pub decreases-loop-at : goal.decreases-loop-at
decreases-loop-at l = length l.bytes - l.next
