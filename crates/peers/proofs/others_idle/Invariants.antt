-- Every peer before the place passed.
use mathlib.Core.Path.{◌≡◌}
use mathlib.Core.Bool.{true}
use Rattle.bits.specs.Below.{all_below}
use Rattle.peers.specs.Parts.{idle_or_waits}
use Rattle.peers.proofs.others_idle.Given as goal

abbrev pub invariant-loop-p : goal.invariant-loop-p
invariant-loop-p l = all_below l.p (idle_or_waits l.waiting l.tags l.sent_at) ≡ true
