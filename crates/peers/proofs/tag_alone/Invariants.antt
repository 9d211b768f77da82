-- The places before the next one are counted.
use mathlib.Core.Path.{◌≡◌}
use Prim.Native.Nat.{◌≤◌}
use Rattle.bits.specs.Below.{count_below}
use Rattle.peers.specs.Parts.{has_tag}
use Rattle.peers.proofs.tag_alone.Given as goal

abbrev pub invariant-loop-other : goal.invariant-loop-other
invariant-loop-other l = (l.times ≤ l.other-index) × (l.times ≡ count_below l.other-index (has_tag l.tag l.tags))
