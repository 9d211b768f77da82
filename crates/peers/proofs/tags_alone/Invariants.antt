-- The tags of the waiting peers that are not left are in one place only.
use mathlib.Core.Path.{◌≡◌}
use mathlib.Core.Bool.{true}
use lib.ListN.{get_or}
use Rattle.peers.specs.Parts.{tag_alone}
use Rattle.places.proofs.Passed.{Passed}
use Rattle.peers.proofs.tags_alone.Given as goal

abbrev pub invariant-loop-p : goal.invariant-loop-p
invariant-loop-p l =
    (goal.iterator-loop-p).can_next l.p-iterator
    × (goal.iterator-loop-p).is_finite l.p-iterator
    × Passed l.waiting l.p-iterator.rest (λ q. tag_alone (get_or l.tags q 0) l.tags ≡ true)
