-- The waiting peers that are not left are in order, and the remainders of their tags are marked.
use Rattle.peers.proofs.Waiters.{Seen}
use Rattle.peers.proofs.waiters_kept.Given as goal

abbrev pub invariant-loop-p : goal.invariant-loop-p
invariant-loop-p l =
    (goal.iterator-loop-p).can_next l.p-iterator
    × (goal.iterator-loop-p).is_finite l.p-iterator
    × Seen l.waiting l.requests l.ticks l.tags l.sent_at l.seen l.shared l.p-iterator.rest
