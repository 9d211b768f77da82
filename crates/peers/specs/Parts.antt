-- Parts of `peers_kept` that private functions promise.
use Rattle.std.specs.Prelude.{Bool, not, ◌&&◌, ◌||◌, List, ℕ, eqb, get_or}
use Rattle.peers.specs.Peers.{waiter_kept, idle_kept, tags_differ}
use Rattle.bits.specs.Bits.{bit_of}
use Rattle.bits.specs.Below.{all_below, count_below}

-- each peer that does not wait holds 0 for both
abbrev pub idle_or_waits : ℕ → List ℕ → List ℕ → ℕ → Bool
idle_or_waits waiting tags sent p = bit_of waiting p || idle_kept (get_or tags p 0) (get_or sent p 0)

unfoldable pub others_idle : ℕ → List ℕ → List ℕ → Bool
others_idle waiting tags sent = all_below 16 (idle_or_waits waiting tags sent)

-- a test holds of each peer that waits
abbrev pub each_waiting : ℕ → (ℕ → Bool) → Bool
each_waiting waiting test = all_below 16 (λ p. not (bit_of waiting p) || test p)

-- exactly one of the sixteen places has the tag
abbrev pub has_tag : ℕ → List ℕ → ℕ → Bool
has_tag tag tags q = eqb (get_or tags q 0) tag

unfoldable pub tag_alone : ℕ → List ℕ → Bool
tag_alone tag tags = eqb (count_below 16 (has_tag tag tags)) 1

-- each waiting peer's tag is in exactly one of them
unfoldable pub tags_alone : ℕ → List ℕ → Bool
tags_alone waiting tags = each_waiting waiting (λ p. tag_alone (get_or tags p 0) tags)

-- each waiting peer's tag and tick count are in order, and no two have one tag
unfoldable pub waiters_kept : ℕ → ℕ → ℕ → List ℕ → List ℕ → Bool
waiters_kept waiting requests ticks tags sent =
    each_waiting waiting (λ p. waiter_kept requests ticks (get_or tags p 0) (get_or sent p 0)) && all_below 16 (λ p. all_below p (tags_differ waiting tags p))
