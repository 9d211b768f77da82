-- What a keeper holds of its peers, as a mask, tags and tick counts, and when that is in order: document 01, 'Moments and ticks'.
use Rattle.std.specs.Prelude.{Bool, not, ◌&&◌, ◌||◌, List, ℕ, leb, eqb, get_or}
use Rattle.bits.specs.Bits.{bit_of}
use Rattle.bits.specs.Below.{all_below}

-- 'the waiting peers' tags .. are 1 through the requests sent and belong to tick counts not above the ticks'
abbrev pub waiter_kept : ℕ → ℕ → ℕ → ℕ → Bool
waiter_kept requests ticks tag sent = leb 1 tag && leb tag requests && leb sent ticks

-- 'and the other peers hold 0 for both'
abbrev pub idle_kept : ℕ → ℕ → Bool
idle_kept tag sent = eqb tag 0 && eqb sent 0

-- one peer, whether it waits or not
abbrev pub peer_kept : ℕ → ℕ → ℕ → List ℕ → List ℕ → ℕ → Bool
peer_kept waiting requests ticks tags sent p =
    (bit_of waiting p && waiter_kept requests ticks (get_or tags p 0) (get_or sent p 0))
    || (not (bit_of waiting p) && idle_kept (get_or tags p 0) (get_or sent p 0))

-- 'the waiting peers' tags differ': two peers do not both wait with one tag
abbrev pub tags_differ : ℕ → List ℕ → ℕ → ℕ → Bool
tags_differ waiting tags p q = not (bit_of waiting p && bit_of waiting q && eqb (get_or tags p 0) (get_or tags q 0))

-- all sixteen
unfoldable pub peers_kept : ℕ → ℕ → ℕ → List ℕ → List ℕ → Bool
peers_kept waiting requests ticks tags sent =
    all_below 16 (peer_kept waiting requests ticks tags sent) && all_below 16 (λ p. all_below p (tags_differ waiting tags p))
