-- An image after one command, by what the command changes. The places are those of `image/specs/Layout.antt`.
use Rattle.std.specs.Prelude.{Bool, ◌&&◌, List, ℕ, ◌+◌, ◌*◌, eqb, leb, length, get_or}
use Rattle.bits.specs.Choice.{choose}
use Rattle.moment.specs.declared.Interval.{Interval}
use Rattle.image.specs.Bytes.{lowest_first, stored}
use Rattle.image.specs.Layout.{image_length, edge_bytes}

-- A buffer of an image's length, and a peer that has places in it.
unfoldable pub has_peer : List ℕ → ℕ → Bool
has_peer image peer = eqb (length image) image_length && leb peer 15

-- The mask of the waiting peers put, and one peer's tag and tick count.
unfoldable pub peer_stored : List ℕ → ℕ → ℕ → ℕ → ℕ → List ℕ
peer_stored image waiting peer tag ticks =
    stored (stored (stored image 6 (lowest_first 2 waiting)) (40 + 4 * peer) (lowest_first 4 tag)) (104 + 8 * peer) (lowest_first 8 ticks)

-- After a pass: other edges and other ticks.
unfoldable pub passed_image : List ℕ → Interval → ℕ → List ℕ
passed_image image edges ticks =
    choose (eqb (length image) image_length) (λ _. stored (stored image 8 (edge_bytes edges)) 24 (lowest_first 8 ticks)) (λ _. image)

-- After a request: the requests sent, which are its tag too, and the ticks as the peer's tick count.
unfoldable pub asked_image : List ℕ → ℕ → ℕ → ℕ → ℕ → List ℕ
asked_image image waiting requests peer ticks =
    choose (has_peer image peer) (λ _. peer_stored (stored image 32 (lowest_first 4 requests)) waiting peer requests ticks) (λ _. image)

-- After a reply or a drop: other edges, another conflict count, and 0 for the peer's tag and tick count.
unfoldable pub ended_image : List ℕ → ℕ → Interval → ℕ → ℕ → List ℕ
ended_image image waiting edges conflicts peer =
    choose (has_peer image peer)
    (λ _. peer_stored (stored (stored image 8 (edge_bytes edges)) 36 (lowest_first 4 conflicts)) waiting peer 0 0)
    (λ _. image)

-- After a flight: the peer's out time and its back time, of those of all peers.
unfoldable pub flight_image : List ℕ → ℕ → List ℕ → List ℕ → List ℕ
flight_image image peer out back =
    choose (has_peer image peer)
    (λ _.
    stored (stored image (232 + 4 * peer) (lowest_first 4 (get_or out peer 0))) (296 + 4 * peer) (lowest_first 4 (get_or back peer 0)))
    (λ _. image)
