-- What a keeper holds, and when one that is handed in counts as started: document 01, 'Moments and ticks', and document 02, order 7.
use Rattle.std.specs.Prelude.{Bool, false, not, ◌&&◌, ℕ, ◌+◌, leb, get_or, replicate, pos}
use Rattle.bits.specs.Bits.{bit_of}
use Rattle.bits.specs.Below.{count_below}
use Rattle.peers.specs.Peers.{peers_kept}
use Rattle.flights.specs.Flights.{flights_kept}
use Rattle.moment.specs.declared.Interval.{Interval}
use Rattle.moment.specs.Intervals.{interval, edges_within}
use Rattle.rules.specs.declared.Rule.{Rule}
use Rattle.rules.specs.declared.Rule.TheVariants.{Im}
use Rattle.command.specs.Limits.{board_within, claim_within}
use Rattle.keeper.specs.declared.Keeper.{Keeper}

-- 'whether it has started, its board number 0..15, its rule, its claim, a lower and an upper edge, ticks passed since the start, requests
-- sent, the conflict count, and for each other board (a peer, 0..15) whether a request waits, its tag, and the tick count when it was sent'; and
-- 'Each peer's record gains an out time and a back time'
pub record State : Type 0 where
  pub started : Bool
  pub board : ℕ
  pub rule : Rule
  pub claim : ℕ
  pub edges : Interval
  pub ticks : ℕ
  pub requests : ℕ
  pub conflicts : ℕ
  pub waits : ℕ → Bool
  pub tag : ℕ → ℕ
  pub sent_at : ℕ → ℕ
  pub out : ℕ → ℕ
  pub back : ℕ → ℕ

-- 'pass the ticks above 4000000000000000000', 'request after 16777215 were sent'
abbrev pub most_ticks : ℕ
most_ticks = 4000000000000000000

abbrev pub most_requests : ℕ
most_requests = 16777215

-- 'its numbers lie within the limits on this page, its edges are in order'
unfoldable pub numbers_kept : ℕ → ℕ → Interval → ℕ → ℕ → Bool
numbers_kept board claim edges ticks requests =
    board_within board && (claim_within claim && (edges_within edges && (leb ticks most_ticks && leb requests most_requests)))

-- 'A keeper handed in counts as not started unless [the numbers are kept], conflicts plus waiting are at most the requests sent, the board
-- itself isn't waiting, and the waiting peers' tags differ, ..' WAITING is 'held as one bit a peer'. 'A keeper handed in with either [flight time]
-- above that counts as not started.'
unfoldable pub counts_as_started : Keeper → Bool
counts_as_started k =
    k.started
    && (numbers_kept k.board k.claim k.edges k.ticks k.requests
    && (leb (k.conflicts + count_below 16 (bit_of k.waiting)) k.requests
    && (not (bit_of k.waiting k.board)
    && (peers_kept k.waiting k.requests k.ticks k.tags k.sent_at && flights_kept k.out k.back))))

-- The values of a keeper that is handed in: it has started only if it counts as started.
unfoldable pub state_of : Keeper → State
state_of k =
    record {
      started = counts_as_started k;
      board = k.board;
      rule = k.rule;
      claim = k.claim;
      edges = k.edges;
      ticks = k.ticks;
      requests = k.requests;
      conflicts = k.conflicts;
      waits = bit_of k.waiting;
      tag = λ p. get_or k.tags p 0;
      sent_at = λ p. get_or k.sent_at p 0;
      out = λ p. get_or k.out p 0;
      back = λ p. get_or k.back p 0;
    }

-- 'A fresh keeper isn't started, its rule is im, nothing waits and every number is 0.' The flight times are 'both 0 at the start'.
unfoldable pub fresh : Keeper
fresh =
    record {
      started = false;
      board = 0;
      rule = Im;
      claim = 0;
      edges = interval (pos 0) (pos 0);
      ticks = 0;
      requests = 0;
      conflicts = 0;
      waiting = 0;
      tags = replicate 16 0;
      sent_at = replicate 16 0;
      out = replicate 16 0;
      back = replicate 16 0;
    }
