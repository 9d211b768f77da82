-- A keeper as an image: 360 bytes, numbers lowest byte first, so that a board can keep it over a reset and go on. By place:
--     0 version (2)   1 started (0, 1)   2 board   3 rule (0 im, 1 mm)   4 claim, 2 bytes   6 the waiting peers' bits, 2 bytes
--     8 lower edge, 16 upper edge: 8 bytes each, in two's complement     24 ticks, 8 bytes
--     32 requests sent, 36 conflict count: 4 bytes each
--     40 the sixteen peers' tags, 4 bytes each      104 their tick counts, 8 bytes each
--     232 their out times, 296 their back times: 4 bytes each
-- Version 1 had 232 bytes, without the flight times of document 02, order 7.
use Rattle.std.specs.Prelude.{◌≡◌, Bool, true, false, ◌&&◌, List, [], ◌∷◌, ◌++◌, ℕ, ◌<◌, ◌^◌, eqb, leb, length, get_or}
use Rattle.std.specs.Int.{w64}
use Rattle.std.proofs.Common.{SFits, of_z, to_z}
use Rattle.bits.specs.Choice.{choose}
use Rattle.moment.specs.declared.Interval.{Interval}
use Rattle.moment.specs.Intervals.{interval}
use Rattle.rules.specs.Rules.{rule_number}
use Rattle.rules.specs.declared.Rule.{Rule}
use Rattle.rules.specs.declared.Rule.TheVariants.{Im, Mm}
use Rattle.keeper.specs.State.{fresh}
use Rattle.keeper.specs.declared.Keeper.{Keeper}
use Rattle.image.specs.Bytes.{number, numbers, lowest_first, each_lowest_first}

abbrev pub image_length : ℕ
image_length = 360

abbrev pub version : ℕ
version = 2

abbrev pub flag : Bool → ℕ
flag true = 1
flag false = 0

-- places 0 to 3, and 0 to 7
abbrev pub mark_bytes : Keeper → List ℕ
mark_bytes k = version ∷ flag k.started ∷ k.board ∷ rule_number k.rule ∷ []

abbrev pub head_bytes : Keeper → List ℕ
head_bytes k = mark_bytes k ++ lowest_first 2 k.claim ++ lowest_first 2 k.waiting

-- places 8 to 23
abbrev pub edge_bytes : Interval → List ℕ
edge_bytes edges = lowest_first 8 (of_z w64 edges.lower) ++ lowest_first 8 (of_z w64 edges.upper)

-- places 24 to 39
abbrev pub count_bytes : Keeper → List ℕ
count_bytes k = lowest_first 8 k.ticks ++ lowest_first 4 k.requests ++ lowest_first 4 k.conflicts

-- places 40 to 231
abbrev pub peer_bytes : Keeper → List ℕ
peer_bytes k = each_lowest_first 4 k.tags ++ each_lowest_first 8 k.sent_at

-- places 232 to 359
abbrev pub flight_bytes : Keeper → List ℕ
flight_bytes k = each_lowest_first 4 k.out ++ each_lowest_first 4 k.back

-- all but the peers' places
abbrev pub own_bytes : Keeper → List ℕ
own_bytes k = head_bytes k ++ edge_bytes k.edges ++ count_bytes k

-- The image of a keeper.
unfoldable pub image_of : Keeper → List ℕ
image_of k = own_bytes k ++ peer_bytes k ++ flight_bytes k

-- A buffer after a keeper was stored into it: one of another length is left as it was.
unfoldable pub image_after : List ℕ → Keeper → List ℕ
image_after before k = choose (eqb (length before) image_length) (λ _. image_of k) (λ _. before)

-- The rule of a byte that is 0 or 1.
abbrev pub rule_of : Bool → Rule
rule_of true = Mm
rule_of false = Im

-- An image can be read if it has the length, the version, and for started and rule a byte that is written for them.
unfoldable pub readable : List ℕ → Bool
readable l = eqb (length l) image_length && eqb (get_or l 0 0) version && leb (get_or l 1 0) 1 && leb (get_or l 3 0) 1

-- What stands in it.
unfoldable pub keeper_at : List ℕ → Keeper
keeper_at l =
    record {
      started = eqb (get_or l 1 0) 1;
      board = get_or l 2 0;
      rule = rule_of (eqb (get_or l 3 0) 1);
      claim = number 2 4 l;
      edges = interval (to_z w64 (number 8 8 l)) (to_z w64 (number 8 16 l));
      ticks = number 8 24 l;
      requests = number 4 32 l;
      conflicts = number 4 36 l;
      waiting = number 2 6 l;
      tags = numbers 16 4 40 l;
      sent_at = numbers 16 8 104 l;
      out = numbers 16 4 232 l;
      back = numbers 16 4 296 l;
    }

-- The keeper of an image: one that can't be read counts as not started, as a fresh keeper does.
unfoldable pub keeper_in : List ℕ → Keeper
keeper_in l = choose (readable l) (λ _. keeper_at l) (λ _. fresh)

-- Every number of a list is below a bound.
abbrev pub AllBelow : ℕ → List ℕ → Type 0
AllBelow bound [] = Unit {0}
AllBelow bound (n ∷ ns) = (n < bound) × AllBelow bound ns

-- The numbers fit the fields that the struct has for them. Those of every keeper that a run of lines makes do (`kept_read_back`).
pub record Fitting (k : Keeper) : Type 0 where
  pub board : k.board < 256
  pub claim : k.claim < 256 ^ 2
  pub lower : SFits w64 k.edges.lower
  pub upper : SFits w64 k.edges.upper
  pub ticks : k.ticks < 256 ^ 8
  pub requests : k.requests < 256 ^ 4
  pub conflicts : k.conflicts < 256 ^ 4
  pub waiting : k.waiting < 256 ^ 2
  pub tags : (length k.tags ≡ 16) × AllBelow (256 ^ 4) k.tags
  pub sent_at : (length k.sent_at ≡ 16) × AllBelow (256 ^ 8) k.sent_at
  pub out : (length k.out ≡ 16) × AllBelow (256 ^ 4) k.out
  pub back : (length k.back ≡ 16) × AllBelow (256 ^ 4) k.back
