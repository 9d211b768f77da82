-- How many LFs there are in a turn's bytes, and in what it leaves.
use mathlib.Core.Path.{◌≡◌}
use mathlib.Core.Bool.{Bool, false}
use mathlib.Core.List.{List}
use Prim.Native.Nat.{ℕ, ◌+◌, ◌≤◌}
use native.Mathlib.Omega.{arith}
use lib.ListN.{length}
use Rattle.lines.specs.Lines.{breaks, joined}
use Rattle.lines.proofs.LineLaws.{breaks_append, breaks_joined}
use Rattle.stream.specs.Stream.{Turn}
use Rattle.stream.proofs.Splitting.{take_unbroken}
use Rattle.bits.proofs.Tests.{by_test}

module _ {S : Type 0} {next : S → List ℕ → S} {answer : S → List ℕ → List ℕ} {most : ℕ} where
  module _ {s s' : S} {bytes left o : List ℕ} {full : Bool} (t : Turn next answer most s bytes s' left o full) where
    -- The LFs of a turn's bytes are those of its lines and of the rest.
    pub turn_breaks : breaks bytes ≡ length t.lines + breaks t.rest
    turn_breaks = rw (t.bytes_are, breaks_append (joined t.lines) t.rest, breaks_joined t.lines t.whole)

    -- A turn leaves no LF unless it had no room left.
    pub turn_unbroken : full ≡ false → breaks left ≡ 0
    turn_unbroken e = let u : breaks t.rest ≡ 0 = (t.held e).1 in rw ((t.held e).0, take_unbroken)

    -- What a turn leaves has the LFs of the rest.
    left_breaks : breaks left ≡ breaks t.rest
    left_breaks = by_test full (λ e. rw (t.more e).0) (λ e. rw (turn_unbroken e, (t.held e).1))

    -- Every LF of a turn's bytes ends a line that it answered, or is left.
    pub turn_count : breaks bytes ≡ length t.lines + breaks left
    turn_count = rw left_breaks turn_breaks

    -- Of bytes with at most one LF, no LF is in the rest.
    pub rest_unbroken : breaks bytes ≤ 1 → breaks t.rest ≡ 0
    rest_unbroken h = by_test full (λ e. let m = t.more e in omega (arith, turn_breaks)) (λ e. (t.held e).1)
