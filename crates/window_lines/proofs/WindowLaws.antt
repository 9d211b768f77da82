-- The room for the parts of a window's line: after parts that were put at the front, there is the room that they left.
use mathlib.Core.List.{List}
use Prim.Native.Nat.{ℕ, ◌+◌, ◌≤◌}
use native.Mathlib.Omega.{arith}
use lib.ListN.{length}
use Rattle.text.proofs.OutputLaws.{put_room, put_length}
use Rattle.writing.specs.Puts.{Puts}

pub front_room : {out s after : List ℕ} {n : ℕ} (k : ℕ) → Puts out 0 s after n → length s + k ≤ length out → n + k ≤ length after
front_room {out} {s} {after} {n} k p h =
    let room : 0 + length s ≤ length out = omega arith in
    omega (arith, (put_room {at = 0} room (p.put room)).1, put_length (p.put room))
