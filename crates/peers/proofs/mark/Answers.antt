-- The power of the number fits the mask, and marks that number.
use mathlib.Core.Path.{◌≡◌}
use Prim.Native.Nat.{◌*◌, ◌%◌, ◌^◌}
use native.Mathlib.Omega.{arith}
use lib.Pow.{pow-lt}
use Rattle.peers.proofs.Marks.{bit_marked}
use Rattle.peers.proofs.mark.Goals as goal

pub returns : goal.returns
returns c q =
    let fits : 1 * 2 ^ c.args.place % 2 ^ 64 ≡ 2 ^ c.args.place = omega (arith, pow-lt {i = c.args.place} {j = 64} (omega arith)) in
    rw fits (bit_marked c.args.seen c.args.place q)
