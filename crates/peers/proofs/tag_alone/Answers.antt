use mathlib.Core.Path.{◌≡◌, refl}
use mathlib.Core.Bool.{Bool, true, false}
use mir.Val.{bool_byte}
use Prim.Native.Nat.{◌≤◌}
use native.Mathlib.Numerals.{add-one}
use native.Mathlib.Omega.{arith}
use Rattle.bits.specs.Below.{count_below, one}
use Rattle.peers.specs.Parts.{has_tag, tag_alone}
use Rattle.peers.proofs.tag_alone.Goals as goal

-- a flag as a number
byte_one : (t : Bool) → (bool_byte t ≡ one t) × (bool_byte t ≤ 1)
byte_one true = (refl, omega arith)
byte_one false = (refl, omega arith)

pub loop-other-init : goal.loop-other-init
unfolding count_below
loop-other-init c = (omega arith, refl)

pub loop-other-preserved : goal.loop-other-preserved
unfolding count_below
loop-other-preserved c =
    let k = c.loop-other in
    let a = c.args in
    let (same, small) = byte_one (has_tag a.tag a.tags.now k.other-index) in
    (omega (arith, c.from-times.ensures, small, k.invariant.0), rw (add-one k.other-index, c.from-times.ensures, same, k.invariant.1))

pub returns : goal.returns
unfolding tag_alone
returns c =
    let all : c.loop-other.other-index ≡ 16 = omega arith in
    rw (c.loop-other.invariant.1, all)
