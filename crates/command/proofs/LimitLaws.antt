-- Laws of the limits, for the proofs of the code: what the tests on the way say of `integer_of`, `bounds_of` and `limited`.
use mathlib.Core.Path.{◌≡◌, refl}
use mathlib.Core.Bool.{Bool, true, false, ◌&&◌}
use Prim.Native.Nat.{ℕ, ◌<◌, ◌≤◌}
use native.Mathlib.Omega.{arith}
use borrow.Author.Tests.{leb-true, leb-false}
use lib.Dec.{leb}
use lib.IntN.{ℤ, pos, neg_ℤ}
use mir.Syntax.{w64}
use mir.Val.{to_z, of_z, SFits}
use mir.Facts.{to_z-of_z}
use Rattle.bits.specs.Choice.{choose}
use Rattle.numeral.specs.Reading.{integer}
use Rattle.moment.specs.Moment.{in_range}
use Rattle.moment.proofs.Integers.{ints, below}
use Rattle.moment.proofs.IntervalLaws.{range_before, range_after}
use Rattle.command.specs.Forms.{Form}
use Rattle.command.specs.Limits.{board_within, claim_within, ticks_within, tag_within, slot_within, keeps, command_of, limited}
use Rattle.command.specs.Edges.{edge_value, integer_of}
use Rattle.std.specs.Prelude.{Some, None, Ok, Err}
use Rattle.refusal.specs.declared.Refusal.TheVariants.{OutsideLimits}
use Rattle.numeral.specs.declared.read.Signed.{Signed}

-- ---- one number

pub slot_bound : (n : ℕ) → slot_within n ≡ true → n ≤ 15
unfolding slot_within
slot_bound n e = leb-true n 15 e

pub board_bound : (n : ℕ) → board_within n ≡ true → n ≤ 15
unfolding board_within
board_bound n e = leb-true n 15 e

pub claim_bound : (n : ℕ) → claim_within n ≡ true → n ≤ 50000
unfolding claim_within
claim_bound n e = leb-true n 50000 e

pub ticks_bound : (n : ℕ) → ticks_within n ≡ true → n ≤ 86400000
unfolding ticks_within
ticks_bound n e = leb-true n 86400000 e

pub tag_bound : (n : ℕ) → tag_within n ≡ true → n ≤ 16777215
unfolding tag_within
tag_bound n e = go (leb 1 n) e
  where
    go : (t : Bool) → (t && leb n 16777215) ≡ true → n ≤ 16777215
    go true h = leb-true n 16777215 h
    go false h = absurd (let k : ◌≡◌ {A = ℕ} 0 1 = cc in omega arith)

-- ---- an edge

fits : (negative : Bool) (m : ℕ) → m ≤ 9223372036854775807 → SFits w64 (integer negative m)
fits true m h = omega (ints, below m)
fits false m h = omega ints

far : (negative : Bool) (m : ℕ) → 9223372036854775807 < m → in_range (integer negative m) ≡ false
far true m h = range_before (neg_ℤ (pos m)) (omega (ints, below m))
far false m h = range_after (pos m) (omega ints)

-- an integer that was found, as the machine holds it; one that was not is outside the range
pub found_edge : (e : Signed) (z : ℤ) → integer_of e ≡ Some z → to_z w64 (of_z w64 z) ≡ edge_value e
unfolding integer_of
found_edge e z h = go (leb e.magnitude 9223372036854775807) refl h
  where
    go : (t : Bool) → leb e.magnitude 9223372036854775807 ≡ t → choose t (λ _. Some (edge_value e)) (λ _. None) ≡ Some z → to_z w64 (of_z w64 z) ≡ edge_value e
    go true p h =
        let same : edge_value e ≡ z = cc in
        rw (← same) (to_z-of_z (fits e.negative e.magnitude (leb-true e.magnitude 9223372036854775807 p)))
    go false p h = absurd (let k : ◌≡◌ {A = ℕ} 0 1 = cc in omega arith)

pub far_edge : (e : Signed) → integer_of e ≡ None → in_range (edge_value e) ≡ false
unfolding integer_of
far_edge e h = go (leb e.magnitude 9223372036854775807) refl h
  where
    go : (t : Bool) → leb e.magnitude 9223372036854775807 ≡ t → choose t (λ _. Some (edge_value e)) (λ _. None) ≡ None → in_range (edge_value e) ≡ false
    go true p h = absurd (let k : ◌≡◌ {A = ℕ} 0 1 = cc in omega arith)
    go false p h = far e.negative e.magnitude (leb-false e.magnitude 9223372036854775807 p)

-- ---- a form, by whether it keeps its limits

pub limited_keeps : (f : Form) → keeps f ≡ true → limited f ≡ Ok (command_of f)
unfolding limited
limited_keeps f e = rw e

pub limited_breaks : (f : Form) → keeps f ≡ false → limited f ≡ Err OutsideLimits
unfolding limited
limited_breaks f e = rw e
