-- Six bytes, one part after the other.
use mathlib.Core.Path.{refl}
use native.Mathlib.Omega.{arith}
use Rattle.dates.specs.DateText.{fields_text}
use Rattle.dates.proofs.PlacedLaws.{placed, placed_digits, placed_both}
use Rattle.dates.proofs.write.put_fields.Goals as goal

pub put_two-at-requires : goal.put_two-at-requires
put_two-at-requires c =
    let p0 = placed 1 refl (omega arith) c.put_bytes-at.ensures in
    omega (arith, p0.place, p0.same)

pub put_two-requires : goal.put_two-requires
put_two-requires c =
    let p0 = placed 1 refl (omega arith) c.put_bytes-at.ensures in
    let p1 = placed_digits 2 _ (omega (arith, p0.place, p0.same)) c.put_two-at.ensures in
    let p2 = placed 1 refl (omega (arith, p0.place, p0.same, p1.place, p1.same)) c.put_bytes-at-2.ensures in
    omega (arith, p0.place, p0.same, p1.place, p1.same, p2.place, p2.same)

pub returns : goal.returns
unfolding fields_text
returns c =
    let p0 = placed 1 refl (omega arith) c.put_bytes-at.ensures in
    let p1 = placed_digits 2 _ (omega (arith, p0.place, p0.same)) c.put_two-at.ensures in
    let p2 = placed 1 refl (omega (arith, p0.place, p0.same, p1.place, p1.same)) c.put_bytes-at-2.ensures in
    let p3 = placed_digits 2 _ (omega (arith, p0.place, p0.same, p1.place, p1.same, p2.place, p2.same)) c.put_two.ensures in
    (placed_both (placed_both (placed_both p0 p1 (omega arith)) p2 (omega arith)) p3 (omega arith)).put
