-- Nineteen bytes, one part after the other.
use mathlib.Core.Path.{refl}
use native.Mathlib.Omega.{arith}
use Rattle.dates.specs.DateText.{date_text}
use Rattle.dates.proofs.PlacedLaws.{placed, placed_digits, placed_both, fields_length, day_fields, time_fields}
use Rattle.dates.proofs.write.put_date.Goals as goal

pub put_fields-at-requires : goal.put_fields-at-requires
put_fields-at-requires c =
    let p0 = placed_digits 4 _ (omega arith) c.put_four-at.ensures in
    record { at_in_bounds = omega (arith, p0.place, p0.same); second_bound = omega arith; third_bound = omega arith }

pub put_two-at-requires : goal.put_two-at-requires
put_two-at-requires c =
    let p0 = placed_digits 4 _ (omega arith) c.put_four-at.ensures in
    let p1 = placed 6 (fields_length _ _ _) (omega (arith, p0.place, p0.same)) c.put_fields-at.ensures in
    let p2 = placed 1 refl (omega (arith, p0.place, p0.same, p1.place, p1.same)) c.put_bytes-at.ensures in
    record { two_bound = omega arith; at_in_bounds = omega (arith, p0.place, p0.same, p1.place, p1.same, p2.place, p2.same) }

pub put_fields-requires : goal.put_fields-requires
put_fields-requires c =
    let p0 = placed_digits 4 _ (omega arith) c.put_four-at.ensures in
    let p1 = placed 6 (fields_length _ _ _) (omega (arith, p0.place, p0.same)) c.put_fields-at.ensures in
    let p2 = placed 1 refl (omega (arith, p0.place, p0.same, p1.place, p1.same)) c.put_bytes-at.ensures in
    let p3 = placed_digits 2 _ (omega (arith, p0.place, p0.same, p1.place, p1.same, p2.place, p2.same)) c.put_two-at.ensures in
    record {
      at_in_bounds = omega (arith, p0.place, p0.same, p1.place, p1.same, p2.place, p2.same, p3.place, p3.same);
      second_bound = omega arith;
      third_bound = omega arith;
    }

pub returns : goal.returns
unfolding date_text
returns c =
    let p0 = placed_digits 4 _ (omega arith) c.put_four-at.ensures in
    let p1 = placed 6 (fields_length _ _ _) (omega (arith, p0.place, p0.same)) c.put_fields-at.ensures in
    let p2 = placed 1 refl (omega (arith, p0.place, p0.same, p1.place, p1.same)) c.put_bytes-at.ensures in
    let p3 = placed_digits 2 _ (omega (arith, p0.place, p0.same, p1.place, p1.same, p2.place, p2.same)) c.put_two-at.ensures in
    let p4 = placed 6 (fields_length _ _ _) (omega (arith, p0.place, p0.same, p1.place, p1.same, p2.place, p2.same, p3.place, p3.same)) c.put_fields.ensures in
    let day = placed_both p0 p1 (omega arith) in
    let time = placed_both p3 p4 (omega (arith, p0.place, p0.same, p1.place, p1.same, p2.place, p2.same)) in
    let d = c.args.date in
    rw (day_fields d.year d.month d.day, time_fields d.hour d.minute d.second)
    (placed_both (placed_both day p2 (omega arith)) time (omega arith)).put
