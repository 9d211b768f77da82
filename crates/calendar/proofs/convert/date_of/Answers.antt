-- A moment of the two hundred years has its second, counted from 1900, among theirs.
use Rattle.std.proofs.Common.{◌≡◌, ◌∙◌, true, rules, ℤ, pos, ◌+ℤ◌, w64, SFits, to_z, of_z}
use Rattle.std.proofs.lemmas.Int.{to_z-of_z}
use Rattle.moment.proofs.Integers.{ints}
use Rattle.calendar.specs.Conversion.{in_years, floor_second}
use Rattle.calendar.proofs.MomentLaws.{years_made, second_of, second_is, second_fits, second_below, one_is}
use Rattle.calendar.proofs.convert.date_of.Goals as goal

-- the second that the code counts from 2000, and then from 1900
counted : (m z : ℤ) → SFits w64 m → in_years m ≡ true → z ≡ floor_second (to_z w64 (of_z w64 m)) → to_z w64 (of_z w64 (to_z w64 (of_z w64 z) +ℤ pos 3155673600)) ≡ pos (second_of m)
counted m z f e q =
    let read : to_z w64 (of_z w64 z) ≡ floor_second m = rw (q, to_z-of_z w64 m f) (to_z-of_z w64 _ (second_fits m e)) in
    let h = second_below m e in
    let fits : SFits w64 (pos (second_of m)) = omega ints in
    rw (read, second_is m e) (to_z-of_z w64 _ fits)

pub overflow_cast-second : goal.overflow_cast-second
overflow_cast-second c =
    let there : in_years c.args.moment ≡ true = search (rules, years_made, to_z-of_z) in
    let h = second_below c.args.moment there in
    rw (counted _ _ c.ranges.moment there c.second_of.ensures) (tt, omega ints)

pub returns : goal.returns
returns c =
    let there : in_years c.args.moment ≡ true = search (rules, years_made, to_z-of_z) in
    one_is there c.date_at.ensures.0 (c.date_at.ensures.1 ∙ rw (counted _ _ c.ranges.moment there c.second_of.ensures))
