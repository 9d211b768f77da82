-- The digits of a negative number stand behind its first byte, if they fit; then the '-' is stored there.
use Rattle.std.proofs.Common.{rules, ◌≡◌, ◌≤◌, length}
use native.Mathlib.Omega.{arith}
use Rattle.digits.proofs.FrontLaws.{none_front, lent_room, signed_below, signed_from, sign_front, sign_none}
use Rattle.digits.proofs.front.signed_front.Goals as goal

pub returns-then-is_empty : goal.returns-then-is_empty
returns-then-is_empty c =
    let none : length c.args.part.now ≡ 0 = search rules in
    rw (signed_below c.args.z c.ranges.z _ c.unsigned_abs-n.ensures.value c.if-z-lt0.true) (none_front (omega arith))

pub returns-in_err-count : goal.returns-in_err-count
returns-in_err-count c =
    let some : 1 ≤ length c.args.part.now = search rules in
    rw (signed_below c.args.z c.ranges.z _ c.unsigned_abs-n.ensures.value c.if-z-lt0.true)
    (sign_none some c.number_front.ensures c.in_err-count.was c.from_residual.ensures)

pub overflow_add-result : goal.overflow_add-result
overflow_add-result c =
    let some : 1 ≤ length c.args.part.now = search rules in
    omega (arith, lent_room c.args.part.now 1 some c.number_front.ensures c.in_ok-count.was)

pub returns-then-z-lt0 : goal.returns-then-z-lt0
returns-then-z-lt0 c =
    let some : 1 ≤ length c.args.part.now = search rules in
    rw (signed_below c.args.z c.ranges.z _ c.unsigned_abs-n.ensures.value c.if-z-lt0.true)
    (sign_front some c.number_front.ensures c.in_ok-count.was)

pub returns : goal.returns
returns c =
    rw (signed_from c.args.z c.ranges.z _ c.unsigned_abs-n.ensures.value c.if-z-lt0.false) c.number_front-2.ensures
