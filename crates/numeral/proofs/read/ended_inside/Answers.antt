-- The value and the first two bytes pick the answer.
use Rattle.std.proofs.Common.{sym, arith}
use Rattle.numeral.proofs.Answers.{inside_zeros, inside_zero, inside_none, inside_some}
use Rattle.numeral.proofs.read.ended_inside.Goals as goal

-- a 0 and another digit
pub returns-then-digit-le9 : goal.returns-then-digit-le9
returns-then-digit-le9 c = sym (inside_zeros c.requires c.if-line-at-eq48.true c.digit.ensures (omega (arith, c.if-digit-le9.true)))

-- 0 itself
pub returns-else-digit-le9 : goal.returns-else-digit-le9
returns-else-digit-le9 c = sym (inside_zero c.requires c.if-line-at-eq48.true c.digit.ensures c.if-digit-le9.false)

-- no digit
pub returns-then-value-eq0 : goal.returns-then-value-eq0
returns-then-value-eq0 c = sym (inside_none c.requires c.if-line-at-eq48.false c.if-value-eq0.true)

pub returns-else-value-eq0 : goal.returns-else-value-eq0
returns-else-value-eq0 c = sym (inside_some c.requires c.if-line-at-eq48.false c.if-value-eq0.false)
