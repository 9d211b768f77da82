-- Each byte is told to be a digit on the way.
use Rattle.std.proofs.Common.{arith}
use Rattle.numeral.proofs.Reading.{digit_here, four_here}
use Rattle.numeral.proofs.read.four_digits.Goals as goal

pub returns : goal.returns
returns c =
    let inside = c.requires in
    four_here (omega arith)
    (digit_here _ _ _ (omega (arith, inside)) c.if-a-gt9.false c.digit-a.ensures)
    (digit_here _ _ _ (omega (arith, inside)) c.if-b-gt9.false c.digit-b.ensures)
    (digit_here _ _ _ (omega (arith, inside)) c.if-c-gt9.false c.digit-c.ensures)
    (digit_here _ _ _ (omega (arith, inside)) c.if-d-gt9.false c.digit-d.ensures)
