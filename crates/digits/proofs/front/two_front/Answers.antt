-- A number below 10 has one digit, another below 100 has two.
use native.Mathlib.Omega.{arith}
use Rattle.numeral.proofs.Digits.{length_one}
use Rattle.digits.proofs.WidthLaws.{length_last, two_digits}
use Rattle.digits.proofs.FrontLaws.{none_front, first_front, put_front}
use Rattle.digits.proofs.front.two_front.Goals as goal

pub returns-then-part-more : goal.returns-then-part-more
returns-then-part-more c = none_front (omega (arith, length_one c.args.n (omega arith)))

pub returns-then-n-lt10 : goal.returns-then-n-lt10
returns-then-n-lt10 c =
    let a = c.args in
    first_front a.part.now a.more a.n (omega arith) (omega arith)

pub returns-then-part-more-2 : goal.returns-then-part-more-2
returns-then-part-more-2 c =
    let n = c.args.n in
    rw (two_digits n (omega arith) (omega arith)) (none_front (omega (arith, length_last 2 n)))

pub returns : goal.returns
returns c =
    let n = c.args.n in
    rw (two_digits n (omega arith) (omega arith)) (put_front (omega (arith, length_last 2 n)) c.put_two.ensures)
