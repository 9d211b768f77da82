-- A number below 10 is one digit.
use native.Mathlib.Omega.{arith}
use Rattle.text.specs.Words.{bytes}
use Rattle.numeral.proofs.Digits.{digits_one}
use Rattle.writing.proofs.PutsLaws.{one_put}
use Rattle.answers.specs.Answers.{line_of}
use Rattle.answers.proofs.LineLaws.{numbered_short}
use Rattle.answers.proofs.put_refusal.Goals as goal

pub returns-then-n-lt10 : goal.returns-then-n-lt10
unfolding line_of
returns-then-n-lt10 c k =
    let one = digits_one c.args.n c.if-n-lt10.true in
    rw one (record { puts = one_put c.put_bytes.ensures; short = omega arith })

pub returns : goal.returns
unfolding line_of
returns c k = numbered_short (bytes "(no ") c.args.n (omega arith) (omega (arith, c.ranges)) c.numbered_line.ensures
