-- Two bytes at the place, each a digit or not.
use Rattle.std.proofs.Common.{sym, arith}
use Rattle.dates.proofs.DateLaws.{two_made, two_other, two_short}
use Rattle.dates.proofs.read.two_at.Goals as goal
use Rattle.dates.proofs.read.two_at.Goals.{then-line-at-via-then-line-at, then-line-at-via-else-line-at+then-line-at-lt2, then-tens-lt48-via-then-tens-lt48, then-tens-lt48-via-else-tens-lt48+then-tens-gt57, then-tens-lt48-via-else-tens-lt48+else-tens-gt57+then-ones-lt48, then-tens-lt48-via-else-tens-lt48+else-tens-gt57+else-ones-lt48+then-ones-gt57}

pub returns-then-line-at : goal.returns-then-line-at
returns-then-line-at c =
    sym
    (elim c.then-line-at.branch [
      | then-line-at-via-then-line-at w ↦ two_short _ _ (omega arith)
      | then-line-at-via-else-line-at+then-line-at-lt2 w ↦ two_short _ _ (omega arith)
    ])

pub returns-then-tens-lt48 : goal.returns-then-tens-lt48
returns-then-tens-lt48 c =
    sym
    (two_other _ _ (omega arith)
    (λ a b x y. elim c.then-tens-lt48.branch [
      | then-tens-lt48-via-then-tens-lt48 w ↦ omega arith
      | then-tens-lt48-via-else-tens-lt48+then-tens-gt57 w ↦ omega arith
      | then-tens-lt48-via-else-tens-lt48+else-tens-gt57+then-ones-lt48 w ↦ omega arith
      | then-tens-lt48-via-else-tens-lt48+else-tens-gt57+else-ones-lt48+then-ones-gt57 w ↦ omega arith
    ]))

pub returns : goal.returns
returns c = sym (two_made _ _ (omega arith) (omega arith) (omega arith) (omega arith) (omega arith))
