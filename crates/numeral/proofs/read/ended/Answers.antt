-- The number of digits and the first of them pick the answer.
use Rattle.std.proofs.Common.{sym, ◌∙◌, arith, eqb-true, le-ltb}
use borrow.Author.Tests.{eqb-false}
use Rattle.bits.proofs.Tests.{clash}
use Rattle.numeral.proofs.Answers.{absent_none, absent_zero, number_one, number_more}
use Rattle.numeral.proofs.read.ended.Goals as goal
use Rattle.numeral.proofs.read.ended.Goals.{then-count-eq0-via-then-count-eq0, then-count-eq0-via-else-count-eq0+then-line-at-eq48, then-count-gt1, else-count-gt1}

pub returns-then-count-eq0 : goal.returns-then-count-eq0
returns-then-count-eq0 c =
    sym
    (elim c.then-count-eq0.branch [
      | then-count-eq0-via-then-count-eq0 w ↦ absent_none c.requires w.if-count-eq0.true
      | then-count-eq0-via-else-count-eq0+then-line-at-eq48 w ↦ elim w.if-count-gt1.branch [
        | then-count-gt1 v ↦ absent_zero c.requires v.if-count-gt1.true (eqb-true _ 48 (sym v.value-is ∙ w.if-line-at-eq48.true))
        | else-count-gt1 v ↦ absurd (clash w.if-line-at-eq48.true (v.value-is ∙ le-ltb 1 _ v.if-count-gt1.false))
      ]
    ])

pub returns : goal.returns
returns c =
    sym
    (elim c.if-count-gt1.branch [
      | then-count-gt1 w ↦ number_more c.requires w.if-count-gt1.true (eqb-false _ 48 (sym w.value-is ∙ c.if-line-at-eq48.false))
      | else-count-gt1 w ↦ number_one c.requires (omega arith)
    ])
