-- The number of digits before what goes on and the first of them pick the answer.
use Rattle.std.proofs.Common.{sym, ◌∙◌, arith}
use Rattle.numeral.proofs.Answers.{first_none, first_long, first_zero, first_some}
use Rattle.numeral.proofs.read.first_group.Goals as goal
use Rattle.numeral.proofs.read.first_group.Goals.{then-count-eq0-via-then-count-eq0, then-count-eq0-via-else-count-eq0+then-count-gt3, then-count-eq0-via-else-count-eq0+else-count-gt3+then-line-at-eq48}

pub returns-then-count-eq0 : goal.returns-then-count-eq0
returns-then-count-eq0 c =
    sym
    (elim c.then-count-eq0.branch [
      | then-count-eq0-via-then-count-eq0 w ↦ first_none c.requires w.if-count-eq0.true
      | then-count-eq0-via-else-count-eq0+then-count-gt3 w ↦ first_long c.requires w.if-count-gt3.true
      | then-count-eq0-via-else-count-eq0+else-count-gt3+then-line-at-eq48 w ↦ first_zero c.requires (omega arith) w.if-count-gt3.false w.if-line-at-eq48.true
    ])

pub read_groups-requires : goal.read_groups-requires
read_groups-requires c =
    let read = c.requires in
    record { small = read.progress.passed.small; most = omega arith; inside = omega arith }

pub returns : goal.returns
returns c =
    c.read_groups.ensures
    ∙ sym (first_some c.requires (omega arith) c.if-count-gt3.false c.if-line-at-eq48.false)
