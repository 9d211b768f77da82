-- The place after a '-' or none, and what `read` answers there, pick the case of `signed_at`.
use Rattle.std.proofs.Common.{◌≡◌, Some, None, unwrap_or, sym, ◌∙◌}
use Rattle.bits.proofs.Tests.{clash}
use Rattle.numeral.specs.Reading.{number_at, signed_at}
use Rattle.numeral.proofs.SignedNumerals.{signed_none, signed_zero, signed_some}
use Rattle.numeral.proofs.read.read_signed.Goals as goal
use Rattle.numeral.proofs.read.read_signed.Goals.{else-negative-via-then-negative+else-magnitude-eq0, else-negative-via-else-negative}

pub returns-in_err-magnitude : goal.returns-in_err-magnitude
unfolding signed_at
returns-in_err-magnitude c =
    let none : number_at c.args.line.now (unwrap_or c.word_at-minus.result c.args.at) ≡ None = rw (← c.unwrap_or.ensures) (sym c.read.ensures ∙ c.in_err-magnitude.was) in
    c.from_residual.ensures ∙ sym (rw (← c.word_at-minus.ensures) (signed_none _ _ _ none))

pub returns-then-magnitude-eq0 : goal.returns-then-magnitude-eq0
unfolding signed_at
returns-then-magnitude-eq0 c =
    let some : number_at c.args.line.now (unwrap_or c.word_at-minus.result c.args.at) ≡ Some (c.in_ok-magnitude.magnitude, c.in_ok-magnitude.next) = rw (← c.unwrap_or.ensures) (sym c.read.ensures ∙ c.in_ok-magnitude.was) in
    sym (rw (← c.word_at-minus.ensures) (signed_zero _ _ _ _ _ (sym c.is_some-negative.ensures ∙ c.if-negative.true) c.if-magnitude-eq0.true some))

pub returns : goal.returns
unfolding signed_at
returns c =
    let some : number_at c.args.line.now (unwrap_or c.word_at-minus.result c.args.at) ≡ Some (c.in_ok-magnitude.magnitude, c.in_ok-magnitude.next) = rw (← c.unwrap_or.ensures) (sym c.read.ensures ∙ c.in_ok-magnitude.was) in
    rw (c.is_some-negative.ensures)
    (sym
    (rw (← c.word_at-minus.ensures)
    (signed_some _ _ _ _ _
    (λ b z. elim c.else-negative.branch [
      | else-negative-via-then-negative+else-magnitude-eq0 w ↦ w.if-magnitude-eq0.false z
      | else-negative-via-else-negative w ↦ clash b (sym c.is_some-negative.ensures ∙ w.if-negative.false)
    ])
    some)))
