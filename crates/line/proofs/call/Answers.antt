-- Under 256 bytes nothing is touched, and otherwise the answer, the keeper and the bytes are those of
-- `answered`.
use mathlib.Core.Path.{sym, ap, ◌∙◌}
use Rattle.keeper.specs.declared.Outcome.{Outcome}
use Rattle.line.proofs.ResponseLaws.{listed, called_untouched, called_wrote}
use Rattle.line.proofs.call.Goals as goal

pub returns-then-out-lt-LEAST_OUTPUT : goal.returns-then-out-lt-LEAST_OUTPUT
returns-then-out-lt-LEAST_OUTPUT c = rw c.number.ensures (called_untouched _ _ c.if-out-lt-LEAST_OUTPUT.true)

pub write_answer-length-requires : goal.write_answer-length-requires
write_answer-length-requires c =
    let same = c.answer_to-outcome.ensures in
    (c.if-out-lt-LEAST_OUTPUT.false, λ h. rw same (listed _ _ (sym (ap (λ (o : Outcome). o.answer) same) ∙ h)))

pub returns : goal.returns
returns c =
    let same = c.answer_to-outcome.ensures in
    let room = c.if-out-lt-LEAST_OUTPUT.false in
    rw c.number_of.ensures (called_wrote _ _ _ room (sym same) c.write_answer-length.ensures)
