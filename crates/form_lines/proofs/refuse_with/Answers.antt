-- By whether the buffer is too short.
use Rattle.form_lines.proofs.WrittenLaws.{refused_short, refused_long}
use Rattle.form_lines.proofs.refuse_with.Goals as goal

pub returns-then-out-lt-LEAST_OUTPUT : goal.returns-then-out-lt-LEAST_OUTPUT
returns-then-out-lt-LEAST_OUTPUT c = refused_short _ _ c.if-out-lt-LEAST_OUTPUT.true

pub returns : goal.returns
returns c = refused_long _ _ c.if-out-lt-LEAST_OUTPUT.false
