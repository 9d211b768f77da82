-- A short output comes first, then what the line is read as; only a command looks at the
-- image.
use mathlib.Core.Path.{◌≡◌, sym, ◌∙◌}
use borrow.Author.Tests.{eqb-true, eqb-false}
use lib.ListN.{length}
use Rattle.image.specs.Layout.{image_length, keeper_in}
use Rattle.boardtime_lib.proofs.ImageLaws.{line_refused, line_short, line_command, line_err}
use Rattle.boardtime_lib.proofs.boardtime_line.Goals as goal

pub returns-then-not-is_image : goal.returns-then-not-is_image
returns-then-not-is_image c = line_refused _ (eqb-false _ _ (sym c.is_image.ensures ∙ c.if-not-is_image.true)) _ _

pub returns-then-out-lt-LEAST_OUTPUT : goal.returns-then-out-lt-LEAST_OUTPUT
returns-then-out-lt-LEAST_OUTPUT c = rw c.number.ensures (line_short _ (eqb-true _ _ (sym c.is_image.ensures ∙ c.if-not-is_image.false)) _ c.if-out-lt-LEAST_OUTPUT.true)

pub answer_command-requires : goal.answer_command-requires
answer_command-requires c =
    let whole : length c.args.image.now ≡ image_length =
    eqb-true _ _ (sym c.is_image.ensures ∙ c.if-not-is_image.false)
    in
    record { image_len = whole; least_output_in_bounds = c.if-out-lt-LEAST_OUTPUT.false }

pub returned-requires : goal.returned-requires
returned-requires c = (c.write_refusal.ensures (keeper_in c.args.image.now)).short

pub returns-in-Ok : goal.returns-in-Ok
returns-in-Ok c =
    let whole : length c.args.image.now ≡ image_length =
    eqb-true _ _ (sym c.is_image.ensures ∙ c.if-not-is_image.false)
    in
    line_command _ whole c.if-out-lt-LEAST_OUTPUT.false (sym c.read_command.ensures ∙ c.in-Ok.is) c.answer_command.ensures

pub returns-in-Err : goal.returns-in-Err
returns-in-Err c =
    let whole : length c.args.image.now ≡ image_length =
    eqb-true _ _ (sym c.is_image.ensures ∙ c.if-not-is_image.false)
    in
    rw (c.returned.ensures, c.number-number.ensures)
    (line_err _ whole _ c.if-out-lt-LEAST_OUTPUT.false (sym c.read_command.ensures ∙ c.in-Err.is) (rw c.number-number.ensures at c.write_refusal.ensures))
