-- The layout of one number, with the word and the limit of `drop`.
use mathlib.Core.Path.{refl, ◌∙◌}
use Rattle.command.specs.Forms as F
use Rattle.form_lines.proofs.WrittenLaws.{numbered_form}
use Rattle.form_lines.proofs.write_drop.Goals as goal

pub returns : goal.returns
returns c =
    c.write_numbered.ensures ∙ numbered_form (F.drop c.args.peer) "(drop " refl _ c.board_within.ensures _ _ refl
