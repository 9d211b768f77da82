-- The layout of one number, with the word and the limit of `request`.
use mathlib.Core.Path.{refl, ◌∙◌}
use Rattle.command.specs.Forms as F
use Rattle.form_lines.proofs.WrittenLaws.{numbered_form}
use Rattle.form_lines.proofs.write_request.Goals as goal

pub returns : goal.returns
returns c =
    c.write_numbered.ensures ∙ numbered_form (F.request c.args.peer) "(request " refl _ c.board_within.ensures _ _ refl
