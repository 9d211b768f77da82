-- The layout of one number, with the word and the limit of `pass`.
use mathlib.Core.Path.{refl, ◌∙◌}
use Rattle.command.specs.Forms as F
use Rattle.form_lines.proofs.WrittenLaws.{numbered_form}
use Rattle.form_lines.proofs.write_pass.Goals as goal

pub returns : goal.returns
returns c =
    c.write_numbered.ensures ∙ numbered_form (F.pass c.args.ticks) "(pass " refl _ c.ticks_within.ensures _ _ refl
