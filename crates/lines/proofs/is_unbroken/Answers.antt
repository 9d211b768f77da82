-- The fold tests that each byte is no LF.
use Rattle.std.proofs.Common.{rules, not, eqb, ◌∙◌}
use Rattle.std.proofs.lemmas.Iterator.{YieldsList-from_slice}
use Rattle.bits.proofs.Listed.{tested_by_fold}
use Rattle.lines.specs.Lines.{lf}
use Rattle.lines.proofs.LineLaws.{unbroken_listed}
use Rattle.lines.proofs.is_unbroken.Goals as goal

pub returns : goal.returns
returns g c =
    let block = c.args.block.now in
    tested_by_fold (λ b. not (eqb b lf)) c.fold.ensures.ran (YieldsList-from_slice block cc) (λ a x b f' k. search rules) ∙ unbroken_listed block
