-- `runs::marks::is_marked` meets its contract.
use Rattle.std.proofs.Common.{refl, ◌∙◌}
use Rattle.runs.proofs.MarkLaws.{marked_at}
use Rattle.runs.proofs.marks.is_marked.Goals as goal

pub returns : goal.returns
returns c = c.eq.ensures ∙ marked_at c.args.bytes.now c.args.at c.get.result _ refl c.get.ensures.lookup
