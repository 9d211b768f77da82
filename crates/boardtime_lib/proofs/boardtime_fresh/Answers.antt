use mathlib.Core.Path.{sym, ◌∙◌}
use borrow.Author.Tests.{eqb-true, eqb-false}
use Rattle.boardtime_lib.proofs.ImageLaws.{fresh_refused, fresh_stored}
use Rattle.boardtime_lib.proofs.boardtime_fresh.Goals as goal

pub returns-then-not-is_image : goal.returns-then-not-is_image
returns-then-not-is_image c = fresh_refused _ (eqb-false _ _ (sym c.is_image.ensures ∙ c.if-not-is_image.true))

pub returns : goal.returns
returns c = fresh_stored _ (eqb-true _ _ (sym c.is_image.ensures ∙ c.if-not-is_image.false)) c.fresh.ensures c.store.ensures
