-- An image that can't be read is a fresh keeper's.
use mathlib.Core.Path.{sym, ◌∙◌}
use Rattle.image.specs.Layout.{keeper_in}
use Rattle.image.proofs.LayoutLaws.{readable_length}
use Rattle.image.proofs.load.load.Goals as goal

pub returns-then-not-is_readable : goal.returns-then-not-is_readable
unfolding keeper_in
returns-then-not-is_readable c = rw (sym c.is_readable.ensures ∙ c.if-not-is_readable.true) c.fresh.ensures

pub load_all-requires : goal.load_all-requires
load_all-requires c = readable_length _ (sym c.is_readable.ensures ∙ c.if-not-is_readable.false)

pub returns : goal.returns
unfolding keeper_in
returns c = rw (sym c.is_readable.ensures ∙ c.if-not-is_readable.false) c.load_all.ensures
