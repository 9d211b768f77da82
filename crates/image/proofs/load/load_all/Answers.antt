-- Each field is the number at its place.
use mathlib.Core.Path.{◌∙◌}
use Rattle.std.proofs.lemmas.List.{map-id}
use Rattle.moment.proofs.Integers.{got}
use borrow.Author.Rules.{rules}
use Rattle.image.specs.Layout.{keeper_at}
use Rattle.image.proofs.load.load_all.Goals as goal

pub returns : goal.returns
unfolding keeper_at
returns c =
    rw (
      got c.load_number-2.result (search rules) ∙ c.load_number-2.ensures,
      got c.load_number-3.result (search rules) ∙ c.load_number-3.ensures,
      c.rule_of.ensures,
      c.load_number.ensures,
      c.load_number-4.ensures,
      c.load_number-5.ensures,
      c.load_number-6.ensures,
      c.load_number-7.ensures,
      c.load_sixteen.ensures ∙ map-id _,
      c.load_sixteen-2.ensures ∙ map-id _,
      c.load_sixteen-3.ensures ∙ map-id _,
      c.load_sixteen-4.ensures ∙ map-id _,
    )
