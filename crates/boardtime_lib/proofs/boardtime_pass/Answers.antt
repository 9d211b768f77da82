-- Ticks above the limit are refused before they are cut to 32 bits; else the keeper of the
-- image, the pass of it lent, and of the keeper that came back what a pass changes.
use mathlib.Core.Path.{◌≡◌, refl, sym, ◌∙◌, subst}
use native.Mathlib.Omega.{arith}
use borrow.Author.Tests.{eqb-true, eqb-false}
use lib.ListN.{length}
use Rattle.keeper.specs.declared.Keeper.{Keeper}
use Rattle.command.proofs.LimitLaws.{ticks_bound}
use Rattle.image.specs.Layout.{keeper_in}
use Rattle.image.proofs.StartedFits.{all_below}
use Rattle.on_image.proofs.ApplyLaws.{left_refused, pass_kept}
use Rattle.boardtime_lib.proofs.ImageLaws.{pass_refused, pass_too_long, pass_moved}
use borrow.Author.Rules.{rules}
use Rattle.boardtime_lib.proofs.boardtime_pass.Goals as goal

pub returns-then-not-is_image : goal.returns-then-not-is_image
returns-then-not-is_image c = pass_refused _ (eqb-false _ _ (sym c.is_image.ensures ∙ c.if-not-is_image.true)) _

pub returns-then-not-ticks_within : goal.returns-then-not-ticks_within
returns-then-not-ticks_within c =
    let whole = eqb-true _ _ (sym c.is_image.ensures ∙ c.if-not-is_image.false) in
    rw c.number.ensures (pass_too_long _ whole _ (sym c.ticks_within.ensures ∙ c.if-not-ticks_within.true))

pub overflow_cast-ticks : goal.overflow_cast-ticks
overflow_cast-ticks c = omega (arith, ticks_bound _ (sym c.ticks_within.ensures ∙ c.if-not-ticks_within.false))

pub returns-then-refusal-ne0 : goal.returns-then-refusal-ne0
returns-then-refusal-ne0 c =
    let whole = eqb-true _ _ (sym c.is_image.ensures ∙ c.if-not-is_image.false) in
    pass_moved _ whole c.load.ensures c.pass-passed.ensures refl (left_refused _ _ _ c.if-refusal-ne0.true)

pub returns : goal.returns
returns c =
    let places : (length c.load.result.tags ≡ 16) × (length c.load.result.sent_at ≡ 16) × (length c.load.result.out ≡ 16) × (length c.load.result.back ≡ 16) =
    (search rules, search rules, search rules, search rules)
    in
    let image = c.args.image.now in
    let whole = eqb-true _ _ (sym c.is_image.ensures ∙ c.if-not-is_image.false) in
    let loaded : c.load.result ≡ keeper_in image = c.load.ensures in
    pass_moved _ whole loaded c.pass-passed.ensures (sym c.if-refusal-ne0.false)
    (pass_kept image whole (all_below 256 image (λ i h. omega (arith, c.slice_known-1.given i)))
    (subst (λ (k : Keeper). length k.tags ≡ 16) loaded (places).0)
    (subst (λ (k : Keeper). length k.sent_at ≡ 16) loaded (places).1)
    (subst (λ (k : Keeper). length k.out ≡ 16) loaded (places).2)
    (subst (λ (k : Keeper). length k.back ≡ 16) loaded (places).3)
    loaded c.pass-passed.ensures c.if-refusal-ne0.false c.store_passed.ensures)
