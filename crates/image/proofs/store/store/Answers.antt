-- A buffer of an image's length is filled from its first byte to its last.
use mathlib.Core.Path.{sym, ap, ◌∙◌}
use mathlib.Core.List.{◌++◌, append_assoc}
use borrow.Author.Rules.{rules}
use borrow.Author.Tests.{eqb-true}
use lib.ListN.{length}
use Rattle.image.specs.Bytes.{each_lowest_first}
use Rattle.image.specs.Layout.{image_length, image_of, image_after, own_bytes, peer_bytes}
use Rattle.image.proofs.StoreLaws.{Put, then_sixteen, stored_whole}
use Rattle.image.proofs.LayoutLaws.{own_length}
use Rattle.image.proofs.store.store.Goals as goal

pub returns-then-not-is_image : goal.returns-then-not-is_image
unfolding image_after
returns-then-not-is_image c = rw (sym c.is_image.ensures ∙ c.if-not-is_image.true)

pub store_own-requires : goal.store_own-requires
store_own-requires c = eqb-true _ _ (sym c.is_image.ensures ∙ c.if-not-is_image.false)

pub returns : goal.returns
unfolding image_after image_of
returns c =
    let k = c.args.keeper in
    let l = c.args.image.now in
    let long = sym c.is_image.ensures ∙ c.if-not-is_image.false in
    let own : Put l 0 40 (own_bytes k) c.store_own.new.image = record { long = own_length k; is = c.store_own.ensures } in
    let tags = then_sixteen 4 k.tags _ own (search rules) c.store_sixteen.ensures in
    let peers = then_sixteen 8 k.sent_at _ tags (search rules) c.store_sixteen-2.ensures in
    let outs = then_sixteen 4 k.out _ peers (search rules) c.store_sixteen-3.ensures in
    let all = then_sixteen 4 k.back _ outs (search rules) c.store_sixteen-4.ensures in
    rw long
    (all.is ∙ stored_whole l _ (eqb-true (length l) image_length long ∙ sym all.long)
    ∙ ap (λ s. s ++ each_lowest_first 4 k.out ++ each_lowest_first 4 k.back) (append_assoc (own_bytes k) _ _)
    ∙ append_assoc (own_bytes k ++ peer_bytes k) _ _)
