-- One field after the other.
use mathlib.Core.Path.{◌≡◌, refl, ◌∙◌}
use mathlib.Core.Bool.{Bool, true, false}
use mir.Val.{bool_byte}
use lib.ListN.{set}
use Rattle.image.specs.Bytes.{lowest_first}
use Rattle.image.specs.Layout.{flag, mark_bytes}
use Rattle.image.proofs.StoreLaws.{Put, first_four, then}
use Rattle.image.proofs.store.store_own.Goals as goal

flag_byte : (set : Bool) → bool_byte set ≡ flag set
flag_byte true = refl
flag_byte false = refl

pub returns : goal.returns
unfolding lowest_first
returns c =
    let k = c.args.keeper in
    let l = c.args.image.now in
    let marks : Put l 0 4 (mark_bytes k) (set (set (set (set l 0 2) 1 c.from.result) 2 k.board) 3 c.from-2.result) =
    rw (c.from.ensures ∙ flag_byte k.started, c.from-2.ensures) (first_four l _ _ _ _)
    in
    let heads = then _ _ (then _ _ marks refl c.store_number.ensures) refl c.store_number-2.ensures in
    let edges = then _ _ heads refl c.store_edges.ensures in
    let counts = then _ _ (then _ _ edges refl c.store_number-3.ensures) refl c.store_number-4.ensures in
    (then _ _ counts refl c.store_number-5.ensures).is
