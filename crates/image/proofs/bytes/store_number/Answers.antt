-- Bytes in the place of a part.
use mathlib.Core.Path.{◌∙◌}
use native.Mathlib.Omega.{arith}
use Rattle.image.proofs.ByteLaws.{stored_as}
use Rattle.image.proofs.StoreLaws.{length_lowest}
use Rattle.image.proofs.bytes.store_number.Goals as goal

pub returns : goal.returns
returns g c =
    let w = g.row.WIDTH in
    stored_as _ _ w _ _ _ (omega arith) (length_lowest w (g.N.Number.bits c.args.n))
    (c.copy_from_slice.ensures.after ∙ c.to_bytes.ensures) c.requires
