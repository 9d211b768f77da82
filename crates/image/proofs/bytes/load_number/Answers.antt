-- The number of a part of the bytes.
use mathlib.Core.Path.{ap, ◌∙◌}
use native.Mathlib.Omega.{arith}
use Rattle.image.specs.Bytes.{number}
use Rattle.image.proofs.ByteLaws.{number_part}
use Rattle.image.proofs.bytes.load_number.Goals as goal

pub returns : goal.returns
returns g c =
    let x = c.args in
    let w = g.row.WIDTH in
    c.from_bytes.ensures ∙ ap g.N.Number.of_bits (ap (number w 0) c.copy_from_slice.ensures.after ∙ number_part w x.at _ x.image.now (omega arith))
