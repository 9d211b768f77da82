-- The values of the edges that a line gives.
use Rattle.std.specs.Prelude.{leb, ℤ, Option, Some, None}
use Rattle.bits.specs.Choice.{choose}
use Rattle.numeral.specs.Reading.{integer}
use Rattle.numeral.specs.declared.read.Signed.{Signed}

-- The integer of a signed numeral.
abbrev pub edge_value : Signed → ℤ
edge_value e = integer e.negative e.magnitude

-- An edge as an i64, if its magnitude is one.
unfoldable pub integer_of : Signed → Option ℤ
integer_of e = choose (leb e.magnitude 9223372036854775807) (λ _. Some (edge_value e)) (λ _. None)
