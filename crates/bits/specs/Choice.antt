-- One of two values, by a test.
use Rattle.std.specs.Prelude.{Bool, true, false}

-- The value that is not chosen is not computed.
abbrev pub choose : {A : Type 0} → Bool → (Unit {0} → A) → (Unit {0} → A) → A
choose true a b = a tt
choose false a b = b tt
