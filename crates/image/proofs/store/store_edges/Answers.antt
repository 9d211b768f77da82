-- One edge after the other.
use mathlib.Core.Path.{ap, ◌∙◌}
use mathlib.Core.List.{List}
use Prim.Native.Nat.{ℕ}
use borrow.Author.Rules.{rules}
use lib.IntN.{ℤ}
use mir.Syntax.{w64}
use mir.Val.{of_z, to_z}
use Rattle.moment.proofs.Integers.{got}
use Rattle.image.specs.Bytes.{stored, lowest_first}
use Rattle.image.proofs.ByteLaws.{stored_more}
use Rattle.image.proofs.store.store_edges.Goals as goal

pub returns : goal.returns
unfolding lowest_first
returns c =
    let edges = c.args.edges in
    let l = c.args.image.now in
    let bytes : ℤ → List ℕ = λ z. lowest_first 8 (of_z w64 z) in
    c.store_number-2.ensures
    ∙ ap (λ (x : List ℕ). stored x 16 (bytes (to_z w64 (of_z w64 edges.upper)))) c.store_number.ensures
    ∙ ap (λ (z : ℤ). stored (stored l 8 (bytes (to_z w64 (of_z w64 edges.lower)))) 16 (bytes z)) (got edges.upper (search rules))
    ∙ ap (λ (z : ℤ). stored (stored l 8 (bytes z)) 16 (bytes edges.upper)) (got edges.lower (search rules))
    ∙ stored_more l 8 (bytes edges.lower) (bytes edges.upper)
