-- Digits in groups of three, with a `_` between groups: document 02, order 4.
use Rattle.std.specs.Prelude.{ℕ, ◌%◌, Bool, false, ◌||◌, List, [], ◌∷◌, length, ◌==◌}
use Rattle.bits.specs.Choice.{choose}

-- The byte '_'.
abbrev pub underscore : ℕ
underscore = 95

-- '`_` between groups of three counted from the right', at every group: between two digits where 3, 6, 9, .. digits follow.
unfoldable pub grouped : List ℕ → List ℕ
grouped [] = []
grouped (b ∷ []) = b ∷ []
grouped (b ∷ c ∷ s) = b ∷ choose (length (c ∷ s) % 3 == 0) (λ _. underscore ∷ grouped (c ∷ s)) (λ _. grouped (c ∷ s))

-- The bytes without their `_`.
unfoldable pub ungrouped : List ℕ → List ℕ
ungrouped [] = []
ungrouped (b ∷ s) = choose (b == underscore) (λ _. ungrouped s) (λ _. b ∷ ungrouped s)

-- The bytes carry a `_`.
unfoldable pub carries_underscore : List ℕ → Bool
carries_underscore [] = false
carries_underscore (b ∷ s) = b == underscore || carries_underscore s
