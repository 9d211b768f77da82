-- Tests of the numbers below n, and functions of numbers changed at one.
use Rattle.std.specs.Prelude.{Bool, true, false, ◌&&◌, ℕ, zero, suc, ◌+◌, eqb}
use Rattle.bits.specs.Choice.{choose}

-- a test holds of every number below n; of how many of them it holds
unfoldable pub all_below : ℕ → (ℕ → Bool) → Bool
all_below zero test = true
all_below (suc n) test = all_below n test && test n

abbrev pub one : Bool → ℕ
one true = 1
one false = 0

unfoldable pub count_below : ℕ → (ℕ → Bool) → ℕ
count_below zero test = 0
count_below (suc n) test = count_below n test + one (test n)

-- the function with another value at p
unfoldable pub updated : {A : Type 0} → (ℕ → A) → ℕ → A → ℕ → A
updated f p a q = choose (eqb q p) (λ _. a) (λ _. f q)
