-- Laws of tests.
use mathlib.Core.Path.{◌≡◌, refl}
use mathlib.Core.Bool.{Bool, true, false, ◌&&◌, ◌||◌}
use Prim.Native.Nat.{ℕ}
use native.Mathlib.Omega.{arith}

-- no test both holds and does not
pub clash : {t : Bool} → t ≡ true → t ≡ false → ⊥
clash d e = let k : ◌≡◌ {A = ℕ} 0 1 = cc in omega arith

-- whatever holds on either answer of a test holds
pub by_test : {P : Type 0} (t : Bool) → (t ≡ true → P) → (t ≡ false → P) → P
by_test true f g = f refl
by_test false f g = g refl

-- two tests that hold together hold each
pub both : (s t : Bool) → s && t ≡ true → (s ≡ true) × (t ≡ true)
both true t e = (refl, e)
both false t e = absurd (clash e refl)

pub join : {s t : Bool} → s ≡ true → t ≡ true → s && t ≡ true
join d e = rw (d, e)

-- of two tests of which neither holds, each does not
pub neither : (s t : Bool) → s || t ≡ false → (s ≡ false) × (t ≡ false)
neither true t e = absurd (clash refl e)
neither false t e = (refl, e)
