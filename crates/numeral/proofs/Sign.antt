-- What the machine's test of a signed number against 0 says of the number. By its two constructors; the number is in range, so its bits are read back as it.
use Rattle.std.proofs.Common.{◌≡◌, ℕ, ◌^◌, ◌<◌, true, false, ℤ, pos, negsuc, refl, arith, to_z-of_z, w64, SFits, to_z, of_z, ltb-true}
use lib.Signed.{lt_z}

pub below_zero : (z : ℤ) → SFits w64 z → lt_z (to_z w64 (of_z w64 z)) (pos 0) ≡ true → (n : ℕ) × (z ≡ negsuc n) × (n < 2 ^ 63)
below_zero (pos n) f t = absurd (omega (arith, ltb-true n 0 (rw (to_z-of_z f) at t)))
below_zero (negsuc n) f t = (n, refl, f.sfits)

pub from_zero : (z : ℤ) → SFits w64 z → lt_z (to_z w64 (of_z w64 z)) (pos 0) ≡ false → (n : ℕ) × (z ≡ pos n) × (n < 2 ^ 63)
from_zero (pos n) f t = (n, refl, f.sfits)
from_zero (negsuc n) f t = absurd (let b : true ≡ false = rw (to_z-of_z f) at t in let z : ◌≡◌ {A = ℕ} 0 1 = cc in omega arith)
