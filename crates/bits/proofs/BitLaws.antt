-- Laws of the bits of a mask.
use mathlib.Core.Path.{◌≡◌, refl, sym, ap, ◌∙◌}
use mathlib.Core.Bool.{Bool, true, false}
use Prim.Native.Nat.{ℕ, zero, suc, ◌+◌, ◌-◌, ◌*◌, ◌/◌, ◌%◌, ◌^◌, ◌<◌, ◌≤◌, min}
use native.Mathlib.Nat.{pow-suc, div-one}
use native.Mathlib.Omega.{arith}
use borrow.Author.Tests.{leb-true, leb-false, eq-eqb, ne_eqb, eqb-true, eqb-false}
use lib.Dec.{leb, eqb, eqb-suc-suc}
use lib.Bits.{bit_and, and_step, and_self}
use lib.Count.{ones, ones_step, ones-le, count_trailing_zeros, under}
use lib.Pow.{shr-shr}
use Rattle.bits.specs.Bits.{bit_of}
use Rattle.bits.specs.Below.{count_below, one, updated}
use Rattle.bits.proofs.Tests.{clash}
use Rattle.bits.proofs.Below.{count_same}

-- ---- one bit

-- the first bit is the remainder by 2, and the others are those of the half
pub bit_zero : (m : ℕ) → bit_of m 0 ≡ eqb (m % 2) 1
unfolding bit_of
bit_zero m = ap (λ (x : ℕ). eqb (x % 2) 1) (div-one m)

pub bit_suc : (m p : ℕ) → bit_of m (suc p) ≡ bit_of (m / 2) p
unfolding bit_of
bit_suc m p = ap (λ (x : ℕ). eqb (x % 2) 1) (ap (λ (k : ℕ). m / 2 ^ k) (one_more p) ∙ sym (shr-shr m 1 p))
  where
    one_more : (p : ℕ) → suc p ≡ 1 + p
    one_more p = omega arith

odd : (m : ℕ) → eqb (m % 2) 1 ≡ true → m % 2 ≡ 1
odd m e = eqb-true (m % 2) 1 e

even : (m : ℕ) → eqb (m % 2) 1 ≡ false → m % 2 ≡ 0
even m e = go (m % 2) refl
  where
    go : (r : ℕ) → m % 2 ≡ r → m % 2 ≡ 0
    go zero h = h
    go (suc zero) h = absurd (eqb-false (m % 2) 1 e h)
    go (suc (suc r)) h = absurd (omega arith)

-- a bit that is set is at most the mask; one that is not leaves room below the power
pub bit_le : (m p : ℕ) → bit_of m p ≡ true → 2 ^ p ≤ m
bit_le m zero e = omega (arith, odd m (sym (bit_zero m) ∙ e))
bit_le m (suc p) e = omega (arith, pow-suc 2 p, bit_le (m / 2) p (sym (bit_suc m p) ∙ e))

pub bit_room : (n m p : ℕ) → m < 2 ^ n → p < n → bit_of m p ≡ false → m + 2 ^ p < 2 ^ n
bit_room zero m p h l e = absurd (omega arith)
bit_room (suc n) m zero h l e = omega (arith, pow-suc 2 n, even m (sym (bit_zero m) ∙ e))
bit_room (suc n) m (suc p) h l e =
    omega (arith, pow-suc 2 n, pow-suc 2 p, bit_room n (m / 2) p (omega (arith, pow-suc 2 n)) (omega arith) (sym (bit_suc m p) ∙ e))

-- beyond the mask's width no bit is set
pub bit_beyond : (n m p : ℕ) → m < 2 ^ n → n ≤ p → bit_of m p ≡ false
bit_beyond zero m zero h l = bit_zero m ∙ ne_eqb (m % 2) 1 (λ e. omega arith)
bit_beyond zero m (suc p) h l = bit_suc m p ∙ bit_beyond zero (m / 2) p (omega arith) (omega arith)
bit_beyond (suc n) m zero h l = absurd (omega arith)
bit_beyond (suc n) m (suc p) h l = bit_suc m p ∙ bit_beyond n (m / 2) p (omega (arith, pow-suc 2 n)) (omega arith)

pub bit_within : (n m p : ℕ) → m < 2 ^ n → bit_of m p ≡ true → p < n
bit_within n m p h e = go (leb n p) refl
  where
    go : (t : Bool) → leb n p ≡ t → p < n
    go true d = absurd (clash e (bit_beyond n m p h (leb-true n p d)))
    go false d = leb-false n p d

-- ---- a bit set, and a bit cleared

same_zero : (m k : ℕ) → m % 2 ≡ k % 2 → bit_of m 0 ≡ bit_of k 0
same_zero m k e = bit_zero m ∙ ap (λ (x : ℕ). eqb x 1) e ∙ sym (bit_zero k)

updated_zero : (m k : ℕ) (b : Bool) → eqb (k % 2) 1 ≡ b → k / 2 ≡ m / 2 → (q : ℕ) → bit_of k q ≡ updated (bit_of m) 0 b q
unfolding updated
updated_zero m k b e h zero = bit_zero k ∙ e
updated_zero m k b e h (suc q) = bit_suc k q ∙ ap (λ (x : ℕ). bit_of x q) h ∙ sym (bit_suc m q) ∙ rw (ne_eqb (suc q) 0 (λ z. omega arith))

updated_suc : (m p : ℕ) (b : Bool) (q : ℕ) → updated (bit_of m) (suc p) b (suc q) ≡ updated (bit_of (m / 2)) p b q
unfolding updated
updated_suc m p b q = rw (eqb-suc-suc q p, bit_suc m q)

-- bit by bit, from the first bit and from those of the half
by_place : (m k p : ℕ) (b : Bool) → k % 2 ≡ m % 2 → ((q : ℕ) → bit_of (k / 2) q ≡ updated (bit_of (m / 2)) p b q) → (q : ℕ) → bit_of k q ≡ updated (bit_of m) (suc p) b q
unfolding updated
by_place m k p b e h zero = same_zero k m e ∙ rw (ne_eqb 0 (suc p) (λ z. omega arith))
by_place m k p b e h (suc q) = bit_suc k q ∙ h q ∙ sym (updated_suc m p b q)

pub bit_set : (m p : ℕ) → bit_of m p ≡ false → (q : ℕ) → bit_of (m + 2 ^ p) q ≡ updated (bit_of m) p true q
bit_set m zero e q =
    let clear : m % 2 ≡ 0 = even m (sym (bit_zero m) ∙ e) in
    updated_zero m (m + 2 ^ 0) true (eq-eqb ((m + 2 ^ 0) % 2) 1 (omega arith)) (omega arith) q
bit_set m (suc p) e q =
    let half : (m + 2 ^ suc p) / 2 ≡ m / 2 + 2 ^ p = omega (arith, pow-suc 2 p) in
    let first : (m + 2 ^ suc p) % 2 ≡ m % 2 = omega (arith, pow-suc 2 p) in
    by_place m (m + 2 ^ suc p) p true first (λ q. ap (λ (x : ℕ). bit_of x q) half ∙ bit_set (m / 2) p (sym (bit_suc m p) ∙ e) q) q

pub bit_cleared : (m p : ℕ) → bit_of m p ≡ true → (q : ℕ) → bit_of (m - 2 ^ p) q ≡ updated (bit_of m) p false q
bit_cleared m zero e q =
    let set : m % 2 ≡ 1 = odd m (sym (bit_zero m) ∙ e) in
    updated_zero m (m - 2 ^ 0) false (ne_eqb ((m - 2 ^ 0) % 2) 1 (λ h. omega arith)) (omega arith) q
bit_cleared m (suc p) e q =
    let within : 2 ^ suc p ≤ m = bit_le m (suc p) e in
    let half : (m - 2 ^ suc p) / 2 ≡ m / 2 - 2 ^ p = omega (arith, pow-suc 2 p) in
    let first : (m - 2 ^ suc p) % 2 ≡ m % 2 = omega (arith, pow-suc 2 p) in
    by_place m (m - 2 ^ suc p) p false first (λ q. ap (λ (x : ℕ). bit_of x q) half ∙ bit_cleared (m / 2) p (sym (bit_suc m p) ∙ e) q) q

-- ---- the lowest bit that is set: its place is the count of the zeros below it, and `m & (m - 1)` clears it

pub lowest_set : (n m : ℕ) → 0 < m → m < 2 ^ n → (count_trailing_zeros n m < n) × (bit_of m (count_trailing_zeros n m) ≡ true)
unfolding count_trailing_zeros
lowest_set zero m h l = absurd (omega arith)
lowest_set (suc n) m h l = go (m % 2) refl (λ some. lowest_set n (m / 2) some (omega (arith, pow-suc 2 n)))
  where
    go : (r : ℕ) → m % 2 ≡ r → (0 < m / 2 → (count_trailing_zeros n (m / 2) < n) × (bit_of (m / 2) (count_trailing_zeros n (m / 2)) ≡ true))
        → (under r (count_trailing_zeros n (m / 2)) < suc n) × (bit_of m (under r (count_trailing_zeros n (m / 2))) ≡ true)
    go zero e next = let (place, set) = next (omega arith) in (omega arith, bit_suc m (count_trailing_zeros n (m / 2)) ∙ set)
    go (suc r) e next = (omega arith, bit_zero m ∙ eq-eqb (m % 2) 1 (omega arith))

pub lowest_cleared : (n m : ℕ) → 0 < m → m < 2 ^ n → bit_and m (m - 1) ≡ m - 2 ^ count_trailing_zeros n m
unfolding count_trailing_zeros
lowest_cleared zero m h l = absurd (omega arith)
lowest_cleared (suc n) m h l = and_step m (m - 1) ∙ go (m % 2) refl (λ some. lowest_cleared n (m / 2) some (omega (arith, pow-suc 2 n)))
  where
    go : (r : ℕ) → m % 2 ≡ r → (0 < m / 2 → bit_and (m / 2) (m / 2 - 1) ≡ m / 2 - 2 ^ count_trailing_zeros n (m / 2))
        → bit_and (m / 2) ((m - 1) / 2) * 2 + min r ((m - 1) % 2) ≡ m - 2 ^ under r (count_trailing_zeros n (m / 2))
    go zero e next =
        let half : (m - 1) / 2 ≡ m / 2 - 1 = omega arith in
        rw (half, next (omega arith)) (omega (arith, pow-suc 2 (count_trailing_zeros n (m / 2))))
    go (suc r) e next =
        let half : (m - 1) / 2 ≡ m / 2 = omega arith in
        let even_before : (m - 1) % 2 ≡ 0 = omega arith in
        rw (half, and_self (m / 2), even_before) (omega arith)

-- ---- the count of the set bits, as the machine counts them

count_shift : (n : ℕ) (f : ℕ → Bool) → count_below (suc n) f ≡ one (f 0) + count_below n (λ p. f (suc p))
unfolding count_below
count_shift zero f = omega arith
count_shift (suc n) f = rw (count_shift n f) (omega arith)

bit_one : (m : ℕ) → one (eqb (m % 2) 1) ≡ m % 2
bit_one m = go (eqb (m % 2) 1) refl
  where
    go : (t : Bool) → eqb (m % 2) 1 ≡ t → one t ≡ m % 2
    go true e = sym (odd m e)
    go false e = sym (even m e)

pub count_ones : (n m : ℕ) → m < 2 ^ n → count_below n (bit_of m) ≡ ones m
unfolding count_below
count_ones zero m h = omega (arith, ones-le 0 m h)
count_ones (suc n) m h =
    count_shift n (bit_of m)
    ∙ rw (bit_zero m, bit_one m, count_same n (λ p. bit_of m (suc p)) (bit_of (m / 2)) (λ p l. bit_suc m p), count_ones n (m / 2) (omega (arith, pow-suc 2 n))) (sym (ones_step m))
