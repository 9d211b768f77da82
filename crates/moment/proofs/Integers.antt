-- Laws by which `omega`, which reads natural numbers alone, decides linear statements about integers: an integer z is the difference
-- `up z - dn z` of two natural numbers. `ints` is the list of the rules; a sum, a product, a larger of two or a half that occurs in a
-- statement is listed beside it as a fact: `omega (ints, sum a b)`. A goal is best stated of differences, since `omega` does not know
-- that one of `up z` and `dn z` is 0.
use mathlib.Core.Path.{◌≡◌, refl, sym, ◌∙◌, ap, subst}
use mathlib.Core.Bool.{Bool, true, false}
use Prim.Native.Nat.{ℕ, zero, suc, ◌+◌, ◌-◌, ◌*◌, ◌^◌, ◌≤◌, ◌<◌, max, min}
use native.Mathlib.Nat.{zero-add, add-zero, zero-mul, mul-le-mul_left}
use native.Mathlib.Omega.{arith}
use lib.Dec.{T, leb, ltb, leb-suc-suc}
use lib.IntN.{ℤ, pos, negsuc, neg_ℤ, sub_ℕ, ◌+ℤ◌, ◌-ℤ◌, ◌*ℤ◌}
use lib.Signed.{mag, le_z, lt_z, ◌≤ℤ◌, ◌<ℤ◌}
use mir.Syntax.{w64}
use mir.Val.{SFits, to_z, of_z}
use mir.Facts.{to_z-of_z, to_z_pos}
use borrow.Author.Tests.{leb-true, leb-false, ltb-true, ltb-false, le-leb, lt-leb, lt-ltb, le-ltb}
use Rattle.std.specs.Int.{int_max, int_min}
use Rattle.bits.proofs.Tests.{by_test}
use Rattle.moment.specs.Moment.{larger_of, smaller_of, floor_half}

-- what is above zero in an integer
abbrev pub up : ℤ → ℕ
up (pos n) = n
up (negsuc n) = 0

-- what is below zero in an integer
abbrev pub dn : ℤ → ℕ
dn (pos n) = 0
dn (negsuc n) = suc n

-- the test of `≤` is one of natural numbers
pub le_z_is : (a b : ℤ) → le_z a b ≡ leb (up a + dn b) (up b + dn a)
le_z_is (pos a) (pos b) = rw (add-zero a, add-zero b)
le_z_is (pos a) (negsuc b) = sym (lt-leb (a + suc b) 0 (omega arith))
le_z_is (negsuc a) (pos b) = sym (le-leb 0 (b + suc a) (omega arith))
le_z_is (negsuc a) (negsuc b) = rw (zero-add (suc a), zero-add (suc b), leb-suc-suc)

-- and so is the test of `<`
pub lt_z_is : (a b : ℤ) → lt_z a b ≡ ltb (up a + dn b) (up b + dn a)
lt_z_is (pos a) (pos b) = rw (add-zero a, add-zero b)
lt_z_is (pos a) (negsuc b) = sym (le-ltb (a + suc b) 0 (omega arith))
lt_z_is (negsuc a) (pos b) = sym (lt-ltb 0 (b + suc a) (omega arith))
lt_z_is (negsuc a) (negsuc b) = rw (zero-add (suc a), zero-add (suc b), leb-suc-suc)

-- `a ≤ b` came out true: a is at most b
pub le_z_true : (a b : ℤ) → le_z a b ≡ true → up a + dn b ≤ up b + dn a
le_z_true a b e = leb-true _ _ (sym (le_z_is a b) ∙ e)

-- `a ≤ b` came out false: b is below a
pub le_z_false : (a b : ℤ) → le_z a b ≡ false → up b + dn a < up a + dn b
le_z_false a b e = leb-false _ _ (sym (le_z_is a b) ∙ e)

-- `a < b` came out true: a is below b
pub lt_z_true : (a b : ℤ) → lt_z a b ≡ true → up a + dn b < up b + dn a
lt_z_true a b e = ltb-true _ _ (sym (lt_z_is a b) ∙ e)

-- `a < b` came out false: b is at most a
pub lt_z_false : (a b : ℤ) → lt_z a b ≡ false → up b + dn a ≤ up a + dn b
lt_z_false a b e = ltb-false _ _ (sym (lt_z_is a b) ∙ e)

-- `a ≤ b` comes out true where a is at most b
pub make_le_z_true : (a b : ℤ) → up a + dn b ≤ up b + dn a → le_z a b ≡ true
make_le_z_true a b h = le_z_is a b ∙ le-leb _ _ h

-- `a ≤ b` comes out false where b is below a
pub make_le_z_false : (a b : ℤ) → up b + dn a < up a + dn b → le_z a b ≡ false
make_le_z_false a b h = le_z_is a b ∙ lt-leb _ _ h

-- `a < b` comes out true where a is below b
pub make_lt_z_true : (a b : ℤ) → up a + dn b < up b + dn a → lt_z a b ≡ true
make_lt_z_true a b h = lt_z_is a b ∙ lt-ltb _ _ h

-- `a < b` comes out false where b is at most a
pub make_lt_z_false : (a b : ℤ) → up b + dn a ≤ up a + dn b → lt_z a b ≡ false
make_lt_z_false a b h = lt_z_is a b ∙ le-ltb _ _ h

-- a test that holds, as an equation
pub said : (t : Bool) → T t → t ≡ true
said true h = refl
said false h = absurd h

-- an order `≤` of integers, as one of natural numbers
pub le_read : {a b : ℤ} → a ≤ℤ b → up a + dn b ≤ up b + dn a
le_read {a} {b} h = le_z_true a b (said (le_z a b) h.le)

-- and back
pub le_make : {a b : ℤ} → up a + dn b ≤ up b + dn a → a ≤ℤ b
le_make {a} {b} h = record { le = subst T (sym (make_le_z_true a b h)) tt }

-- an order `<` of integers, as one of natural numbers
pub lt_read : {a b : ℤ} → a <ℤ b → up a + dn b < up b + dn a
lt_read {a} {b} h = lt_z_true a b (said (lt_z a b) h.lt)

-- and back
pub lt_make : {a b : ℤ} → up a + dn b < up b + dn a → a <ℤ b
lt_make {a} {b} h = record { lt = subst T (sym (make_lt_z_true a b h)) tt }

-- an equation of integers, as one of natural numbers
pub eq_read : {a b : ℤ} → a ≡ b → up a + dn b ≡ up b + dn a
eq_read e = rw (ap up e, ap dn e) (omega arith)

-- and back
pub eq_make : {a b : ℤ} → up a + dn b ≡ up b + dn a → a ≡ b
eq_make {a = pos a} {b = pos b} h = ap pos (omega arith)
eq_make {a = pos a} {b = negsuc b} h = absurd (omega arith)
eq_make {a = negsuc a} {b = pos b} h = absurd (omega arith)
eq_make {a = negsuc a} {b = negsuc b} h = ap negsuc (omega arith)

-- the range of an i64, as a bound
pub fit_read : {z : ℤ} → SFits w64 z → up z + dn z ≤ 2 ^ 63
fit_read {z = pos n} h = omega arith
fit_read {z = negsuc n} h = omega arith

-- and back, from bounds above and below
pub fit_rule : {z : ℤ} → max (suc (up z) - dn z) (dn z - up z) ≤ 2 ^ 63 → SFits w64 z
fit_rule {z = pos n} h = omega arith
fit_rule {z = negsuc n} h = omega arith

-- The rules for `omega`: what it reads and makes of statements about integers.
pub ruleset ints = (le_read, lt_read, eq_read, fit_read, le_z_true, le_z_false, lt_z_true, lt_z_false, le_make, lt_make, eq_make, fit_rule, make_le_z_true, make_le_z_false, make_lt_z_true, make_lt_z_false, arith)

-- a difference of natural numbers, as an integer
pub apart : (a b : ℕ) → up (sub_ℕ a b) + b ≡ a + dn (sub_ℕ a b)
apart a b = by_test (ltb a b) (λ e. rw e (omega (arith, ltb-true a b e))) (λ e. rw e (omega (arith, ltb-false a b e)))

-- the negation of a natural number
pub below : (n : ℕ) → (up (neg_ℤ (pos n)) ≡ 0) × (dn (neg_ℤ (pos n)) ≡ n)
below zero = (refl, refl)
below (suc n) = (refl, refl)

-- the negation turns the two parts round
pub neg : (z : ℤ) → up (neg_ℤ z) + up z ≡ dn z + dn (neg_ℤ z)
neg (pos n) = omega (arith, below n)
neg (negsuc n) = omega arith

-- a sum
pub sum : (a b : ℤ) → up (a +ℤ b) + (dn a + dn b) ≡ up a + up b + dn (a +ℤ b)
sum (pos a) (pos b) = omega arith
sum (pos a) (negsuc b) = omega (arith, apart a (suc b))
sum (negsuc a) (pos b) = omega (arith, apart b (suc a))
sum (negsuc a) (negsuc b) = omega arith

-- a difference
pub dif : (a b : ℤ) → up (a -ℤ b) + (dn a + up b) ≡ up a + dn b + dn (a -ℤ b)
dif a b = omega (arith, sum a (neg_ℤ b), neg b)

-- a product with a natural number
pub mul : (a : ℤ) (n : ℕ) → (up (a *ℤ pos n) ≡ up a * n) × (dn (a *ℤ pos n) ≡ dn a * n)
mul (pos a) n = (refl, sym (zero-mul n))
mul (negsuc a) n = ((below (suc a * n)).0 ∙ sym (zero-mul n), (below (suc a * n)).1)

-- a difference of natural numbers that is not below zero
pub pos_sub : {a b : ℕ} → b ≤ a → pos a -ℤ pos b ≡ pos (a - b)
pos_sub {a} {b} h = omega (ints, dif (pos a) (pos b))

-- a product of a u32 and a number of at most 31 bits is an i64
pub product_fits : (a b : ℕ) → a < 2 ^ 32 → b ≤ 2 ^ 31 → SFits w64 (pos (a * b))
product_fits a b h k = omega (ints, mul-le-mul_left a k)

-- the larger of two
pub max_is : (a b : ℤ) → up (larger_of a b) + (dn a + dn b) ≡ max (up a + dn b) (up b + dn a) + dn (larger_of a b)
unfolding larger_of
max_is a b = by_test (le_z a b) (λ e. rw e (omega ints)) (λ e. rw e (omega ints))

-- the smaller of two
pub min_is : (a b : ℤ) → up (smaller_of a b) + (dn a + dn b) ≡ min (up a + dn b) (up b + dn a) + dn (smaller_of a b)
unfolding smaller_of
min_is a b = by_test (le_z a b) (λ e. rw e (omega ints)) (λ e. rw e (omega ints))

-- and they are those of the library
pub maxed : (a b : ℤ) → int_max a b ≡ larger_of a b
unfolding larger_of
maxed a b = by_test (lt_z b a) (λ e. rw (e, make_le_z_false a b (omega ints))) (λ e. rw (e, make_le_z_true a b (omega ints)))

pub minned : (a b : ℤ) → int_min a b ≡ smaller_of a b
unfolding smaller_of
minned a b = by_test (lt_z b a) (λ e. rw (e, make_le_z_false a b (omega ints))) (λ e. rw (e, make_le_z_true a b (omega ints)))

-- The rules for `grind`: the library's, and what a number is that went through its bits.
pub ruleset extremes = (maxed, minned, to_z-of_z)

-- the half, rounded down
pub half : (z : ℤ) → (2 * up (floor_half z) + dn z ≤ up z + 2 * dn (floor_half z)) × (up z + 2 * dn (floor_half z) ≤ 2 * up (floor_half z) + dn z + 1)
unfolding floor_half
half (pos n) = omega arith
half (negsuc n) = omega arith

-- An unsigned number below 2 ^ 63 is itself when its bits are read as signed.
pub widened : (n : ℕ) → n < 2 ^ 63 → to_z w64 n ≡ pos n
widened n h = to_z_pos w64 h

-- A signed value goes through its bits and back unchanged, if it is in range.
pub got : (z : ℤ) → mag z < 2 ^ 63 → to_z w64 (of_z w64 z) ≡ z
got z h = to_z-of_z {w = w64} (record { sfits = h })

-- A test of two such values is the test of the integers.
pub bare : (test : ℤ → ℤ → Bool) {a b : ℤ} {t : Bool} → SFits w64 a → SFits w64 b → test (to_z w64 (of_z w64 a)) (to_z w64 (of_z w64 b)) ≡ t → test a b ≡ t
bare test fa fb e = rw (to_z-of_z fa, to_z-of_z fb) at e
