-- Laws of the days of months: one month more, a month's length by a rule, the closed form of the sums, and the bounds of both.
use mathlib.Core.Path.{◌≡◌, refl, ap}
use mathlib.Core.Bool.{Bool, true, false, ◌&&◌, ◌||◌}
use mathlib.Core.Logic.{◌⊎◌, inl, inr}
use mathlib.Core.List.{List, [], ◌∷◌}
use Prim.Native.Nat.{ℕ, zero, suc, ◌+◌, ◌-◌, ◌*◌, ◌/◌, ◌≤◌, ◌<◌}
use native.Mathlib.Omega.{arith}
use borrow.Author.Tests.{leb-true, eqb-true, lt-ltb, le-ltb, ne_eqb, ltb-true, ltb-false}
use lib.Dec.{leb, ltb, eqb}
use lib.ListN.{get_or, take}
use Rattle.bits.specs.Below.{all_below}
use Rattle.bits.specs.Choice.{choose}
use Rattle.bits.proofs.Below.{all_at}
use Rattle.bits.proofs.Tests.{by_test, both}
use Rattle.calendar.specs.Calendar.{leap, year_length, month_lengths, month_length, days_of_months, sum}

-- ---- of any list of lengths: one more, and one that ends where or before a later one begins

sum_none : (n : ℕ) → sum (take n []) ≡ 0
unfolding sum
sum_none zero = refl
sum_none (suc n) = refl

sum_more : (l : List ℕ) (n : ℕ) → sum (take (suc n) l) ≡ sum (take n l) + get_or l n 0
unfolding sum
sum_more [] n = omega (arith, sum_none n)
sum_more (x ∷ l) zero = omega arith
sum_more (x ∷ l) (suc n) = omega (arith, sum_more l n)

sum_apart : (l : List ℕ) (a b : ℕ) → a < b → sum (take a l) + get_or l a 0 ≤ sum (take b l)
unfolding sum
sum_apart [] a b h = omega (arith, sum_none a)
sum_apart (x ∷ l) a zero h = absurd (omega arith)
sum_apart (x ∷ l) zero (suc b) h = omega arith
sum_apart (x ∷ l) (suc a) (suc b) h = omega (arith, sum_apart l a b (omega arith))

-- ---- of the twelve months

before_suc : (n : ℕ) → suc n - 1 ≡ n
before_suc n = omega arith

pub months_more : (y n : ℕ) → n < 12 → days_of_months y (suc n) ≡ days_of_months y n + month_length y (suc n)
unfolding days_of_months month_length
months_more y n h = rw (before_suc n) (sum_more (month_lengths y) n)

pub months_apart : (y a b : ℕ) → a < b → b ≤ 12 → days_of_months y a + month_length y (suc a) ≤ days_of_months y b
unfolding days_of_months month_length
months_apart y a b h l = rw (before_suc a) (sum_apart (month_lengths y) a b h)

pub months_none : (y : ℕ) → days_of_months y 0 ≡ 0
unfolding days_of_months sum
months_none y = refl

pub months_all : (y : ℕ) → days_of_months y 12 ≡ year_length y
unfolding days_of_months month_lengths year_length sum
months_all y = by_test (leap y) (λ e. rw e) (λ e. rw e)

-- ---- a month's length

-- if no number of a list is more than k, none at any place is
none_over : ℕ → List ℕ → Bool
none_over k [] = true
none_over k (x ∷ l) = leb x k && none_over k l

none_over_lem : (k : ℕ) (l : List ℕ) (i : ℕ) → none_over k l ≡ true → get_or l i 0 ≤ k
unfolding none_over
none_over_lem k [] i e = omega arith
none_over_lem k (x ∷ l) zero e = leb-true x k (both (leb x k) (none_over k l) e).0
none_over_lem k (x ∷ l) (suc i) e = none_over_lem k l i (both (leb x k) (none_over k l) e).1

lengths_most : (y : ℕ) → none_over 31 (month_lengths y) ≡ true
unfolding month_lengths none_over
lengths_most y = by_test (leap y) (λ e. rw e) (λ e. rw e)

pub month_most : (y m : ℕ) → month_length y m ≤ 31
unfolding month_length
month_most y m = none_over_lem 31 (month_lengths y) (m - 1) (lengths_most y)

-- the months of 31 days are those that are neither February nor one of the four of 30: tried at each
abbrev ruled : ℕ → ℕ → ℕ
ruled y m =
    choose
    (eqb m 2)
    (λ _. choose (leap y) (λ _. 29) (λ _. 28))
    (λ _. choose (eqb m 4 || (eqb m 6 || (eqb m 9 || eqb m 11))) (λ _. 30) (λ _. 31))

month_rule : (y m : ℕ) → m ≤ 12 → month_length y m ≡ ruled y m
unfolding all_below month_length month_lengths
month_rule y m h = eqb-true (month_length y m) (ruled y m) (by_test (leap y) (λ e. at (rw e)) (λ e. at (rw e)))
  where
    test : ℕ → Bool
    test k = eqb (month_length y k) (ruled y k)

    at : all_below 13 test ≡ true → test m ≡ true
    at e = all_at 13 test e m (omega arith)

pub month_long :
    (y m : ℕ) → m ≤ 12 → (m ≡ 2 → ⊥) → (m ≡ 4 → ⊥) → (m ≡ 6 → ⊥) → (m ≡ 9 → ⊥) → (m ≡ 11 → ⊥) → month_length y m ≡ 31
month_long y m h d₂ d₄ d₆ d₉ d₁₁ =
    rw (ne_eqb m 2 d₂, ne_eqb m 4 d₄, ne_eqb m 6 d₆, ne_eqb m 9 d₉, ne_eqb m 11 d₁₁) at (month_rule y m h)

pub month_thirty : (y m : ℕ) → (m ≡ 4) ⊎ ((m ≡ 6) ⊎ ((m ≡ 9) ⊎ (m ≡ 11))) → month_length y m ≡ 30
unfolding month_length month_lengths
month_thirty y m (inl e) = rw e
month_thirty y m (inr (inl e)) = rw e
month_thirty y m (inr (inr (inl e))) = rw e
month_thirty y m (inr (inr (inr e))) = rw e

pub month_leap : (y m : ℕ) → m ≡ 2 → leap y ≡ true → month_length y m ≡ 29
unfolding month_length month_lengths
month_leap y m e l = rw (e, l)

pub month_common : (y m : ℕ) → m ≡ 2 → leap y ≡ false → month_length y m ≡ 28
unfolding month_length month_lengths
month_common y m e l = rw (e, l)

-- ---- the closed form

-- what the first n months lack of 367 twelfths of a day each: nothing before February is over
abbrev lack : ℕ → ℕ → ℕ
lack y n = choose (ltb n 2) (λ _. 0) (λ _. choose (leap y) (λ _. 1) (λ _. 2))

months_closed : (y n : ℕ) → n ≤ 12 → days_of_months y n + lack y n ≡ (367 * n + 5) / 12
unfolding all_below days_of_months month_lengths sum
months_closed y n h =
    eqb-true (days_of_months y n + lack y n) ((367 * n + 5) / 12) (by_test (leap y) (λ e. at (rw e)) (λ e. at (rw e)))
  where
    test : ℕ → Bool
    test k = eqb (days_of_months y k + lack y k) ((367 * k + 5) / 12)

    at : all_below 13 test ≡ true → test n ≡ true
    at e = all_at 13 test e n (omega arith)

pub months_early : (y n : ℕ) → n < 2 → days_of_months y n ≡ (367 * n + 5) / 12
months_early y n h = omega (arith, rw (lt-ltb n 2 h) at (months_closed y n (omega arith)))

pub months_leap : (y n : ℕ) → 2 ≤ n → n ≤ 12 → leap y ≡ true → days_of_months y n + 1 ≡ (367 * n + 5) / 12
months_leap y n h l e = rw (le-ltb n 2 h, e) at (months_closed y n l)

pub months_common : (y n : ℕ) → 2 ≤ n → n ≤ 12 → leap y ≡ false → days_of_months y n + 2 ≡ (367 * n + 5) / 12
months_common y n h l e = rw (le-ltb n 2 h, e) at (months_closed y n l)

-- whatever the year, and however many the months
pub months_near : (y n : ℕ) → n ≤ 12 → (days_of_months y n ≤ (367 * n + 5) / 12) × ((367 * n + 5) / 12 ≤ days_of_months y n + 2)
months_near y n l =
    by_test
    (ltb n 2)
    (λ e. omega (arith, months_early y n (ltb-true n 2 e)))
    (λ e.
    let h = ltb-false n 2 e in
    by_test (leap y) (λ d. omega (arith, months_leap y n h l d)) (λ d. omega (arith, months_common y n h l d)))

-- at a day of the year not all of its twelve months are over
pub months_few : (y n d : ℕ) → n ≤ 12 → days_of_months y n ≤ d → d < year_length y → n < 12
months_few y n d h l before =
    by_test
    (ltb n 12)
    (λ e. ltb-true n 12 e)
    (λ e.
    let more = ltb-false n 12 e in
    let all : n ≡ 12 = omega arith in
    absurd (omega (arith, ap (days_of_months y) all, months_all y)))

-- What the proofs of the months' functions rest on.
pub ruleset month_rules = (month_thirty, month_leap, month_common, month_long)

pub ruleset months_rules = (months_early, months_leap, months_common)
