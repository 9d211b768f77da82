-- Laws of `digits`. The two equations `digits_one` and `digits_more` say all of it; nothing else opens the definition.
use Rattle.std.proofs.Common.{◌≡◌, ℕ, zero, suc, ◌+◌, ◌/◌, ◌%◌, ◌^◌, ◌<◌, ◌≤◌, Bool, true, false, ltb, List, [], ◌∷◌, ◌++◌, length, sym, refl, ap, ◌∙◌, pow-suc, arith, length-append, ltb-false, ltb-true, le-ltb, lt-ltb}
use Rattle.numeral.specs.Digits.{digits_in, digits}

-- a number below 10 is one digit, whatever the bound
one_in : (k n : ℕ) → n < 10 → digits_in (suc k) n ≡ (48 + n) ∷ []
unfolding digits_in
one_in k n h = rw (lt-ltb n 10 h)

-- the last digit of a larger number
more_in : (k n : ℕ) → 10 ≤ n → digits_in (suc k) n ≡ digits_in k (n / 10) ++ (48 + n % 10) ∷ []
unfolding digits_in
more_in k n h = rw (le-ltb n 10 h)

-- any bound above the number gives the same digits
same_in : (j k n : ℕ) → n < j → n < k → digits_in j n ≡ digits_in k n
same_in zero k n p q = absurd (omega arith)
same_in (suc j) zero n p q = absurd (omega arith)
same_in (suc j) (suc k) n p q = go (ltb n 10) refl (λ (h : 10 ≤ n). same_in j k (n / 10) (omega arith) (omega arith))
  where
    go : (t : Bool) → ltb n 10 ≡ t → (10 ≤ n → digits_in j (n / 10) ≡ digits_in k (n / 10)) → digits_in (suc j) n ≡ digits_in (suc k) n
    go true e r = one_in j n (ltb-true n 10 e) ∙ sym (one_in k n (ltb-true n 10 e))
    go false e r =
        let h : 10 ≤ n = ltb-false n 10 e in
        more_in j n h ∙ ap (λ (s : List ℕ). s ++ (48 + n % 10) ∷ []) (r h) ∙ sym (more_in k n h)

pub digits_one : (n : ℕ) → n < 10 → digits n ≡ (48 + n) ∷ []
unfolding digits
digits_one n h = one_in n n h

pub digits_more : (n : ℕ) → 10 ≤ n → digits n ≡ digits (n / 10) ++ (48 + n % 10) ∷ []
unfolding digits
digits_more n h =
    more_in n n h ∙ ap (λ (s : List ℕ). s ++ (48 + n % 10) ∷ []) (same_in n (suc (n / 10)) (n / 10) (omega arith) (omega arith))

-- ---- how many digits

-- one digit, or the digits of a tenth and one more
pub length_one : (n : ℕ) → n < 10 → length (digits n) ≡ 1
length_one n h = rw (digits_one n h)

pub length_more : (n : ℕ) → 10 ≤ n → length (digits n) ≡ length (digits (n / 10)) + 1
length_more n h = rw (digits_more n h) (length-append (digits (n / 10)) ((48 + n % 10) ∷ []))

-- a spelling is never empty
pub digits_some : (n : ℕ) → 1 ≤ length (digits n)
digits_some n = go (ltb n 10) refl
  where
    go : (t : Bool) → ltb n 10 ≡ t → 1 ≤ length (digits n)
    go true e = omega (arith, length_one n (ltb-true n 10 e))
    go false e = omega (arith, length_more n (ltb-false n 10 e))

-- it has at most as many digits as the power of ten that it is below
pub digits_most : (k n : ℕ) → n < 10 ^ suc k → length (digits n) ≤ suc k
digits_most zero n h = omega (arith, length_one n h)
digits_most (suc k) n h = go (ltb n 10) refl (λ (l : n / 10 < 10 ^ suc k). digits_most k (n / 10) l)
  where
    go : (t : Bool) → ltb n 10 ≡ t → (n / 10 < 10 ^ suc k → length (digits (n / 10)) ≤ suc k) → length (digits n) ≤ suc (suc k)
    go true e r = omega (arith, length_one n (ltb-true n 10 e))
    go false e r = omega (arith, length_more n (ltb-false n 10 e), r (omega (arith, pow-suc 10 (suc k))))
