-- Laws of the readers' definitions, for the proofs of the code: what the byte at a place says of `numeral_ends` and `run`, how a run is read,
-- one digit or several at a time. Which answer it has: proofs/Answers.antt.
use Rattle.std.proofs.Common.{Option, Some, ◌≡◌, ℕ, ◌+◌, ◌-◌, ◌*◌, ◌^◌, ◌<◌, ◌≤◌, Bool, true, false, not, ◌&&◌, ◌||◌, eqb, ltb, leb, List, [], ◌∷◌, length, get_or, drop, refl, ap, ◌∙◌, lt_of_lt_of_le, add-zero, add_assoc, mul-le-mul_right, mul_assoc, add-mul, lt_of_not-le, mul-one, add-one, arith, drop_of_length-le, get_or-drop, drop-cons, pow-add, ltb-false, ltb-true, lt-ltb, ne_eqb, eqb-true, le-leb, leb-true}
use native.Mathlib.Nat.{pow-le-pow_right}
use borrow.Author.Tests.{not-true, not-false}
use Rattle.bits.specs.Choice.{choose}
use Rattle.bits.proofs.Tests.{clash, neither}
use Rattle.numeral.specs.Progress.{TellsDigit, digits_end, DigitsAt, Progress, EndedInside, Stopped, DigitsUpTo}
use Rattle.numeral.specs.Reading.{is_digit, numeral_ends, run, value_from, at_underscore}

pub false_and : (t : Bool) → (t && false) ≡ false
false_and true = refl
false_and false = refl

-- the parts of an answer
pub same_parts : {m n k l : ℕ} → ◌≡◌ {A = Option (ℕ × ℕ)} (Some (m, k)) (Some (n, l)) → (m ≡ n) × (k ≡ l)
same_parts {m} {n} {k} {l} e =
    let both : ◌≡◌ {A = ℕ × ℕ} (m, k) (n, l) = cc in
    (ap (λ (p : ℕ × ℕ). p.0) both, ap (λ (p : ℕ × ℕ). p.1) both)

-- ---- one byte

pub is_digit_lem : (b : ℕ) → 48 ≤ b → b ≤ 57 → is_digit b ≡ true
is_digit_lem b p q = rw (le-leb 48 b p, le-leb b 57 q)

pub digit_bounds : (b : ℕ) → is_digit b ≡ true → (48 ≤ b) × (b ≤ 57)
digit_bounds b e = go (leb 48 b) (leb b 57) refl refl e
  where
    go : (t u : Bool) → leb 48 b ≡ t → leb b 57 ≡ u → (t && u) ≡ true → (48 ≤ b) × (b ≤ 57)
    go true true p q h = (leb-true 48 b p, leb-true b 57 q)
    go true false p q h = absurd (let k : ◌≡◌ {A = ℕ} 0 1 = cc in omega arith)
    go false u p q h = absurd (let k : ◌≡◌ {A = ℕ} 0 1 = cc in omega arith)

pub not_digit : (b : ℕ) → (48 ≤ b → b ≤ 57 → ⊥) → is_digit b ≡ false
not_digit b h = go (is_digit b) refl
  where
    go : (t : Bool) → is_digit b ≡ t → is_digit b ≡ false
    go true e = let range = digit_bounds b e in absurd (h range.0 range.1)
    go false e = e

pub ends_at_end : (line : List ℕ) (at : ℕ) → length line ≤ at → numeral_ends (drop at line) ≡ true
ends_at_end line at h = rw (drop_of_length-le line h)

-- a `_` goes on
pub goes_on_underscore : (line : List ℕ) (at : ℕ) → at < length line → get_or line at 0 ≡ 95 → numeral_ends (drop at line) ≡ false
goes_on_underscore line at inside e = rw (drop-cons line at 0 inside, e)

pub underscore_here : (line : List ℕ) (at : ℕ) → at < length line → get_or line at 0 ≡ 95 → at_underscore (drop at line) ≡ true
underscore_here line at inside e = rw (drop-cons line at 0 inside, e)

-- what a comparison tells of the byte at a place, if it is no `_`
module _ (line : List ℕ) (at : ℕ) {d : ℕ} (inside : at < length line) (other : get_or line at 0 ≡ 95 → ⊥) (told : TellsDigit (get_or line at 0) d) where
  pub ends_told : numeral_ends (drop at line) ≡ ltb 9 d
  ends_told = rw (drop-cons line at 0 inside, ne_eqb (get_or line at 0) 95 other) (go (ltb 9 d) refl)
    where
      go : (t : Bool) → ltb 9 d ≡ t → not (is_digit (get_or line at 0) || false) ≡ t
      go true e = rw (told.other (ltb-true 9 d e))
      go false e = let small : d ≤ 9 = ltb-false 9 d e in rw (told.digit small, is_digit_lem (48 + d) (omega arith) (omega arith))

  pub ends_other : 9 < d → numeral_ends (drop at line) ≡ true
  ends_other h = ends_told ∙ lt-ltb 9 d h

-- ---- the run of digits

pub run_none : (s : List ℕ) → numeral_ends s ≡ true → run s ≡ []
unfolding run
run_none [] e = refl
run_none (b ∷ s) e = rw (neither (is_digit b) (eqb b 95) (not-true _ e)).0

pub run_underscore : (s : List ℕ) → at_underscore s ≡ true → run s ≡ []
unfolding run
run_underscore [] e = refl
run_underscore (b ∷ s) e = rw (eqb-true b 95 e)

pub run_some : (s : List ℕ) → numeral_ends s ≡ false → at_underscore s ≡ false → 0 < length (run s)
unfolding run
run_some [] e m = absurd (let k : ◌≡◌ {A = ℕ} 0 1 = cc in omega arith)
run_some (b ∷ s) e m = rw (first (is_digit b) (not-false _ (rw m at e))) (omega arith)
  where
    first : (t : Bool) → t || false ≡ true → t ≡ true
    first true h = refl
    first false h = h

-- what does not go on is no `_`
pub ends_no_underscore : (s : List ℕ) → numeral_ends s ≡ true → at_underscore s ≡ false
ends_no_underscore [] e = refl
ends_no_underscore (b ∷ s) e = (neither (is_digit b) (eqb b 95) (not-true _ e)).1

-- a digit, and the run after it
run_more : (b : ℕ) (s : List ℕ) → is_digit b ≡ true → run (b ∷ s) ≡ b ∷ run s
unfolding run
run_more b s e = rw e

-- a byte at a place that is no digit begins no run
pub run_other : (line : List ℕ) (at : ℕ) → at < length line → is_digit (get_or line at 0) ≡ false → run (drop at line) ≡ []
unfolding run
run_other line at inside e = rw (drop-cons line at 0 inside, e)

-- a run of which the first byte is no 0 spells a number above 0: what is read on does not fall
value_from_lem : (v : ℕ) (s : List ℕ) → v ≤ value_from v s
unfolding value_from
value_from_lem v [] = omega arith
value_from_lem v (b ∷ s) = omega (arith, value_from_lem (v * 10 + (b - 48)) s)

pub run_value : (s : List ℕ) → 0 < length (run s) → (get_or s 0 0 ≡ 48 → ⊥) → 0 < value_from 0 (run s)
unfolding run value_from
run_value [] h z = absurd (omega arith)
run_value (b ∷ s) h z = go (is_digit b) refl h
  where
    go : (t : Bool) → is_digit b ≡ t → 0 < length (choose t (λ _. b ∷ run s) (λ _. [])) → 0 < value_from 0 (choose t (λ _. b ∷ run s) (λ _. []))
    go true e k =
        let low = (digit_bounds b e).0 in
        let some : 48 < b = lt_of_not-le (λ (l : b ≤ 48). z (omega (arith, low))) in
        omega (arith, value_from_lem (0 * 10 + (b - 48)) (run s))
    go false e k = absurd (omega arith)

value_more : (v d : ℕ) (s : List ℕ) → value_from v ((48 + d) ∷ s) ≡ value_from (v * 10 + d) s
unfolding value_from
value_more v d s =
    let this : 48 + d - 48 ≡ d = omega arith in
    ap (λ (x : ℕ). value_from (v * 10 + x) s) this

-- the first digit of a run is the byte at its place
head : (s : List ℕ) → 0 < length (run s) → get_or (run s) 0 0 ≡ get_or s 0 0
unfolding run
head [] h = refl
head (b ∷ s) h = go (is_digit b) h
  where
    go : (t : Bool) → 0 < length (choose t (λ _. b ∷ run s) (λ _. [])) → get_or (choose t (λ _. b ∷ run s) (λ _. [])) 0 0 ≡ b
    go true k = refl
    go false k = absurd (omega arith)

pub run_head : (line : List ℕ) (at : ℕ) → 0 < length (run (drop at line)) → get_or (run (drop at line)) 0 0 ≡ get_or line at 0
run_head line at h = head (drop at line) h ∙ get_or-drop at line 0 0 ∙ rw (add-zero at)

-- ---- digits at a place

pub digit_here : (line : List ℕ) (at d : ℕ) → at < length line → d ≤ 9 → TellsDigit (get_or line at 0) d → DigitsAt line at 1 d
digit_here line at d inside small told =
    let first : run (drop at line) ≡ (48 + d) ∷ run (drop (at + 1) line) =
    rw (drop-cons line at 0 inside, told.digit small, add-one) (run_more (48 + d) _ (is_digit_lem (48 + d) (omega arith) (omega arith)))
    in
    record { small = omega arith; value = λ v. rw first (value_more v d _); long = rw first (omega arith) }

-- no digits, and then any
pub no_digits : (line : List ℕ) (at : ℕ) → DigitsAt line at 0 0
no_digits line at =
    record { small = omega arith; value = λ v. rw (mul-one v, add-zero v, add-zero at); long = rw (add-zero at) (omega arith) }

-- digits, and then more digits
pub digits_then : {line : List ℕ} {at j v k w : ℕ} → DigitsAt line at j v → DigitsAt line (at + j) k w → DigitsAt line at (j + k) (v * 10 ^ k + w)
digits_then {line} {at} {j} {v} {k} {w} p q =
    let place : at + (j + k) ≡ at + j + k = omega arith in
    let fits : (v + 1) * 10 ^ k ≤ 10 ^ j * 10 ^ k = mul-le-mul_right (10 ^ k) (omega arith) in
    record {
      small = rw (pow-add 10 j k) (omega (arith, add-mul v 1 (10 ^ k)));
      value = λ u.
          p.value u
          ∙ q.value (u * 10 ^ j + v)
          ∙ rw (place, pow-add 10 j k, add-mul (u * 10 ^ j) v (10 ^ k), mul_assoc u (10 ^ j) (10 ^ k), add_assoc (u * (10 ^ j * 10 ^ k)) (v * 10 ^ k) w);
      long = rw place (omega arith);
    }

-- four digits, one after the other
pub four_here : {line : List ℕ} {at a b c d n : ℕ}
    → n ≡ ((a * 10 + b) * 10 + c) * 10 + d
    → DigitsAt line at 1 a → DigitsAt line (at + 1) 1 b → DigitsAt line (at + 2) 1 c → DigitsAt line (at + 3) 1 d
    → DigitsAt line at 4 n
four_here e p q r s = rw e (digits_then (digits_then (digits_then p q) r) s)

-- ---- a run that is being read

pub progress_none : (line : List ℕ) (at : ℕ) → Progress line at 0 at
progress_none line at =
    let none : at - at ≡ 0 = omega arith in
    record { from = omega arith; within = omega arith; passed = rw none (no_digits line at) }

pub progress_more : {line : List ℕ} {at value next k n : ℕ}
    → Progress line at value next → DigitsAt line next k n → next + k ≤ digits_end (length line) at → Progress line at (value * 10 ^ k + n) (next + k)
progress_more {line} {at} {value} {next} {k} {n} p d h =
    let here : at + (next - at) ≡ next = omega arith in
    let on : next + k - at ≡ (next - at) + k = omega arith in
    record { from = omega arith; within = omega arith; passed = rw on (digits_then p.passed (rw here d)) }

-- the number that is read so far leaves room for k more digits, of 19 in all
pub room : {line : List ℕ} {at value next : ℕ} (k : ℕ) → Progress line at value next → next + k ≤ at + 19 → value < 10 ^ (19 - k)
room {at = at} {next = next} k p h = lt_of_lt_of_le p.passed.small (pow-le-pow_right {n = 10} (omega arith) {i = next - at} {j = 19 - k} (omega arith))

-- where reading has stopped, as the answer tells
pub up_to_ended : {line : List ℕ} {at value next : ℕ} → EndedInside line at value next → DigitsUpTo line at value next true
up_to_ended r = record { ended = λ e. r; stopped = λ e. absurd (clash refl e) }

pub up_to_stopped : {line : List ℕ} {at value next : ℕ} → Stopped line at value next → DigitsUpTo line at value next false
up_to_stopped r = record { ended = λ e. absurd (clash e refl); stopped = λ e. r }
