-- Signed numerals and their reader: where one stands and does not go on, it is read as its integer (`signed_read`); and what is read
-- is a numeral of that integer (`read_signed`).
use Rattle.std.proofs.Common.{is_some, unwrap_or, eq-eqb, Option, Some, None, ◌≡◌, ℕ, zero, suc, ◌+◌, ◌≤◌, Bool, true, false, List, [], ◌∷◌, ◌++◌, length, drop, ℤ, pos, negsuc, nat_abs, sym, refl, ap, ◌∙◌, subst, arith, drop-drop, ne_eqb}
use Rattle.text.specs.Words.{starts_with, word_at, Stands}
use Rattle.text.proofs.WordLaws.{word_found, word_other, found_word}
use Rattle.numeral.specs.Numerals.{Numeral, SignedNumeral}
use Rattle.numeral.specs.Reading.{numeral_ends, number_at, unsigned, negated, signed_from, signed, signed_at, integer, negative}
use Rattle.numeral.specs.declared.read.Signed.{Signed}
use Rattle.numeral.proofs.Numerals.{begins_digit, numeral_read, read_numeral}

-- an integer is its sign and its magnitude
pub integer_is : (z : ℤ) → integer (negative z) (nat_abs z) ≡ z
integer_is (pos n) = refl
integer_is (negsuc n) = refl

-- what begins with a digit begins with no '-'
no_minus : (b : ℕ) (s : List ℕ) → 48 ≤ b → starts_with (45 ∷ []) (b ∷ s) ≡ false
unfolding starts_with
no_minus b s low = rw (ne_eqb 45 b (λ e. omega arith))

pub signed_read : (line : List ℕ) (at : ℕ) (z : ℤ) (s rest : List ℕ)
    → SignedNumeral z s → drop at line ≡ s ++ rest → numeral_ends rest ≡ true → signed_at line at ≡ Some (signed (negative z) (nat_abs z), at + length s)
unfolding signed_at signed_from unsigned negated
signed_read line at (pos n) s rest m e f =
    let (b, t, low, spelt) = begins_digit n s m in
    let front : drop at line ≡ b ∷ (t ++ rest) = e ∙ ap (λ (x : List ℕ). x ++ rest) spelt in
    rw (word_other line at (45 ∷ []) (rw front (no_minus b (t ++ rest) low)), numeral_read line at n s rest m e f)
signed_read line at (negsuc n) s rest (m, k, spelt) e f =
    let front : drop at line ≡ (45 ∷ []) ++ (m ++ rest) = e ∙ ap (λ (x : List ℕ). x ++ rest) spelt in
    let after : drop (at + 1) line ≡ m ++ rest = sym (drop-drop 1 at line) ∙ ap (λ (x : List ℕ). drop 1 x) front in
    let place : at + 1 + length m ≡ at + length s = rw spelt (omega arith) in
    rw (word_found line at (45 ∷ []) (m ++ rest) front, numeral_read line (at + 1) (suc n) m rest k after f, ne_eqb (suc n) 0 (λ h. omega arith), place)

-- the parts of what is read
signed_parts : {b c : Bool} {m n k l : ℕ} → ◌≡◌ {A = Option (Signed × ℕ)} (Some (signed b m, k)) (Some (signed c n, l)) → (b ≡ c) × (m ≡ n) × (k ≡ l)
signed_parts {b} {c} {m} {n} {k} {l} e =
    let both : ◌≡◌ {A = Signed × ℕ} (signed b m, k) (signed c n, l) = cc in
    (ap (λ (p : Signed × ℕ). p.0.negative) both, ap (λ (p : Signed × ℕ). p.0.magnitude) both, ap (λ (p : Signed × ℕ). p.1) both)

-- a plain numeral, and one after a '-'
unsigned_stands : (line : List ℕ) (at : ℕ) (b : Bool) (m next : ℕ) (r : Option (ℕ × ℕ)) → number_at line at ≡ r → unsigned r ≡ Some (signed b m, next)
    → Stands (SignedNumeral (integer b m)) line at next
unfolding unsigned
unsigned_stands line at b m next None p h = absurd (let k : ◌≡◌ {A = ℕ} 0 1 = cc in omega arith)
unsigned_stands line at b m next (Some (n, k)) p h =
    let (sign, size, place) = signed_parts h in
    let stands : Stands (Numeral m) line at next = read_numeral line at m next (rw (← size, ← place) p) in
    subst (λ (t : Bool). Stands (SignedNumeral (integer t m)) line at next) sign stands

after_minus : (line : List ℕ) (at first : ℕ) (b : Bool) (m next : ℕ) (r : Option (ℕ × ℕ))
    → word_at line at (45 ∷ []) ≡ Some first → number_at line first ≡ r → negated r ≡ Some (signed b m, next) → Stands (SignedNumeral (integer b m)) line at next
unfolding negated
after_minus line at first b m next None w p h = absurd (let k : ◌≡◌ {A = ℕ} 0 1 = cc in omega arith)
after_minus line at first b m next (Some (zero, k)) w p h = absurd (let k : ◌≡◌ {A = ℕ} 0 1 = cc in omega arith)
after_minus line at first b m next (Some (suc n, k)) w p h =
    let kept : ◌≡◌ {A = Option (Signed × ℕ)} (Some (signed true (suc n), k)) (Some (signed b m, next)) = sym (rw (ne_eqb (suc n) 0 (λ e. omega arith))) ∙ h in
    let (sign, size, same) = signed_parts kept in
    let (begins, here) = found_word line at (45 ∷ []) first w in
    let digits = read_numeral line first (suc n) next (rw (← same) p) in
    let long : next ≡ at + length (45 ∷ digits.bytes) = omega (arith, digits.after, begins) in
    let stands : Stands (SignedNumeral (negsuc n)) line at next =
    record {
      bytes = 45 ∷ digits.bytes;
      kind = (digits.bytes, digits.kind, refl);
      here = here ∙ ap (λ (x : List ℕ). 45 ∷ x) digits.here;
      after = long;
    } in
    subst (λ (t : Bool). Stands (SignedNumeral (integer t m)) line at next) sign
    (subst (λ (i : ℕ). Stands (SignedNumeral (integer true i)) line at next) size stands)

pub read_signed : (line : List ℕ) (at : ℕ) (b : Bool) (m next : ℕ) → signed_at line at ≡ Some (signed b m, next) → Stands (SignedNumeral (integer b m)) line at next
unfolding signed_at signed_from
read_signed line at b m next e = by_word_lem (word_at line at (45 ∷ [])) refl e
  where
    by_word_lem : (w : Option ℕ) → word_at line at (45 ∷ []) ≡ w → signed_from w line at ≡ Some (signed b m, next) → Stands (SignedNumeral (integer b m)) line at next
    by_word_lem None p h = unsigned_stands line at b m next (number_at line at) refl h
    by_word_lem (Some first) p h = after_minus line at first b m next (number_at line first) p refl h

-- ---- the answer, by the place after a '-' or none, and the number that stands there. For the proof of the code.

module _ (line : List ℕ) (at : ℕ) where
  pub signed_none : (minus : Option ℕ) → number_at line (unwrap_or minus at) ≡ None → signed_from minus line at ≡ None
  unfolding signed_from unsigned negated
  signed_none None e = rw e
  signed_none (Some first) e = rw e

  pub signed_zero : (minus : Option ℕ) (m next : ℕ) → is_some minus ≡ true → m ≡ 0 → number_at line (unwrap_or minus at) ≡ Some (m, next) → signed_from minus line at ≡ None
  unfolding signed_from negated
  signed_zero None m next b z e = absurd (let k : ◌≡◌ {A = ℕ} 0 1 = cc in omega arith)
  signed_zero (Some first) m next b z e = rw (e, eq-eqb m 0 z)

  pub signed_some : (minus : Option ℕ) (m next : ℕ) → (is_some minus ≡ true → m ≡ 0 → ⊥) → number_at line (unwrap_or minus at) ≡ Some (m, next)
      → signed_from minus line at ≡ Some (signed (is_some minus) m, next)
  unfolding signed_from unsigned negated
  signed_some None m next z e = rw e
  signed_some (Some first) m next z e = rw (e, ne_eqb m 0 (z refl))
