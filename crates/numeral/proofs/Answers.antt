-- Which answer a run of digits has: by its length, its first byte and the byte after it. For the proofs of the code.
use Rattle.std.proofs.Common.{Some, None, ◌≡◌, ℕ, suc, ◌+◌, ◌-◌, ◌^◌, ◌<◌, ◌≤◌, Bool, true, false, ◌&&◌, leb, List, [], ◌∷◌, length, get_or, drop, sym, refl, ◌∙◌, add-zero, lt_of_not-le, arith, get_or-drop, eq-eqb, ne_eqb, le-leb, leb-false, leb-true}
use borrow.Author.Tests.{lt-leb}
use Rattle.bits.proofs.Tests.{clash, by_test}
use Rattle.numeral.specs.Progress.{TellsDigit, Progress, Ended, EndedInside, GoesOn}
use Rattle.numeral.specs.Reading.{run, value_from, well_formed, first_group, at_underscore, number_in, groups_from, number_from, number_at}
use Rattle.numeral.proofs.Reading.{false_and, run_none, run_underscore, run_some, run_other, run_value, ends_no_underscore, run_head, digit_here}

-- ---- the answer, by the length of the run and its first byte

pub formed_not_empty : (r : List ℕ) → length r ≡ 0 → well_formed r ≡ false
unfolding well_formed
formed_not_empty [] h = refl
formed_not_empty (b ∷ s) h = absurd (omega arith)

pub formed_not_long : (r : List ℕ) → 19 < length r → well_formed r ≡ false
unfolding well_formed
formed_not_long [] h = absurd (omega arith)
formed_not_long (b ∷ s) h = rw (lt-leb (length s) 18 (omega arith))

pub formed_not_zero : (r : List ℕ) → 1 < length r → get_or r 0 0 ≡ 48 → well_formed r ≡ false
unfolding well_formed
formed_not_zero [] h z = absurd (omega arith)
formed_not_zero (b ∷ s) h z =
    let some : length s ≡ 0 → ⊥ = λ e. omega arith in
    rw (ne_eqb (length s) 0 some, eq-eqb b 48 z) (false_and (leb (length s) 18))

pub formed_one : (r : List ℕ) → length r ≡ 1 → well_formed r ≡ true
unfolding well_formed
formed_one [] h = absurd (omega arith)
formed_one (b ∷ s) h = rw (le-leb (length s) 18 (omega arith), eq-eqb (length s) 0 (omega arith))

pub formed_more : (r : List ℕ) → 1 < length r → length r ≤ 19 → (get_or r 0 0 ≡ 48 → ⊥) → well_formed r ≡ true
unfolding well_formed
formed_more [] h k z = absurd (omega arith)
formed_more (b ∷ s) h k z =
    let some : length s ≡ 0 → ⊥ = λ e. omega arith in
    rw (le-leb (length s) 18 (omega arith), ne_eqb (length s) 0 some, ne_eqb b 48 z)

-- ---- the digits before the first `_`

pub first_group_none : (r : List ℕ) → length r ≡ 0 → first_group r ≡ false
unfolding first_group
first_group_none r h = rw h

pub first_group_long : (r : List ℕ) → 3 < length r → first_group r ≡ false
unfolding first_group
first_group_long r h = rw (le-leb 1 (length r) (omega arith), lt-leb (length r) 3 h)

pub first_group_zero : (r : List ℕ) → get_or r 0 0 ≡ 48 → first_group r ≡ false
unfolding first_group
first_group_zero r z = rw z (false_and_both (leb 1 (length r)) (leb (length r) 3))
  where
    false_and_both : (s t : Bool) → (s && (t && false)) ≡ false
    false_and_both true t = false_and t
    false_and_both false t = refl

pub first_group_some : (r : List ℕ) → 1 ≤ length r → length r ≤ 3 → (get_or r 0 0 ≡ 48 → ⊥) → first_group r ≡ true
unfolding first_group
first_group_some r h k z = rw (le-leb 1 (length r) h, le-leb (length r) 3 k, ne_eqb (get_or r 0 0) 48 z)

-- ---- the answer where digits are read up to a place

module _ (line : List ℕ) (at : ℕ) where
  abbrev r : List ℕ
  r = run (drop at line)

  abbrev rest : List ℕ
  rest = drop (at + length r) line

  -- no `_` after the run; a `_` after it
  plain_at : at_underscore rest ≡ false → number_at line at ≡ number_in r at
  unfolding number_at number_from
  plain_at m = rw m

  first_at : at_underscore rest ≡ true → first_group r ≡ true → number_at line at ≡ groups_from (value_from 0 r) (length r) (at + length r) rest
  unfolding number_at number_from
  first_at m e = rw (m, e)

  absent_first : at_underscore rest ≡ true → first_group r ≡ false → number_at line at ≡ None
  unfolding number_at number_from
  absent_first m e = rw (m, e)

  absent_in : well_formed r ≡ false → number_in r at ≡ None
  unfolding number_in
  absent_in e = rw e

  absent_both : (at_underscore rest ≡ false → well_formed r ≡ false) → first_group r ≡ false → number_at line at ≡ None
  absent_both p q = by_test (at_underscore rest) (λ m. absent_first m q) (λ m. plain_at m ∙ absent_in (p m))

-- The digits up to a place are read, and the run ends there.
module _ {line : List ℕ} {at value next : ℕ} (p : Progress line at value next) where
  here : at + (next - at) ≡ next
  here = omega arith

  no_value : next - at ≡ 0 → value ≡ 0
  no_value e = let small : value < 10 ^ 0 = rw e at p.passed.small in omega arith

  longer : length (run (drop at line)) ≡ (next - at) + length (run (drop next line))
  longer = rw here at p.passed.long

  module _ (ends : run (drop next line) ≡ []) where
    none : run (drop (at + (next - at)) line) ≡ []
    none = rw here ends

    long_is : length (run (drop at line)) ≡ next - at
    long_is = p.passed.long ∙ rw none (omega arith)

    value_is : value_from 0 (run (drop at line)) ≡ value
    unfolding value_from
    value_is = p.passed.value 0 ∙ rw none (omega arith)

    place_is : at + length (run (drop at line)) ≡ next
    place_is = rw long_is here

-- The digits up to a place are read, and the numeral ends there.
module _ {line : List ℕ} {at value next : ℕ} (read : Ended line at value next) where
  over : run (drop next line) ≡ []
  over = run_none (drop next line) read.ends

  count : length (run (drop at line)) ≡ next - at
  count = long_is read.progress over

  most : next - at ≤ 19
  most = omega (arith, read.progress.within)

  plain_here : number_at line at ≡ number_in (run (drop at line)) at
  plain_here = plain_at line at (rw (place_is read.progress over) (ends_no_underscore (drop next line) read.ends))

  number : well_formed (run (drop at line)) ≡ true → number_at line at ≡ Some (value, next)
  unfolding number_in
  number e = plain_here ∙ rw (e, value_is read.progress over, place_is read.progress over)

  pub absent_none : next - at ≡ 0 → number_at line at ≡ None
  absent_none h = plain_here ∙ absent_in line at (formed_not_empty _ (count ∙ h))

  pub absent_zero : 1 < next - at → get_or line at 0 ≡ 48 → number_at line at ≡ None
  absent_zero h z = plain_here ∙ absent_in line at (formed_not_zero _ (omega (arith, count)) (run_head line at (omega (arith, count)) ∙ z))

  pub number_one : next - at ≡ 1 → number_at line at ≡ Some (value, next)
  number_one h = number (formed_one _ (count ∙ h))

  pub number_more : 1 < next - at → (get_or line at 0 ≡ 48 → ⊥) → number_at line at ≡ Some (value, next)
  number_more h z =
      number (formed_more _ (omega (arith, count)) (omega (arith, count, most)) (λ e. z (sym (run_head line at (omega (arith, count))) ∙ e)))

-- Likewise, and a byte stands there: the answer by the value and the first two bytes.
module _ {line : List ℕ} {at value next : ℕ} (read : EndedInside line at value next) where
  first_inside : at < length line
  first_inside = omega (arith, read.ended.progress.from, read.inside)

  -- a 0 at the place is a digit
  module _ (zero : get_or line at 0 ≡ 48) where
    zero_then : next - at ≡ 1 + length (run (drop (at + 1) line))
    zero_then =
        sym (count read.ended) ∙ (digit_here line at 0 first_inside (omega arith) record { digit = λ h. zero; other = λ h. absurd (omega arith) }).long

    pub second_inside : at + 1 < length line
    second_inside = omega (arith, read.ended.progress.from, read.inside, zero_then)

    module _ {d : ℕ} (told : TellsDigit (get_or line (at + 1) 0) d) where
      pub inside_zeros : d ≤ 9 → number_at line at ≡ None
      inside_zeros h =
          let second = (digit_here line (at + 1) d second_inside h told).long in
          absent_zero read.ended (omega (arith, zero_then, second)) zero

      pub inside_zero : 9 < d → number_at line at ≡ Some (value, next)
      inside_zero h = number_one read.ended (zero_then ∙ rw (run_other line (at + 1) second_inside (told.other h)) (omega arith))

  module _ (other : get_or line at 0 ≡ 48 → ⊥) where
    -- digits of which the first is no 0 have a number above 0
    some_value : 0 < next - at → 0 < value
    some_value h =
        let many : 0 < length (run (drop at line)) = omega (arith, count read.ended) in
        let above = run_value (drop at line) many (λ e. other (sym (get_or-drop at line 0 0 ∙ rw (add-zero at)) ∙ e)) in
        omega (arith, above, value_is read.ended.progress (over read.ended))

    pub inside_none : value ≡ 0 → number_at line at ≡ None
    inside_none h = absent_none read.ended (omega (arith, lt_of_not-le (λ (l : 1 ≤ next - at). let some = some_value (omega arith) in omega (arith, some))))

    pub inside_some : (value ≡ 0 → ⊥) → number_at line at ≡ Some (value, next)
    inside_some h = by_test (leb (next - at) 1) one more
      where
        some : 0 < next - at
        some = lt_of_not-le (λ (l : next - at ≤ 0). h (no_value read.ended.progress (omega arith)))

        one : leb (next - at) 1 ≡ true → number_at line at ≡ Some (value, next)
        one e = number_one read.ended (omega (arith, some, leb-true (next - at) 1 e))

        more : leb (next - at) 1 ≡ false → number_at line at ≡ Some (value, next)
        more e = number_more read.ended (leb-false (next - at) 1 e) other

-- The digits up to a place are read, and a `_` follows them.
module _ {line : List ℕ} {at value next : ℕ} (p : Progress line at value next) (follows : at_underscore (drop next line) ≡ true) where
  gone : run (drop next line) ≡ []
  gone = run_underscore (drop next line) follows

  long : length (run (drop at line)) ≡ next - at
  long = long_is p gone

  underscore_after : at_underscore (drop (at + length (run (drop at line))) line) ≡ true
  underscore_after = rw (place_is p gone) follows

  not_first : first_group (run (drop at line)) ≡ false → number_at line at ≡ None
  not_first e = absent_first line at underscore_after e

-- Likewise, or a digit does after 19.
module _ {line : List ℕ} {at value next : ℕ} (read : GoesOn line at value next) where
  pub first_none : next - at ≡ 0 → number_at line at ≡ None
  first_none h =
      let u = read.with_underscore (omega (arith, read.progress.from)) in
      not_first read.progress u (first_group_none _ (long read.progress u ∙ h))

  -- a twentieth digit, or a `_` after more than three
  pub first_long : 3 < next - at → number_at line at ≡ None
  first_long h = by_test (at_underscore (drop next line)) with_it without_it
    where
      with_it : at_underscore (drop next line) ≡ true → number_at line at ≡ None
      with_it u = not_first read.progress u (first_group_long _ (omega (arith, long read.progress u)))

      without_it : at_underscore (drop next line) ≡ false → number_at line at ≡ None
      without_it u =
          let all : at + 19 ≤ next = omega (arith, lt_of_not-le (λ (l : suc next ≤ at + 19). clash (read.with_underscore l) u)) in
          let more : 19 < length (run (drop at line)) = omega (arith, longer read.progress, run_some (drop next line) read.on u, read.progress.from) in
          absent_both line at (λ m. formed_not_long _ more) (first_group_long _ (omega (arith, more)))

  pub first_zero : 0 < next - at → next - at ≤ 3 → get_or line at 0 ≡ 48 → number_at line at ≡ None
  first_zero h k z =
      let u = read.with_underscore (omega (arith, read.progress.from)) in
      not_first read.progress u (first_group_zero _ (run_head line at (omega (arith, long read.progress u)) ∙ z))

  pub first_some : 0 < next - at → next - at ≤ 3 → (get_or line at 0 ≡ 48 → ⊥) → number_at line at ≡ groups_from value (next - at) next (drop next line)
  first_some h k z =
      let u = read.with_underscore (omega (arith, read.progress.from)) in
      let many = long read.progress u in
      let other = gone read.progress u in
      first_at line at (underscore_after read.progress u) (first_group_some _ (omega (arith, many)) (omega (arith, many)) (λ e. z (sym (run_head line at (omega (arith, many))) ∙ e)))
      ∙ rw (place_is read.progress other, value_is read.progress other, many)
