-- Numerals and their readers. A numeral is what the sentences of the papers describe (`described`); where one stands and does not go on,
-- it is read as its number (`numeral_read`); and what is read is a numeral of that number (`read_numeral`), that does not go on
-- (`read_ends`).
use Rattle.std.proofs.Common.{Option, Some, None, ◌≡◌, ℕ, zero, suc, ◌+◌, ◌-◌, ◌*◌, ◌/◌, ◌%◌, ◌<◌, ◌≤◌, Bool, true, false, not, ◌&&◌, eqb, ltb, leb, ◌⊎◌, ◌↔◌, List, [], ◌∷◌, ◌++◌, length, get_or, drop, sym, refl, ap, ◌∙◌, subst, inl, inr, append_assoc, append-nil, lt_of_not-le, arith, length-append, drop-drop, ltb-false, ltb-true, leb-false, leb-true}
use borrow.Author.Tests.{not-true, eqb-false}
use lib.ListN.{get_or-append}
use Rattle.bits.proofs.Tests.{both}
use Rattle.text.specs.Words.{Stands}
use Rattle.text.proofs.WordLaws.{rest_is}
use Rattle.numeral.specs.Digits.{digits}
use Rattle.numeral.specs.Groups.{grouped, ungrouped}
use Rattle.numeral.specs.Numerals.{Numeral, AllDigits, none, more, Plain, Groups, end, group, InGroups, Described}
use Rattle.numeral.specs.Reading.{is_digit, at_underscore, numeral_ends, run, value_from, well_formed, first_group, groups_from, number_in, number_from, number_at}
use Rattle.numeral.proofs.Digits.{digits_one, digits_more, digits_some}
use Rattle.numeral.proofs.GroupLaws.{all_append, ungrouped_digits, ungrouped_group, ungrouped_grouped, groups_digits, grouped_is, grouped_length, in_groups_are, Cut, cut}
use Rattle.numeral.proofs.Reading.{same_parts, is_digit_lem, digit_bounds, run_none, run_underscore, ends_no_underscore}
use Rattle.numeral.proofs.GroupReading.{groups_read, groups_back}
use Rattle.numeral.proofs.Answers.{formed_one, formed_more, formed_not_empty, formed_not_long, formed_not_zero, first_group_some}
use Rattle.bits.specs.Choice.{choose}

-- ---- the digits of a number, by their last one

-- what holds of the numbers below 10, and of a number if it holds of its tenth, holds of all
pub ten_ind : (P : ℕ → Type 0) → ((n : ℕ) → n < 10 → P n) → ((n : ℕ) → 10 ≤ n → P (n / 10) → P n) → (n : ℕ) → P n
ten_ind P one last n = go (suc n) n (omega arith)
  where
    by : (n : ℕ) → (t : Bool) → ltb n 10 ≡ t → (10 ≤ n → P (n / 10)) → P n
    by n true e r = one n (ltb-true n 10 e)
    by n false e r = last n (ltb-false n 10 e) (r (ltb-false n 10 e))

    go : (k n : ℕ) → n < k → P n
    go zero n h = absurd (omega arith)
    go (suc k) n h = by n (ltb n 10) refl (λ (l : 10 ≤ n). go k (n / 10) (omega arith))

one_digit : (d : ℕ) → d < 10 → AllDigits ((48 + d) ∷ [])
one_digit d h = more {b = 48 + d} (omega arith) (omega arith) none

pub digits_all : (n : ℕ) → AllDigits (digits n)
digits_all =
    ten_ind (λ n. AllDigits (digits n))
    (λ n h. rw (digits_one n h) (one_digit n h))
    (λ n h r. rw (digits_more n h) (all_append r (one_digit (n % 10) (omega arith))))

-- no zero before them
pub digits_lead : (n : ℕ) → 0 < n → get_or (digits n) 0 0 ≡ 48 → ⊥
digits_lead =
    ten_ind (λ n. 0 < n → get_or (digits n) 0 0 ≡ 48 → ⊥)
    (λ n h p. rw (digits_one n h) (λ e. omega arith))
    (λ n h r p. rw (digits_more n h, get_or-append (digits (n / 10)) ((48 + n % 10) ∷ []) 0 0 (digits_some (n / 10))) (r (omega arith)))

value_append : (v : ℕ) (s t : List ℕ) → value_from v (s ++ t) ≡ value_from (value_from v s) t
unfolding value_from
value_append v [] t = refl
value_append v (b ∷ s) t = value_append (v * 10 + (b - 48)) s t

value_last : (v : ℕ) (s : List ℕ) (b : ℕ) → value_from v (s ++ b ∷ []) ≡ value_from v s * 10 + (b - 48)
unfolding value_from
value_last v s b = value_append v s (b ∷ [])

-- the digits of a number spell it
pub value_digits : (n : ℕ) → value_from 0 (digits n) ≡ n
unfolding value_from
value_digits =
    ten_ind (λ n. value_from 0 (digits n) ≡ n)
    (λ n h. rw (digits_one n h) (omega arith))
    (λ n h r. rw (digits_more n h, value_last 0 (digits (n / 10)) (48 + n % 10), r) (omega arith))

-- two numbers of one spelling are one number
pub digits_same : (m n : ℕ) → digits m ≡ digits n → m ≡ n
digits_same m n e = sym (value_digits m) ∙ ap (value_from 0) e ∙ value_digits n

-- digits after those of a number spell a longer one
longer : {r : List ℕ} → AllDigits r → (v : ℕ) → 0 < v → digits (value_from v r) ≡ digits v ++ r
unfolding value_from
longer none v p = sym (append-nil (digits v))
longer (more {b = b} {s = s} low high r) v p =
    let ten : 10 ≤ v * 10 + (b - 48) = omega arith in
    let front : (v * 10 + (b - 48)) / 10 ≡ v = omega arith in
    let last : 48 + (v * 10 + (b - 48)) % 10 ≡ b = omega arith in
    longer r (v * 10 + (b - 48)) (omega arith)
    ∙ rw (digits_more (v * 10 + (b - 48)) ten, front, last) (append_assoc (digits v) (b ∷ []) s)

-- ---- a numeral is what the sentences describe

-- a first digit that may stand alone, and the digits after it
from_first : (b : ℕ) (s : List ℕ) → 48 ≤ b → b ≤ 57 → AllDigits s → (b ≡ 48 → suc (length s) ≡ 1) → digits (value_from 0 (b ∷ s)) ≡ b ∷ s
unfolding value_from
from_first b s low high r lead = go (ltb 48 b) refl
  where
    back : 48 + (b - 48) ≡ b
    back = omega arith

    first_is : 0 * 10 + (b - 48) ≡ b - 48
    first_is = omega arith

    one : digits (0 * 10 + (b - 48)) ≡ b ∷ []
    one = rw first_is (digits_one (b - 48) (omega arith) ∙ ap (λ (x : ℕ). x ∷ []) back)

    alone : (s : List ℕ) → length s ≡ 0 → digits (value_from (0 * 10 + (b - 48)) s) ≡ b ∷ s
    alone [] e = one
    alone (c ∷ s) e = absurd (omega arith)

    go : (t : Bool) → ltb 48 b ≡ t → digits (value_from (0 * 10 + (b - 48)) s) ≡ b ∷ s
    go true e =
        let some : 48 < b = ltb-true 48 b e in
        longer r (0 * 10 + (b - 48)) (omega arith) ∙ ap (λ (x : List ℕ). x ++ s) one
    go false e =
        let zero_first : b ≡ 48 = omega (arith, ltb-false 48 b e) in
        let rest : suc (length s) ≡ 1 = lead zero_first in
        alone s (omega arith)

pub plain_value : (s : List ℕ) → Plain s → digits (value_from 0 s) ≡ s
plain_value s d = go s d.all d.some d.lead
  where
    go : (s : List ℕ) → AllDigits s → 1 ≤ length s → (get_or s 0 0 ≡ 48 → length s ≡ 1) → digits (value_from 0 s) ≡ s
    go [] a some lead = absurd (omega arith)
    go (b ∷ s) (more low high r) some lead = from_first b s low high r lead

digits_plain : (n : ℕ) → length (digits n) ≤ 19 → Plain (digits n)
digits_plain n h = record { all = digits_all n; some = digits_some n; most = h; lead = led n }
  where
    led : (n : ℕ) → get_or (digits n) 0 0 ≡ 48 → length (digits n) ≡ 1
    led zero e = ap length (digits_one 0 (omega arith))
    led (suc n) e = absurd (digits_lead (suc n) (omega arith) e)

-- without its `_`, a numeral is the digits of its number
pub numeral_ungrouped : (n : ℕ) (s : List ℕ) → Numeral n s → ungrouped s ≡ digits n
numeral_ungrouped n s m = go m.spelling
  where
    go : (s ≡ digits n) ⊎ (s ≡ grouped (digits n)) → ungrouped s ≡ digits n
    go (inl e) = ap ungrouped e ∙ ungrouped_digits (digits_all n)
    go (inr e) = ap ungrouped e ∙ ungrouped_grouped (digits n) (digits_all n) (digits_some n)

-- bytes are a numeral of one number at most
pub one_number : (m n : ℕ) (s : List ℕ) → Numeral m s → Numeral n s → m ≡ n
one_number m n s p q = digits_same m n (sym (numeral_ungrouped m s p) ∙ numeral_ungrouped n s q)

-- it has at most 25 bytes: 19 digits and six `_`
pub numeral_most : (n : ℕ) (s : List ℕ) → Numeral n s → length s ≤ 25
numeral_most n s m = go m.spelling
  where
    go : (s ≡ digits n) ⊎ (s ≡ grouped (digits n)) → length s ≤ 25
    go (inl e) = rw e (omega (arith, m.most))
    go (inr e) = rw e (omega (arith, m.most, grouped_length (digits n) (digits_some n)))

in_groups : (n : ℕ) → InGroups (grouped (digits n))
in_groups n =
    let c = cut (digits n) (digits_all n) (digits_some n) in
    record { first = c.first; rest = c.rest; whole = c.spelt; all = c.all; some = c.some; most = c.most; groups = c.groups }

-- 'A numeral is 1 to 19 digits, with no leading zero unless it is 0 itself', and 'may now carry `_` between groups of three counted from the right,
-- either at every group or at none'
pub described : (s : List ℕ) → Described s ↔ ((n : ℕ) × Numeral n s)
described s = (to, from)
  where
    to : Described s → (n : ℕ) × Numeral n s
    to d = (value_from 0 (ungrouped s), record { spelling = spelt d.carried; most = rw same d.plain.most })
      where
        same : digits (value_from 0 (ungrouped s)) ≡ ungrouped s
        same = plain_value (ungrouped s) d.plain

        spelt : AllDigits s ⊎ InGroups s → (s ≡ digits (value_from 0 (ungrouped s))) ⊎ (s ≡ grouped (digits (value_from 0 (ungrouped s))))
        spelt (inl a) = inl (sym (ungrouped_digits a) ∙ sym same)
        spelt (inr g) = inr (sym (in_groups_are g) ∙ ap grouped (sym same))

    from : (n : ℕ) × Numeral n s → Described s
    from (n, m) = record { plain = subst Plain (sym (numeral_ungrouped n s m)) (digits_plain n m.most); carried = marks m.spelling }
      where
        marks : (s ≡ digits n) ⊎ (s ≡ grouped (digits n)) → AllDigits s ⊎ InGroups s
        marks (inl e) = inl (subst AllDigits (sym e) (digits_all n))
        marks (inr e) = inr (subst InGroups (sym e) (in_groups n))

-- a numeral begins with a digit
first_digit : {s : List ℕ} → AllDigits s → 1 ≤ length s → (rest : List ℕ) → (b : ℕ) × (t : List ℕ) × (48 ≤ b) × (s ++ rest ≡ b ∷ t)
first_digit none h rest = absurd (omega arith)
first_digit (more {b = b} {s = s} low high r) h rest = (b, s ++ rest, low, refl)

pub begins_digit : (n : ℕ) (s : List ℕ) → Numeral n s → (b : ℕ) × (t : List ℕ) × (48 ≤ b) × (s ≡ b ∷ t)
begins_digit n s m = go m.spelling
  where
    after : (x y : List ℕ) → s ≡ x ++ y → AllDigits x → 1 ≤ length x → (b : ℕ) × (t : List ℕ) × (48 ≤ b) × (s ≡ b ∷ t)
    after x y e a h = let (b, t, low, front) = first_digit a h y in (b, t, low, e ∙ front)

    go : (s ≡ digits n) ⊎ (s ≡ grouped (digits n)) → (b : ℕ) × (t : List ℕ) × (48 ≤ b) × (s ≡ b ∷ t)
    go (inl e) = after (digits n) [] (e ∙ sym (append-nil (digits n))) (digits_all n) (digits_some n)
    go (inr e) = let g = in_groups n in after g.first g.rest (e ∙ g.whole) g.all g.some

-- ---- what the reader answers

-- the run of digits before bytes that begin with none is all of them
pub run_all : {s : List ℕ} → AllDigits s → (rest : List ℕ) → run rest ≡ [] → run (s ++ rest) ≡ s
unfolding run
run_all none rest e = e
run_all (more {b = b} {s = s} low high r) rest e = rw (is_digit_lem b low high) (ap (λ (x : List ℕ). b ∷ x) (run_all r rest e))

-- a run is digits, and stands at the front
pub run_digits : (s : List ℕ) → AllDigits (run s)
unfolding run
run_digits [] = none
run_digits (b ∷ s) = go (is_digit b) refl (run_digits s)
  where
    go : (t : Bool) → is_digit b ≡ t → AllDigits (run s) → AllDigits (choose t (λ _. b ∷ run s) (λ _. []))
    go true e r = let range = digit_bounds b e in more range.0 range.1 r
    go false e r = none

pub run_front : (s : List ℕ) → s ≡ run s ++ drop (length (run s)) s
unfolding run
run_front [] = refl
run_front (b ∷ s) = go (is_digit b) (run_front s)
  where
    go : (t : Bool) → s ≡ run s ++ drop (length (run s)) s → b ∷ s ≡ choose t (λ _. b ∷ run s) (λ _. []) ++ drop (length (choose t (λ _. b ∷ run s) (λ _. []))) (b ∷ s)
    go true r = ap (λ (x : List ℕ). b ∷ x) r
    go false r = refl

-- the test is the sentence's, of digits
formed_plain : (r : List ℕ) → AllDigits r → well_formed r ≡ true → Plain r
formed_plain r a e = record { all = a; some = some; most = most; lead = lead }
  where
    wrong : well_formed r ≡ false → ⊥
    wrong f = let k : ◌≡◌ {A = Bool} true false = cc in let z : ◌≡◌ {A = ℕ} 0 1 = cc in omega arith

    some : 1 ≤ length r
    some = lt_of_not-le (λ (h : length r ≤ 0). wrong (formed_not_empty r (omega arith)))

    below : length r < 20
    below = lt_of_not-le (λ (h : 20 ≤ length r). wrong (formed_not_long r (omega arith)))

    most : length r ≤ 19
    most = omega (arith, below)

    lead : get_or r 0 0 ≡ 48 → length r ≡ 1
    lead z = omega (arith, some, lt_of_not-le (λ (h : 2 ≤ length r). wrong (formed_not_zero r (omega arith) z)))

plain_formed : (r : List ℕ) → Plain r → well_formed r ≡ true
plain_formed r d = go (leb (length r) 1) refl
  where
    go : (t : Bool) → leb (length r) 1 ≡ t → well_formed r ≡ true
    go true h = formed_one r (omega (arith, leb-true (length r) 1 h))
    go false h =
        let several : 1 < length r = leb-false (length r) 1 h in
        formed_more r several d.most (λ z. let single : length r ≡ 1 = d.lead z in omega arith)

-- the digits before the first `_` are one to three, and the first is not 0
first_group_back : (r : List ℕ) → first_group r ≡ true → (1 ≤ length r) × (length r ≤ 3) × (get_or r 0 0 ≡ 48 → ⊥)
unfolding first_group
first_group_back r e =
    let (some, others) = both (leb 1 (length r)) (leb (length r) 3 && not (eqb (get_or r 0 0) 48)) e in
    let (most, lead) = both (leb (length r) 3) (not (eqb (get_or r 0 0) 48)) others in
    (leb-true 1 (length r) some, leb-true (length r) 3 most, eqb-false (get_or r 0 0) 48 (not-true (eqb (get_or r 0 0) 48) lead))

-- ---- a numeral is read

module _ (line : List ℕ) (at n : ℕ) (rest : List ℕ) (small : length (digits n) ≤ 19) (ends : numeral_ends rest ≡ true) where
  plain_read : drop at line ≡ digits n ++ rest → number_at line at ≡ Some (n, at + length (digits n))
  unfolding number_at number_from number_in
  plain_read e =
      rw (e, run_all (digits_all n) rest (run_none rest ends), rest_is line at (digits n) rest e, ends_no_underscore rest ends, plain_formed (digits n) (digits_plain n small), value_digits n)

  -- a first group, and at least one more
  in_groups_read : (first s : List ℕ) → AllDigits first → 1 ≤ length first → length first ≤ 3 → Groups s → digits n ≡ first ++ ungrouped s → at_underscore (s ++ rest) ≡ true → 1 ≤ length (ungrouped s)
      → drop at line ≡ first ++ (s ++ rest) → number_at line at ≡ Some (n, at + length (first ++ s))
  unfolding number_at number_from
  in_groups_read first s all some most g spelt mark more-digits e =
      let long : length (digits n) ≡ length first + length (ungrouped s) = ap length spelt ∙ length-append first (ungrouped s) in
      let lead : get_or first 0 0 ≡ 48 → ⊥ = λ z. (
      let single : length (digits n) ≡ 1 = (digits_plain n small).lead (ap (λ (x : List ℕ). get_or x 0 0) spelt ∙ get_or-append first (ungrouped s) 0 0 some ∙ z) in
      omega (arith, single, long)
      ) in
      let value : value_from (value_from 0 first) (ungrouped s) ≡ n = sym (value_append 0 first (ungrouped s)) ∙ ap (value_from 0) (sym spelt) ∙ value_digits n in
      let place : at + length first + length s ≡ at + length (first ++ s) = omega (arith, length-append first s) in
      rw (e, run_all all (s ++ rest) (run_underscore (s ++ rest) mark), rest_is line at first (s ++ rest) e, mark, first_group_some first some most lead)
      (groups_read g (value_from 0 first) (length first) (at + length first) rest ends (omega (arith, long)) ∙ rw (value, place))

  grouped_read : drop at line ≡ grouped (digits n) ++ rest → number_at line at ≡ Some (n, at + length (grouped (digits n)))
  unfolding ungrouped
  grouped_read e = go c.rest c.groups c.digits c.spelt
    where
      c : Cut (digits n)
      c = cut (digits n) (digits_all n) (digits_some n)

      go : (s : List ℕ) → Groups s → digits n ≡ c.first ++ ungrouped s → grouped (digits n) ≡ c.first ++ s → number_at line at ≡ Some (n, at + length (grouped (digits n)))
      go s end p q =
          let same : grouped (digits n) ≡ digits n = q ∙ sym p in
          rw same (plain_read (e ∙ ap (λ (x : List ℕ). x ++ rest) same))
      go s (group {s = t} d g) p q =
          let front : drop at line ≡ c.first ++ (s ++ rest) = e ∙ ap (λ (x : List ℕ). x ++ rest) q ∙ append_assoc c.first s rest in
          in_groups_read c.first s c.all c.some c.most (group d g) p refl (omega (arith, ap length (ungrouped_group t d))) front ∙ rw q

-- a numeral that stands at a place, and that does not go on, is read as its number
pub numeral_read : (line : List ℕ) (at n : ℕ) (s rest : List ℕ)
    → Numeral n s → drop at line ≡ s ++ rest → numeral_ends rest ≡ true → number_at line at ≡ Some (n, at + length s)
numeral_read line at n s rest m e f = go m.spelling
  where
    go : (s ≡ digits n) ⊎ (s ≡ grouped (digits n)) → number_at line at ≡ Some (n, at + length s)
    go (inl p) = rw p (plain_read line at n rest m.most f (e ∙ ap (λ (x : List ℕ). x ++ rest) p))
    go (inr p) = rw p (grouped_read line at n rest m.most f (e ∙ ap (λ (x : List ℕ). x ++ rest) p))

-- ---- what is read is a numeral

-- a run of digits that no `_` follows does not go on
run_ends : (s : List ℕ) → at_underscore (drop (length (run s)) s) ≡ false → numeral_ends (drop (length (run s)) s) ≡ true
unfolding run
run_ends [] m = refl
run_ends (b ∷ s) m = go (is_digit b) refl m (run_ends s)
  where
    go : (t : Bool) → is_digit b ≡ t → at_underscore (drop (length (choose t (λ _. b ∷ run s) (λ _. []))) (b ∷ s)) ≡ false
        → (at_underscore (drop (length (run s)) s) ≡ false → numeral_ends (drop (length (run s)) s) ≡ true)
        → numeral_ends (drop (length (choose t (λ _. b ∷ run s) (λ _. []))) (b ∷ s)) ≡ true
    go true e m r = r m
    go false e m r = rw (e, m)

-- a numeral that was read, and what follows it
record NumeralRead (line : List ℕ) (at n next : ℕ) : Type 0 where
  stands : Stands (Numeral n) line at next
  ends : numeral_ends (drop next line) ≡ true

module _ (line : List ℕ) (at n next : ℕ) where
  abbrev r : List ℕ
  r = run (drop at line)

  abbrev after : List ℕ
  after = drop (at + length r) line

  front : drop at line ≡ r ++ after
  front = run_front (drop at line) ∙ ap (λ (x : List ℕ). r ++ x) (drop-drop (length r) at line)

  plain_back : at_underscore after ≡ false → number_in r at ≡ Some (n, next) → NumeralRead line at n next
  unfolding number_in
  plain_back m e = go (well_formed r) refl e
    where
      go : (t : Bool) → well_formed r ≡ t → choose {A = Option (ℕ × ℕ)} t (λ _. Some (value_from 0 r, at + length r)) (λ _. None) ≡ Some (n, next) → NumeralRead line at n next
      go false w h = absurd (let k : ◌≡◌ {A = ℕ} 0 1 = cc in omega arith)
      go true w h =
          let d : Plain r = formed_plain r (run_digits (drop at line)) w in
          let (value, place) = same_parts h in
          let spelt : r ≡ digits n = sym (plain_value r d) ∙ ap digits value in
          let stop : numeral_ends after ≡ true = rw (← drop-drop (length r) at line) (run_ends (drop at line) (rw (← drop-drop (length r) at line) at m)) in
          record {
            stands =
                record {
                  bytes = r;
                  kind = record { spelling = inl spelt; most = rw (← spelt) d.most };
                  here = front ∙ ap (λ (k : ℕ). r ++ drop k line) place;
                  after = sym place;
                };
            ends = rw (← place) stop;
          }

  in_groups_back : first_group r ≡ true → groups_from (value_from 0 r) (length r) (at + length r) after ≡ Some (n, next) → NumeralRead line at n next
  in_groups_back l e =
      let (some, most, lead) = first_group_back r l in
      let g = groups_back (value_from 0 r) (length r) (at + length r) after n next (omega arith) e in
      let all : List ℕ = r ++ ungrouped g.bytes in
      let long : length all ≡ length r + length (ungrouped g.bytes) = length-append r (ungrouped g.bytes) in
      let d : Plain all =
      record {
        all = all_append (run_digits (drop at line)) (groups_digits g.groups);
        some = omega (arith, long);
        most = omega (arith, long, g.most);
        lead = λ z. absurd (lead (sym (get_or-append r (ungrouped g.bytes) 0 0 some) ∙ z));
      } in
      let value : value_from 0 all ≡ n = value_append 0 r (ungrouped g.bytes) ∙ sym g.number in
      let spelt : digits n ≡ all = ap digits (sym value) ∙ plain_value all d in
      let bytes_are : r ++ g.bytes ≡ grouped (digits n) = sym (grouped_is r g.bytes some most g.groups) ∙ ap grouped (sym spelt) in
      let rest : drop next line ≡ g.rest = ap (λ (k : ℕ). drop k line) g.place ∙ rest_is line (at + length r) g.bytes g.rest g.whole in
      let place : next ≡ at + length (r ++ g.bytes) = omega (arith, g.place, length-append r g.bytes) in
      record {
        stands =
            record {
              bytes = r ++ g.bytes;
              kind = record { spelling = inr bytes_are; most = rw spelt d.most };
              here =
                  front
                  ∙ ap (λ (x : List ℕ). r ++ x) g.whole
                  ∙ sym (append_assoc r g.bytes g.rest)
                  ∙ ap (λ (x : List ℕ). r ++ g.bytes ++ x) (sym rest);
              after = place;
            };
        ends = rw rest g.ends;
      }

  back : number_at line at ≡ Some (n, next) → NumeralRead line at n next
  unfolding number_at number_from
  back e = go (at_underscore after) refl e
    where
      first : (t : Bool) → first_group r ≡ t
          → choose t (λ _. groups_from (value_from 0 r) (length r) (at + length r) after) (λ _. None) ≡ Some (n, next) → NumeralRead line at n next
      first true l h = in_groups_back l h
      first false l h = absurd (let k : ◌≡◌ {A = ℕ} 0 1 = cc in omega arith)

      go : (t : Bool) → at_underscore after ≡ t
          → choose t (λ _. choose (first_group r) (λ _. groups_from (value_from 0 r) (length r) (at + length r) after) (λ _. None)) (λ _. number_in r at) ≡ Some (n, next)
          → NumeralRead line at n next
      go true m h = first (first_group r) refl h
      go false m h = plain_back m h

  -- what is read is a numeral, and the place given is the one after it
  pub read_numeral : number_at line at ≡ Some (n, next) → Stands (Numeral n) line at next
  read_numeral e = (back e).stands

  -- after a numeral that is read no digit and no `_` stands
  pub read_ends : number_at line at ≡ Some (n, next) → numeral_ends (drop next line) ≡ true
  read_ends e = (back e).ends
