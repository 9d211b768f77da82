-- Order 4's own spellings, and those that stand beside them: which are numerals, and of which number, and which are none.
use Rattle.std.proofs.Common.{Some, None, ◌≡◌, ℕ, suc, ◌+◌, ◌≤◌, [], length, ℤ, pos, negsuc, sym, refl, subst, inr, append-nil, arith}
use Prim.Native.String.{String}
use Rattle.text.specs.Words.{bytes}
use Rattle.numeral.specs.Digits.{digits_in, digits}
use Rattle.numeral.specs.Groups.{grouped}
use Rattle.numeral.specs.Numerals.{Numeral, SignedNumeral}
use Rattle.numeral.specs.Reading.{run, value_from, well_formed, first_group, ended_at, groups_from, number_in, number_from, number_at}
use Rattle.numeral.proofs.Numerals.{numeral_read}

-- a number below 10^19 whose digits in groups the bytes are
spelt_in_groups : (n : ℕ) (t : String) → bytes t ≡ grouped (digits n) → length (digits n) ≤ 19 → Numeral n (bytes t)
spelt_in_groups n t e h = record { spelling = inr e; most = h }

-- bytes that are read as no numeral are none
none : (t : String) → number_at (bytes t) 0 ≡ None → (n : ℕ) → Numeral n (bytes t) → ⊥
none t e n m =
    let read : number_at (bytes t) 0 ≡ Some (n, 0 + length (bytes t)) = numeral_read (bytes t) 0 n (bytes t) [] m (sym (append-nil (bytes t))) refl in
    (let k : ◌≡◌ {A = ℕ} 0 1 = cc in omega arith)

-- ---- numerals

pub thousand : Numeral 1000 (bytes "1_000")
unfolding digits_in digits grouped
thousand = spelt_in_groups 1000 "1_000" refl (omega arith)

pub five_digits : Numeral 12345 (bytes "12_345")
unfolding digits_in digits grouped
five_digits = spelt_in_groups 12345 "12_345" refl (omega arith)

-- a first group of one, two and three digits
pub six_digits : Numeral 123456 (bytes "123_456")
unfolding digits_in digits grouped
six_digits = spelt_in_groups 123456 "123_456" refl (omega arith)

pub seven_digits : Numeral 1234567 (bytes "1_234_567")
unfolding digits_in digits grouped
seven_digits = spelt_in_groups 1234567 "1_234_567" refl (omega arith)

pub nineteen_digits : Numeral 4000000000000000000 (bytes "4_000_000_000_000_000_000")
unfolding digits_in digits grouped
nineteen_digits = spelt_in_groups 4000000000000000000 "4_000_000_000_000_000_000" refl (omega arith)

pub positive_thousand : SignedNumeral (pos 1000) (bytes "1_000")
positive_thousand = thousand

pub negative_thousand : SignedNumeral (negsuc 999) (bytes "-1_000")
negative_thousand = (bytes "1_000", thousand, refl)

-- ---- and none

abbrev NoNumeral : String → Type 0
NoNumeral t = (n : ℕ) → Numeral n (bytes t) → ⊥

-- a last group of one digit
pub short_last : NoNumeral "12_7"
unfolding run value_from well_formed first_group ended_at groups_from number_in number_from number_at
short_last = none "12_7" refl

-- a first group of four
pub long_first : NoNumeral "1000_000"
unfolding run value_from well_formed first_group ended_at groups_from number_in number_from number_at
long_first = none "1000_000" refl

-- nothing before the `_`
pub no_first : NoNumeral "_100"
unfolding run value_from well_formed first_group ended_at groups_from number_in number_from number_at
no_first = none "_100" refl

-- nothing after it
pub no_last : NoNumeral "100_"
unfolding run value_from well_formed first_group ended_at groups_from number_in number_from number_at
no_last = none "100_" refl

-- two together
pub doubled : NoNumeral "1__000"
unfolding run value_from well_formed first_group ended_at groups_from number_in number_from number_at
doubled = none "1__000" refl

pub two_last : NoNumeral "1_00"
unfolding run value_from well_formed first_group ended_at groups_from number_in number_from number_at
two_last = none "1_00" refl

pub four_last : NoNumeral "1_0000"
unfolding run value_from well_formed first_group ended_at groups_from number_in number_from number_at
four_last = none "1_0000" refl

-- at some groups only
pub some_only : NoNumeral "1_000000"
unfolding run value_from well_formed first_group ended_at groups_from number_in number_from number_at
some_only = none "1_000000" refl

-- a 0 before others
pub zero_first : NoNumeral "0_000"
unfolding run value_from well_formed first_group ended_at groups_from number_in number_from number_at
zero_first = none "0_000" refl

pub zeros_first : NoNumeral "001_000"
unfolding run value_from well_formed first_group ended_at groups_from number_in number_from number_at
zeros_first = none "001_000" refl

-- twenty digits
pub twenty_digits : NoNumeral "10_000_000_000_000_000_000"
unfolding run value_from well_formed first_group ended_at groups_from number_in number_from number_at
twenty_digits = none "10_000_000_000_000_000_000" refl

-- a '-' and then a `_`
unsigned_none : NoNumeral "-_100"
unfolding run value_from well_formed first_group ended_at groups_from number_in number_from number_at
unsigned_none = none "-_100" refl

pub no_first_negative : (z : ℤ) → SignedNumeral z (bytes "-_100") → ⊥
no_first_negative (pos n) m = unsigned_none n m
no_first_negative (negsuc n) (m, k, e) = no_first (suc n) (subst (Numeral (suc n)) (let same : m ≡ bytes "_100" = cc in same) k)
