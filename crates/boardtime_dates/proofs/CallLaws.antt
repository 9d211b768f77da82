-- Laws of the two calls: which answers they give, and what one gives of the other's answer.
use mathlib.Core.Path.{◌≡◌, refl, sym, ◌∙◌, ap, subst}
use mathlib.Core.Bool.{true, false}
use mathlib.Core.Logic.{◌⊎◌, inl, inr}
use mathlib.Core.List.{List, [], ◌∷◌}
use Prim.Native.Nat.{ℕ}
use native.Mathlib.Omega.{arith}
use lib.IntN.{ℤ, pos, ◌+ℤ◌}
use lib.ListN.{length}
use lib.Signed.{◌≤ℤ◌, ◌<ℤ◌}
use Rattle.std.specs.Prelude.{Result, Ok, Err}
use Rattle.bits.proofs.Tests.{by_test}
use Rattle.calendar.specs.declared.Date.{Date}
use Rattle.refusal.specs.declared.Refusal.{Refusal}
use Rattle.refusal.specs.declared.Refusal.TheVariants.{NoDate}
use Rattle.refusal.specs.Refusal.{number_of}
use Rattle.calendar.specs.Calendar.{exists}
use Rattle.calendar.specs.Conversion.{date_in, six_of, Earlier, moment_of, moment_result, in_years, FallsIn, IsDateOf, Narrows}
use Rattle.calendar.proofs.ConversionLaws.{date_of_one, there_and_back, later_than}
use Rattle.boardtime_dates.specs.Calls.{moment_stored_of, date_stored_of, MomentCall, DateCall}

-- The answer for a date, from whether it exists.
moment_given : (d : Date) → exists d ≡ true → moment_result d ≡ Ok (moment_of d)
unfolding moment_result
moment_given d e = rw e

moment_refused : (d : Date) → exists d ≡ false → moment_result d ≡ Err NoDate
unfolding moment_result
moment_refused d e = rw e

-- a date cut to its fields has the answer of the six numbers handed in
pub narrow_moment : {wide narrow : Date} → Narrows wide narrow → moment_result narrow ≡ moment_result wide
narrow_moment {wide} {narrow} n =
    by_test (exists wide)
    (λ e. ap moment_result (n.equal e))
    (λ e. moment_refused narrow (n.exists_alike ∙ e) ∙ sym (moment_refused wide e))

-- What is stored and returned is `moment_of`'s answer for the date that `date_from` made of the six numbers.
pub moment_called : {given : List ℕ} {narrow : Date} {a : Result ℤ Refusal} {r : ℕ} {after : ℤ} → Narrows (date_in given) narrow → a ≡ moment_result narrow
    → r ≡ number_of a → after ≡ moment_stored_of a → MomentCall given r after
moment_called n e q s = let k = e ∙ narrow_moment n in record { returned = q ∙ ap number_of k; stored = s ∙ ap moment_stored_of k }

-- Of a date that exists the moment is stored, and of any other 0.
pub moment_stored : {given : List ℕ} {r : ℕ} {m : ℤ} → MomentCall given r m → exists (date_in given) ≡ true → (r ≡ 0) × (m ≡ moment_of (date_in given))
moment_stored {given} c e =
    let k = moment_given (date_in given) e in
    (c.returned ∙ ap number_of k, c.stored ∙ ap moment_stored_of k)

pub moment_none : {given : List ℕ} {r : ℕ} {m : ℤ} → MomentCall given r m → exists (date_in given) ≡ false → (r ≡ 11) × (m ≡ pos 0)
moment_none {given} c e =
    let k = moment_refused (date_in given) e in
    (c.returned ∙ ap number_of k, c.stored ∙ ap moment_stored_of k)

-- Of a moment of those years the date is stored, and of any other six zeros.
pub date_stored : {m : ℤ} {r : ℕ} {after : List ℕ} → DateCall m r after → in_years m ≡ true → (r ≡ 0) × (exists (date_in after) ≡ true) × FallsIn m (date_in after)
date_stored {m} c e =
    let (d, is, there, falls) = c.is_date.found e in
    let k = ap date_in (c.stored ∙ ap date_stored_of is) in
    (c.returned ∙ ap number_of is, ap exists k ∙ there, subst (λ d. FallsIn m d) (sym k) falls)

pub date_none : {m : ℤ} {r : ℕ} {after : List ℕ} → DateCall m r after → in_years m ≡ false → (r ≡ 11) × (after ≡ 0 ∷ 0 ∷ 0 ∷ 0 ∷ 0 ∷ 0 ∷ [])
date_none c e =
    let k = c.is_date.refused e in
    (c.returned ∙ ap number_of k, c.stored ∙ ap date_stored_of k)

-- The contract of the second call leaves one answer, as that of the first does.
pub one_answer : {m : ℤ} {r s : ℕ} {a b : List ℕ} → DateCall m r a → DateCall m s b → (r ≡ s) × (a ≡ b)
one_answer c d =
    let k = date_of_one c.is_date d.is_date in
    (c.returned ∙ ap number_of k ∙ sym d.returned, c.stored ∙ ap date_stored_of k ∙ sym d.stored)

-- The laws of the order. No number but 0 and 11 is returned.
pub moment_numbers : {given : List ℕ} {r : ℕ} {m : ℤ} → MomentCall given r m → (r ≡ 0) ⊎ (r ≡ 11)
moment_numbers {given} c =
    by_test (exists (date_in given)) (λ e. inl (moment_stored c e).0) (λ e. inr (moment_none c e).0)

pub date_numbers : {m : ℤ} {r : ℕ} {after : List ℕ} → DateCall m r after → (r ≡ 0) ⊎ (r ≡ 11)
date_numbers {m} c = by_test (in_years m) (λ e. inl (date_stored c e).0) (λ e. inr (date_none c e).0)

-- 'a refused one gives its number and zeros'
pub refused_zero : {given : List ℕ} {r : ℕ} {m : ℤ} → MomentCall given r m → r ≡ 11 → m ≡ pos 0
refused_zero {given} c q =
    by_test (exists (date_in given)) (λ e. absurd (omega (arith, q, (moment_stored c e).0))) (λ e. (moment_none c e).1)

pub refused_zeros : {m : ℤ} {r : ℕ} {after : List ℕ} → DateCall m r after → r ≡ 11 → after ≡ 0 ∷ 0 ∷ 0 ∷ 0 ∷ 0 ∷ 0 ∷ []
refused_zeros {m} c q =
    by_test (in_years m) (λ e. absurd (omega (arith, q, (date_stored c e).0))) (λ e. (date_none c e).1)

-- six numbers are those of the date that they are
six_again : (s : List ℕ) → length s ≡ 6 → six_of (date_in s) ≡ s
six_again [] e = absurd (omega (arith, e))
six_again (_ ∷ []) e = absurd (omega (arith, e))
six_again (_ ∷ _ ∷ []) e = absurd (omega (arith, e))
six_again (_ ∷ _ ∷ _ ∷ []) e = absurd (omega (arith, e))
six_again (_ ∷ _ ∷ _ ∷ _ ∷ []) e = absurd (omega (arith, e))
six_again (_ ∷ _ ∷ _ ∷ _ ∷ _ ∷ []) e = absurd (omega (arith, e))
six_again (_ ∷ _ ∷ _ ∷ _ ∷ _ ∷ _ ∷ []) e = refl
six_again (_ ∷ _ ∷ _ ∷ _ ∷ _ ∷ _ ∷ _ ∷ _) e = absurd (omega (arith, e))

-- Date to moment to date is unchanged: the six numbers of a date that exists come back when its moment is handed to the other call.
pub date_there_and_back : {given after : List ℕ} {r s : ℕ} {m : ℤ} → length given ≡ 6 → exists (date_in given) ≡ true → MomentCall given r m → DateCall m s after → (r ≡ 0) × (s ≡ 0) × (after ≡ given)
date_there_and_back {given} w e c d =
    let p = moment_stored c e in
    let k = there_and_back (date_in given) d.dated e (subst (λ z. IsDateOf z d.dated) p.1 d.is_date) in
    (p.0, d.returned ∙ ap number_of k, d.stored ∙ ap date_stored_of k ∙ six_again given w)

-- Moment to date to moment: a moment that has a date comes back as the beginning of its second, at or before it.
pub moment_there_and_back : {after : List ℕ} {r s : ℕ} {m n : ℤ} → in_years m ≡ true → DateCall m r after → MomentCall after s n → (r ≡ 0) × (s ≡ 0) × (n ≤ℤ m) × (m <ℤ (n +ℤ pos 1000000000))
moment_there_and_back e c d =
    let p = date_stored c e in
    let q = moment_stored d p.1 in
    (p.0, q.0, rw q.1 p.2.begun, rw q.1 p.2.not_over)

-- Of two dates that exist the later one has the later moment.
pub later_stored : {a b : List ℕ} {m n : ℤ} {r s : ℕ} → exists (date_in a) ≡ true → exists (date_in b) ≡ true → Earlier (date_in a) (date_in b)
    → MomentCall a r m → MomentCall b s n → m <ℤ n
later_stored p q e c d = let l = later_than p q e in rw ((moment_stored c p).1, (moment_stored d q).1) l
