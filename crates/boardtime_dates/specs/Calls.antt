-- What the library promises of its two calls, for all numbers handed in: document 02, order 3.
use Rattle.std.specs.Prelude.{◌≡◌, List, [], ◌∷◌, Result, Ok, Err, ℕ, ℤ, pos}
use Rattle.refusal.specs.declared.Refusal.{Refusal}
use Rattle.refusal.specs.Refusal.{number_of}
use Rattle.calendar.specs.declared.Date.{Date}
use Rattle.calendar.specs.Conversion.{date_in, six_of, moment_result, IsDateOf}

-- What is stored: 'a refused one gives its number and zeros'.
abbrev pub moment_stored_of : Result ℤ Refusal → ℤ
moment_stored_of (Ok m) = m
moment_stored_of (Err r) = pos 0

abbrev pub date_stored_of : Result Date Refusal → List ℕ
date_stored_of (Ok d) = six_of d
date_stored_of (Err r) = 0 ∷ 0 ∷ 0 ∷ 0 ∷ 0 ∷ 0 ∷ []

-- Date to moment: what is returned and what is stored are the number and the moment of the date.
pub record MomentCall (given : List ℕ) (r : ℕ) (after : ℤ) : Type 0 where
  pub returned : r ≡ number_of (moment_result (date_in given))
  pub stored : after ≡ moment_stored_of (moment_result (date_in given))

-- Moment to date: what is returned and what is stored are the number and the six numbers of the moment's date, of which there is one
-- (`date_of_one` of `calendar`).
pub record DateCall (m : ℤ) (r : ℕ) (after : List ℕ) : Type 0 where
  pub dated : Result Date Refusal
  pub is_date : IsDateOf m dated
  pub returned : r ≡ number_of dated
  pub stored : after ≡ date_stored_of dated
