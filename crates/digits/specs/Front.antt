-- What a call leaves that writes at the front of a part of the output: document 02, order 2.
use Rattle.std.specs.Prelude.{◌≡◌, List, ◌++◌, ℕ, ◌+◌, Option, Some, None, leb, length, drop}
use Rattle.bits.specs.Choice.{choose}

-- The part after the call, and the length that the call returns, if the bytes fit.
pub record FrontResult : Type 0 where
  pub part : List ℕ
  pub length : Option ℕ

abbrev pub front_result : List ℕ → Option ℕ → FrontResult
front_result part n = record { part = part; length = n }

-- 'It is lent a part of the output, which then begins with the numeral, and every other byte of it is as it was': the bytes s at the front of the
-- part, and their length. Where the part has no room for them, and for `more` bytes behind them, nothing is touched, and there is no length. In the
-- contracts of the public calls `more` is 0; it is above 0 while the bytes behind s are still to be put.
unfoldable pub front : List ℕ → List ℕ → ℕ → FrontResult
front part s more =
    choose (leb (length s + more) (length part)) (λ _. front_result (s ++ drop (length s) part) (Some (length s))) (λ _. front_result part None)

-- `after` and n are what such a call leaves of the part `before`, and the length. With 0 for `more` this is `Put` at the place 0, as one equation
-- (`front_is_put`).
pub record PutFront (before s : List ℕ) (more : ℕ) (after : List ℕ) (n : Option ℕ) : Type 0 where
  pub result : front_result after n ≡ front before s more
