-- Flight times: document 02, order 7.
use Rattle.std.specs.Prelude.{Bool, ◌&&◌, List, ℕ, leb, get_or}
use Rattle.bits.specs.Below.{all_below}

-- 'Each peer's record gains an out time and a back time, 0 through 1000000000 ns'
abbrev pub most_flight : ℕ
most_flight = 1000000000

unfoldable pub flight_within : ℕ → Bool
flight_within time = leb time most_flight

-- one peer's out time and back time
abbrev pub flight_kept : List ℕ → List ℕ → ℕ → Bool
flight_kept out back p = flight_within (get_or out p 0) && flight_within (get_or back p 0)

-- 'A keeper handed in with either above that counts as not started': of all sixteen places none is. Of the board's own place the order asks no more.
unfoldable pub flights_kept : List ℕ → List ℕ → Bool
flights_kept out back = all_below 16 (flight_kept out back)
