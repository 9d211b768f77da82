-- Moments and ticks of document 01, in the order of its section 'Moments and ticks'. A moment is an integer (ℤ): a whole
-- number of nanoseconds from the epoch. What the code holds as an i64 is such an integer here.
use Rattle.std.specs.Prelude.{Bool, true, false, ◌&&◌, ℕ, ◌+◌, ◌-◌, ◌/◌, ℤ, pos, negsuc, ◌+ℤ◌, Option, Some, None}
use Rattle.std.specs.Int.Signed.{le_z}

-- 'from -4000000000000000000 through 4000000000000000000 (the range)'
abbrev pub earliest : ℤ
earliest = negsuc 3999999999999999999

abbrev pub latest : ℤ
latest = pos 4000000000000000000

unfoldable pub in_range : ℤ → Bool
in_range m = le_z earliest m && le_z m latest

-- 'The shortest tick is 1000000 - claim ns and the longest is 1000000 + claim ns.'
abbrev pub shortest : ℕ → ℕ
shortest claim = 1000000 - claim

abbrev pub longest : ℕ → ℕ
longest claim = 1000000 + claim

pick_moved : Bool → ℤ → Option ℤ
pick_moved true m = Some m
pick_moved false m = None

-- The edge `by` nanoseconds on (back, if `by` is negative), or that it would leave the range.
unfoldable pub moved_by : ℤ → ℤ → Option ℤ
unfolding pick_moved
moved_by edge by = pick_moved (in_range (edge +ℤ by)) (edge +ℤ by)

pick_z : Bool → ℤ → ℤ → ℤ
pick_z true a b = a
pick_z false a b = b

-- The larger and the smaller of two moments.
unfoldable pub larger_of : ℤ → ℤ → ℤ
unfolding pick_z
larger_of a b = pick_z (le_z a b) b a

unfoldable pub smaller_of : ℤ → ℤ → ℤ
unfolding pick_z
smaller_of a b = pick_z (le_z a b) a b

-- 'the sum of the edges divided by 2, rounded toward minus infinity'
unfoldable pub floor_half : ℤ → ℤ
floor_half (pos n) = pos (n / 2)
floor_half (negsuc n) = negsuc (n / 2)
