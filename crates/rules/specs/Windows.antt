-- A heater's window and the edges: document 02, order 3; since order 5 the edges are the told ones. A window is given by its first moment and its last, as an interval's lower and upper.
use Rattle.std.specs.Prelude.{◌&&◌, ◌||◌, ℤ, ◌≤ℤ◌, ◌<ℤ◌}
use Rattle.std.specs.Int.Signed.{le_z, lt_z}
use Rattle.bits.specs.Choice.{choose}
use Rattle.moment.specs.Intervals.{Holds}
use Rattle.moment.specs.declared.Interval.{Interval}
use Rattle.rules.specs.declared.WindowState.{WindowState}
use Rattle.rules.specs.declared.WindowState.TheVariants.{Open, Shut, Unsure}

-- 'The window holds its first moment and not its last.'
pub record Inside (window : Interval) (m : ℤ) : Type 0 where
  pub from : window.lower ≤ℤ m
  pub before : m <ℤ window.upper

-- 'if every moment from the keeper's lower through its upper edge is inside'
abbrev pub AllInside : Interval → Interval → Type 0
AllInside window edges = (m : ℤ) → Holds edges m → Inside window m

-- 'if none is'
abbrev pub NoneInside : Interval → Interval → Type 0
NoneInside window edges = (m : ℤ) → Holds edges m → Inside window m → ⊥

-- What each word says: '`(open SLOT)` if every moment .. is inside, `(shut SLOT)` if none is, and otherwise `(unsure SLOT)`'.
abbrev pub Says : WindowState → Interval → Interval → Type 0
Says Open window edges = AllInside window edges
Says Shut window edges = NoneInside window edges
Says Unsure window edges = (AllInside window edges → ⊥) × (NoneInside window edges → ⊥)

-- The word, by comparing the ends of the window with the edges. For edges in order and a window that ends after it begins it is the word that says
-- what is so, and the only one (`window_says` of proofs/WindowLaws.antt).
unfoldable pub window_state : Interval → Interval → WindowState
window_state window edges =
    choose
    (lt_z edges.upper window.lower || le_z window.upper edges.lower)
    (λ _. Shut)
    (λ _. choose (le_z window.lower edges.lower && lt_z edges.upper window.upper) (λ _. Open) (λ _. Unsure))
