-- One list of lines in which a reply is taken, one is kept, one conflicts and one request is dropped, all under mm; and one with flight times.
use Rattle.std.specs.Prelude.{List, [], ◌∷◌}
use Prim.Native.String.{String}
use Rattle.text.specs.Words.{bytes}
use Rattle.history.specs.Log.{Input}

abbrev inputs_of : List String → List Input
inputs_of [] = []
inputs_of (l ∷ ls) = record { line = bytes l; room = 256 } ∷ inputs_of ls

-- a reply that is taken, its width with a tick of 1000000 ns on either side being that of the edges, and one that is wider and kept
abbrev pub kept_run : List Input
kept_run =
    inputs_of
    ("(start 3 mm 0 (0 2000100))"
    ∷ "(request 4)"
    ∷ "(request 5)"
    ∷ "(reply 4 1 (1000050 1000150))"
    ∷ "(reply 5 2 (1000100 1000300))"
    ∷ [])

-- and then one whose bracket begins after the upper edge, which conflicts, and a drop
abbrev pub all_run : List Input
all_run =
    inputs_of
    ("(start 3 mm 0 (0 2000100))"
    ∷ "(request 4)"
    ∷ "(request 5)"
    ∷ "(reply 4 1 (1000050 1000150))"
    ∷ "(reply 5 2 (1000100 1000300))"
    ∷ "(request 6)"
    ∷ "(request 7)"
    ∷ "(reply 6 3 (3000151 3000251))"
    ∷ "(drop 7)"
    ∷ "(read)"
    ∷ "(pass x)"
    ∷ [])

-- Out 1000 and back 2000: the bracket of the reply runs from 1000050 - 1000000 + 2000 through 1000150 - 1000, which is 2050 through 999150.
abbrev pub flight_run : List Input
flight_run =
    inputs_of
    ("(start 3 im 0 (0 2000100))"
    ∷ "(flight 4 (1000 2000))"
    ∷ "(request 4)"
    ∷ "(reply 4 1 (1000050 1000150))"
    ∷ [])
