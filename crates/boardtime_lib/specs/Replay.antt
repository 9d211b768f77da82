-- Lines given one after the other to one image, as a board does that keeps it: demand 3 speaks of the keeper that stands in it.
use Rattle.std.specs.Prelude.{◌≡◌, List, [], ◌∷◌, map, ℕ, length}
use Rattle.keeper.specs.State.{fresh}
use Rattle.keeper.specs.declared.Keeper.{Keeper}
use Rattle.line.specs.Call.{keeper_after, output_after}
use Rattle.image.specs.Layout.{image_of, keeper_in}
use Rattle.history.specs.Log.{Input}
use Rattle.history.specs.Demand3.{keeper_through, Demand3}
use Rattle.boardtime_lib.specs.Images.{result_after, LineImage}

-- A line, and the output that is lent with it.
pub record LineCall : Type 0 where
  pub line : List ℕ
  pub out : List ℕ

abbrev pub input_of : LineCall → Input
input_of c = record { line = c.line; room = length c.out }

-- What a call gives back: its result, and the output after it.
pub record LineResult : Type 0 where
  pub returned : ℕ
  pub out : List ℕ

-- Each call gets the image that the call before it left, and gives one result; `final` is the image after the last.
abbrev pub Replayed : List ℕ → List LineCall → List LineResult → List ℕ → Type 0
Replayed image [] [] final = final ≡ image
Replayed image [] (r ∷ rs) final = ⊥
Replayed image (c ∷ cs) [] final = ⊥
Replayed image (c ∷ cs) (r ∷ rs) final =
    (image' : List ℕ) × LineImage image c.line c.out r.returned image' r.out × Replayed image' cs rs final

-- The results of the calls with the lines, each on the keeper that the lines before it left.
abbrev pub result_of : Keeper → LineCall → LineResult
result_of k c = record { returned = result_after k c.line (length c.out); out = output_after k c.line c.out }

unfoldable pub results_through : Keeper → List LineCall → List LineResult
results_through k [] = []
results_through k (c ∷ cs) = result_of k c ∷ results_through (keeper_after k c.line (length c.out)) cs

-- Every result, and every byte of every output, is that of the lines; the image holds the keeper of the lines, of which demand 3 is claimed.
pub record HoldsTheRun (calls : List LineCall) (results : List LineResult) (final : List ℕ) : Type 0 where
  pub results_are : results ≡ results_through fresh calls
  pub image_is : final ≡ image_of (keeper_through fresh (map input_of calls))
  pub keeper_is : keeper_in final ≡ keeper_through fresh (map input_of calls)
  pub demand : Demand3 (map input_of calls)
