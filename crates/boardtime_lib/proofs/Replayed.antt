-- The calls of a board one after the other on one image, the first on a fresh keeper's, make the run of their lines (`image_holds_the_run`).
use mathlib.Core.Path.{◌≡◌, refl, sym, ap, ◌∙◌, subst}
use mathlib.Core.Bool.{true}
use mathlib.Core.List.{List, [], ◌∷◌, ◌++◌, map, append-nil, append_assoc}
use Prim.Native.Nat.{ℕ, ◌/◌, ◌%◌}
use native.Mathlib.Omega.{arith}
use borrow.Author.Tests.{eqb-false}
use lib.Dec.{eqb}
use lib.ListN.{length}
use Rattle.bits.proofs.Tests.{by_test}
use Rattle.keeper.specs.State.{fresh}
use Rattle.keeper.specs.declared.Keeper.{Keeper}
use Rattle.line.specs.Call.{number_after, keeper_after, length_after}
use Rattle.line.proofs.ResponseLaws.{number_most, refused_leaves}
use Rattle.image.specs.Layout.{image_length, image_of, readable, keeper_in, AllBelow}
use Rattle.image.proofs.LayoutLaws.{image_length_lem}
use Rattle.image.proofs.ReadBack.{read_is_image}
use Rattle.image.proofs.StartedFits.{kept_read_back}
use Rattle.history.specs.Log.{Input}
use Rattle.history.specs.Demand3.{keeper_through}
use Rattle.history.proofs.Theorem.{demand_3, through_kept, through_more}
use Rattle.on_image.specs.Apply.{image_left}
use Rattle.boardtime_lib.specs.Images.{Answered, LineImage}
use Rattle.boardtime_lib.specs.Replay.{LineCall, LineResult, input_of, Replayed, result_of, results_through, HoldsTheRun}

-- ---- the result of a call with a line, taken apart

-- the number is the lowest byte of the result, and the length written the rest; no number is that of another length
pub result_parts : {image line out image' out' : List ℕ} {r : ℕ} → Answered image line out r image' out'
    → (r % 256 ≡ number_after (keeper_in image) line (length out)) × (r / 256 ≡ length_after (keeper_in image) line (length out)) × (r % 256 ≡ 255 → ⊥)
result_parts {image} {line} {out} {r = r} a =
    let most = number_most (keeper_in image) line (length out) in
    let returned = a.returned in
    (omega (arith, returned, most), omega (arith, returned, most), λ e. absurd (omega (arith, e, returned, most)))

-- ---- one call on the image of a keeper that is read back

-- the image that a call leaves is that of the keeper which it gives, if that of the keeper before it is the image
left_as : (image : List ℕ) (k : Keeper) (line : List ℕ) (room : ℕ) → image ≡ image_of k → image_left image (number_after k line room) (keeper_after k line room) ≡ image_of (keeper_after k line room)
unfolding image_left
left_as image k line room e =
    by_test {P = image_left image (number_after k line room) (keeper_after k line room) ≡ image_of (keeper_after k line room)} (eqb (number_after k line room) 0)
    (λ t. rw t)
    (λ t. rw t (e ∙ ap image_of (sym (refused_leaves k line room (eqb-false _ _ t)))))

module _ (k : Keeper) (c : LineCall) (back : keeper_in (image_of k) ≡ k) (long : length (image_of k) ≡ image_length) where
  -- the image after it is that of the keeper after it
  call_moves : {r : ℕ} {image' out' : List ℕ} → LineImage (image_of k) c.line c.out r image' out' → image' ≡ image_of (keeper_after k c.line (length c.out))
  call_moves lent = (rw back at (lent.answered long).image_is) ∙ left_as (image_of k) k c.line (length c.out) refl

  -- and what it gives back is the keeper's
  call_gives : {image' : List ℕ} (r : LineResult) → LineImage (image_of k) c.line c.out r.returned image' r.out → r ≡ result_of k c
  call_gives r lent =
      let a = lent.answered long in
      let number : r.returned ≡ (result_of k c).returned = rw back at a.returned in
      let bytes : r.out ≡ (result_of k c).out = rw back at a.output_is in
      ap (λ (n : ℕ). record { returned = n; out = r.out }) number ∙ ap (λ (o : List ℕ). record { returned = (result_of k c).returned; out = o }) bytes

-- The image after a call is the image of the keeper that the call gives, refused or not, if the image before it can be read. (One that can't is
-- left as it was by a refused call.)
pub image_of_the_keeper : (image line out : List ℕ) {r : ℕ} {image' out' : List ℕ} → AllBelow 256 image → readable image ≡ true
    → Answered image line out r image' out' → image' ≡ image_of (keeper_after (keeper_in image) line (length out))
image_of_the_keeper image line out bytes read a = a.image_is ∙ left_as image (keeper_in image) line (length out) (sym (read_is_image image bytes read))

-- ---- a list of calls

module _ (before : List Input) where
  back : keeper_in (image_of (keeper_through fresh before)) ≡ keeper_through fresh before
  back = kept_read_back (keeper_through fresh before) (through_kept before).0 (through_kept before).1

  long : length (image_of (keeper_through fresh before)) ≡ image_length
  long = image_length_lem (keeper_through fresh before) (through_kept before).0.tags (through_kept before).0.sent (through_kept before).0.out (through_kept before).0.back

-- the keeper that lines and one more leave
one_more : (before : List Input) (c : LineCall) → keeper_through fresh (before ++ input_of c ∷ []) ≡ keeper_after (keeper_through fresh before) c.line (length c.out)
one_more before c = through_more fresh before (input_of c)

replayed_from : (before : List Input) (calls : List LineCall) (results : List LineResult) (final : List ℕ)
    → Replayed (image_of (keeper_through fresh before)) calls results final
    → (final ≡ image_of (keeper_through fresh (before ++ map input_of calls))) × (results ≡ results_through (keeper_through fresh before) calls)
unfolding results_through
replayed_from before [] [] final e = (e ∙ ap (λ (is : List Input). image_of (keeper_through fresh is)) (sym (append-nil before)), refl)
replayed_from before [] (r ∷ rs) final h = absurd h
replayed_from before (c ∷ cs) [] final h = absurd h
replayed_from before (c ∷ cs) (r ∷ rs) final (image', lent, rest) =
    let k = keeper_through fresh before in
    let moved : image' ≡ image_of (keeper_through fresh (before ++ input_of c ∷ [])) = call_moves k c (back before) (long before) lent ∙ ap image_of (sym (one_more before c)) in
    let (image_is, results_are) = replayed_from (before ++ input_of c ∷ []) cs rs final (subst (λ (i : List ℕ). Replayed i cs rs final) moved rest) in (
      image_is ∙ ap (λ (is : List Input). image_of (keeper_through fresh is)) (append_assoc before (input_of c ∷ []) (map input_of cs)),
      ap (λ (x : LineResult). x ∷ rs) (call_gives k c (back before) (long before) r lent)
          ∙ ap (λ (xs : List LineResult). result_of k c ∷ xs) (results_are ∙ ap (λ (x : Keeper). results_through x cs) (one_more before c)),
    )

pub image_holds_the_run : (calls : List LineCall) (results : List LineResult) (final : List ℕ) → Replayed (image_of fresh) calls results final → HoldsTheRun calls results final
unfolding keeper_through
image_holds_the_run calls results final h =
    let (run, results_are) = replayed_from [] calls results final h in
    record { results_are = results_are; image_is = run; keeper_is = ap keeper_in run ∙ back (map input_of calls); demand = demand_3 (map input_of calls) }
