-- The laws of a lent image: one of another length, a refused call, and an accepted one.
use mathlib.Core.Path.{◌≡◌, refl, ap, ◌∙◌}
use mathlib.Core.Bool.{false}
use mathlib.Core.List.{List}
use Prim.Native.Nat.{ℕ, ◌+◌, ◌*◌, ◌<◌, ◌≤◌}
use lib.ListN.{length}
use native.Mathlib.Omega.{arith}
use Rattle.command.specs.Limits.{ticks_within}
use Rattle.command.specs.declared.Command.{Command}
use Rattle.command.specs.declared.Command.TheVariants as C
use borrow.Author.Tests.{eqb-false}
use Rattle.std.specs.Prelude.{Ok, Err}
use Rattle.command.specs.Limits.{Reading}
use Rattle.refusal.specs.declared.Refusal.{Refusal}
use Rattle.refusal.specs.Refusal.{number}
use Rattle.refusal.proofs.Numbers.{not_zero}
use Rattle.reader.specs.Reading.{reading_of}
use Rattle.keeper.specs.State.{fresh, state_of}
use Rattle.command.specs.Causes.{first, own_causes}
use Rattle.keeper.specs.Refusals.{refusal, causes}
use Rattle.keeper.specs.Apply.{apply, number_of, outcome_of}
use Rattle.keeper.specs.declared.Answer.TheVariants as A
use Rattle.keeper.proofs.CallLaws.{apply_refused}
use Rattle.keeper.specs.declared.Keeper.{Keeper}
use Rattle.keeper.specs.declared.Outcome.{Outcome}
use Rattle.lent.specs.Lent.{PassLent}
use Rattle.writing.specs.Puts.{least_output}
use Rattle.line.specs.Call.{by_reading, answered, Wrote, Called}
use Rattle.line.proofs.ResponseLaws.{called_untouched, called_wrote}
use Rattle.image.specs.Layout.{image_length, image_of, image_after, keeper_in}
use Rattle.on_image.specs.Apply.{image_left, CommandImage}
use Rattle.on_image.proofs.ApplyLaws.{store_whole, left_refused}
use Rattle.boardtime_lib.specs.Images.{wrong_length, Refused, FreshImage, LineImage, PassImage}

-- ---- a buffer of another length

module _ (image : List ℕ) (other : length image ≡ image_length → ⊥) where
  refused : Refused image wrong_length image
  refused = record { number_is = refl; image_is = refl }

  pub fresh_refused : FreshImage image wrong_length image
  fresh_refused = record { other_length = λ _. refused; stored = λ e. absurd (other e) }

  pub line_refused : (line out : List ℕ) → LineImage image line out wrong_length image out
  line_refused line out = record { other_length = λ _. (refused, refl); answered = λ e. absurd (other e) }

  pub pass_refused : (ticks : ℕ) → PassImage image ticks wrong_length image
  pass_refused ticks = record { other_length = λ _. refused; number_is = λ e. absurd (other e); image_is = λ e. absurd (other e) }

-- ---- an image

module _ (image : List ℕ) (whole : length image ≡ image_length) where
  pub fresh_stored : {image' : List ℕ} {k : Keeper} → k ≡ fresh → image' ≡ image_after image k → FreshImage image 0 image'
  fresh_stored {k = k} e s = record { other_length = λ h. absurd (h whole); stored = λ _. (refl, store_whole image whole k s ∙ ap image_of e) }

  -- what a call with a line does to the keeper is done to the image
  line_answered : {line out image' out' : List ℕ} {next : Keeper} {number n : ℕ} → Called (keeper_in image) line out number next out' n
      → image' ≡ image_left image number next → LineImage image line out (number + 256 * n) image' out'
  line_answered call left =
      record {
        other_length = λ h. absurd (h whole);
        answered = λ _. record { returned = rw (call.number_is, call.length_is); image_is = rw (call.number_is, call.keeper_is) at left; output_is = call.output_is; short = rw call.length_is at call.short };
      }

  -- an output that is too short: no byte is touched
  pub line_short : {out : List ℕ} (line : List ℕ) → length out < least_output → LineImage image line out 10 image out
  line_short line short =
      line_answered (called_untouched (keeper_in image) line short)
      (left_refused image 10 (keeper_in image) (λ e. let z : ◌≡◌ {A = ℕ} 10 0 = e in omega arith))

  -- an output with room: what is answered to the line is written
  line_written : {line out image' out' : List ℕ} {n : ℕ} (o : Outcome) → least_output ≤ length out → answered (keeper_in image) line ≡ o
      → Wrote o.answer o.keeper out out' n → image' ≡ image_left image (number_of o.answer) o.keeper
      → LineImage image line out (number_of o.answer + 256 * n) image' out'
  line_written {line} o room e wrote left = line_answered (called_wrote (keeper_in image) line o room e wrote) left

  pub line_command : {line out image' out' : List ℕ} {r : ℕ} {c : Command} → least_output ≤ length out → reading_of line ≡ Ok c
      → CommandImage image c out r image' out' → LineImage image line out r image' out'
  unfolding answered
  line_command {c = c} room read command =
      rw command.returned
      (line_written (apply (keeper_in image) c) room (ap (λ (x : Reading). by_reading x (keeper_in image)) read)
      (record { output = command.output_is; written = refl; short = command.short }) command.image_is)

  -- a line that is no command leaves the image as it was
  line_none : {line out out' : List ℕ} {n : ℕ} (m : ℕ) → (m ≡ 0 → ⊥) → least_output ≤ length out
      → answered (keeper_in image) line ≡ outcome_of (A.Refused m) (keeper_in image) → ((k : Keeper) → Wrote (A.Refused m) k out out' n)
      → LineImage image line out (m + 256 * n) image out'
  line_none m some room e wrote =
      line_written (outcome_of (A.Refused m) (keeper_in image)) room e (wrote (keeper_in image)) (left_refused image m (keeper_in image) some)

  pub line_err : {line out out' : List ℕ} {n : ℕ} (r : Refusal) → least_output ≤ length out → reading_of line ≡ Err r
      → ((k : Keeper) → Wrote (A.Refused (number r)) k out out' n) → LineImage image line out (number r + 256 * n) image out'
  unfolding answered
  line_err r room read wrote =
      line_none (number r) (eqb-false _ _ (not_zero r)) room (ap (λ (x : Reading). by_reading x (keeper_in image)) read) wrote

  pub pass_moved : {image' : List ℕ} {k next : Keeper} {ticks number r : ℕ} → k ≡ keeper_in image → PassLent k ticks number next → r ≡ number
      → image' ≡ image_left image r next → PassImage image ticks r image'
  pass_moved e lent f left = record { other_length = λ h. absurd (h whole); number_is = λ _. f ∙ (rw e at lent).number_is; image_is = λ _. rw (lent.keeper_is, e) at left }

  -- a number of ticks above the limit: the second cause is the first that can hold of a pass
  pub pass_too_long : (ticks : ℕ) → ticks_within ticks ≡ false → PassImage image ticks 2 image
  unfolding refusal first causes state_of own_causes
  pass_too_long ticks outside =
      let too_long : apply (keeper_in image) (C.Pass ticks) ≡ outcome_of (A.Refused 2) (keeper_in image) =
      apply_refused (keeper_in image) (C.Pass ticks) 2 refl (rw outside)
      in
      record {
        other_length = λ h. absurd (h whole);
        number_is = λ _. rw too_long;
        image_is = λ _. left_refused image 2 _ (λ e. let z : ◌≡◌ {A = ℕ} 2 0 = e in omega arith);
      }
