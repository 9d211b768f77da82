-- Laws of the whole call: the list of the waiting peers is answered only by a keeper that counts as started, and what is written lies within
-- the output.
use mathlib.Core.Path.{◌≡◌, ap}
use mathlib.Core.Bool.{true}
use mathlib.Core.List.{List, ◌∷◌}
use Prim.Native.Nat.{ℕ, ◌+◌, ◌<◌, ◌≤◌}
use native.Mathlib.Omega.{arith}
use borrow.Author.Tests.{ltb-false, lt-ltb, le-ltb}
use lib.Dec.{ltb}
use lib.ListN.{length, drop, length-append}
use Rattle.std.specs.Prelude.{Ok, Err}
use Rattle.command.specs.Limits.{Reading}
use Rattle.refusal.specs.declared.Refusal.{Refusal}
use Rattle.refusal.specs.declared.Refusal.TheVariants as R
use Rattle.refusal.specs.Refusal.{number}
use Rattle.reader.specs.Reading.{reading_of}
use Rattle.bits.proofs.Tests.{by_test}
use Rattle.keeper.specs.State.{counts_as_started, state_of}
use Rattle.command.specs.Causes.{most_number}
use Rattle.keeper.specs.Apply.{number_of}
use Rattle.keeper.specs.declared.Keeper.{Keeper}
use Rattle.keeper.specs.declared.Outcome.{Outcome}
use Rattle.keeper.specs.declared.Answer.{Answer}
use Rattle.keeper.specs.declared.Answer.TheVariants as A
use Rattle.keeper.proofs.Listing.{listed_started}
use Rattle.keeper.proofs.Returned.{apply_number}
use Rattle.keeper.proofs.Causes.{refusal_most}
use Rattle.writing.specs.Puts.{least_output}
use Rattle.answers.specs.Answers.{line_of}
use Rattle.line.specs.Call.{by_reading, answered, number_after, keeper_after, output_after, length_after, Wrote, Called}
use Rattle.line.proofs.AnsweredLaws.{refused_same}

pub listed : (k : Keeper) (line : List ℕ) → (answered k line).answer ≡ A.Waiting → counts_as_started (answered k line).keeper ≡ true
unfolding answered
listed k line h = go (reading_of line) h
  where
    go : (r : Reading) → (by_reading r k).answer ≡ A.Waiting → counts_as_started (by_reading r k).keeper ≡ true
    go (Ok c) e = listed_started k c e
    go (Err r) e = absurd (let z : ◌≡◌ {A = ℕ} 0 1 = cc in omega arith)

pub wrote_within : {a : Answer} {k : Keeper} {before after : List ℕ} {n : ℕ} → Wrote a k before after n → length after ≡ length before → n ≤ length before
wrote_within {a} {k} {before} w same =
    omega (arith, w.written, ap length w.output, length-append (line_of a k) (10 ∷ drop (length (line_of a k) + 1) before))

-- ---- what a call does

module _ (k : Keeper) (line : List ℕ) where
  -- under 256 bytes nothing is touched
  pub called_untouched : {before : List ℕ} → length before < least_output → Called k line before 10 k before 0
  unfolding number_after keeper_after output_after length_after
  called_untouched {before} h =
      let short = lt-ltb (length before) least_output h in
      record { number_is = rw short; keeper_is = rw short; output_is = rw short; length_is = rw short; short = omega arith }

  -- otherwise the line of what is answered is written
  pub called_wrote : {before after : List ℕ} {n : ℕ} (o : Outcome) → least_output ≤ length before → answered k line ≡ o
      → Wrote o.answer o.keeper before after n → Called k line before (number_of o.answer) o.keeper after n
  unfolding number_after keeper_after output_after length_after
  called_wrote {before} o h e w =
      let room = le-ltb (length before) least_output h in
      record { number_is = rw (room, e); keeper_is = rw (room, e); output_is = rw (room, e) w.output; length_is = rw (room, e) w.written; short = w.short }

  -- what is written lies within the output
  pub called_within : {next : Keeper} {before after : List ℕ} {number n : ℕ} → Called k line before number next after n → n ≤ length before
  unfolding length_after
  called_within {before = before} {n = n} c =
      by_test (ltb (length before) least_output)
      (λ t. let none : n ≡ 0 = rw t at c.length_is in omega arith)
      (λ t. omega (arith, c.short, ltb-false (length before) least_output t))

-- ---- the number returned

refusal_small : (r : Refusal) → number r ≤ most_number
refusal_small R.NoShape = omega arith
refusal_small R.OutsideLimits = omega arith
refusal_small R.OutOfTurn = omega arith
refusal_small R.OwnBoard = omega arith
refusal_small R.LeavesRange = omega arith
refusal_small R.PeerWaits = omega arith
refusal_small R.NoRequest = omega arith
refusal_small R.TooLate = omega arith
refusal_small R.TagsUsedUp = omega arith
refusal_small R.NoRoom = omega arith
refusal_small R.NoDate = omega arith
refusal_small R.EmptyWindow = omega arith

module _ (k : Keeper) (line : List ℕ) where
  read_most : (r : Reading) → number_of (by_reading r k).answer ≤ most_number
  read_most (Ok c) = rw (apply_number k c) (refusal_most (state_of k) c)
  read_most (Err r) = refusal_small r

  -- no call returns a number above the table's greatest
  pub number_most : (room : ℕ) → number_after k line room ≤ most_number
  unfolding number_after answered
  number_most room = by_test (ltb room least_output) (λ t. rw t (omega arith)) (λ t. rw t (read_most (reading_of line)))

  -- a refused call leaves the keeper as it was
  pub refused_leaves : (room : ℕ) → (number_after k line room ≡ 0 → ⊥) → keeper_after k line room ≡ k
  unfolding number_after keeper_after
  refused_leaves room =
      by_test {P = (number_after k line room ≡ 0 → ⊥) → keeper_after k line room ≡ k} (ltb room least_output)
      (λ t h. rw t) (λ t h. rw t (refused_same k line (λ e. h (rw t e))))
