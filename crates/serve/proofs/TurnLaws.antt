-- Laws of a turn: from lines that were answered to what is left.
use mathlib.Core.Path.{◌≡◌, refl, sym, ap, ◌∙◌}
use mathlib.Core.Bool.{Bool, true, false}
use mathlib.Core.List.{List, [], ◌∷◌}
use Prim.Native.Nat.{ℕ, suc, ◌≤◌, ◌<◌}
use native.Mathlib.Omega.{arith}
use borrow.Author.Tests.{leb-true, leb-false}
use lib.Dec.{leb}
use lib.ListN.{length, take, drop, length-append, drop_of_length-le}
use lib.Seq.{take_at, drop_at}
use Rattle.keeper.specs.declared.Keeper.{Keeper}
use Rattle.writing.specs.Puts.{least_output}
use Rattle.reader.specs.Reading.{longest_line}
use Rattle.lines.specs.Lines.{breaks}
use Rattle.bits.proofs.Tests.{by_test}
use Rattle.stream.specs.Stream.{answers_to, Turn}
use Rattle.serve.specs.Serving.{keeper_next, answer_to, answers, Answered, LinesAnswered}

module _ {k next : Keeper} {bytes before rest after : List ℕ} {filled : ℕ} (a : Answered k bytes before next rest filled after) where
  -- the front of the output is what was written, and the rest is as it was
  pub front_written : take filled after ≡ answers k a.lines
  front_written =
      ap (λ (o : List ℕ). take filled o) a.output ∙ take_at (answers k a.lines) (drop (length (answers k a.lines)) before) filled (sym a.filled_is)

  pub beyond_kept : drop filled after ≡ drop filled before
  beyond_kept =
      ap (λ (o : List ℕ). drop filled o) a.output
      ∙ drop_at (answers k a.lines) (drop (length (answers k a.lines)) before) filled (sym a.filled_is)
      ∙ ap (λ (n : ℕ). drop n before) (sym a.filled_is)

  pub filled_most : filled ≤ length after
  filled_most = omega (arith, a.filled_is, ap length a.output, length-append (answers k a.lines) (drop (length (answers k a.lines)) before))

-- what was written for no line is nothing
some_line : (k : Keeper) (ls : List (List ℕ)) → 0 < length (answers k ls) → 0 < length ls
unfolding answers_to
some_line k [] h = absurd (omega arith)
some_line k (l ∷ ls) h = omega arith

-- an LF behind a place shows that the place lies within
pub place_within : (s : List ℕ) (i : ℕ) → 0 < breaks (drop i s) → i < length s
unfolding breaks
place_within s i h =
    by_test (leb (length s) i)
    (λ t. absurd (let past : length s ≤ i = leb-true (length s) i t in let k = rw (drop_of_length-le s past) at h in omega arith))
    (λ t. leb-false (length s) i t)

module _ {k next : Keeper} {bytes before rest after : List ℕ} {filled : ℕ} {full : Bool} where
  -- the output had no room left
  pub turned_full : LinesAnswered k bytes before next rest filled full after → full ≡ true → least_output ≤ length before
      → Turn keeper_next answer_to longest_line k bytes next rest (take filled after) true
  turned_full l t room =
      let a = l.answered in
      let some : 0 < length (answers k a.lines) = omega (arith, (l.more t).1, a.filled_is) in
      record {
        lines = a.lines;
        rest = rest;
        bytes_are = a.bytes_are;
        whole = a.whole;
        state_is = a.keeper_is;
        answers = front_written a;
        more = λ _. (refl, (l.more t).0, some_line k a.lines some);
        held = λ f. absurd (let z : ◌≡◌ {A = ℕ} 0 1 = cc in omega arith);
      }

  -- every whole line is answered
  pub turned_held : {left : List ℕ} → LinesAnswered k bytes before next rest filled full after → full ≡ false → left ≡ take (suc longest_line) rest
      → Turn keeper_next answer_to longest_line k bytes next left (take filled after) false
  turned_held l t e =
      let a = l.answered in
      record {
        lines = a.lines;
        rest = rest;
        bytes_are = a.bytes_are;
        whole = a.whole;
        state_is = a.keeper_is;
        answers = front_written a;
        more = λ f. absurd (let z : ◌≡◌ {A = ℕ} 0 1 = cc in omega arith);
        held = λ _. (e, l.done t);
      }
