-- Laws of the writer of a line: what was put is the line of an answer; and how long a line of a word and a number is.
use mathlib.Core.Path.{◌≡◌}
use mathlib.Core.List.{List, ◌++◌}
use Prim.Native.Nat.{ℕ, ◌<◌, ◌≤◌}
use native.Mathlib.Omega.{arith}
use lib.ListN.{length, length-append}
use Rattle.numeral.proofs.Digits.{digits_most}
use Rattle.rules.specs.declared.WindowState.{WindowState}
use Rattle.rules.specs.declared.WindowState.TheVariants.{Open, Shut, Unsure}
use Rattle.writing.specs.Puts.{Puts}
use Rattle.keeper.specs.declared.Answer.{Answer}
use Rattle.keeper.specs.declared.Keeper.{Keeper}
use Rattle.answers.specs.Answers.{numbered, window_word, line_of}
use Rattle.answers.specs.Writing.{line_end, PutShort, LinePut}

-- by the case that the answer is, which lists nothing of the keeper
pub by_line : {a d : Answer} {k : Keeper} {b x : List ℕ} {at n : ℕ} → a ≡ d → ((k : Keeper) → PutShort b at (line_of d k) x n) → LinePut a k b at x n
by_line {k = k} e f = record { put = λ h. rw e (f k) }

-- ---- lines

-- a line of a word and a number of at most three digits
pub numbered_short : (w : List ℕ) (n : ℕ) {b after : List ℕ} {at next : ℕ} → length w ≤ 10 → n < 256 → Puts b at (numbered w n ++ line_end) after next
    → PutShort b at (numbered w n) after next
numbered_short w n h l p = record { puts = p; short = simp length-append (omega (arith, digits_most 2 n (omega arith))) }

pub window_most : (w : WindowState) → length (window_word w) ≤ 10
window_most Open = omega arith
window_most Shut = omega arith
window_most Unsure = omega arith
