-- How long a line that ends in edges is, and the word before them.
use Prim.Native.Nat.{ℕ, ◌^◌, ◌≤◌, ◌<◌}
use native.Mathlib.Omega.{arith}
use mathlib.Core.List.{List, [], ◌++◌, append_assoc}
use lib.Signed.{mag}
use lib.ListN.{length, length-append}
use Rattle.numeral.proofs.Digits.{digits_most}
use Rattle.moment.specs.declared.Interval.{Interval}
use Rattle.rules.specs.declared.Finding.{Finding}
use Rattle.rules.specs.declared.Finding.TheVariants.{Conflict, Taken, Kept}
use Rattle.writing.specs.Puts.{Puts}
use Rattle.writing.proofs.PutsLaws.{pair_most, ◌then◌, puts_same}
use Rattle.answers.specs.Answers.{edges_line, finding_word}
use Rattle.answers.specs.Writing.{line_end, PutShort}

-- a line of a word, a number of 64 bits and edges of 64 bits: at most 10 + 20 + 1 + 43 + 1 bytes
pub edges_short : (w : List ℕ) (n : ℕ) (edges : Interval) {b after : List ℕ} {at next : ℕ} → length w ≤ 10 → n < 2 ^ 64 → mag edges.lower < 2 ^ 63
    → mag edges.upper < 2 ^ 63 → Puts b at (edges_line w n edges ++ line_end) after next → PutShort b at (edges_line w n edges) after next
unfolding edges_line
edges_short w n edges h l lower upper p =
    record { puts = p; short = simp length-append (omega (arith, digits_most 19 n (omega arith), pair_most edges.lower edges.upper lower upper)) }

-- the word is put first, and then the rest
pub edges_put : (w : List ℕ) (n : ℕ) (edges : Interval) {b c after : List ℕ} {at m next : ℕ} → length w ≤ 10 → n < 2 ^ 64 → mag edges.lower < 2 ^ 63
    → mag edges.upper < 2 ^ 63 → Puts b at w c m → Puts c m (edges_line [] n edges ++ line_end) after next → PutShort b at (edges_line w n edges) after next
unfolding edges_line
edges_put w n edges h l lower upper p q = edges_short w n edges h l lower upper (puts_same (p then q) (simp append_assoc))

pub word_most : (f : Finding) → length (finding_word f) ≤ 10
word_most Conflict = omega arith
word_most Taken = omega arith
word_most Kept = omega arith
