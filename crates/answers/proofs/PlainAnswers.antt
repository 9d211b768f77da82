-- Every byte of an answer's line is a printable one other than `_`, as in a command that is written: no answer carries a `_`, or an LF before its end.
use mathlib.Core.Path.{◌≡◌, refl}
use mathlib.Core.Bool.{true, false}
use mathlib.Core.List.{List, [], ◌∷◌, ◌++◌}
use Prim.Native.Nat.{ℕ}
use lib.IntN.{ℤ}
use lib.ListN.{get_or}
use Rattle.text.specs.Words.{bytes}
use Rattle.numeral.specs.Digits.{digits, signed_digits}
use Rattle.numeral.specs.Groups.{carries_underscore}
use Rattle.numeral.proofs.Numerals.{digits_all}
use Rattle.moment.specs.declared.Interval.{Interval}
use Rattle.rules.specs.declared.Finding.{Finding}
use Rattle.rules.specs.declared.Finding.TheVariants.{Conflict, Taken, Kept}
use Rattle.rules.specs.declared.WindowState.{WindowState}
use Rattle.rules.specs.declared.WindowState.TheVariants.{Open, Shut, Unsure}
use Rattle.writing.specs.Puts.{pair}
use Rattle.command.proofs.PlainBytes.{printable, printable_carries, plain_append, digits_plain, signed_plain}
use Rattle.waiting_lines.specs.Waiting.{peer_tag, waiting_peers, waiting_line}
use Rattle.keeper.specs.declared.Keeper.{Keeper}
use Rattle.keeper.specs.declared.Answer.{Answer}
use Rattle.keeper.specs.declared.Answer.TheVariants as A
use Rattle.answers.specs.Answers.{edges_line, finding_word, window_word, oldest_first, line_of}

-- three and five parts of a line
three : (a b c : List ℕ) → printable a ≡ true → printable b ≡ true → printable c ≡ true → printable (a ++ b ++ c) ≡ true
three a b c p q r = plain_append (a ++ b) c (plain_append a b p q) r

five : (a b c d e : List ℕ) → printable a ≡ true → printable b ≡ true → printable c ≡ true → printable d ≡ true → printable e ≡ true
    → printable (a ++ b ++ c ++ d ++ e) ≡ true
five a b c d e p q r s t = three (a ++ b ++ c) d e (three a b c p q r) s t

number_plain : (n : ℕ) → printable (digits n) ≡ true
number_plain n = digits_plain (digits_all n)

pair_plain : (y z : ℤ) → printable (pair y z) ≡ true
unfolding pair printable
pair_plain y z = five (bytes "(") (signed_digits y) (bytes " ") (signed_digits z) (bytes ")") refl (signed_plain y) refl (signed_plain z) refl

edges_plain : (word : List ℕ) (n : ℕ) (edges : Interval) → printable word ≡ true → printable (edges_line word n edges) ≡ true
unfolding edges_line printable
edges_plain word n edges h =
    five word (digits n) (bytes " ") (pair edges.lower edges.upper) (bytes ")") h (number_plain n) refl (pair_plain edges.lower edges.upper) refl

finding_plain : (f : Finding) → printable (finding_word f) ≡ true
unfolding printable
finding_plain Conflict = refl
finding_plain Taken = refl
finding_plain Kept = refl

window_plain : (w : WindowState) → printable (window_word w) ≡ true
unfolding printable
window_plain Open = refl
window_plain Shut = refl
window_plain Unsure = refl

-- a word, a number and a bracket
short_plain : (word : List ℕ) (n : ℕ) → printable word ≡ true → printable (word ++ digits n ++ bytes ")") ≡ true
unfolding printable
short_plain word n h = three word (digits n) (bytes ")") h (number_plain n) refl

peers_plain : (tags order : List ℕ) → printable (waiting_peers tags order) ≡ true
unfolding waiting_peers peer_tag printable
peers_plain tags [] = refl
peers_plain tags (p ∷ ps) =
    plain_append (peer_tag p (get_or tags p 0)) (waiting_peers tags ps)
    (five (bytes " (") (digits p) (bytes " ") (digits (get_or tags p 0)) (bytes ")") refl (number_plain p) refl (number_plain (get_or tags p 0)) refl)
    (peers_plain tags ps)

waiting_plain : (tags order : List ℕ) → printable (waiting_line tags order) ≡ true
unfolding waiting_line printable
waiting_plain tags order = three (bytes "(waiting") (waiting_peers tags order) (bytes ")") refl (peers_plain tags order) refl

pub answer_bytes : (a : Answer) (k : Keeper) → printable (line_of a k) ≡ true
unfolding line_of printable
answer_bytes (A.Started board) k = short_plain (bytes "(started ") board refl
answer_bytes (A.At ticks edges) k = edges_plain (bytes "(at ") ticks edges refl
answer_bytes (A.Sent peer tag) k = five (bytes "(sent ") (digits peer) (bytes " ") (digits tag) (bytes ")") refl (number_plain peer) refl (number_plain tag) refl
answer_bytes (A.Replied peer verdict) k = edges_plain (finding_word verdict.finding) peer verdict.edges (finding_plain verdict.finding)
answer_bytes (A.Dropped peer) k = short_plain (bytes "(dropped ") peer refl
answer_bytes (A.Time edges centre error conflicts waiting) k =
    five
    (bytes "(time " ++ pair edges.lower edges.upper ++ bytes " " ++ pair centre error ++ bytes " ")
    (digits conflicts)
    (bytes " ")
    (digits waiting)
    (bytes ")")
    (five (bytes "(time ") (pair edges.lower edges.upper) (bytes " ") (pair centre error) (bytes " ") refl (pair_plain edges.lower edges.upper) refl (pair_plain centre error) refl)
    (number_plain conflicts)
    refl
    (number_plain waiting)
    refl
answer_bytes A.Waiting k = waiting_plain k.tags (oldest_first k)
answer_bytes (A.Heater slot window) k = short_plain (window_word window) slot (window_plain window)
answer_bytes (A.Flight peer) k = short_plain (bytes "(flight ") peer refl
answer_bytes (A.Refused n) k = short_plain (bytes "(no ") n refl

-- no answer carries a `_`
pub answer_carries : (a : Answer) (k : Keeper) → carries_underscore (line_of a k) ≡ false
answer_carries a k = printable_carries (line_of a k) (answer_bytes a k)
