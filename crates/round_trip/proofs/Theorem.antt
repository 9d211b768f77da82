-- The theorem of order 1 (`round_trip`), with order 4's numerals: the grammar has every line that is written, and a line that the grammar has is,
-- without its `_`, the plain spelling of its form.
use mathlib.Core.Path.{◌≡◌, refl, sym, ap, ◌∙◌}
use mathlib.Core.Bool.{true, false}
use mathlib.Core.List.{List, [], ◌∷◌, ◌++◌}
use Prim.Native.Nat.{ℕ, ◌≤◌}
use native.Mathlib.Omega.{arith}
use borrow.Author.Tests.{ne_eqb}
use lib.ListN.{length, take, drop}
use lib.Seq.{take_at}
use Rattle.std.specs.Prelude.{Ok}
use Rattle.numeral.specs.Groups.{ungrouped, carries_underscore}
use Rattle.numeral.proofs.GroupLaws.{ungrouped_same}
use Rattle.writing.specs.Puts.{least_output}
use Rattle.command.specs.Spelling.{plain_spelling}
use Rattle.command.specs.Forms as F
use Rattle.command.specs.Forms.{Form}
use Rattle.command.specs.Limits.{keeps, form_of, command_of, Reading}
use Rattle.command.specs.Causes.{first, date_causes, form_causes, own_causes}
use Rattle.command.specs.declared.Command.{Command}
use Rattle.command.proofs.PlainBytes.{printable, printable_byte_lem, printable_carries, spelling_bytes}
use Rattle.command.proofs.SpellingLaws.{spelling_plain, uncaused_keeps, plain_spells, plain_most}
use Rattle.lines.specs.Lines.{lf, breaks}
use Rattle.reader.specs.Reading.{reading_of}
use Rattle.reader.specs.Grammar.{Shaped}
use Rattle.reader.proofs.GrammarLaws.{reads_the_grammar}
use Rattle.form_lines.specs.Written.{WriteResult, write_result, written_form}
use Rattle.writer.specs.Written.{written}
use Rattle.writer.proofs.CommandLaws.{written_accepts, written_line}
use Rattle.round_trip.specs.RoundTrip.{NotRefused, line_in, RoundTrip}

-- the line of a command that is not refused
line_is : (c : Command) (out : List ℕ) → NotRefused c out → (line_in c out ≡ plain_spelling (form_of c)) × (first (form_causes (form_of c)) ≡ 0)
unfolding own_causes
line_is c out e =
    let line = plain_spelling (form_of c) in
    let (room, none) = (written_accepts c out).0 e in
    let all : written c out ≡ write_result 0 (length line) (line ++ drop (length line) out) = written_line c out room none in
    (ap (λ (w : WriteResult). take w.length w.buffer) all ∙ take_at line (drop (length line) out) (length line) refl, none)

line_plain : (line : List ℕ) (c : Command) (out : List ℕ) → reading_of line ≡ Ok c → NotRefused c out
    → (written c out ≡ write_result 0 (length (ungrouped line)) (ungrouped line ++ drop (length (ungrouped line)) out)) × (ungrouped line ≡ plain_spelling (form_of c))
line_plain line c out e accepted =
    let (shaped, kept) = ((reads_the_grammar line).command c).0 e in
    let same : ungrouped line ≡ plain_spelling (form_of c) = spelling_plain (form_of c) line shaped.spelling in
    let (room, none) = (written_accepts c out).0 accepted in
    (written_line c out room none ∙ ap (λ (s : List ℕ). write_result 0 (length s) (s ++ drop (length s) out)) (sym same), same)

line_back : (line : List ℕ) (c : Command) (out : List ℕ) → reading_of line ≡ Ok c → NotRefused c out → carries_underscore line ≡ false
    → written c out ≡ write_result 0 (length line) (line ++ drop (length line) out)
line_back line c out e accepted none =
    (line_plain line c out e accepted).0 ∙ ap (λ (s : List ℕ). write_result 0 (length s) (s ++ drop (length s) out)) (ungrouped_same line none)

-- bytes of a plain spelling are no LF
plain_unbroken : (s : List ℕ) → printable s ≡ true → breaks s ≡ 0
unfolding breaks
plain_unbroken [] e = refl
plain_unbroken (b ∷ s) e = let (low, other, others) = printable_byte_lem b s e in rw (ne_eqb b lf (λ h. omega (arith, h))) (plain_unbroken s others)

-- a form that keeps its limits has no cause but those of its dates
kept_causes : (f : Form) → keeps f ≡ true → first (form_causes f) ≡ first (date_causes f)
unfolding first
kept_causes f kept = rw kept

line_accepted : (line : List ℕ) (c : Command) (out : List ℕ) → reading_of line ≡ Ok c → least_output ≤ length out
    → first (date_causes (form_of c)) ≡ 0 → NotRefused c out
unfolding own_causes
line_accepted line c out e room dated =
    let (shaped, kept) = ((reads_the_grammar line).command c).0 e in
    (written_accepts c out).1 (room, kept_causes (form_of c) kept ∙ dated)

command_back : (c : Command) (out : List ℕ) → NotRefused c out → reading_of (line_in c out) ≡ Ok c
command_back c out e =
    let (is, none) = line_is c out e in
    let short : length (plain_spelling (form_of c)) ≤ 63 = plain_most (form_of c) none in
    let shaped : Shaped (form_of c) (plain_spelling (form_of c)) = record { spelling = plain_spells (form_of c) none; short = omega arith } in
    ap reading_of is ∙ ((reads_the_grammar (plain_spelling (form_of c))).command c).1 (shaped, uncaused_keeps (form_of c) none)

same_command : (c d : Command) → ◌≡◌ {A = Reading} (Ok c) (Ok d) → c ≡ d
same_command c d e = cc

form_line : (f : Form) (out : List ℕ) → written_form f out ≡ written (command_of f) out
unfolding written
form_line (F.start board r claim edges) out = refl
form_line (F.pass ticks) out = refl
form_line (F.request peer) out = refl
form_line (F.reply peer tag edges) out = refl
form_line (F.drop peer) out = refl
form_line F.read out = refl
form_line F.waiting out = refl
form_line (F.window slot begins ends) out = refl
form_line (F.flight peer o b) out = refl

pub round_trip : RoundTrip
round_trip =
    record {
      line_plain = line_plain;
      line_back = line_back;
      line_accepted = line_accepted;
      command_back = command_back;
      same_line = λ c d out out' a b. (
        λ e. same_command c d (sym (command_back c out a) ∙ ap reading_of e ∙ command_back d out' b),
        λ e. (line_is c out a).0 ∙ ap (λ (x : Command). plain_spelling (form_of x)) e ∙ sym (line_is d out' b).0,
      );
      no_underscore = λ c out e. ap carries_underscore (line_is c out e).0 ∙ printable_carries (plain_spelling (form_of c)) (spelling_bytes (form_of c));
      no_lf = λ c out e. ap breaks (line_is c out e).0 ∙ plain_unbroken (plain_spelling (form_of c)) (spelling_bytes (form_of c));
      accepts = written_accepts;
      form_line = form_line;
    }
