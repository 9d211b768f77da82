-- The grammar theorem: the reader's answer is a command, 2 or 1 exactly as the grammar and the limits say (`reads_the_grammar`).
use mathlib.Core.Path.{◌≡◌, refl, sym, ap, ◌∙◌, subst}
use mathlib.Core.Bool.{Bool, true, false, not, ◌&&◌, ◌||◌}
use mathlib.Core.List.{List, [], ◌∷◌, ◌++◌}
use Prim.Native.Nat.{ℕ, zero, suc, ◌+◌, ◌≤◌}
use native.Mathlib.Omega.{arith}
use borrow.Author.Tests.{le-leb, leb-true, leb-false}
use lib.Dec.{leb, eqb}
use lib.ListN.{length, drop}
use Rattle.bits.proofs.Tests.{both}
use Rattle.text.specs.Words.{bytes, word_at, starts_with}
use Rattle.std.specs.Prelude.{Option, Some, None, Ok, Err}
use Rattle.refusal.specs.Refusal.{number_of}
use Rattle.refusal.specs.declared.Refusal.TheVariants as R
use Rattle.text.proofs.WordLaws.{word_found, word_other, found_word, rest_is}
use Rattle.command.specs.Forms as F
use Rattle.command.specs.Forms.{Form, Spells, parts, IsSpelling}
use Rattle.command.specs.Limits.{keeps, command_of, form_of, Reading, limited}
use Rattle.shapes.specs.Shapes.{Values, Shape, start_shape, reply_shape, numbered_shape, bare_shape, window_shape, flight_shape, read_parts, formed, read_as, shaped_from, rest_of}
use Rattle.reader.specs.Reading.{shapes, by_word, parse_as, parse, taken_word, word_of, word_from, longest_line, reading_of}
use Rattle.shapes.specs.declared.Numbered.TheVariants as N
use Rattle.shapes.specs.declared.Bare.TheVariants as B
use Rattle.reader.specs.Grammar.{Shaped, ReadsTheGrammar}
use Rattle.shapes.specs.declared.FormWord.{FormWord}
use Rattle.command.specs.declared.Command.{Command}
use Rattle.command.specs.declared.Command.TheVariants as C
use Rattle.command.proofs.LimitLaws.{limited_keeps, limited_breaks}
use Rattle.command.proofs.SpellingLaws.{spelling_most}
use Rattle.shapes.proofs.PartLaws.{parts_of, sound, complete, apart}

-- ---- what is parsed is a spelling

-- each shape has the parts that the grammar gives its form
abbrev AllFit : List Shape → Type 0
AllFit [] = Unit {0}
AllFit (s ∷ ss) = ((v : Values s.kinds) → parts (s.form v) ≡ F.text s.word ∷ parts_of s.kinds v) × AllFit ss

shapes_fit : AllFit shapes
shapes_fit = (λ v. refl, (λ v. refl, (λ v. refl, (λ v. refl, (λ v. refl, (λ v. refl, (λ v. refl, (λ v. refl, (λ v. refl, tt)))))))))

parsed_sound : (ss : List Shape) → AllFit ss → (line : List ℕ) (f : Form) → parse_as ss line ≡ Some f → IsSpelling f line
unfolding parse_as
parsed_sound [] fit line f e = absurd (let k : ◌≡◌ {A = ℕ} 0 1 = cc in omega arith)
parsed_sound (s ∷ ss) fit line f e = by_word_lem (word_at line 0 (bytes s.word)) refl e (λ h. parsed_sound ss fit.1 line f h)
  where
    by_values : (at : ℕ) (o : Option (Values s.kinds)) → word_at line 0 (bytes s.word) ≡ Some at → read_parts s.kinds line at ≡ o → formed s.form o ≡ Some f → IsSpelling f line
    by_values at None p q h = absurd (let k : ◌≡◌ {A = ℕ} 0 1 = cc in omega arith)
    by_values at (Some v) p q h =
        let same : s.form v ≡ f = cc in
        let spelling : Spells (F.text s.word ∷ parts_of s.kinds v) line =
        (bytes s.word, drop at line, refl, (found_word line 0 (bytes s.word) at p).1, sound s.kinds line at v q) in
        subst (λ g. IsSpelling g line) same (subst (λ ps. Spells ps line) (sym (fit.0 v)) spelling)

    by_word_lem : (w : Option ℕ) → word_at line 0 (bytes s.word) ≡ w → by_word w (λ at. formed s.form (read_parts s.kinds line at)) (parse_as ss line) ≡ Some f
        → (parse_as ss line ≡ Some f → IsSpelling f line) → IsSpelling f line
    by_word_lem (Some at) p h ih = by_values at (read_parts s.kinds line at) p refl h
    by_word_lem None p h ih = ih h

pub parse_sound : (line : List ℕ) (f : Form) → parse line ≡ Some f → IsSpelling f line
unfolding parse
parse_sound line f e = parsed_sound shapes shapes_fit line f e

-- ---- a spelling is parsed

-- two words differ before either ends
abbrev unlike : List ℕ → List ℕ → Bool
unlike [] u = false
unlike (b ∷ w) [] = false
unlike (b ∷ w) (c ∷ u) = not (eqb b c) || unlike w u

unlike_starts : (w u rest : List ℕ) → unlike w u ≡ true → starts_with w (u ++ rest) ≡ false
unfolding starts_with
unlike_starts [] u rest e = absurd (let k : ◌≡◌ {A = ℕ} 0 1 = cc in omega arith)
unlike_starts (b ∷ w) [] rest e = absurd (let k : ◌≡◌ {A = ℕ} 0 1 = cc in omega arith)
unlike_starts (b ∷ w) (c ∷ u) rest e = go (eqb b c) e (λ h. unlike_starts w u rest h)
  where
    go : (t : Bool) → (not t || unlike w u) ≡ true → (unlike w u ≡ true → starts_with w (u ++ rest) ≡ false) → (t && starts_with w (u ++ rest)) ≡ false
    go true h ih = ih h
    go false h ih = refl

-- the first n shapes begin otherwise
abbrev all_unlike : ℕ → List Shape → List ℕ → Bool
all_unlike zero ss u = true
all_unlike (suc n) [] u = true
all_unlike (suc n) (s ∷ ss) u = unlike (bytes s.word) u && all_unlike n ss u

skip : (n : ℕ) (ss : List Shape) (line u rest : List ℕ) → line ≡ u ++ rest → all_unlike n ss u ≡ true → parse_as ss line ≡ parse_as (drop n ss) line
unfolding parse_as
skip zero ss line u rest e h = refl
skip (suc n) [] line u rest e h = refl
skip (suc n) (s ∷ ss) line u rest e h =
    let apartness = both (unlike (bytes s.word) u) (all_unlike n ss u) h in
    rw (word_other line 0 (bytes s.word) (rw e (unlike_starts (bytes s.word) u rest apartness.0))) (skip n ss line u rest e apartness.1)

-- the shape whose text the line begins with
take_shape : (s : Shape) (ss : List Shape) (line : List ℕ) (v : Values s.kinds) → apart s.kinds ≡ true
    → Spells (F.text s.word ∷ parts_of s.kinds v) line → parse_as (s ∷ ss) line ≡ Some (s.form v)
unfolding parse_as
take_shape s ss line v a (t, rest, p, f, h) =
    let w = bytes s.word in
    let here : line ≡ w ++ rest = f ∙ ap (λ (x : List ℕ). x ++ rest) p in
    let after : drop (0 + length w) line ≡ rest = rest_is line 0 w rest here in
    rw (word_found line 0 w rest here, complete s.kinds a line (0 + length w) v (rw after h))

-- a line that begins as the shape after the first n, which begin otherwise
find_shape : (n : ℕ) (s : Shape) (ss : List Shape) (line : List ℕ) (v : Values s.kinds) → drop n shapes ≡ s ∷ ss → all_unlike n shapes (bytes s.word) ≡ true
    → apart s.kinds ≡ true → Spells (F.text s.word ∷ parts_of s.kinds v) line → parse line ≡ Some (s.form v)
unfolding parse
find_shape n s ss line v d u a (t, rest, p, f, h) =
    let here : line ≡ bytes s.word ++ rest = f ∙ ap (λ (x : List ℕ). x ++ rest) p in
    skip n shapes line (bytes s.word) rest here u ∙ ap (λ (x : List Shape). parse_as x line) d ∙ take_shape s ss line v a (t, rest, p, f, h)

pub parse_complete : (f : Form) (line : List ℕ) → IsSpelling f line → parse line ≡ Some f
parse_complete (F.reply peer tag edges) line h =
    find_shape 0 reply_shape _ line (peer, (tag, (edges.lower, (edges.upper, tt)))) refl refl refl h
parse_complete (F.pass ticks) line h = find_shape 1 (numbered_shape N.Pass) _ line (ticks, tt) refl refl refl h
parse_complete (F.request peer) line h = find_shape 2 (numbered_shape N.Request) _ line (peer, tt) refl refl refl h
parse_complete F.read line h = find_shape 3 (bare_shape B.Read) _ line tt refl refl refl h
parse_complete (F.drop peer) line h = find_shape 4 (numbered_shape N.Drop) _ line (peer, tt) refl refl refl h
parse_complete F.waiting line h = find_shape 5 (bare_shape B.Waiting) _ line tt refl refl refl h
parse_complete (F.window slot begins ends) line h = find_shape 6 window_shape _ line (slot, (begins, (ends, tt))) refl refl refl h
parse_complete (F.flight peer out back) line h = find_shape 7 flight_shape _ line (peer, (out, (back, tt))) refl refl refl h
parse_complete (F.start board rule claim edges) line h =
    find_shape 8 start_shape _ line (board, (rule, (claim, (edges.lower, (edges.upper, tt))))) refl refl refl h

-- ---- the word that a form begins with, and the parts that follow it

-- after each shape's word come that shape's parts
abbrev AllFollow : List Shape → Type 0
AllFollow [] = Unit {0}
AllFollow (s ∷ ss) = ((line : List ℕ) (at : ℕ) → rest_of s.named line at ≡ shaped_from s line at) × AllFollow ss

shapes_follow : AllFollow shapes
unfolding rest_of
shapes_follow = (λ l a. refl, (λ l a. refl, (λ l a. refl, (λ l a. refl, (λ l a. refl, (λ l a. refl, (λ l a. refl, (λ l a. refl, (λ l a. refl, tt)))))))))

-- what is left of a line, by the word that it begins with
abbrev rest_after : Option (FormWord × ℕ) → List ℕ → Reading
rest_after (Some (word, next)) line = rest_of word line next
rest_after None line = Err R.NoShape

word_then_rest : (ss : List Shape) → AllFollow ss → (line : List ℕ) → rest_after (word_of ss line 0) line ≡ read_as (parse_as ss line)
unfolding word_of parse_as shaped_from
word_then_rest [] follow line = refl
word_then_rest (s ∷ ss) follow line = by_word_lem (word_at line 0 (bytes s.word)) (word_then_rest ss follow.1 line)
  where
    by_word_lem : (w : Option ℕ) → rest_after (word_of ss line 0) line ≡ read_as (parse_as ss line)
        → rest_after (taken_word w s.named (word_of ss line 0)) line ≡ read_as (by_word w (λ at. formed s.form (read_parts s.kinds line at)) (parse_as ss line))
    by_word_lem (Some next) ih = follow.0 line next
    by_word_lem None ih = ih

-- the word of the line's form, and what is left read as that form's parts, are what the line is
walked_is_parsed : (line : List ℕ) → rest_after (word_from line 0) line ≡ read_as (parse line)
unfolding word_from parse
walked_is_parsed line = word_then_rest shapes shapes_follow line

pub walked_word : (line : List ℕ) (word : FormWord) (next : ℕ) → word_from line 0 ≡ Some (word, next) → rest_of word line next ≡ read_as (parse line)
walked_word line word next e = sym (ap (λ (t : Option (FormWord × ℕ)). rest_after t line) e) ∙ walked_is_parsed line

pub walked_none : (line : List ℕ) → word_from line 0 ≡ None → read_as (parse line) ≡ Err R.NoShape
walked_none line e = sym (walked_is_parsed line) ∙ ap (λ (t : Option (FormWord × ℕ)). rest_after t line) e

-- ---- the theorem

command_form : (f : Form) (c : Command) → command_of f ≡ c → f ≡ form_of c
command_form f c e = back f ∙ ap form_of e
  where
    back : (f : Form) → f ≡ form_of (command_of f)
    back (F.start board rule claim edges) = refl
    back (F.pass ticks) = refl
    back (F.request peer) = refl
    back (F.reply peer tag edges) = refl
    back (F.drop peer) = refl
    back F.read = refl
    back F.waiting = refl
    back (F.window slot begins ends) = refl
    back (F.flight peer o b) = refl

form_command : (c : Command) → command_of (form_of c) ≡ c
form_command (C.Start board rule claim edges) = refl
form_command (C.Pass ticks) = refl
form_command (C.Request peer) = refl
form_command (C.Reply peer tag edges) = refl
form_command (C.Drop peer) = refl
form_command C.Read = refl
form_command C.Waiting = refl
form_command (C.Window slot start end) = refl
form_command (C.Flight peer out back) = refl

-- the answer to a line of a form's shape, and to any other
shaped_reading : (f : Form) (line : List ℕ) → Shaped f line → reading_of line ≡ limited f
unfolding reading_of
shaped_reading f line s = rw (le-leb (length line) longest_line s.short, parse_complete f line s.spelling)

data Answer (line : List ℕ) : Type 0 where
  of : (f : Form) → Shaped f line → reading_of line ≡ limited f → Answer line
  no_shape : reading_of line ≡ Err R.NoShape → ((f : Form) → Shaped f line → ⊥) → Answer line

answer : (line : List ℕ) → Answer line
unfolding reading_of
answer line = by_length (leb (length line) longest_line) refl
  where
    by_form : (o : Option Form) → length line ≤ longest_line → parse line ≡ o → Answer line
    by_form (Some f) h e = of f s (shaped_reading f line s)
      where
        s : Shaped f line
        s = record { spelling = parse_sound line f e; short = h }
    by_form None h e =
        no_shape (rw (le-leb (length line) longest_line h, e))
        (λ f s. let wrong : None ≡ Some f = sym e ∙ parse_complete f line s.spelling in let k : ◌≡◌ {A = ℕ} 0 1 = cc in omega arith)

    by_length : (t : Bool) → leb (length line) longest_line ≡ t → Answer line
    by_length true e = by_form (parse line) (leb-true (length line) longest_line e) refl
    by_length false e = no_shape (rw e) (λ f s. omega (arith, leb-false (length line) longest_line e, s.short))

pub one_form : (line : List ℕ) (f g : Form) → IsSpelling f line → IsSpelling g line → f ≡ g
one_form line f g p q =
    let same : Some f ≡ Some g = sym (parse_complete f line p) ∙ parse_complete g line q in
    cc

-- a form's answer, by whether it keeps its limits
by_limits : {P : Type 0} (f : Form) → (keeps f ≡ true → limited f ≡ Ok (command_of f) → P) → (keeps f ≡ false → limited f ≡ Err R.OutsideLimits → P) → P
by_limits {P} f kept broken = go (keeps f) refl
  where
    go : (t : Bool) → keeps f ≡ t → P
    go true e = kept e (limited_keeps f e)
    go false e = broken e (limited_breaks f e)

accepted : (line : List ℕ) (c : Command) → Answer line → reading_of line ≡ Ok c → Shaped (form_of c) line × (keeps (form_of c) ≡ true)
accepted line c (no_shape e n) h = absurd (let k : ◌≡◌ {A = ℕ} 0 1 = cc in omega arith)
accepted line c (of f s e) h =
    by_limits f
    (λ k l.
    let same : f ≡ form_of c = command_form f c (let m : Ok (command_of f) ≡ Ok c = sym l ∙ sym e ∙ h in cc) in
    subst (λ g. Shaped g line × (keeps g ≡ true)) same (s, k))
    (λ k l. absurd (let m : Err R.OutsideLimits ≡ Ok c = sym l ∙ sym e ∙ h in let z : ◌≡◌ {A = ℕ} 0 1 = cc in omega arith))

refused_2 : (line : List ℕ) → Answer line → reading_of line ≡ Err R.OutsideLimits → (f : Form) × Shaped f line × (keeps f ≡ false)
refused_2 line (no_shape e n) h = absurd (let k : ◌≡◌ {A = ℕ} 0 1 = cc in omega arith)
refused_2 line (of f s e) h =
    by_limits f
    (λ k l. absurd (let m : Ok (command_of f) ≡ Err R.OutsideLimits = sym l ∙ sym e ∙ h in let z : ◌≡◌ {A = ℕ} 0 1 = cc in omega arith))
    (λ k l. (f, s, k))

refused_1 : (line : List ℕ) → reading_of line ≡ Err R.NoShape → (f : Form) → Shaped f line → ⊥
refused_1 line h f s =
    let m : limited f ≡ Err R.NoShape = sym (shaped_reading f line s) ∙ h in
    by_limits f
    (λ k l. let n : Ok (command_of f) ≡ Err R.NoShape = sym l ∙ m in let z : ◌≡◌ {A = ℕ} 0 1 = cc in omega arith)
    (λ k l. let n : Err R.OutsideLimits ≡ Err R.NoShape = sym l ∙ m in let z : ◌≡◌ {A = ℕ} 0 1 = cc in omega arith)

no_form : (line : List ℕ) → Answer line → ((f : Form) → Shaped f line → ⊥) → reading_of line ≡ Err R.NoShape
no_form line (of f s e) h = absurd (h f s)
no_form line (no_shape e n) h = e

-- the answer of each number
two : (r : Reading) → number_of r ≡ 2 → r ≡ Err R.OutsideLimits
two (Ok c) e = absurd (omega arith)
two (Err R.NoShape) e = absurd (omega arith)
two (Err R.OutsideLimits) e = refl
two (Err R.OutOfTurn) e = absurd (omega arith)
two (Err R.OwnBoard) e = absurd (omega arith)
two (Err R.LeavesRange) e = absurd (omega arith)
two (Err R.PeerWaits) e = absurd (omega arith)
two (Err R.NoRequest) e = absurd (omega arith)
two (Err R.TooLate) e = absurd (omega arith)
two (Err R.TagsUsedUp) e = absurd (omega arith)
two (Err R.NoRoom) e = absurd (omega arith)
two (Err R.NoDate) e = absurd (omega arith)
two (Err R.EmptyWindow) e = absurd (omega arith)

one : (r : Reading) → number_of r ≡ 1 → r ≡ Err R.NoShape
one (Ok c) e = absurd (omega arith)
one (Err R.NoShape) e = refl
one (Err R.OutsideLimits) e = absurd (omega arith)
one (Err R.OutOfTurn) e = absurd (omega arith)
one (Err R.OwnBoard) e = absurd (omega arith)
one (Err R.LeavesRange) e = absurd (omega arith)
one (Err R.PeerWaits) e = absurd (omega arith)
one (Err R.NoRequest) e = absurd (omega arith)
one (Err R.TooLate) e = absurd (omega arith)
one (Err R.TagsUsedUp) e = absurd (omega arith)
one (Err R.NoRoom) e = absurd (omega arith)
one (Err R.NoDate) e = absurd (omega arith)
one (Err R.EmptyWindow) e = absurd (omega arith)

pub reads_the_grammar : (line : List ℕ) → ReadsTheGrammar line
reads_the_grammar line =
    record {
      command = λ c.
          (accepted line c (answer line), λ h. shaped_reading (form_of c) line h.0 ∙ limited_keeps (form_of c) h.1 ∙ ap Ok (form_command c));
      outside = (λ e. refused_2 line (answer line) (two (reading_of line) e), λ h. ap number_of (shaped_reading h.0 line h.1 ∙ limited_breaks h.0 h.2));
      shapeless = (λ e. refused_1 line (one (reading_of line) e), λ h. ap number_of (no_form line (answer line) h));
      none_too_long = λ f h. record { spelling = h; short = omega (arith, spelling_most f line h) };
      one = one_form line;
    }
