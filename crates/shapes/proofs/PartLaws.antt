-- Parts of given kinds are read from a place to the line's end exactly if the rest of the line is a spelling of them: once for all kinds, by
-- recursion over them.
use mathlib.Core.Path.{◌≡◌, refl, sym, ap, ◌∙◌, subst}
use mathlib.Core.Bool.{Bool, true, false, not, ◌&&◌}
use mathlib.Core.List.{List, [], ◌∷◌, ◌++◌}
use Prim.Native.Nat.{ℕ, ◌+◌, ◌≤◌}
use native.Mathlib.Omega.{arith}
use borrow.Author.Tests.{le-leb, leb-true}
use lib.Dec.{leb}
use lib.ListN.{length, drop, length-drop, drop_of_length-le}
use Rattle.bits.proofs.Tests.{both}
use Rattle.text.specs.Words.{bytes, word_at, starts_with}
use Rattle.text.proofs.WordLaws.{word_found, word_other, found_word, rest_is}
use Rattle.std.specs.Prelude.{Option, Some, None}
use Rattle.numeral.specs.Reading.{goes_on, numeral_ends, number_at, signed_at}
use Rattle.numeral.specs.declared.read.Signed.{Signed}
use Rattle.numeral.proofs.Numerals.{numeral_read, read_numeral}
use Rattle.numeral.proofs.SignedNumerals.{signed_read, read_signed, integer_is}
use Rattle.calendar.specs.declared.Date.{Date}
use Rattle.dates.specs.DateReading.{date_at, after_word, after_part}
use Rattle.dates.proofs.DateLaws.{read_date, date_read}
use Rattle.command.specs.Edges.{edge_value}
use Rattle.command.specs.Forms as F
use Rattle.command.specs.Forms.{Part, Spells, rule_text}
use Rattle.shapes.specs.Parts.{last_pair, pair_read}
use Rattle.shapes.specs.Shapes.{Kind, text, rule, number, edge, date, Values, before, rule_from, rule_at, end_at, at_end, last_edges, last_dates, last_times, read_parts}
use Rattle.rules.specs.declared.Rule.{Rule}
use Rattle.rules.specs.declared.Rule.TheVariants.{Im, Mm}

-- the parts of values of these kinds
abbrev pub parts_of : (ks : List Kind) → Values ks → List Part
parts_of [] v = []
parts_of (text t ∷ ks) v = F.text t ∷ parts_of ks v
parts_of (rule ∷ ks) v = F.rule v.0 ∷ parts_of ks v.1
parts_of (number ∷ ks) v = F.number v.0 ∷ parts_of ks v.1
parts_of (edge ∷ ks) v = F.edge v.0 ∷ parts_of ks v.1
parts_of (date ∷ ks) v = F.date v.0 ∷ parts_of ks v.1

-- ---- what is read is a spelling

-- the line's end
pub end_here : (line : List ℕ) (at : ℕ) → length line ≤ at → end_at line at ≡ true
unfolding end_at
end_here line at h = rw (le-leb (length line) at h)

sound_end : (line : List ℕ) (at : ℕ) (v : Unit {0}) → at_end (end_at line at) tt ≡ Some v → drop at line ≡ []
unfolding end_at
sound_end line at v e = go (leb (length line) at) refl e
  where
    go : (t : Bool) → leb (length line) at ≡ t → at_end t tt ≡ Some v → drop at line ≡ []
    go true p h = drop_of_length-le line (leb-true (length line) at p)
    go false p h = absurd (let k : ◌≡◌ {A = ℕ} 0 1 = cc in omega arith)

-- the rule whose word was found stands there
rule_stands : (line : List ℕ) (at : ℕ) (r : Rule) (next : ℕ) → rule_at line at ≡ Some (r, next) → drop at line ≡ bytes (rule_text r) ++ drop next line
unfolding rule_at
rule_stands line at r next e = go (word_at line at (bytes (rule_text Im))) (word_at line at (bytes (rule_text Mm))) refl refl e
  where
    this : (q : Rule) (n : ℕ) → word_at line at (bytes (rule_text q)) ≡ Some n → ◌≡◌ {A = Option (Rule × ℕ)} (Some (q, n)) (Some (r, next)) → drop at line ≡ bytes (rule_text r) ++ drop next line
    this q n p h =
        let found : ◌≡◌ {A = Rule × ℕ} (q, n) (r, next) = cc in
        let same : q ≡ r = ap (λ (x : Rule × ℕ). x.0) found in
        let place : n ≡ next = ap (λ (x : Rule × ℕ). x.1) found in
        rw (← same, ← place) (found_word line at (bytes (rule_text q)) n p).1

    go : (im mm : Option ℕ) → word_at line at (bytes (rule_text Im)) ≡ im → word_at line at (bytes (rule_text Mm)) ≡ mm → rule_from im mm ≡ Some (r, next)
        → drop at line ≡ bytes (rule_text r) ++ drop next line
    go (Some n) mm p q h = this Im n p h
    go None (Some n) p q h = this Mm n q h
    go None None p q h = absurd (let k : ◌≡◌ {A = ℕ} 0 1 = cc in omega arith)

-- the values after the first one, and what holds of all of them if it holds of those
sound_before : {A B : Type 0} (P : A × B → Type 0) (a : A) (o : Option B) (v : A × B) → before a o ≡ Some v → ((b : B) → o ≡ Some b → P (a, b)) → P v
sound_before P a None v h k = absurd (let z : ◌≡◌ {A = ℕ} 0 1 = cc in omega arith)
sound_before P a (Some b) v h k =
    let same : (a, b) ≡ v = cc in
    subst P same (k b refl)

pub sound : (ks : List Kind) (line : List ℕ) (at : ℕ) (v : Values ks) → read_parts ks line at ≡ Some v → Spells (parts_of ks v) (drop at line)
unfolding read_parts
sound [] line at v e = sound_end line at v e
sound (text t ∷ ks) line at v e = go (word_at line at (bytes t)) refl e (λ next h. sound ks line next v h)
  where
    go : (w : Option ℕ) → word_at line at (bytes t) ≡ w → after_word w (λ next. read_parts ks line next) ≡ Some v
        → ((next : ℕ) → read_parts ks line next ≡ Some v → Spells (parts_of ks v) (drop next line)) → Spells (parts_of (text t ∷ ks) v) (drop at line)
    go (Some next) p h ih = (bytes t, drop next line, refl, (found_word line at (bytes t) next p).1, ih next h)
    go None p h ih = absurd (let k : ◌≡◌ {A = ℕ} 0 1 = cc in omega arith)
sound (rule ∷ ks) line at v e = go (rule_at line at) refl e (λ next w h. sound ks line next w h)
  where
    go : (o : Option (Rule × ℕ)) → rule_at line at ≡ o → after_part o (λ r next. before r (read_parts ks line next)) ≡ Some v
        → ((next : ℕ) (w : Values ks) → read_parts ks line next ≡ Some w → Spells (parts_of ks w) (drop next line)) → Spells (parts_of (rule ∷ ks) v) (drop at line)
    go None p h ih = absurd (let k : ◌≡◌ {A = ℕ} 0 1 = cc in omega arith)
    go (Some (r, next)) p h ih =
        sound_before (λ w. Spells (parts_of (rule ∷ ks) w) (drop at line)) r (read_parts ks line next) v h
        (λ w q. (bytes (rule_text r), drop next line, refl, rule_stands line at r next p, ih next w q))
sound (number ∷ ks) line at v e =
    go (number_at line at) refl e (λ next w h. sound ks line next w h)
  where
    go : (r : Option (ℕ × ℕ)) → number_at line at ≡ r → after_part r (λ n next. before n (read_parts ks line next)) ≡ Some v
        → ((next : ℕ) (w : Values ks) → read_parts ks line next ≡ Some w → Spells (parts_of ks w) (drop next line)) → Spells (parts_of (number ∷ ks) v) (drop at line)
    go None p h ih = absurd (let k : ◌≡◌ {A = ℕ} 0 1 = cc in omega arith)
    go (Some (n, next)) p h ih =
        let s = read_numeral line at n next p in
        sound_before (λ w. Spells (parts_of (number ∷ ks) w) (drop at line)) n (read_parts ks line next) v h
        (λ w q. (s.bytes, drop next line, s.kind, s.here, ih next w q))
sound (edge ∷ ks) line at v e = go (signed_at line at) refl e (λ next w h. sound ks line next w h)
  where
    go : (r : Option (Signed × ℕ)) → signed_at line at ≡ r → after_part r (λ z next. before (edge_value z) (read_parts ks line next)) ≡ Some v
        → ((next : ℕ) (w : Values ks) → read_parts ks line next ≡ Some w → Spells (parts_of ks w) (drop next line)) → Spells (parts_of (edge ∷ ks) v) (drop at line)
    go None p h ih = absurd (let k : ◌≡◌ {A = ℕ} 0 1 = cc in omega arith)
    go (Some (e, next)) p h ih =
        let s = read_signed line at e.negative e.magnitude next p in
        sound_before (λ w. Spells (parts_of (edge ∷ ks) w) (drop at line)) (edge_value e) (read_parts ks line next) v h
        (λ w q. (s.bytes, drop next line, s.kind, s.here, ih next w q))
sound (date ∷ ks) line at v e = go (date_at line at) refl e (λ next w h. sound ks line next w h)
  where
    go : (r : Option (Date × ℕ)) → date_at line at ≡ r → after_part r (λ d next. before d (read_parts ks line next)) ≡ Some v
        → ((next : ℕ) (w : Values ks) → read_parts ks line next ≡ Some w → Spells (parts_of ks w) (drop next line)) → Spells (parts_of (date ∷ ks) v) (drop at line)
    go None p h ih = absurd (let k : ◌≡◌ {A = ℕ} 0 1 = cc in omega arith)
    go (Some (d, next)) p h ih =
        let s = read_date line at d next p in
        sound_before (λ w. Spells (parts_of (date ∷ ks) w) (drop at line)) d (read_parts ks line next) v h
        (λ w q. (s.bytes, drop next line, s.kind, s.here, ih next w q))

-- ---- two parts in brackets that end a line are read as their kinds are

module _ {A B : Type 0} (value : A → B) (part_at : List ℕ → ℕ → Option (A × ℕ)) (line : List ℕ) where
  -- the end of the line, the last brackets, the second part, the space, the first part, and the first bracket
  ended : (a b : A) (t : Bool) → pair_read value (at_end t (a, b)) ≡ before (value a) (before (value b) (at_end t tt))
  ended a b true = refl
  ended a b false = refl

  closed : (a b : A) (w : Option ℕ)
      → pair_read value (after_word w (λ at. at_end (end_at line at) (a, b)))
      ≡ before (value a) (before (value b) (after_word w (λ at. at_end (end_at line at) tt)))
  closed a b (Some at) = ended a b (end_at line at)
  closed a b None = refl

  abbrev closing : A → A → ℕ → Option (A × A)
  closing a b at = after_word (word_at line at (bytes "))")) (λ at. at_end (end_at line at) (a, b))

  abbrev closing_kinds : ℕ → Option (Unit {0})
  closing_kinds at = after_word (word_at line at (bytes "))")) (λ at. at_end (end_at line at) tt)

  second : (a : A) (o : Option (A × ℕ))
      → pair_read value (after_part o (λ b at. closing a b at)) ≡ before (value a) (after_part o (λ b at. before (value b) (closing_kinds at)))
  second a (Some (b, at)) = closed a b (word_at line at (bytes "))"))
  second a None = refl

  abbrev last : A → ℕ → Option (A × A)
  last a at = after_part (part_at line at) (λ b at. closing a b at)

  abbrev last_kinds : ℕ → Option (B × Unit {0})
  last_kinds at = after_part (part_at line at) (λ b at. before (value b) (closing_kinds at))

  spaced : (a : A) (w : Option ℕ) → pair_read value (after_word w (λ at. last a at)) ≡ before (value a) (after_word w (λ at. last_kinds at))
  spaced a (Some at) = second a (part_at line at)
  spaced a None = refl

  abbrev both_kinds : ℕ → Option (B × (B × Unit {0}))
  both_kinds at = after_part (part_at line at) (λ a at. before (value a) (after_word (word_at line at (bytes " ")) (λ at. last_kinds at)))

  first : (o : Option (A × ℕ))
      → pair_read value (after_part o (λ a at. after_word (word_at line at (bytes " ")) (λ at. last a at)))
      ≡ after_part o (λ a at. before (value a) (after_word (word_at line at (bytes " ")) (λ at. last_kinds at)))
  first (Some (a, at)) = spaced a (word_at line at (bytes " "))
  first None = refl

  opened_pair : (w : Option ℕ)
      → pair_read value (after_word w (λ at. after_part (part_at line at) (λ a at. after_word (word_at line at (bytes " ")) (λ at. last a at))))
      ≡ after_word w (λ at. both_kinds at)
  opened_pair (Some at) = first (part_at line at)
  opened_pair None = refl

  paired : (at : ℕ) → pair_read value (last_pair part_at line at) ≡ after_word (word_at line at (bytes " (")) (λ at. both_kinds at)
  unfolding last_pair
  paired at = opened_pair (word_at line at (bytes " ("))

module _ (line : List ℕ) (at : ℕ) where
  pub pair_edges : read_parts last_edges line at ≡ pair_read edge_value (last_pair signed_at line at)
  unfolding read_parts
  pair_edges = sym (paired edge_value signed_at line at)

  pub pair_dates : read_parts last_dates line at ≡ pair_read (λ d. d) (last_pair date_at line at)
  unfolding read_parts
  pair_dates = sym (paired (λ d. d) date_at line at)

  pub pair_times : read_parts last_times line at ≡ pair_read (λ n. n) (last_pair number_at line at)
  unfolding read_parts
  pair_times = sym (paired (λ n. n) number_at line at)

-- ---- a spelling is read

-- the bytes begin with a byte that is no digit
abbrev opens : List ℕ → Bool
opens [] = false
opens (b ∷ s) = not (goes_on b)

-- what begins a spelling of these kinds is no digit, or nothing is left
abbrev follows : List Kind → Bool
follows [] = true
follows (text t ∷ ks) = opens (bytes t)
follows (rule ∷ ks) = true
follows (number ∷ ks) = false
follows (edge ∷ ks) = false
follows (date ∷ ks) = false

-- after a numeral comes no digit
abbrev pub apart : List Kind → Bool
apart [] = true
apart (text t ∷ ks) = apart ks
apart (rule ∷ ks) = apart ks
apart (number ∷ ks) = follows ks && apart ks
apart (edge ∷ ks) = follows ks && apart ks
apart (date ∷ ks) = apart ks

opened : (s rest : List ℕ) → opens s ≡ true → numeral_ends (s ++ rest) ≡ true
opened [] rest e = absurd (let k : ◌≡◌ {A = ℕ} 0 1 = cc in omega arith)
opened (b ∷ s) rest e = e

ends_apart : (ks : List Kind) (v : Values ks) (rest : List ℕ) → follows ks ≡ true → Spells (parts_of ks v) rest → numeral_ends rest ≡ true
ends_apart [] v rest e h = rw h
ends_apart (text t ∷ ks) v rest e (s, more, p, f, h) = rw (f, p) (opened (bytes t) more e)
ends_apart (rule ∷ ks) v rest e (s, more, p, f, h) = go v.0 p
  where
    go : (r : Rule) → s ≡ bytes (rule_text r) → numeral_ends rest ≡ true
    go Im q = rw (f, q)
    go Mm q = rw (f, q)
ends_apart (number ∷ ks) v rest e h = absurd (let k : ◌≡◌ {A = ℕ} 0 1 = cc in omega arith)
ends_apart (edge ∷ ks) v rest e h = absurd (let k : ◌≡◌ {A = ℕ} 0 1 = cc in omega arith)
ends_apart (date ∷ ks) v rest e h = absurd (let k : ◌≡◌ {A = ℕ} 0 1 = cc in omega arith)

-- a rule's text is read as that rule
rule_read : (r : Rule) (line : List ℕ) (at : ℕ) (rest : List ℕ) → drop at line ≡ bytes (rule_text r) ++ rest → rule_at line at ≡ Some (r, at + length (bytes (rule_text r)))
unfolding rule_at starts_with
rule_read Im line at rest e = rw (word_found line at (bytes (rule_text Im)) rest e)
rule_read Mm line at rest e =
    rw (word_other line at (bytes (rule_text Im)) (rw e), word_found line at (bytes (rule_text Mm)) rest e)

pub complete : (ks : List Kind) → apart ks ≡ true → (line : List ℕ) (at : ℕ) (v : Values ks) → Spells (parts_of ks v) (drop at line) → read_parts ks line at ≡ Some v
unfolding read_parts
complete [] a line at v e =
    let short : length line ≤ at = omega (arith, length-drop at line, ap length e) in
    rw (end_here line at short)
complete (text t ∷ ks) a line at v (s, rest, p, f, h) =
    let here : drop at line ≡ bytes t ++ rest = f ∙ ap (λ (x : List ℕ). x ++ rest) p in
    rw (word_found line at (bytes t) rest here)
    (complete ks a line (at + length (bytes t)) v (rw (rest_is line at (bytes t) rest here) h))
complete (rule ∷ ks) a line at v (s, rest, p, f, h) =
    let spelt = bytes (rule_text v.0) in
    let here : drop at line ≡ spelt ++ rest = f ∙ ap (λ (x : List ℕ). x ++ rest) p in
    rw (rule_read v.0 line at rest here, complete ks a line (at + length spelt) v.1 (rw (rest_is line at spelt rest here) h))
complete (number ∷ ks) a line at v (s, rest, p, f, h) =
    let apartness = both (follows ks) (apart ks) a in
    rw (
      numeral_read line at v.0 s rest p f (ends_apart ks v.1 rest apartness.0 h),
      complete ks apartness.1 line (at + length s) v.1 (rw (rest_is line at s rest f) h),
    )
complete (edge ∷ ks) a line at v (s, rest, p, f, h) =
    let apartness = both (follows ks) (apart ks) a in
    rw (
      signed_read line at v.0 s rest p f (ends_apart ks v.1 rest apartness.0 h),
      complete ks apartness.1 line (at + length s) v.1 (rw (rest_is line at s rest f) h),
      integer_is v.0,
    )
complete (date ∷ ks) a line at v (s, rest, p, f, h) =
    rw (
      date_read line at v.0 s rest p f,
      complete ks a line (at + length s) v.1 (rw (rest_is line at s rest f) h),
    )
