-- Every byte of a plain spelling is a printable one (32 to 126) other than `_`: digits, signs, the marks of a date and the texts of the forms are.
-- So the spelling has no LF, and carries no `_`.
use mathlib.Core.Path.{◌≡◌, refl}
use mathlib.Core.Bool.{Bool, true, false, not, ◌&&◌}
use mathlib.Core.List.{List, [], ◌∷◌, ◌++◌}
use Prim.Native.Nat.{ℕ, zero, suc, ◌+◌, ◌/◌, ◌%◌, ◌≤◌}
use native.Mathlib.Omega.{arith}
use lib.Dec.{leb, eqb}
use lib.IntN.{ℤ, pos, negsuc}
use borrow.Author.Tests.{le-leb, leb-true, ne_eqb, not-true}
use Rattle.bits.proofs.Tests.{both}
use Rattle.text.specs.Words.{bytes}
use Rattle.numeral.specs.Digits.{signed_digits}
use Rattle.numeral.specs.Groups.{underscore, carries_underscore}
use Rattle.numeral.specs.Numerals.{AllDigits, none, more}
use Rattle.numeral.proofs.Numerals.{digits_all}
use Rattle.digits.specs.Width.{last_digits}
use Rattle.calendar.specs.declared.Date.{Date}
use Rattle.dates.specs.DateText.{day_text, time_text, date_text, DateSpelling}
use Rattle.rules.specs.declared.Rule.TheVariants.{Im, Mm}
use Rattle.command.specs.Forms as F
use Rattle.command.specs.Forms.{Form, Part, text, rule, number, edge, date, parts}
use Rattle.command.specs.Spelling.{plain_part, plain_parts, plain_spelling}

abbrev printable_byte : ℕ → Bool
printable_byte b = leb 32 b && (leb b 126 && not (eqb b underscore))

unfoldable pub printable : List ℕ → Bool
printable [] = true
printable (b ∷ s) = printable_byte b && printable s

-- ---- what it says of bytes

pub printable_byte_lem : (b : ℕ) (s : List ℕ) → printable (b ∷ s) ≡ true → (32 ≤ b) × (eqb b underscore ≡ false) × (printable s ≡ true)
unfolding printable
printable_byte_lem b s e =
    let (this, others) = both (printable_byte b) (printable s) e in
    let (low, above) = both (leb 32 b) (leb b 126 && not (eqb b underscore)) this in
    let (high, mark) = both (leb b 126) (not (eqb b underscore)) above in
    (leb-true 32 b low, not-true (eqb b underscore) mark, others)

pub printable_carries : (s : List ℕ) → printable s ≡ true → carries_underscore s ≡ false
unfolding carries_underscore
printable_carries [] e = refl
printable_carries (b ∷ s) e = let (low, mark, others) = printable_byte_lem b s e in rw mark (printable_carries s others)

-- ---- parts have such bytes

pub plain_append : (s t : List ℕ) → printable s ≡ true → printable t ≡ true → printable (s ++ t) ≡ true
unfolding printable
plain_append [] t p q = q
plain_append (b ∷ s) t p q = let (this, others) = both (printable_byte b) (printable s) p in rw this (plain_append s t others q)

digit_plain : (b : ℕ) (s : List ℕ) → 48 ≤ b → b ≤ 57 → printable s ≡ true → printable (b ∷ s) ≡ true
unfolding printable
digit_plain b s low high r = rw (le-leb 32 b (omega arith), le-leb b 126 (omega arith), ne_eqb b underscore (λ e. omega arith)) r

pub digits_plain : {s : List ℕ} → AllDigits s → printable s ≡ true
unfolding printable
digits_plain none = refl
digits_plain (more {b} {s} low high rest) = digit_plain b s low high (digits_plain rest)

pub signed_plain : (z : ℤ) → printable (signed_digits z) ≡ true
unfolding signed_digits printable
signed_plain (pos n) = digits_plain (digits_all n)
signed_plain (negsuc n) = digits_plain (digits_all (suc n))

width_plain : (k n : ℕ) → printable (last_digits k n) ≡ true
unfolding last_digits printable
width_plain zero n = refl
width_plain (suc k) n =
    plain_append (last_digits k (n / 10)) ((48 + n % 10) ∷ []) (width_plain k (n / 10)) (digit_plain (48 + n % 10) [] (omega arith) (omega arith) refl)

day_plain : (y m d : ℕ) → printable (day_text y m d) ≡ true
unfolding day_text printable
day_plain y m d =
    plain_append (last_digits 4 y ++ bytes "-" ++ last_digits 2 m ++ bytes "-") (last_digits 2 d)
    (plain_append (last_digits 4 y ++ bytes "-" ++ last_digits 2 m) (bytes "-")
    (plain_append (last_digits 4 y ++ bytes "-") (last_digits 2 m) (plain_append (last_digits 4 y) (bytes "-") (width_plain 4 y) refl) (width_plain 2 m))
    refl)
    (width_plain 2 d)

time_plain : (h m s : ℕ) → printable (time_text h m s) ≡ true
unfolding time_text printable
time_plain h m s =
    plain_append (last_digits 2 h ++ bytes ":" ++ last_digits 2 m ++ bytes ":") (last_digits 2 s)
    (plain_append (last_digits 2 h ++ bytes ":" ++ last_digits 2 m) (bytes ":")
    (plain_append (last_digits 2 h ++ bytes ":") (last_digits 2 m) (plain_append (last_digits 2 h) (bytes ":") (width_plain 2 h) refl) (width_plain 2 m))
    refl)
    (width_plain 2 s)

date_plain : (d : Date) → printable (date_text d) ≡ true
unfolding date_text printable
date_plain d =
    plain_append (day_text d.year d.month d.day ++ bytes "T") (time_text d.hour d.minute d.second)
    (plain_append (day_text d.year d.month d.day) (bytes "T") (day_plain d.year d.month d.day) refl)
    (time_plain d.hour d.minute d.second)

-- 'dates take no `_`'
pub date_carries : (d : Date) (s : List ℕ) → DateSpelling d s → carries_underscore s ≡ false
date_carries d s h = rw h.spelling (printable_carries (date_text d) (date_plain d))

-- the text of a part has such bytes, if it is a text
abbrev pub TextPlain : Part → Type 0
TextPlain (text t) = printable (bytes t) ≡ true
TextPlain (rule r) = Unit {0}
TextPlain (number n) = Unit {0}
TextPlain (edge z) = Unit {0}
TextPlain (date d) = Unit {0}

abbrev pub TextsPlain : List Part → Type 0
TextsPlain [] = Unit {0}
TextsPlain (p ∷ ps) = TextPlain p × TextsPlain ps

pub part_bytes : (p : Part) → TextPlain p → printable (plain_part p) ≡ true
unfolding printable
part_bytes (text t) h = h
part_bytes (rule Im) h = refl
part_bytes (rule Mm) h = refl
part_bytes (number n) h = digits_plain (digits_all n)
part_bytes (edge z) h = signed_plain z
part_bytes (date d) h = date_plain d

-- ---- and so have the forms

pub form_texts : (f : Form) → TextsPlain (parts f)
unfolding printable
form_texts (F.start board r claim edges) = (refl, (tt, (tt, (tt, (refl, (tt, (refl, (tt, (refl, tt)))))))))
form_texts (F.pass ticks) = (refl, (tt, (refl, tt)))
form_texts (F.request peer) = (refl, (tt, (refl, tt)))
form_texts (F.reply peer tag edges) = (refl, (tt, (refl, (tt, (refl, (tt, (refl, (tt, (refl, tt)))))))))
form_texts (F.drop peer) = (refl, (tt, (refl, tt)))
form_texts F.read = (refl, tt)
form_texts F.waiting = (refl, tt)
form_texts (F.window slot begins ends) = (refl, (tt, (refl, (tt, (refl, (tt, (refl, tt)))))))
form_texts (F.flight peer out back) = (refl, (tt, (refl, (tt, (refl, (tt, (refl, tt)))))))

parts_bytes : (ps : List Part) → TextsPlain ps → printable (plain_parts ps) ≡ true
unfolding plain_parts printable
parts_bytes [] h = refl
parts_bytes (p ∷ ps) h = plain_append (plain_part p) (plain_parts ps) (part_bytes p h.0) (parts_bytes ps h.1)

pub spelling_bytes : (f : Form) → printable (plain_spelling f) ≡ true
unfolding plain_spelling
spelling_bytes f = parts_bytes (parts f) (form_texts f)
