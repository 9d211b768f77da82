-- The plain spelling of a form that no cause of its own refuses is a spelling in the sense of the grammar (`plain_spells`), and a spelling of a
-- form, without its `_`, is its plain spelling (`spelling_plain`). Both by the parts, one after the other.
use mathlib.Core.Path.{◌≡◌, refl, ap, ◌∙◌}
use mathlib.Core.Bool.{Bool, true, false, not, ◌&&◌}
use mathlib.Core.List.{List, [], ◌∷◌, ◌++◌}
use Prim.Native.Nat.{ℕ, suc, ◌+◌, ◌≤◌, ◌<◌, ◌^◌}
use native.Mathlib.Omega.{arith}
use borrow.Author.Tests.{leb-true}
use lib.Dec.{leb}
use lib.IntN.{ℤ, pos, negsuc, nat_abs}
use lib.Signed.{le_z, lt_z}
use lib.ListN.{length, length-append}
use Rattle.bits.proofs.Tests.{both}
use Rattle.text.specs.Words.{bytes}
use Rattle.numeral.specs.Digits.{signed_digits}
use Rattle.numeral.proofs.Digits.{digits_most}
use Rattle.numeral.specs.Groups.{ungrouped}
use Rattle.numeral.proofs.GroupLaws.{ungrouped_append, ungrouped_same}
use Rattle.numeral.proofs.Numerals.{numeral_ungrouped, numeral_most}
use Rattle.numeral.proofs.RoundTrip.{digits_numeral, signed_numeral, signed_ungrouped, signed_most}
use Rattle.moment.specs.declared.Interval.{Interval}
use Rattle.moment.specs.Moment.{in_range}
use Rattle.moment.specs.Intervals.{edges_within}
use Rattle.moment.proofs.Integers.{ints}
use Rattle.moment.proofs.IntervalLaws.{range_read}
use Rattle.calendar.specs.declared.Date.{Date}
use Rattle.calendar.specs.Calendar.{exists}
use Rattle.calendar.specs.Conversion.{moment_of}
use Rattle.flights.specs.Flights.{flight_within}
use Rattle.flights.proofs.FlightLaws.{flight_bound}
use Rattle.dates.specs.DateText.{Fits}
use Rattle.dates.proofs.FitLaws.{exists_fits}
use Rattle.dates.proofs.PlacedLaws.{date_length}
use Rattle.rules.specs.declared.Rule.{Rule}
use Rattle.rules.specs.declared.Rule.TheVariants.{Im, Mm}
use Rattle.command.specs.Forms as F
use Rattle.command.specs.Forms.{Form, Part, text, rule, number, edge, date, IsPart, Spells, IsSpelling, parts}
use Rattle.command.specs.Spelling.{plain_part, plain_parts, plain_spelling}
use Rattle.command.specs.Limits.{keeps, board_within, claim_within, ticks_within, tag_within, slot_within}
use Rattle.command.specs.Causes.{Cause, cause, first, form_causes, date_causes}
use Rattle.command.proofs.PlainBytes.{printable_carries, TextPlain, TextsPlain, part_bytes, form_texts}

-- ---- a spelling without its `_` is the plain one

plain_ungrouped : (p : Part) → TextPlain p → ungrouped (plain_part p) ≡ plain_part p
plain_ungrouped p h = ungrouped_same (plain_part p) (printable_carries (plain_part p) (part_bytes p h))

part_ungrouped : (p : Part) (s : List ℕ) → TextPlain p → IsPart p s → ungrouped s ≡ plain_part p
part_ungrouped (text t) s q h = ap ungrouped h ∙ plain_ungrouped (text t) q
part_ungrouped (rule r) s q h = ap ungrouped h ∙ plain_ungrouped (rule r) q
part_ungrouped (number n) s q h = numeral_ungrouped n s h
part_ungrouped (edge z) s q h = signed_ungrouped z s h
part_ungrouped (date d) s q h = ap ungrouped h.spelling ∙ plain_ungrouped (date d) q

parts_ungrouped : (ps : List Part) (line : List ℕ) → TextsPlain ps → Spells ps line → ungrouped line ≡ plain_parts ps
unfolding plain_parts ungrouped
parts_ungrouped [] line q h = ap ungrouped h
parts_ungrouped (p ∷ ps) line q (s, rest, this, whole, others) =
    ap ungrouped whole
    ∙ ungrouped_append s rest
    ∙ ap (λ (x : List ℕ). x ++ ungrouped rest) (part_ungrouped p s q.0 this)
    ∙ ap (λ (x : List ℕ). plain_part p ++ x) (parts_ungrouped ps rest q.1 others)

pub spelling_plain : (f : Form) (line : List ℕ) → IsSpelling f line → ungrouped line ≡ plain_spelling f
unfolding plain_spelling
spelling_plain f line h = parts_ungrouped (parts f) line (form_texts f) h

-- ---- the plain spelling is one, where every number has a numeral

-- the number of a part has at most 19 digits, and the fields of a date fit their places
abbrev HasNumeral : Part → Type 0
HasNumeral (text t) = Unit {0}
HasNumeral (rule r) = Unit {0}
HasNumeral (number n) = n < 10 ^ 19
HasNumeral (edge z) = nat_abs z < 10 ^ 19
HasNumeral (date d) = Fits d

abbrev HaveNumerals : List Part → Type 0
HaveNumerals [] = Unit {0}
HaveNumerals (p ∷ ps) = HasNumeral p × HaveNumerals ps

part_is : (p : Part) → HasNumeral p → IsPart p (plain_part p)
part_is (text t) h = refl
part_is (rule r) h = refl
part_is (number n) h = digits_numeral n h
part_is (edge z) h = signed_numeral z h
part_is (date d) h = record { fits = h; spelling = refl }

parts_are : (ps : List Part) → HaveNumerals ps → Spells ps (plain_parts ps)
unfolding plain_parts
parts_are [] h = refl
parts_are (p ∷ ps) h = (plain_part p, plain_parts ps, part_is p h.0, refl, parts_are ps h.1)

-- ---- every number within its limit has a numeral

range_numeral : (z : ℤ) → in_range z ≡ true → nat_abs z < 10 ^ 19
range_numeral (pos n) h = omega (ints, range_read (pos n) h)
range_numeral (negsuc n) h = omega (ints, range_read (negsuc n) h)

edges_numerals : (e : Interval) → edges_within e ≡ true → (nat_abs e.lower < 10 ^ 19) × (nat_abs e.upper < 10 ^ 19)
unfolding edges_within
edges_numerals e h =
    let (low, high) = both (in_range e.lower) (in_range e.upper) (both (in_range e.lower && in_range e.upper) (le_z e.lower e.upper) h).0 in
    (range_numeral e.lower low, range_numeral e.upper high)

-- how many digits the numbers of a form have, by its limits
abbrev Small : Form → Type 0
Small (F.start board r claim edges) = (board < 10 ^ 2) × (claim < 10 ^ 5) × (nat_abs edges.lower < 10 ^ 19) × (nat_abs edges.upper < 10 ^ 19)
Small (F.pass ticks) = ticks < 10 ^ 8
Small (F.request peer) = peer < 10 ^ 2
Small (F.reply peer tag edges) = (peer < 10 ^ 2) × (tag < 10 ^ 8) × (nat_abs edges.lower < 10 ^ 19) × (nat_abs edges.upper < 10 ^ 19)
Small (F.drop peer) = peer < 10 ^ 2
Small F.read = Unit {0}
Small F.waiting = Unit {0}
Small (F.window slot begins ends) = (slot < 10 ^ 2) × Fits begins × Fits ends
Small (F.flight peer out back) = (peer < 10 ^ 2) × (out < 10 ^ 10) × (back < 10 ^ 10)

board_small : (n : ℕ) → board_within n ≡ true → n < 10 ^ 2
unfolding board_within
board_small n h = omega (arith, leb-true n 15 h)

claim_small : (n : ℕ) → claim_within n ≡ true → n < 10 ^ 5
unfolding claim_within
claim_small n h = omega (arith, leb-true n 50000 h)

ticks_small : (n : ℕ) → ticks_within n ≡ true → n < 10 ^ 8
unfolding ticks_within
ticks_small n h = omega (arith, leb-true n 86400000 h)

slot_small : (n : ℕ) → slot_within n ≡ true → n < 10 ^ 2
unfolding slot_within
slot_small n h = omega (arith, leb-true n 15 h)

tag_small : (n : ℕ) → tag_within n ≡ true → n < 10 ^ 8
unfolding tag_within
tag_small n h = omega (arith, leb-true n 16777215 (both (leb 1 n) (leb n 16777215) h).1)

flight_small : (n : ℕ) → flight_within n ≡ true → n < 10 ^ 10
flight_small n h = omega (arith, flight_bound n h)

-- a form that no cause of its own refuses keeps its limits; its dates exist, and the second is later
pub uncaused_keeps : (f : Form) → first (form_causes f) ≡ 0 → keeps f ≡ true
unfolding first
uncaused_keeps f h = go (keeps f) (date_causes f) h
  where
    go : (t : Bool) (rest : List Cause) → first (cause 2 (not t) ∷ rest) ≡ 0 → t ≡ true
    go true rest e = refl
    go false rest e = absurd (omega (arith, e))

pub uncaused_dates : (slot : ℕ) (begins ends : Date) → first (form_causes (F.window slot begins ends)) ≡ 0
    → (exists begins ≡ true) × (exists ends ≡ true) × (lt_z (moment_of begins) (moment_of ends) ≡ true)
unfolding first
uncaused_dates slot begins ends h = go (slot_within slot) (exists begins) (exists ends) (lt_z (moment_of begins) (moment_of ends)) h
  where
    go : (s b e l : Bool) → first (cause 2 (not s) ∷ cause 11 (not (b && e)) ∷ cause 12 (not l) ∷ []) ≡ 0 → (b ≡ true) × (e ≡ true) × (l ≡ true)
    go false b e l h = absurd (omega (arith, h))
    go true false e l h = absurd (omega (arith, h))
    go true true false l h = absurd (omega (arith, h))
    go true true true false h = absurd (omega (arith, h))
    go true true true true h = (refl, refl, refl)

uncaused_small : (f : Form) → first (form_causes f) ≡ 0 → Small f
uncaused_small (F.start board r claim edges) h =
    let (front, e) = both (board_within board && claim_within claim) (edges_within edges) (uncaused_keeps (F.start board r claim edges) h) in
    let (b, c) = both (board_within board) (claim_within claim) front in
    let (low, high) = edges_numerals edges e in
    (board_small board b, claim_small claim c, low, high)
uncaused_small (F.pass ticks) h = ticks_small ticks (uncaused_keeps (F.pass ticks) h)
uncaused_small (F.request peer) h = board_small peer (uncaused_keeps (F.request peer) h)
uncaused_small (F.reply peer tag edges) h =
    let (front, e) = both (board_within peer && tag_within tag) (edges_within edges) (uncaused_keeps (F.reply peer tag edges) h) in
    let (p, t) = both (board_within peer) (tag_within tag) front in
    let (low, high) = edges_numerals edges e in
    (board_small peer p, tag_small tag t, low, high)
uncaused_small (F.drop peer) h = board_small peer (uncaused_keeps (F.drop peer) h)
uncaused_small F.read h = tt
uncaused_small F.waiting h = tt
uncaused_small (F.window slot begins ends) h =
    let (b, e, later) = uncaused_dates slot begins ends h in
    (slot_small slot (uncaused_keeps (F.window slot begins ends) h), exists_fits begins b, exists_fits ends e)
uncaused_small (F.flight peer out back) h =
    let (front, b) = both (board_within peer && flight_within out) (flight_within back) (uncaused_keeps (F.flight peer out back) h) in
    let (p, o) = both (board_within peer) (flight_within out) front in
    (board_small peer p, flight_small out o, flight_small back b)

small_numerals : (f : Form) → Small f → HaveNumerals (parts f)
small_numerals (F.start board r claim edges) (b, c, low, high) =
    (tt, (omega (arith, b), (tt, (omega (arith, c), (tt, (low, (tt, (high, (tt, tt)))))))))
small_numerals (F.pass ticks) h = (tt, (omega (arith, h), (tt, tt)))
small_numerals (F.request peer) h = (tt, (omega (arith, h), (tt, tt)))
small_numerals (F.reply peer tag edges) (p, t, low, high) =
    (tt, (omega (arith, p), (tt, (omega (arith, t), (tt, (low, (tt, (high, (tt, tt)))))))))
small_numerals (F.drop peer) h = (tt, (omega (arith, h), (tt, tt)))
small_numerals F.read h = (tt, tt)
small_numerals F.waiting h = (tt, tt)
small_numerals (F.window slot begins ends) (s, b, e) = (tt, (omega (arith, s), (tt, (b, (tt, (e, (tt, tt)))))))
small_numerals (F.flight peer out back) (p, o, b) = (tt, (omega (arith, p), (tt, (omega (arith, o), (tt, (omega (arith, b), (tt, tt)))))))

pub plain_spells : (f : Form) → first (form_causes f) ≡ 0 → IsSpelling f (plain_spelling f)
unfolding plain_spelling
plain_spells f h = parts_are (parts f) (small_numerals f (uncaused_small f h))

-- ---- and it is short

-- the bytes of the parts, added up
abbrev bytes_of : List Part → ℕ
bytes_of [] = 0
bytes_of (p ∷ ps) = length (plain_part p) + bytes_of ps

parts_length : (ps : List Part) → length (plain_parts ps) ≡ bytes_of ps
unfolding plain_parts
parts_length [] = refl
parts_length (p ∷ ps) = length-append (plain_part p) (plain_parts ps) ∙ ap (λ (n : ℕ). length (plain_part p) + n) (parts_length ps)

rule_length : (r : Rule) → length (plain_part (rule r)) ≡ 4
rule_length Im = refl
rule_length Mm = refl

edge_most : (z : ℤ) → nat_abs z < 10 ^ 19 → length (signed_digits z) ≤ 20
unfolding signed_digits
edge_most (pos n) h = omega (arith, digits_most 18 n h)
edge_most (negsuc n) h = omega (arith, digits_most 18 (suc n) h)

small_most : (f : Form) → Small f → bytes_of (parts f) ≤ 63
small_most (F.start board r claim edges) (b, c, low, high) =
    omega (arith, digits_most 1 board b, rule_length r, digits_most 4 claim c, edge_most edges.lower low, edge_most edges.upper high)
small_most (F.pass ticks) h = omega (arith, digits_most 7 ticks h)
small_most (F.request peer) h = omega (arith, digits_most 1 peer h)
small_most (F.reply peer tag edges) (p, t, low, high) =
    omega (arith, digits_most 1 peer p, digits_most 7 tag t, edge_most edges.lower low, edge_most edges.upper high)
small_most (F.drop peer) h = omega (arith, digits_most 1 peer h)
small_most F.read h = omega arith
small_most F.waiting h = omega arith
small_most (F.window slot begins ends) (s, b, e) = omega (arith, digits_most 1 slot s, date_length begins, date_length ends)
small_most (F.flight peer out back) (p, o, b) = omega (arith, digits_most 1 peer p, digits_most 9 out o, digits_most 9 back b)

-- no form that no cause of its own refuses has more than 63 bytes: a start with a board of two digits, a claim of five, and two negative edges of
-- nineteen digits has as many
pub plain_most : (f : Form) → first (form_causes f) ≡ 0 → length (plain_spelling f) ≤ 63
unfolding plain_spelling
plain_most f h = omega (arith, parts_length (parts f), small_most f (uncaused_small f h))

-- ---- the longest spelling

abbrev most : Part → ℕ
most (text t) = length (bytes t)
most (rule r) = 4
most (number n) = 25
most (edge z) = 26
most (date d) = 19

abbrev most_of : List Part → ℕ
most_of [] = 0
most_of (p ∷ ps) = most p + most_of ps

part_most : (p : Part) (s : List ℕ) → IsPart p s → length s ≤ most p
part_most (text t) s h = omega (arith, ap length h)
part_most (rule r) s h = omega (arith, ap length h, rule_length r)
part_most (number n) s h = numeral_most n s h
part_most (edge z) s h = signed_most z s h
part_most (date d) s h = omega (arith, ap length h.spelling, date_length d)

parts_most : (ps : List Part) (line : List ℕ) → Spells ps line → length line ≤ most_of ps
parts_most [] line h = omega (arith, ap length h)
parts_most (p ∷ ps) line (s, rest, this, whole, others) =
    omega (arith, ap length whole, length-append s rest, part_most p s this, parts_most ps rest others)

-- no spelling of a form has more than 118 bytes: a start in which four numerals have nineteen digits in groups, and the edges are negative, has as many
pub spelling_most : (f : Form) (line : List ℕ) → IsSpelling f line → length line ≤ 118
spelling_most f line h = omega (arith, parts_most (parts f) line h, all f)
  where
    all : (f : Form) → most_of (parts f) ≤ 118
    all (F.start board r claim edges) = omega arith
    all (F.pass ticks) = omega arith
    all (F.request peer) = omega arith
    all (F.reply peer tag edges) = omega arith
    all (F.drop peer) = omega arith
    all F.read = omega arith
    all F.waiting = omega arith
    all (F.window slot begins ends) = omega arith
    all (F.flight peer out back) = omega arith
