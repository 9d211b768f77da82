-- A date is read from a place exactly if a spelling of it stands there: `read_date`, `date_read`.
use mathlib.Core.Path.{◌≡◌, refl, sym, ap, ◌∙◌}
use mathlib.Core.Bool.{Bool, true, false, ◌&&◌}
use mathlib.Core.List.{List, [], ◌∷◌, ◌++◌, append_assoc}
use Prim.Native.Nat.{ℕ, suc, ◌+◌, ◌-◌, ◌*◌, ◌/◌, ◌%◌, ◌≤◌, ◌<◌}
use native.Mathlib.Omega.{arith}
use borrow.Author.Tests.{le-leb, leb-true}
use lib.Dec.{leb}
use lib.ListN.{length, drop, get_or, length-drop, length-append}
use lib.Seq.{drop-cons, drop-drop}
use Rattle.bits.specs.Choice.{choose}
use Rattle.bits.proofs.Tests.{both}
use Rattle.text.specs.Words.{bytes, word_at, Stands}
use Rattle.text.proofs.WordLaws.{word_found, found_word, rest_is}
use Rattle.numeral.specs.Reading.{is_digit}
use Rattle.digits.specs.Width.{last_digits}
use Rattle.digits.proofs.WidthLaws.{length_last, last_join, last_two}
use Rattle.std.proofs.Common.{Option, Some, None}
use Rattle.numeral.proofs.Reading.{same_parts}
use Rattle.dates.specs.DateReading.{two_of, two_at, after_part, after_word, three_at, date_at}
use Rattle.dates.proofs.PlacedLaws.{date_length}
use Rattle.dates.specs.DateText.{day_text, time_text, date_text, DateSpelling}
use Rattle.calendar.specs.Conversion.{date}
use Rattle.calendar.specs.declared.Date.{Date}

-- ---- what `two_at` is, by the bytes at the two places

module _ (s : List ℕ) (at : ℕ) where
  drop_two : at + 2 ≤ length s → drop at s ≡ get_or s at 0 ∷ get_or s (at + 1) 0 ∷ drop (at + 2) s
  drop_two h =
      let one : suc at ≡ at + 1 = omega arith in
      let two : suc (at + 1) ≡ at + 2 = omega arith in
      drop-cons s at 0 (omega arith) ∙ ap (λ (r : List ℕ). get_or s at 0 ∷ r) (rw one (drop-cons s (at + 1) 0 (omega arith) ∙ rw two))

  pub two_made : at + 2 ≤ length s → 48 ≤ get_or s at 0 → get_or s at 0 ≤ 57 → 48 ≤ get_or s (at + 1) 0 → get_or s (at + 1) 0 ≤ 57
      → two_at s at ≡ Some ((get_or s at 0 - 48) * 10 + (get_or s (at + 1) 0 - 48), at + 2)
  unfolding two_at
  two_made h a b c d = rw (drop_two h, le-leb 48 (get_or s at 0) a, le-leb (get_or s at 0) 57 b, le-leb 48 (get_or s (at + 1) 0) c, le-leb (get_or s (at + 1) 0) 57 d)

  pub two_other : at + 2 ≤ length s → (48 ≤ get_or s at 0 → get_or s at 0 ≤ 57 → 48 ≤ get_or s (at + 1) 0 → get_or s (at + 1) 0 ≤ 57 → ⊥) → two_at s at ≡ None
  unfolding two_at
  two_other h other = rw (drop_two h) (go (is_digit (get_or s at 0) && is_digit (get_or s (at + 1) 0)) refl)
    where
      go : (t : Bool) → (is_digit (get_or s at 0) && is_digit (get_or s (at + 1) 0)) ≡ t → choose {A = Option (ℕ × ℕ)} t (λ _. Some ((get_or s at 0 - 48) * 10 + (get_or s (at + 1) 0 - 48), at + 2)) (λ _. None) ≡ None
      go false e = refl
      go true e =
          let (first, second) = both (is_digit (get_or s at 0)) (is_digit (get_or s (at + 1) 0)) e in
          let (a, b) = both (leb 48 (get_or s at 0)) (leb (get_or s at 0) 57) first in
          let (c, d) = both (leb 48 (get_or s (at + 1) 0)) (leb (get_or s (at + 1) 0) 57) second in
          absurd (other (leb-true 48 _ a) (leb-true _ 57 b) (leb-true 48 _ c) (leb-true _ 57 d))

  pub two_short : length s < at + 2 → two_at s at ≡ None
  unfolding two_at
  two_short h = go (drop at s) (omega (arith, length-drop at s))
    where
      go : (r : List ℕ) → length r < 2 → two_of r at ≡ None
      go [] l = refl
      go (a ∷ []) l = refl
      go (a ∷ b ∷ r) l = absurd (omega arith)

-- ---- what stands where a part was read

-- bytes stand at a place, and what follows them begins at the next one
record Here (line : List ℕ) (at : ℕ) (s : List ℕ) (next : ℕ) : Type 0 where
  stands : drop at line ≡ s ++ drop next line
  after : next ≡ at + length s

here_both : {line s t : List ℕ} {at next end : ℕ} → Here line at s next → Here line next t end → Here line at (s ++ t) end
here_both {line} {s} {t} {at} {next} {end} p q =
    record {
      stands = p.stands ∙ ap (λ (r : List ℕ). s ++ r) q.stands ∙ sym (append_assoc s t (drop end line));
      after = omega (arith, length-append s t, p.after, q.after);
    }

here_word : (line : List ℕ) (at : ℕ) (w : List ℕ) (next : ℕ) → word_at line at w ≡ Some next → Here line at w next
here_word line at w next e = let f = found_word line at w next e in record { stands = f.1; after = f.0 }

-- two digits and their number
record HereTwo (line : List ℕ) (at n next : ℕ) : Type 0 where
  small : n < 100
  here : Here line at (last_digits 2 n) next

two_of_lem : (r : List ℕ) (at n next : ℕ) → two_of r at ≡ Some (n, next) → (n < 100) × (r ≡ last_digits 2 n ++ drop 2 r) × (next ≡ at + 2)
two_of_lem [] at n next e = absurd (let k : ◌≡◌ {A = ℕ} 0 1 = cc in omega arith)
two_of_lem (a ∷ []) at n next e = absurd (let k : ◌≡◌ {A = ℕ} 0 1 = cc in omega arith)
two_of_lem (a ∷ b ∷ r) at n next e = go (is_digit a && is_digit b) refl e
  where
    go : (t : Bool) → (is_digit a && is_digit b) ≡ t → choose {A = Option (ℕ × ℕ)} t (λ _. Some ((a - 48) * 10 + (b - 48), at + 2)) (λ _. None) ≡ Some (n, next)
        → (n < 100) × (a ∷ b ∷ r ≡ last_digits 2 n ++ r) × (next ≡ at + 2)
    go false d h = absurd (let k : ◌≡◌ {A = ℕ} 0 1 = cc in omega arith)
    go true d h =
        let (first, second) = both (is_digit a) (is_digit b) d in
        let (p, q) = both (leb 48 a) (leb a 57) first in
        let (u, v) = both (leb 48 b) (leb b 57) second in
        let al = leb-true 48 a p in
        let ah = leb-true a 57 q in
        let bl = leb-true 48 b u in
        let bh = leb-true b 57 v in
        let (number, place) = same_parts h in
        let tens : 48 + n / 10 % 10 ≡ a = omega arith in
        let ones : 48 + n % 10 ≡ b = omega arith in
        (omega arith, rw (last_two n, tens, ones), sym place)

here_two : (line : List ℕ) (at n next : ℕ) → two_at line at ≡ Some (n, next) → HereTwo line at n next
unfolding two_at
here_two line at n next e =
    let (small, whole, place) = two_of_lem (drop at line) at n next e in
    let rest : drop 2 (drop at line) ≡ drop next line = drop-drop 2 at line ∙ ap (λ (i : ℕ). drop i line) (sym place) in
    record {
      small = small;
      here = record { stands = whole ∙ ap (λ (r : List ℕ). last_digits 2 n ++ r) rest; after = place ∙ ap (λ (i : ℕ). at + i) (sym (length_last 2 n)) };
    }

-- a part that was read, and what follows it
record ReadPart {P A : Type 0} (line : List ℕ) (Found : P → ℕ → Type 0) (k : P → ℕ → Option A) (v : A) : Type 0 where
  part : P
  next : ℕ
  found : Found part next
  goes_on : k part next ≡ Some v

part_next : {P A : Type 0} (line : List ℕ) (Found : P → ℕ → Type 0) (r : Option (P × ℕ)) (k : P → ℕ → Option A) (v : A)
    → ((part : P) (next : ℕ) → r ≡ Some (part, next) → Found part next) → after_part r k ≡ Some v → ReadPart line Found k v
part_next line Found (Some (part, next)) k v found h = record { part = part; next = next; found = found part next refl; goes_on = h }
part_next line Found None k v found h = absurd (let z : ◌≡◌ {A = ℕ} 0 1 = cc in omega arith)

record ReadWord {A : Type 0} (line : List ℕ) (at : ℕ) (w : List ℕ) (k : ℕ → Option A) (v : A) : Type 0 where
  next : ℕ
  found : Here line at w next
  goes_on : k next ≡ Some v

word_next : {A : Type 0} (line : List ℕ) (at : ℕ) (w : List ℕ) (k : ℕ → Option A) (v : A) → after_word (word_at line at w) k ≡ Some v → ReadWord line at w k v
word_next line at w k v e = go (word_at line at w) refl e
  where
    go : (t : Option ℕ) → word_at line at w ≡ t → after_word t k ≡ Some v → ReadWord line at w k v
    go (Some next) p h = record { next = next; found = here_word line at w next p; goes_on = h }
    go None p h = absurd (let z : ◌≡◌ {A = ℕ} 0 1 = cc in omega arith)

-- ---- what is read is a spelling

four : (hundreds year : ℕ) → hundreds < 100 → year < 100 → last_digits 4 (hundreds * 100 + year) ≡ last_digits 2 hundreds ++ last_digits 2 year
four c y h l = last_join 2 2 c y l

-- three fields of two digits, the separator between them
abbrev three_text : ℕ → ℕ → ℕ → List ℕ → List ℕ
three_text a b c sep = last_digits 2 a ++ sep ++ last_digits 2 b ++ sep ++ last_digits 2 c

record ThreeHere (line : List ℕ) (at : ℕ) (sep : List ℕ) (p : ℕ × ℕ × ℕ) (next : ℕ) : Type 0 where
  first_fits : p.0 < 100
  second_fits : p.1 < 100
  third_fits : p.2 < 100
  here : Here line at (three_text p.0 p.1 p.2 sep) next

three_made : {line sep : List ℕ} {at next to : ℕ} {p q : ℕ × ℕ × ℕ} → p ≡ q → next ≡ to → ThreeHere line at sep p next → ThreeHere line at sep q to
three_made e f h = rw (← e, ← f) h

three_here : (line : List ℕ) (at : ℕ) (sep : List ℕ) (p : ℕ × ℕ × ℕ) (next : ℕ) → three_at line at sep ≡ Some (p, next) → ThreeHere line at sep p next
unfolding three_at
three_here line at sep p next e =
    let v : (ℕ × ℕ × ℕ) × ℕ = (p, next) in
    let a = part_next line (HereTwo line at) (two_at line at) _ v (here_two line at) e in
    let s = word_next line a.next sep _ v a.goes_on in
    let b = part_next line (HereTwo line s.next) (two_at line s.next) _ v (here_two line s.next) s.goes_on in
    let t = word_next line b.next sep _ v b.goes_on in
    let c = part_next line (HereTwo line t.next) (two_at line t.next) _ v (here_two line t.next) t.goes_on in
    let same : ◌≡◌ {A = (ℕ × ℕ × ℕ) × ℕ} ((a.part, b.part, c.part), c.next) (p, next) = (let k = c.goes_on in cc) in
    let parts : (a.part, b.part, c.part) ≡ p = ap (λ (q : (ℕ × ℕ × ℕ) × ℕ). q.0) same in
    let place : c.next ≡ next = ap (λ (q : (ℕ × ℕ × ℕ) × ℕ). q.1) same in
    three_made parts place
    record {
      first_fits = a.found.small;
      second_fits = b.found.small;
      third_fits = c.found.small;
      here = here_both (here_both (here_both (here_both a.found.here s.found) b.found.here) t.found) c.found.here;
    }

-- two digits and three fields are the year and two fields
year_first : (c y : ℕ) (sep m d mark time : List ℕ) → c < 100 → y < 100
    → last_digits 2 c ++ (last_digits 2 y ++ sep ++ m ++ sep ++ d) ++ mark ++ time ≡ (last_digits 4 (c * 100 + y) ++ sep ++ m ++ sep ++ d) ++ mark ++ time
year_first c y sep m d mark time p q = rw (four c y p q) (simp append_assoc)

date_made : {line : List ℕ} {at next to : ℕ} {d e : Date} → d ≡ e → next ≡ to → Stands (DateSpelling d) line at next → Stands (DateSpelling e) line at to
date_made e f h = rw (← e, ← f) h

-- what was read as a date is a spelling of it
pub read_date : (line : List ℕ) (at : ℕ) (d : Date) (next : ℕ) → date_at line at ≡ Some (d, next) → Stands (DateSpelling d) line at next
unfolding date_at date_text day_text time_text
read_date line at d next e =
    let v : Date × ℕ = (d, next) in
    let c = part_next line (HereTwo line at) (two_at line at) _ v (here_two line at) e in
    let y = part_next line (ThreeHere line c.next (bytes "-")) (three_at line c.next (bytes "-")) _ v (three_here line c.next (bytes "-")) c.goes_on in
    let m = word_next line y.next (bytes "T") _ v y.goes_on in
    let t = part_next line (ThreeHere line m.next (bytes ":")) (three_at line m.next (bytes ":")) _ v (three_here line m.next (bytes ":")) m.goes_on in
    let read : Date = date (c.part * 100 + y.part.0) y.part.1 y.part.2 t.part.0 t.part.1 t.part.2 in
    let same : ◌≡◌ {A = Date × ℕ} (read, t.next) (d, next) = (let k = t.goes_on in cc) in
    let is_date : read ≡ d = ap (λ (q : Date × ℕ). q.0) same in
    let place : t.next ≡ next = ap (λ (q : Date × ℕ). q.1) same in
    let whole = here_both (here_both (here_both c.found.here y.found.here) m.found) t.found.here in
    let spelt : last_digits 2 c.part ++ three_text y.part.0 y.part.1 y.part.2 (bytes "-") ++ bytes "T" ++ three_text t.part.0 t.part.1 t.part.2 (bytes ":") ≡ date_text read =
    year_first c.part y.part.0 (bytes "-") (last_digits 2 y.part.1) (last_digits 2 y.part.2) (bytes "T") (three_text t.part.0 t.part.1 t.part.2 (bytes ":")) c.found.small y.found.first_fits in
    date_made is_date place
    record {
      bytes = date_text read;
      kind =
          record {
            fits =
                record {
                  year = omega (arith, c.found.small, y.found.first_fits);
                  month = y.found.second_fits;
                  day = y.found.third_fits;
                  hour = t.found.first_fits;
                  minute = t.found.second_fits;
                  second = t.found.third_fits;
                };
            spelling = refl;
          };
      here = rw (← spelt) whole.stands;
      after = rw (← spelt) whole.after;
    }

-- ---- a spelling is read

two_read : (line : List ℕ) (at n : ℕ) (rest : List ℕ) → n < 100 → drop at line ≡ last_digits 2 n ++ rest → two_at line at ≡ Some (n, at + 2)
unfolding two_at
two_read line at n rest h e =
    let bytes_are : drop at line ≡ (48 + n / 10 % 10) ∷ (48 + n % 10) ∷ rest = e ∙ ap (λ (s : List ℕ). s ++ rest) (last_two n) in
    let value : (48 + n / 10 % 10 - 48) * 10 + (48 + n % 10 - 48) ≡ n = omega arith in
    rw (
      bytes_are,
      le-leb 48 (48 + n / 10 % 10) (omega arith),
      le-leb (48 + n / 10 % 10) 57 (omega arith),
      le-leb 48 (48 + n % 10) (omega arith),
      le-leb (48 + n % 10) 57 (omega arith),
      value,
    )

two_rest : (line : List ℕ) (at n : ℕ) (rest : List ℕ) → drop at line ≡ last_digits 2 n ++ rest → drop (at + 2) line ≡ rest
two_rest line at n rest e = rw (length_last 2 n) at (rest_is line at (last_digits 2 n) rest e)

-- five lists one after the other, and then a sixth
five : (a b c d e r : List ℕ) → a ++ b ++ c ++ d ++ e ++ r ≡ a ++ (b ++ (c ++ (d ++ (e ++ r))))
five a b c d e r =
    append_assoc (a ++ b ++ c ++ d) e r ∙ append_assoc (a ++ b ++ c) d (e ++ r) ∙ append_assoc (a ++ b) c (d ++ (e ++ r)) ∙ append_assoc a b (c ++ (d ++ (e ++ r)))

module _ (line : List ℕ) where
  three_read : (at : ℕ) (sep : List ℕ) (a b c : ℕ) (rest : List ℕ) → length sep ≡ 1 → a < 100 → b < 100 → c < 100 → drop at line ≡ three_text a b c sep ++ rest
      → (three_at line at sep ≡ Some ((a, b, c), at + 8)) × (drop (at + 8) line ≡ rest)
  unfolding three_at
  three_read at sep a b c rest one p q r e =
      let place : at + 2 + 1 + 2 + 1 + 2 ≡ at + 8 = omega arith in
      let r5 = last_digits 2 c ++ rest in
      let r4 = sep ++ r5 in
      let r3 = last_digits 2 b ++ r4 in
      let r2 = sep ++ r3 in
      let e1 : drop at line ≡ last_digits 2 a ++ r2 = e ∙ five (last_digits 2 a) sep (last_digits 2 b) sep (last_digits 2 c) rest in
      let e2 = two_rest line at a r2 e1 in
      let w2 = rw one at (word_found line (at + 2) sep r3 e2) in
      let e3 = rw one at (rest_is line (at + 2) sep r3 e2) in
      let e4 = two_rest line (at + 2 + 1) b r4 e3 in
      let w4 = rw one at (word_found line (at + 2 + 1 + 2) sep r5 e4) in
      let e5 = rw one at (rest_is line (at + 2 + 1 + 2) sep r5 e4) in
      let e6 = two_rest line (at + 2 + 1 + 2 + 1) c rest e5 in (
        rw (
          two_read line at a r2 p e1,
          w2,
          two_read line (at + 2 + 1) b r4 q e3,
          w4,
          two_read line (at + 2 + 1 + 2 + 1) c rest r e5,
          place,
        ),
        rw place at e6,
      )

  -- a spelling of a date is read as that date
  pub date_read : (at : ℕ) (d : Date) (s rest : List ℕ) → DateSpelling d s → drop at line ≡ s ++ rest → date_at line at ≡ Some (d, at + length s)
  unfolding date_at date_text day_text time_text
  date_read at d s rest k e =
      let f = k.fits in
      let c = d.year / 100 in
      let y = d.year % 100 in
      let whole : c * 100 + y ≡ d.year = omega arith in
      let long : length s ≡ 19 = ap length k.spelling ∙ date_length d in
      let day = three_text y d.month d.day (bytes "-") in
      let time = three_text d.hour d.minute d.second (bytes ":") in
      let spelt : last_digits 2 c ++ day ++ bytes "T" ++ time ≡ date_text d =
      year_first c y (bytes "-") (last_digits 2 d.month) (last_digits 2 d.day) (bytes "T") time (omega (arith, f.year)) (omega arith) ∙ rw whole in
      let e1 : drop at line ≡ last_digits 2 c ++ (day ++ (bytes "T" ++ (time ++ rest))) = e ∙ ap (λ (x : List ℕ). x ++ rest) (k.spelling ∙ sym spelt) ∙ simp append_assoc in
      let e2 = two_rest line at c (day ++ (bytes "T" ++ (time ++ rest))) e1 in
      let (first, e3) = three_read (at + 2) (bytes "-") y d.month d.day (bytes "T" ++ (time ++ rest)) refl (omega arith) f.month f.day e2 in
      let e4 = rest_is line (at + 2 + 8) (bytes "T") (time ++ rest) e3 in
      let (second, e5) = three_read (at + 2 + 8 + 1) (bytes ":") d.hour d.minute d.second rest refl f.hour f.minute f.second e4 in
      let place : at + 2 + 8 + 1 + 8 ≡ at + 19 = omega arith in
      rw (
        two_read line at c (day ++ (bytes "T" ++ (time ++ rest))) (omega (arith, f.year)) e1,
        first,
        word_found line (at + 2 + 8) (bytes "T") (time ++ rest) e3,
        second,
        whole,
        place,
        long,
      )
