-- Groups and their reader, after digits that are read already: groups that stand at a place are read (`groups_read`), and what is read is groups
-- (`groups_back`); a group at a time, for the proof of the loop.
use Rattle.std.proofs.Common.{Option, Some, None, ◌≡◌, ℕ, suc, ◌+◌, ◌-◌, ◌*◌, ◌^◌, ◌<◌, ◌≤◌, Bool, true, false, ◌&&◌, eqb, leb, List, [], ◌∷◌, ◌++◌, length, get_or, drop, sym, refl, ap, ◌∙◌, lt_of_lt_of_le, arith, length-drop, drop-cons, drop-drop, pow-add, ne_eqb, eqb-true, le-leb, leb-true}
use native.Mathlib.Nat.{pow-le-pow_right}
use borrow.Author.Tests.{lt-leb}
use Rattle.bits.specs.Choice.{choose}
use Rattle.bits.proofs.Tests.{both}
use Rattle.numeral.specs.Groups.{underscore, ungrouped}
use Rattle.numeral.specs.Numerals.{AllDigits, none, more, Groups, end, group}
use Rattle.numeral.specs.Progress.{TellsDigit, Counted, group_number}
use Rattle.numeral.specs.Reading.{is_digit, is_group, at_underscore, numeral_ends, value_from, ended_at, groups_from}
use Rattle.numeral.proofs.GroupLaws.{ungrouped_group}
use Rattle.numeral.proofs.Reading.{false_and, same_parts, is_digit_lem, digit_bounds, ends_no_underscore}

-- where no group stands, the numeral ends or is none
no_group : (v k at : ℕ) (s : List ℕ) → at_underscore s ≡ false → groups_from v k at s ≡ ended_at v at s
unfolding groups_from
no_group v k at [] m = refl
no_group v k at (u ∷ []) m = refl
no_group v k at (u ∷ a ∷ []) m = refl
no_group v k at (u ∷ a ∷ b ∷ []) m = refl
no_group v k at (u ∷ a ∷ b ∷ c ∷ s) m = rw (m, false_and (leb k 16))

is_group_lem : {a b c : ℕ} → AllDigits (a ∷ b ∷ c ∷ []) → is_group underscore a b c ≡ true
is_group_lem {a} {b} {c} (more p q (more u v (more x y none))) = rw (is_digit_lem a p q, is_digit_lem b u v, is_digit_lem c x y)

-- where one stands, it is read, and then what follows it
pub group_next : (v k at u a b c : ℕ) (s : List ℕ) → k ≤ 16 → is_group u a b c ≡ true
    → groups_from v k at (u ∷ a ∷ b ∷ c ∷ s) ≡ groups_from (value_from v (a ∷ b ∷ c ∷ [])) (k + 3) (at + 4) s
unfolding groups_from
group_next v k at u a b c s room is = rw (le-leb k 16 room, is)

answer : {m n i j : ℕ} → m ≡ n → i ≡ j → ◌≡◌ {A = Option (ℕ × ℕ)} (Some (m, i)) (Some (n, j))
answer p q = rw (p, q)

-- groups that stand at a place, and do not go on, are read
pub groups_read : {g : List ℕ} → Groups g → (v k at : ℕ) (rest : List ℕ) → numeral_ends rest ≡ true → k + length (ungrouped g) ≤ 19
    → groups_from v k at (g ++ rest) ≡ Some (value_from v (ungrouped g), at + length g)
unfolding ended_at ungrouped value_from
groups_read end v k at rest e h =
    let place : at + 0 ≡ at = omega arith in
    no_group v k at rest (ends_no_underscore rest e) ∙ rw (e, place)
groups_read (group {a} {b} {c} {s} d g) v k at rest e h =
    let digits = ungrouped_group s d in
    let long = ap length digits in
    group_next v k at underscore a b c (s ++ rest) (omega (arith, long)) (is_group_lem d)
    ∙ groups_read g (value_from v (a ∷ b ∷ c ∷ [])) (k + 3) (at + 4) rest e (omega (arith, long))
    ∙ answer (sym (ap (value_from v) digits)) (omega arith)

-- what is read of groups
pub record GroupsRead (value count at : ℕ) (s : List ℕ) (n next : ℕ) : Type 0 where
  pub bytes : List ℕ
  pub rest : List ℕ
  pub groups : Groups bytes
  pub whole : s ≡ bytes ++ rest
  pub number : n ≡ value_from value (ungrouped bytes)
  pub place : next ≡ at + length bytes
  pub most : count + length (ungrouped bytes) ≤ 19
  pub ends : numeral_ends rest ≡ true

ended_back : (v k at : ℕ) (s : List ℕ) (n next : ℕ) → k ≤ 19 → ended_at v at s ≡ Some (n, next) → GroupsRead v k at s n next
unfolding ended_at ungrouped value_from
ended_back v k at s n next h e = go (numeral_ends s) refl e
  where
    go : (t : Bool) → numeral_ends s ≡ t → choose {A = Option (ℕ × ℕ)} t (λ _. Some (v, at)) (λ _. None) ≡ Some (n, next) → GroupsRead v k at s n next
    go false p q = absurd (let z : ◌≡◌ {A = ℕ} 0 1 = cc in omega arith)
    go true p q =
        let (value, place) = same_parts q in
        record {
          bytes = [];
          rest = s;
          groups = end;
          whole = refl;
          number = sym value;
          place = omega (arith, place);
          most = omega arith;
          ends = p;
        }

group_digits : (u a b c : ℕ) → is_group u a b c ≡ true → (u ≡ underscore) × AllDigits (a ∷ b ∷ c ∷ [])
group_digits u a b c e =
    let (mark, three) = both (eqb u underscore) (is_digit a && (is_digit b && is_digit c)) e in
    let (first, two) = both (is_digit a) (is_digit b && is_digit c) three in
    let (second, third) = both (is_digit b) (is_digit c) two in
    let x = digit_bounds a first in
    let y = digit_bounds b second in
    let z = digit_bounds c third in
    (eqb-true u underscore mark, more x.0 x.1 (more y.0 y.1 (more z.0 z.1 none)))

group_back : (v k at u a b c : ℕ) (s : List ℕ) (n next : ℕ) → is_group u a b c ≡ true → GroupsRead (value_from v (a ∷ b ∷ c ∷ [])) (k + 3) (at + 4) s n next
    → GroupsRead v k at (u ∷ a ∷ b ∷ c ∷ s) n next
unfolding value_from
group_back v k at u a b c s n next e r =
    let (mark, three) = group_digits u a b c e in
    let digits : ungrouped (underscore ∷ a ∷ b ∷ c ∷ r.bytes) ≡ a ∷ b ∷ c ∷ ungrouped r.bytes = ungrouped_group r.bytes three in
    let all : u ∷ a ∷ b ∷ c ∷ s ≡ underscore ∷ a ∷ b ∷ c ∷ (r.bytes ++ r.rest) = rw mark (ap (λ (x : List ℕ). underscore ∷ a ∷ b ∷ c ∷ x) r.whole) in
    let long = ap length digits in
    record {
      bytes = underscore ∷ a ∷ b ∷ c ∷ r.bytes;
      rest = r.rest;
      groups = group three r.groups;
      whole = all;
      number = r.number ∙ rw digits;
      place = r.place ∙ omega arith;
      most = omega (arith, long, r.most);
      ends = r.ends;
    }

pub groups_back : (v k at : ℕ) (s : List ℕ) (n next : ℕ) → k ≤ 19 → groups_from v k at s ≡ Some (n, next) → GroupsRead v k at s n next
unfolding groups_from
groups_back v k at [] n next h e = ended_back v k at [] n next h e
groups_back v k at (u ∷ []) n next h e = ended_back v k at (u ∷ []) n next h e
groups_back v k at (u ∷ a ∷ []) n next h e = ended_back v k at (u ∷ a ∷ []) n next h e
groups_back v k at (u ∷ a ∷ b ∷ []) n next h e = ended_back v k at (u ∷ a ∷ b ∷ []) n next h e
groups_back v k at (u ∷ a ∷ b ∷ c ∷ s) n next h e =
    go (leb k 16 && is_group u a b c) refl e (λ room q. groups_back (value_from v (a ∷ b ∷ c ∷ [])) (k + 3) (at + 4) s n next (omega (arith, room)) q)
  where
    go : (t : Bool) → (leb k 16 && is_group u a b c) ≡ t
        → choose t (λ _. groups_from (value_from v (a ∷ b ∷ c ∷ [])) (k + 3) (at + 4) s) (λ _. ended_at v at (u ∷ a ∷ b ∷ c ∷ s)) ≡ Some (n, next)
        → (k ≤ 16 → groups_from (value_from v (a ∷ b ∷ c ∷ [])) (k + 3) (at + 4) s ≡ Some (n, next)
        → GroupsRead (value_from v (a ∷ b ∷ c ∷ [])) (k + 3) (at + 4) s n next)
        → GroupsRead v k at (u ∷ a ∷ b ∷ c ∷ s) n next
    go false p q r = ended_back v k at (u ∷ a ∷ b ∷ c ∷ s) n next h q
    go true p q r =
        let (room, is) = both (leb k 16) (is_group u a b c) p in
        group_back v k at u a b c s n next is (r (leb-true k 16 room) q)

-- ---- the group at a place, by its bytes

-- the number of three digits, read after a number
three_value : (v a b c : ℕ) → value_from v (a ∷ b ∷ c ∷ []) ≡ v * 1000 + value_from 0 (a ∷ b ∷ c ∷ [])
unfolding value_from
three_value v a b c = omega arith

pub group_short : (line : List ℕ) (at : ℕ) → length line - at < 4 → group_number (drop at line) ≡ None
unfolding group_number
group_short line at h = go (drop at line) (omega (arith, length-drop at line))
  where
    go : (s : List ℕ) → length s < 4 → group_number s ≡ None
    go [] k = refl
    go (u ∷ []) k = refl
    go (u ∷ a ∷ []) k = refl
    go (u ∷ a ∷ b ∷ []) k = refl
    go (u ∷ a ∷ b ∷ c ∷ s) k = absurd (omega arith)

module _ (line : List ℕ) (at : ℕ) (inside : at + 4 ≤ length line) where
  byte : (i j : ℕ) → i + 1 ≡ j → at + i < length line → drop (at + i) line ≡ get_or line (at + i) 0 ∷ drop (at + j) line
  byte i j e h =
      let on : suc (at + i) ≡ at + j = omega arith in
      rw (← on) (drop-cons line (at + i) 0 h)

  first_byte : drop at line ≡ get_or line at 0 ∷ drop (at + 1) line
  first_byte =
      let on : suc at ≡ at + 1 = omega arith in
      rw (← on) (drop-cons line at 0 (omega arith))

  four_bytes : drop at line ≡ get_or line at 0 ∷ get_or line (at + 1) 0 ∷ get_or line (at + 2) 0 ∷ get_or line (at + 3) 0 ∷ drop (at + 4) line
  four_bytes = rw (first_byte, byte 1 2 refl (omega arith), byte 2 3 refl (omega arith), byte 3 4 refl (omega arith))

  pub group_no_underscore : (get_or line at 0 ≡ 95 → ⊥) → group_number (drop at line) ≡ None
  unfolding group_number
  group_no_underscore h = rw (four_bytes, ne_eqb (get_or line at 0) 95 h)

  module _ (mark : get_or line at 0 ≡ 95) {a b c : ℕ} (first : TellsDigit (get_or line (at + 1) 0) a) (second : TellsDigit (get_or line (at + 2) 0) b) (third : TellsDigit (get_or line (at + 3) 0) c) where
    pub group_first : 9 < a → group_number (drop at line) ≡ None
    unfolding group_number
    group_first h = rw (four_bytes, mark, first.other h)

    told : {d : ℕ} (i : ℕ) → TellsDigit (get_or line (at + i) 0) d → d ≤ 9 → is_digit (get_or line (at + i) 0) ≡ true
    told {d} i t h = rw (t.digit h) (is_digit_lem (48 + d) (omega arith) (omega arith))

    pub group_second : a ≤ 9 → 9 < b → group_number (drop at line) ≡ None
    unfolding group_number
    group_second p h = rw (four_bytes, mark, told 1 first p, second.other h)

    pub group_third : a ≤ 9 → b ≤ 9 → 9 < c → group_number (drop at line) ≡ None
    unfolding group_number
    group_third p q h = rw (four_bytes, mark, told 1 first p, told 2 second q, third.other h)

    pub group_here : a ≤ 9 → b ≤ 9 → c ≤ 9 → group_number (drop at line) ≡ Some (a * 100 + b * 10 + c)
    unfolding group_number value_from
    group_here p q r =
        rw (four_bytes, mark, told 1 first p, told 2 second q, told 3 third r, first.digit p, second.digit q, third.digit r) (ap Some (omega arith))

-- ---- groups, one at a time

small_group : (a b c : ℕ) → AllDigits (a ∷ b ∷ c ∷ []) → value_from 0 (a ∷ b ∷ c ∷ []) ≤ 999
unfolding value_from
small_group a b c (more p q (more u v (more x y none))) = omega arith

-- a group that stands there has four bytes and a number below 1000, and is read
group_stands : (v k at : ℕ) (s : List ℕ) (g : ℕ) → k ≤ 16 → group_number s ≡ Some g
    → (4 ≤ length s) × (g ≤ 999) × (groups_from v k at s ≡ groups_from (v * 1000 + g) (k + 3) (at + 4) (drop 4 s))
unfolding group_number
group_stands v k at [] g room h = absurd (let z : ◌≡◌ {A = ℕ} 0 1 = cc in omega arith)
group_stands v k at (u ∷ []) g room h = absurd (let z : ◌≡◌ {A = ℕ} 0 1 = cc in omega arith)
group_stands v k at (u ∷ a ∷ []) g room h = absurd (let z : ◌≡◌ {A = ℕ} 0 1 = cc in omega arith)
group_stands v k at (u ∷ a ∷ b ∷ []) g room h = absurd (let z : ◌≡◌ {A = ℕ} 0 1 = cc in omega arith)
group_stands v k at (u ∷ a ∷ b ∷ c ∷ s) g room h = go (is_group u a b c) refl h
  where
    go : (t : Bool) → is_group u a b c ≡ t → choose t (λ _. Some (value_from 0 (a ∷ b ∷ c ∷ []))) (λ _. None) ≡ Some g
        → (4 ≤ length (u ∷ a ∷ b ∷ c ∷ s)) × (g ≤ 999) × (groups_from v k at (u ∷ a ∷ b ∷ c ∷ s) ≡ groups_from (v * 1000 + g) (k + 3) (at + 4) s)
    go true e l =
        let number : value_from 0 (a ∷ b ∷ c ∷ []) ≡ g = cc in (
          omega arith,
          rw (← number) (small_group a b c (group_digits u a b c e).1),
          group_next v k at u a b c s room e ∙ ap (λ (n : ℕ). groups_from n (k + 3) (at + 4) s) (three_value v a b c ∙ ap (λ (n : ℕ). v * 1000 + n) number),
        )
    go false e l = absurd (let z : ◌≡◌ {A = ℕ} 0 1 = cc in omega arith)

-- no room for one, or none there
pub groups_full : (v k at : ℕ) (s : List ℕ) → 16 < k → groups_from v k at s ≡ ended_at v at s
unfolding groups_from
groups_full v k at [] h = refl
groups_full v k at (u ∷ []) h = refl
groups_full v k at (u ∷ a ∷ []) h = refl
groups_full v k at (u ∷ a ∷ b ∷ []) h = refl
groups_full v k at (u ∷ a ∷ b ∷ c ∷ s) h = rw (lt-leb k 16 h)

pub groups_over : (v k at : ℕ) (s : List ℕ) → group_number s ≡ None → groups_from v k at s ≡ ended_at v at s
unfolding groups_from group_number
groups_over v k at [] h = refl
groups_over v k at (u ∷ []) h = refl
groups_over v k at (u ∷ a ∷ []) h = refl
groups_over v k at (u ∷ a ∷ b ∷ []) h = refl
groups_over v k at (u ∷ a ∷ b ∷ c ∷ s) h = go (is_group u a b c) h
  where
    go : (t : Bool) → choose t (λ _. Some (value_from 0 (a ∷ b ∷ c ∷ []))) (λ _. None) ≡ None
        → choose (leb k 16 && t) (λ _. groups_from (value_from v (a ∷ b ∷ c ∷ [])) (k + 3) (at + 4) s) (λ _. ended_at v at (u ∷ a ∷ b ∷ c ∷ s))
        ≡ ended_at v at (u ∷ a ∷ b ∷ c ∷ s)
    go true l = absurd (let z : ◌≡◌ {A = ℕ} 0 1 = cc in omega arith)
    go false l = rw (false_and (leb k 16))

-- the answer where no group is read any more
pub ended_here : (v at : ℕ) (s : List ℕ) → numeral_ends s ≡ true → ended_at v at s ≡ Some (v, at)
unfolding ended_at
ended_here v at s e = rw e

pub ended_on : (v at : ℕ) (s : List ℕ) → numeral_ends s ≡ false → ended_at v at s ≡ None
unfolding ended_at
ended_on v at s e = rw e

-- up to sixteen digits leave room for a group
pub counted_room : {line : List ℕ} {v k at : ℕ} → Counted line v k at → k ≤ 16 → v < 10 ^ 16
counted_room {k = k} read h = lt_of_lt_of_le read.small (pow-le-pow_right {n = 10} (omega arith) {i = k} {j = 16} h)

-- a turn of the loop
module _ {line : List ℕ} {v k at g : ℕ} (read : Counted line v k at) (room : k ≤ 16) (is : group_number (drop at line) ≡ Some g) where
  stands : (4 ≤ length (drop at line)) × (g ≤ 999) × (groups_from v k at (drop at line) ≡ groups_from (v * 1000 + g) (k + 3) (at + 4) (drop 4 (drop at line)))
  stands = group_stands v k at (drop at line) g room is

  pub turn_inside : at + 4 ≤ length line
  turn_inside = omega (arith, stands.0, length-drop at line)

  pub turn_small : g ≤ 999
  turn_small = stands.1

  pub turn_counted : Counted line (v * 1000 + g) (k + 3) (at + 4)
  turn_counted = record { small = rw (pow-add 10 k 3) (omega (arith, read.small, stands.1)); most = omega arith; inside = turn_inside }

  pub turn_answer : groups_from v k at (drop at line) ≡ groups_from (v * 1000 + g) (k + 3) (at + 4) (drop (at + 4) line)
  turn_answer = stands.2 ∙ rw (drop-drop 4 at line)
