-- Laws of `PutFront`: what is left where there is room and where there is none; bytes put behind those at the front; and a part lent from a place of the
-- output on. By the one test of the definition.
use mathlib.Core.Path.{◌≡◌, refl, sym, ap, ◌∙◌}
use mathlib.Core.Bool.{Bool, true, false}
use mathlib.Core.List.{List, [], ◌∷◌, ◌++◌, append_assoc, append-nil}
use Prim.Native.Nat.{ℕ, suc, ◌+◌, ◌-◌, ◌/◌, ◌%◌, ◌^◌, ◌≤◌, ◌<◌}
use native.Mathlib.Omega.{arith}
use borrow.Author.Tests.{le-leb, lt-leb, leb-true, leb-false}
use lib.Dec.{leb}
use borrow.Rule.Slice.PartMut.{put_mid}
use lib.IntN.{ℤ, pos, nat_abs}
use lib.Signed.{lt_z}
use mir.Syntax.{w64}
use mir.Val.{SFits, of_z, to_z}
use mir.Facts.{to_z-of_z}
use lib.ListN.{length, take, drop, set, length-append, length-drop, take-append-drop}
use lib.Seq.{drop-drop, take_all, drop-length, set_split}
use Rattle.std.specs.Prelude.{Option, Some, None, unwrap_or}
use Rattle.text.specs.Output.{Put}
use Rattle.text.proofs.OutputLaws.{room_put, put_room, none_put, put_both}
use Rattle.numeral.specs.Digits.{digits, signed_digits}
use Rattle.digits.specs.Width.{last_digits}
use Rattle.digits.specs.Front.{FrontResult, front_result, front, PutFront}
use Rattle.numeral.proofs.Digits.{digits_one}
use Rattle.numeral.proofs.Sign.{below_zero, from_zero}
use Rattle.digits.proofs.WidthLaws.{length_last, digits_parts}

-- how it is shown, and what is known of it: with room, and without
pub room_front : {b s a : List ℕ} {more : ℕ} {n : Option ℕ} → length s + more ≤ length b → a ≡ s ++ drop (length s) b → n ≡ Some (length s) → PutFront b s more a n
unfolding front
room_front {b} {s} {a} {more} {n} h e f = record { result = rw (le-leb (length s + more) (length b) h, e, f) }

front_room : {b s a : List ℕ} {more : ℕ} {n : Option ℕ} → length s + more ≤ length b → PutFront b s more a n → (a ≡ s ++ drop (length s) b) × (n ≡ Some (length s))
unfolding front
front_room {b} {s} {a} {more} {n} h w =
    let f : front_result a n ≡ front_result (s ++ drop (length s) b) (Some (length s)) = rw (le-leb (length s + more) (length b) h) at w.result in
    (ap (λ (x : FrontResult). x.part) f, ap (λ (x : FrontResult). x.length) f)

pub none_front : {b s : List ℕ} {more : ℕ} → length b < length s + more → PutFront b s more b None
unfolding front
none_front {b} {s} {more} h = record { result = rw (lt-leb (length s + more) (length b) h) }

front_none : {b s a : List ℕ} {more : ℕ} {n : Option ℕ} → length b < length s + more → PutFront b s more a n → (a ≡ b) × (n ≡ None)
unfolding front
front_none {b} {s} {a} {more} {n} h w =
    let f : front_result a n ≡ front_result b None = rw (lt-leb (length s + more) (length b) h) at w.result in
    (ap (λ (x : FrontResult). x.part) f, ap (λ (x : FrontResult). x.length) f)

-- there is room, or there is none
by_room : {P : Type 0} (m n : ℕ) → (m ≤ n → P) → (n < m → P) → P
by_room {P} m n f g = go (leb m n) refl
  where
    go : (t : Bool) → leb m n ≡ t → P
    go true t = f (leb-true m n t)
    go false t = g (leb-false m n t)

-- the part keeps its length
front_long : {b s a : List ℕ} {more : ℕ} {n : Option ℕ} → PutFront b s more a n → length a ≡ length b
front_long {b} {s} {a} {more} w =
    by_room
    (length s + more)
    (length b)
    (λ h. rw (front_room h w).0 (length-append s (drop (length s) b) ∙ rw (length-drop (length s) b) (omega (arith, h))))
    (λ h. ap length (front_none h w).0)

-- whether there is a length tells which it was
module _ {b s a : List ℕ} {more : ℕ} where
  some_room : {n : ℕ} → PutFront b s more a (Some n) → (length s + more ≤ length b) × (n ≡ length s)
  some_room {n} w =
      by_room
      (length s + more)
      (length b)
      (λ h. let e = (front_room h w).1 in (h, cc))
      (λ h. let e = (front_none h w).1 in absurd (cc))

  none_room : PutFront b s more a None → (length b < length s + more) × (a ≡ b)
  none_room w =
      by_room
      (length s + more)
      (length b)
      (λ h. let e = (front_room h w).1 in absurd (cc))
      (λ h. (h, (front_none h w).0))

-- a digit stored, or bytes put, at the front
pub first_front : (b : List ℕ) (more n : ℕ) → 1 + more ≤ length b → n < 10 → PutFront b (digits n) more (set b 0 (48 + n)) (Some 1)
first_front b more n h l =
    rw
    (digits_one n l)
    (room_front (omega arith) (set_split b 0 (48 + n) (omega arith)) refl)

pub put_front : {b s a : List ℕ} {more n : ℕ} → length s + more ≤ length b → Put b 0 s a n → PutFront b s more a (Some n)
put_front {b} {s} {a} {more} {n} h put =
    let (e, f) = put_room {at = 0} (omega arith) put in
    let z : 0 + length s ≡ length s = omega arith in
    room_front h (e ∙ rw z) (ap Some (f ∙ z))

-- the other way: it is a write at the place 0
front_put : {b s a : List ℕ} {more n : ℕ} → PutFront b s more a (Some n) → Put b 0 s a n
front_put {b} {s} {a} {more} {n} w =
    let (h, f) = some_room w in
    let (e, g) = front_room h w in
    let z : 0 + length s ≡ length s = omega arith in
    room_put (omega (arith, h)) (e ∙ rw z) (f ∙ sym z)

-- with no more room asked for, it is a write always: of length 0 if it gives none
pub front_is_put : {b s a : List ℕ} (n : Option ℕ) → PutFront b s 0 a n → Put b 0 s a (unwrap_or n 0)
front_is_put (Some n) w = front_put w
front_is_put {b} {s} None w =
    let (h, e) = none_room w in
    rw e (none_put (omega (arith, h)))

-- bytes t behind those at the front, for which room was asked: put, or none of both
module _ {b s a : List ℕ} {more : ℕ} where
  pub front_more : {t c : List ℕ} {n m : ℕ} → PutFront b s (length t + more) a (Some n) → Put a n t c m → PutFront b (s ++ t) more c (Some m)
  front_more {t} w put =
      let (h, f) = some_room w in
      put_front (omega (arith, length-append s t)) (put_both (front_put w) put (omega (arith, h)))

  pub front_stop : (t : List ℕ) → PutFront b s (length t + more) a None → PutFront b (s ++ t) more a None
  front_stop t w =
      let (h, e) = none_room w in
      rw e (none_front (omega (arith, length-append s t)))

-- the digits of n that stand before its last k are at the front, and room for these was asked
module _ (k more n : ℕ) (h : 1 ≤ n / 10 ^ k) {b a : List ℕ} {o : Option ℕ} (w : PutFront b (digits (n / 10 ^ k)) (k + more) a o) where
  wide : PutFront b (digits (n / 10 ^ k)) (length (last_digits k (n % 10 ^ k)) + more) a o
  wide = rw (length_last k (n % 10 ^ k)) w

  pub parts_room : {r : ℕ} → o ≡ Some r → r + k + more ≤ length a
  parts_room some =
      let (room, e) = some_room (rw some at w) in
      omega (arith, front_long w)

  pub parts_more : {c : List ℕ} {r m : ℕ} → o ≡ Some r → Put a r (last_digits k (n % 10 ^ k)) c m → PutFront b (digits n) more c (Some m)
  parts_more some put =
      let front = rw some at wide in
      rw (digits_parts k n h) (front_more {s = digits (n / 10 ^ k)} front put)

  pub parts_stop : {q : Option ℕ} → o ≡ None → q ≡ None → PutFront b (digits n) more a q
  parts_stop none same =
      let front = rw none at wide in
      rw (same, digits_parts k n h) (front_stop (last_digits k (n % 10 ^ k)) front)

-- the part from a place to the end of the output was lent: what is put into the output
module _ (out : List ℕ) (at : ℕ) (h : at ≤ length out) {s p : List ℕ} {r : Option ℕ} (w : PutFront (take (length out - at) (drop at out)) s 0 p r) where
  part_is : take (length out - at) (drop at out) ≡ drop at out
  part_is = take_all (length out - at) (drop at out) (rw (length-drop at out) (omega arith))

  back_is : put_mid at (length out - at) out p ≡ take at out ++ p
  back_is =
      let end : at + (length out - at) ≡ length out = omega arith in
      let none : drop (length out - at) (drop at out) ≡ [] = drop-drop (length out - at) at out ∙ rw end (drop-length out) in
      rw (none, append-nil p)

  lent : PutFront (drop at out) s 0 p r
  lent = rw part_is at w

  pub lent_room : {n : ℕ} → r ≡ Some n → (at + length s ≤ length out) × (n ≡ length s)
  lent_room some =
      let (room, e) = some_room (rw some at lent) in
      (omega (arith, length-drop at out), e)

  pub lent_none : r ≡ None → (length out < at + length s) × (put_mid at (length out - at) out p ≡ out)
  lent_none none =
      let (room, e) = none_room (rw none at lent) in
      (omega (arith, length-drop at out), back_is ∙ rw e (take-append-drop at out))

  pub lent_put : Put out at s (put_mid at (length out - at) out p) (at + unwrap_or r 0)
  lent_put = go r refl
    where
      go : (q : Option ℕ) → r ≡ q → Put out at s (put_mid at (length out - at) out p) (at + unwrap_or q 0)
      go (Some n) some =
          let (room, l) = lent_room some in
          let (e, f) = front_room (omega (arith, length-drop at out)) lent in
          room_put room (back_is ∙ rw (e, drop-drop (length s) at out) (sym (append_assoc (take at out) s (drop (at + length s) out)))) (omega arith)
      go None none =
          let (room, same) = lent_none none in
          let stay : at + 0 ≡ at = omega arith in
          rw (same, stay) (none_put room)

  pub lent_most : at + unwrap_or r 0 ≤ length out
  lent_most = go r refl
    where
      go : (q : Option ℕ) → r ≡ q → at + unwrap_or q 0 ≤ length out
      go (Some n) some = omega (arith, lent_room some)
      go None none = omega arith

-- the spelling of a signed number, by the machine's test of its sign and its magnitude
module _ (z : ℤ) (f : SFits w64 z) (n : ℕ) (size : n ≡ nat_abs (to_z w64 (of_z w64 z))) where
  abs_is : nat_abs z ≡ n
  abs_is = sym (size ∙ ap nat_abs (to_z-of_z f))

  pub signed_below : lt_z (to_z w64 (of_z w64 z)) (pos 0) ≡ true → signed_digits z ≡ 45 ∷ digits n
  unfolding signed_digits
  signed_below t =
      let (m, e, h) = below_zero z f t in
      rw (← abs_is, e)

  pub signed_from : lt_z (to_z w64 (of_z w64 z)) (pos 0) ≡ false → signed_digits z ≡ digits n
  unfolding signed_digits
  signed_from t =
      let (m, e, h) = from_zero z f t in
      rw (← abs_is, e)

-- a '-' stored before digits that were put behind it
sign_stored : (b d : List ℕ) → 1 ≤ length b → set (take 1 b ++ d ++ drop (1 + length d) b) 0 45 ≡ (45 ∷ d) ++ drop (length (45 ∷ d)) b
sign_stored [] d h = absurd (omega arith)
sign_stored (x ∷ l) d h =
    let e : 1 + length d ≡ suc (length d) = omega arith in
    rw e

-- the digits were put behind the place of the '-', if they fit there
module _ {b d p : List ℕ} {o : Option ℕ} (h : 1 ≤ length b) (w : PutFront (take (length b - 1) (drop 1 b)) d 0 p o) where
  pub sign_front : {r : ℕ} → o ≡ Some r → PutFront b (45 ∷ d) 0 (set (put_mid 1 (length b - 1) b p) 0 45) (Some (1 + r))
  sign_front {r} some =
      let (room, l) = lent_room b 1 h w some in
      let put : Put b 1 d (put_mid 1 (length b - 1) b p) (1 + r) = rw some at (lent_put b 1 h w) in
      let (e, f) = put_room {at = 1} room put in
      room_front (omega arith) (rw e (sign_stored b d h)) (ap Some (omega arith))

  pub sign_none : {q : Option ℕ} → o ≡ None → q ≡ None → PutFront b (45 ∷ d) 0 (put_mid 1 (length b - 1) b p) q
  sign_none none stop =
      let (room, same) = lent_none b 1 h w none in
      rw (stop, same) (none_front (omega arith))
