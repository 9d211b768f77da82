-- Bytes put where there is room for them, one after the other.
use mathlib.Core.Path.{◌≡◌, ap, ◌∙◌}
use mathlib.Core.List.{List, [], ◌∷◌, ◌++◌, append_assoc}
use Prim.Native.Nat.{ℕ, ◌+◌, ◌≤◌}
use native.Mathlib.Omega.{arith}
use lib.ListN.{length, length-append}
use Rattle.text.specs.Output.{Put}
use Rattle.text.proofs.OutputLaws.{put_room, put_length, put_both}
use Rattle.digits.specs.Width.{last_digits}
use Rattle.digits.proofs.WidthLaws.{length_last}
use Rattle.calendar.specs.declared.Date.{Date}
use Rattle.dates.specs.DateText.{fields_text, day_text, time_text, date_text}

-- k bytes were put, and the place after them is k further on
pub record Placed (b : List ℕ) (at : ℕ) (s a : List ℕ) (m k : ℕ) : Type 0 where
  pub put : Put b at s a m
  pub place : m ≡ at + k
  pub same : length a ≡ length b
  pub size : length s ≡ k

pub placed : {b s a : List ℕ} {at m : ℕ} (k : ℕ) → length s ≡ k → at + k ≤ length b → Put b at s a m → Placed b at s a m k
placed {b} {s} {a} {at} {m} k long h p =
    record { put = p; place = (put_room {at = at} (omega (arith, long)) p).1 ∙ ap (λ (i : ℕ). at + i) long; same = put_length p; size = long }

-- digits at full width
pub placed_digits : {b a : List ℕ} {at m : ℕ} (k n : ℕ) → at + k ≤ length b → Put b at (last_digits k n) a m → Placed b at (last_digits k n) a m k
placed_digits k n h p = placed k (length_last k n) h p

pub placed_both : {b s a t c : List ℕ} {at m e j k : ℕ} → Placed b at s a m j → Placed a m t c e k → at + (j + k) ≤ length b → Placed b at (s ++ t) c e (j + k)
placed_both {b} {s} {a} {t} {c} {at} {m} {e} {j} {k} p q h =
    record {
      put = put_both p.put q.put (omega (arith, p.size, q.size));
      place = omega (arith, p.place, q.place);
      same = q.same ∙ p.same;
      size = omega (arith, length-append s t, p.size, q.size);
    }

-- how many bytes the parts of a date have, and the date
pub fields_length : (separator second third : ℕ) → length (fields_text separator second third) ≡ 6
unfolding fields_text
fields_length s m d =
    let mark : List ℕ = s ∷ [] in
    omega (
      arith,
      length-append (mark ++ last_digits 2 m ++ mark) (last_digits 2 d),
      length-append (mark ++ last_digits 2 m) mark,
      length-append mark (last_digits 2 m),
      length_last 2 m,
      length_last 2 d,
    )

-- a day and a time by their first fields and the others
pub day_fields : (year month day : ℕ) → day_text year month day ≡ last_digits 4 year ++ fields_text 45 month day
unfolding day_text fields_text
day_fields y m d = simp append_assoc

pub time_fields : (hour minute second : ℕ) → time_text hour minute second ≡ last_digits 2 hour ++ fields_text 58 minute second
unfolding time_text fields_text
time_fields h m s = simp append_assoc

pub day_length : (year month day : ℕ) → length (day_text year month day) ≡ 10
day_length y m d = rw (day_fields y m d, length-append, length_last 4 y, fields_length 45 m d)

pub time_length : (hour minute second : ℕ) → length (time_text hour minute second) ≡ 8
time_length h m s = rw (time_fields h m s, length-append, length_last 2 h, fields_length 58 m s)

pub date_length : (d : Date) → length (date_text d) ≡ 19
unfolding date_text
date_length d =
    let day = day_text d.year d.month d.day in
    let time = time_text d.hour d.minute d.second in
    let mark : List ℕ = 84 ∷ [] in
    omega (
      arith,
      length-append (day ++ mark) time,
      length-append day mark,
      day_length d.year d.month d.day,
      time_length d.hour d.minute d.second,
    )
