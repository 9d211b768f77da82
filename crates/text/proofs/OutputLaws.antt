-- Laws of `Put`: what a write leaves where there is room and where there is none, and that two writes one after the other are one. By the one test of the definitions.
use mathlib.Core.Path.{◌≡◌, refl, sym, ap, ◌∙◌}
use mathlib.Core.Bool.{Bool, true, false}
use mathlib.Core.List.{List, ◌++◌, append_assoc}
use Prim.Native.Nat.{ℕ, ◌+◌, ◌-◌, ◌≤◌, ◌<◌}
use native.Mathlib.Omega.{arith}
use borrow.Rule.Slice.PartMut.{put_mid, Post-is}
use borrow.Author.Tests.{le-leb, lt-leb, leb-true, leb-false}
use lib.Dec.{leb}
use lib.ListN.{length, take, drop, length-append, length-take, length-drop}
use lib.Seq.{take_at, drop_at, drop-drop}
use Rattle.text.specs.Output.{output_with, place_after, Put}

-- the output after a write for which there is room
abbrev pub written : List ℕ → ℕ → List ℕ → List ℕ
written b at s = take at b ++ s ++ drop (at + length s) b

-- how a write is shown, and what is known of one: with room for the bytes, and without
pub room_put : {b s a : List ℕ} {at n : ℕ} → at + length s ≤ length b → a ≡ written b at s → n ≡ at + length s → Put b at s a n
unfolding output_with place_after
room_put {b} {s} {a} {at} {n} h e p = record { output = rw (le-leb (at + length s) (length b) h) e; place = rw (le-leb (at + length s) (length b) h) p }

-- the bytes p in place of those from `at` up to `end`, where these are as many as s
pub part_put : {b s p : List ℕ} {at end : ℕ} → end ≡ at + length s → end ≤ length b → p ≡ s → Put b at s (put_mid at (end - at) b p) end
part_put {b} {s} {p} {at} {end} e h q =
    let rest = Post-is at end b (omega arith) ∙ ap (λ (i : ℕ). drop i b) e in
    room_put (omega arith) (rw (q, rest) (sym (append_assoc (take at b) s (drop (at + length s) b)))) e

pub put_room : {b s a : List ℕ} {at n : ℕ} → at + length s ≤ length b → Put b at s a n → (a ≡ take at b ++ s ++ drop (at + length s) b) × (n ≡ at + length s)
unfolding output_with place_after
put_room {b} {s} {a} {at} {n} h p =
    let e = le-leb (at + length s) (length b) h in
    (rw e at p.output, rw e at p.place)

pub none_put : {b s : List ℕ} {at : ℕ} → length b < at + length s → Put b at s b at
unfolding output_with place_after
none_put {b} {s} {at} h = record { output = rw (lt-leb (at + length s) (length b) h); place = rw (lt-leb (at + length s) (length b) h) }

pub put_none : {b s a : List ℕ} {at n : ℕ} → length b < at + length s → Put b at s a n → (a ≡ b) × (n ≡ at)
unfolding output_with place_after
put_none {b} {s} {a} {at} {n} h p =
    let e = lt-leb (at + length s) (length b) h in
    (rw e at p.output, rw e at p.place)

length_written : (b : List ℕ) (at : ℕ) (s : List ℕ) → at + length s ≤ length b → length (written b at s) ≡ length b
length_written b at s h = simp (length-append, length-take, length-drop) (omega arith)

pub put_length : {b s a : List ℕ} {at n : ℕ} → Put b at s a n → length a ≡ length b
put_length {b} {s} {a} {at} {n} p = go (leb (at + length s) (length b)) refl
  where
    go : (t : Bool) → leb (at + length s) (length b) ≡ t → length a ≡ length b
    go true e =
        let h = leb-true (at + length s) (length b) e in
        ap length (put_room h p).0 ∙ length_written b at s h
    go false e = ap length (put_none (leb-false (at + length s) (length b) e) p).0

-- the bytes put, said another way
pub put_same : {b s t a : List ℕ} {at n : ℕ} → Put b at s a n → s ≡ t → Put b at t a n
put_same p e = rw e at p

-- two writes one after the other are one write of both
pub put_both : {b s a t c : List ℕ} {at n m : ℕ} → Put b at s a n → Put a n t c m → at + length s + length t ≤ length b → Put b at (s ++ t) c m
put_both {b} {s} {a} {t} {c} {at} {n} {m} p q h =
    let (e, d) = put_room {at = at} (omega arith) p in
    let la : length a ≡ length b = put_length p in
    let (f, g) = put_room {at = n} (omega arith) q in
    let ls : length (s ++ t) ≡ length s + length t = length-append s t in
    let front : length (take at b ++ s) ≡ at + length s = simp (length-append, length-take) (omega arith) in
    let kept : take n a ≡ take at b ++ s = rw (e, d) (take_at (take at b ++ s) (drop (at + length s) b) (at + length s) front) in
    let rest : drop n a ≡ drop (at + length s) b = rw (e, d) (drop_at (take at b ++ s) (drop (at + length s) b) (at + length s) front) in
    let end : at + length s + length t ≡ at + length (s ++ t) = omega arith in
    let past : drop (length t) (drop n a) ≡ drop (at + length s + length t) b = rw rest (drop-drop (length t) (at + length s) b) in
    let after : drop (n + length t) a ≡ drop (at + length (s ++ t)) b = sym (drop-drop (length t) n a) ∙ past ∙ ap (λ (k : ℕ). drop k b) end in
    room_put (omega arith) (f ∙ rw (kept, after, append_assoc (take at b) s t)) (omega arith)
