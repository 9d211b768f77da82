-- What can be read is the image of what is read (`read_is_image`): two images that can be read and differ are two keepers, and storing a keeper
-- that did not move leaves the image as it was.
use mathlib.Core.Path.{◌≡◌, refl, sym, ap, ◌∙◌}
use mathlib.Core.Bool.{true}
use mathlib.Core.List.{List, [], ◌∷◌, ◌++◌}
use Prim.Native.Nat.{ℕ, zero, suc, ◌+◌, ◌*◌, ◌/◌, ◌%◌, ◌<◌, ◌≤◌, ◌^◌}
use native.Mathlib.Nat.{pow-suc, suc-mul}
use native.Mathlib.Omega.{arith}
use lib.Dec.{eqb}
use lib.ListN.{length, get_or, take, drop}
use lib.Seq.{drop-cons, drop-drop, take-add, take_all}
use mir.Syntax.{w64}
use mir.Val.{Fits, of_z, to_z}
use mir.Facts.{of_z-to_z}
use Rattle.image.specs.Bytes.{number, numbers, lowest_first, each_lowest_first}
use Rattle.rules.specs.Rules.{rule_number}
use Rattle.image.specs.Layout.{image_length, version, flag, rule_of, own_bytes, peer_bytes, flight_bytes, image_of, readable, keeper_at, keeper_in, AllBelow}
use Rattle.image.proofs.LayoutLaws.{readable_parts}

-- ---- parts of a list, one after the other

part : ℕ → ℕ → List ℕ → List ℕ
part at n l = take n (drop at l)

glue : (at a b : ℕ) (l : List ℕ) → part at a l ++ part (at + a) b l ≡ part at (a + b) l
unfolding part
glue at a b l = ap (λ (r : List ℕ). take a (drop at l) ++ take b r) (sym (drop-drop a at l)) ∙ sym (take-add a b (drop at l))

-- ---- the bytes of what was read

byte_below : (l : List ℕ) (i : ℕ) → AllBelow 256 l → get_or l i 0 < 256
byte_below [] i h = omega arith
byte_below (b ∷ l) zero h = h.0
byte_below (b ∷ l) (suc i) h = byte_below l i h.1

number_below : (w at : ℕ) (l : List ℕ) → AllBelow 256 l → number w at l < 256 ^ w
unfolding number
number_below zero at l h = omega arith
number_below (suc w) at l h = omega (arith, byte_below l at h, number_below w (at + 1) l h, pow-suc 256 w)

lowest_back : (w at : ℕ) (l : List ℕ) → at + w ≤ length l → AllBelow 256 l → lowest_first w (number w at l) ≡ part at w l
unfolding lowest_first number part
lowest_back zero at l room h = refl
lowest_back (suc w) at l room h =
    let small : get_or l at 0 < 256 = byte_below l at h in
    let low : (get_or l at 0 + 256 * number w (at + 1) l) % 256 ≡ get_or l at 0 = omega (arith, small) in
    let high : (get_or l at 0 + 256 * number w (at + 1) l) / 256 ≡ number w (at + 1) l = omega (arith, small) in
    let next : at + 1 ≡ suc at = omega arith in
    rw (low, high, drop-cons l at 0 (omega arith))
    (ap (λ (bs : List ℕ). get_or l at 0 ∷ bs) (lowest_back w (at + 1) l (omega arith) h ∙ ap (λ (n : ℕ). take w (drop n l)) next))

each_back : (c w at : ℕ) (l : List ℕ) → at + c * w ≤ length l → AllBelow 256 l → each_lowest_first w (numbers c w at l) ≡ part at (c * w) l
unfolding each_lowest_first numbers part
each_back zero w at l room h = ap (λ (n : ℕ). take n (drop at l)) (let none : 0 ≡ 0 * w = omega arith in none)
each_back (suc c) w at l room h =
    let longer : suc c * w ≡ w + c * w = omega (arith, suc-mul c w) in
    let here : at + w ≤ length l = omega (arith, room, longer) in
    let there : at + w + c * w ≤ length l = omega (arith, room, longer) in
    ap (λ (bs : List ℕ). bs ++ each_lowest_first w (numbers c w (at + w) l)) (lowest_back w at l here h)
    ∙ ap (λ (bs : List ℕ). take w (drop at l) ++ bs) (each_back c w (at + w) l there h)
    ∙ glue at w (c * w) l
    ∙ ap (λ (n : ℕ). take n (drop at l)) (sym longer)

-- ---- the image

flag_there : (n : ℕ) → n ≤ 1 → flag (eqb n 1) ≡ n
flag_there zero h = refl
flag_there (suc zero) h = refl
flag_there (suc (suc n)) h = absurd (omega arith)

rule_there : (n : ℕ) → n ≤ 1 → rule_number (rule_of (eqb n 1)) ≡ n
rule_there zero h = refl
rule_there (suc zero) h = refl
rule_there (suc (suc n)) h = absurd (omega arith)

marks : (l : List ℕ) → 4 ≤ length l → part 0 4 l ≡ get_or l 0 0 ∷ get_or l 1 0 ∷ get_or l 2 0 ∷ get_or l 3 0 ∷ []
unfolding part
marks l h =
    ap (take 4) (drop-cons l 0 0 (omega arith))
    ∙ ap (λ (r : List ℕ). get_or l 0 0 ∷ take 3 r) (drop-cons l 1 0 (omega arith))
    ∙ ap (λ (r : List ℕ). get_or l 0 0 ∷ get_or l 1 0 ∷ take 2 r) (drop-cons l 2 0 (omega arith))
    ∙ ap (λ (r : List ℕ). get_or l 0 0 ∷ get_or l 1 0 ∷ get_or l 2 0 ∷ take 1 r) (drop-cons l 3 0 (omega arith))

module _ (l : List ℕ) (long : length l ≡ image_length) (first : get_or l 0 0 ≡ version) (started : get_or l 1 0 ≤ 1) (rule : get_or l 3 0 ≤ 1) (h : AllBelow 256 l) where
  edge_there : (at : ℕ) → at + 8 ≤ image_length → lowest_first 8 (of_z w64 (to_z w64 (number 8 at l))) ≡ part at 8 l
  edge_there at room =
      let fits : Fits w64 (number 8 at l) = record { fits = number_below 8 at l h } in
      ap (lowest_first 8) (of_z-to_z fits) ∙ lowest_back 8 at l (omega (arith, long)) h

  head_there : version ∷ flag (eqb (get_or l 1 0) 1) ∷ get_or l 2 0 ∷ rule_number (rule_of (eqb (get_or l 3 0) 1)) ∷ [] ≡ part 0 4 l
  head_there =
      sym (marks l (omega (arith, long)) ∙ rw (first, flag_there (get_or l 1 0) started, rule_there (get_or l 3 0) rule))

  -- two runs of bytes that follow each other
  join : (at a b : ℕ) {s t : List ℕ} → s ≡ part at a l → t ≡ part (at + a) b l → s ++ t ≡ part at (a + b) l
  join at a b {s} {t} e f = ap (λ (x : List ℕ). x ++ t) e ∙ ap (λ (x : List ℕ). part at a l ++ x) f ∙ glue at a b l

  number_there : (w at : ℕ) → at + w ≤ image_length → lowest_first w (number w at l) ≡ part at w l
  number_there w at room = lowest_back w at l (omega (arith, long)) h

  own : own_bytes (keeper_at l) ≡ part 0 40 l
  unfolding keeper_at
  own =
      join 0 24 16
      (join 0 8 16
      (join 0 6 2 (join 0 4 2 head_there (number_there 2 4 (omega arith))) (number_there 2 6 (omega arith)))
      (join 8 8 8 (edge_there 8 (omega arith)) (edge_there 16 (omega arith))))
      (join 24 12 4 (join 24 8 4 (number_there 8 24 (omega arith)) (number_there 4 32 (omega arith))) (number_there 4 36 (omega arith)))

  peers : peer_bytes (keeper_at l) ≡ part 40 192 l
  unfolding keeper_at
  peers = join 40 64 128 (each_back 16 4 40 l (omega (arith, long)) h) (each_back 16 8 104 l (omega (arith, long)) h)

  flights : flight_bytes (keeper_at l) ≡ part 232 128 l
  unfolding keeper_at
  flights = join 232 64 64 (each_back 16 4 232 l (omega (arith, long)) h) (each_back 16 4 296 l (omega (arith, long)) h)

  whole : image_of (keeper_at l) ≡ l
  unfolding image_of part
  whole = join 0 232 128 (join 0 40 192 own peers) flights ∙ take_all image_length l (omega (arith, long))

-- Every image that can be read is the image of what is read.
pub read_is_image : (l : List ℕ) → AllBelow 256 l → readable l ≡ true → image_of (keeper_in l) ≡ l
unfolding keeper_in
read_is_image l h e =
    let (long, first, started, rule) = readable_parts l e in
    rw e (whole l long first started rule h)
