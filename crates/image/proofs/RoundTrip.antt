-- The image of a keeper is read as that keeper (`image_read_back`).
use mathlib.Core.Path.{◌≡◌, refl, sym, ap, ◌∙◌}
use mathlib.Core.Bool.{Bool, true, false}
use mathlib.Core.List.{List, [], ◌∷◌, ◌++◌, append-nil, append_assoc}
use Prim.Native.Nat.{ℕ, zero, suc, ◌+◌, ◌*◌, ◌/◌, ◌%◌, ◌<◌, ◌^◌}
use native.Mathlib.Nat.{pow-suc}
use native.Mathlib.Omega.{arith}
use borrow.Author.Tests.{eq-eqb}
use lib.Dec.{eqb, leb}
use lib.IntN.{ℤ}
use lib.ListN.{length, get_or, length-append}
use mir.Syntax.{w64}
use mir.Val.{SFits, of_z, to_z}
use mir.Facts.{Fits-of_z, to_z-of_z}
use Rattle.rules.specs.declared.Rule.{Rule}
use Rattle.rules.specs.declared.Rule.TheVariants.{Im, Mm}
use Rattle.keeper.specs.declared.Keeper.{Keeper}
use Rattle.image.specs.Bytes.{number, numbers, lowest_first, each_lowest_first}
use Rattle.rules.specs.Rules.{rule_number}
use Rattle.image.specs.Layout.{flag, own_bytes, peer_bytes, flight_bytes, image_of, rule_of, readable, keeper_at, keeper_in, AllBelow, Fitting}
use Rattle.image.proofs.StoreLaws.{length_lowest, length_each}
use Rattle.image.proofs.LayoutLaws.{own_length, peers_length, image_length_lem}

-- ---- what stands after bytes that are passed over

number_past : (w at b : ℕ) (l : List ℕ) → number w (suc at) (b ∷ l) ≡ number w at l
unfolding number
number_past zero at b l = refl
number_past (suc w) at b l =
    let next : suc at + 1 ≡ suc (at + 1) = omega arith in
    ap (λ (n : ℕ). get_or l at 0 + 256 * n) (ap (λ (n : ℕ). number w n (b ∷ l)) next ∙ number_past w (at + 1) b l)

number_skip : (s l : List ℕ) (w at : ℕ) → number w (length s + at) (s ++ l) ≡ number w at l
number_skip [] l w at = ap (λ (n : ℕ). number w n l) (let none : 0 + at ≡ at = omega arith in none)
number_skip (b ∷ s) l w at =
    let next : suc (length s) + at ≡ suc (length s + at) = omega arith in
    ap (λ (n : ℕ). number w n (b ∷ (s ++ l))) next ∙ number_past w (length s + at) b (s ++ l) ∙ number_skip s l w at

numbers_skip : (s l : List ℕ) (c w at : ℕ) → numbers c w (length s + at) (s ++ l) ≡ numbers c w at l
unfolding numbers
numbers_skip s l zero w at = refl
numbers_skip s l (suc c) w at =
    let next : length s + at + w ≡ length s + (at + w) = omega arith in
    ap (λ (n : ℕ). n ∷ numbers c w (length s + at + w) (s ++ l)) (number_skip s l w at)
    ∙ ap (λ (ns : List ℕ). number w at l ∷ ns) (ap (λ (n : ℕ). numbers c w n (s ++ l)) next ∙ numbers_skip s l c w (at + w))

-- ---- a number's bytes are read as that number

pub number_front : (w n : ℕ) (r : List ℕ) → n < 256 ^ w → number w 0 (lowest_first w n ++ r) ≡ n
unfolding number lowest_first
number_front zero n r h = omega arith
number_front (suc w) n r h =
    let less : n / 256 < 256 ^ w = omega (arith, h, pow-suc 256 w) in
    ap (λ (m : ℕ). n % 256 + 256 * m) (number_past w 0 (n % 256) (lowest_first w (n / 256) ++ r) ∙ number_front w (n / 256) r less) ∙ omega arith

numbers_front : (w : ℕ) (ns r : List ℕ) → AllBelow (256 ^ w) ns → numbers (length ns) w 0 (each_lowest_first w ns ++ r) ≡ ns
unfolding numbers each_lowest_first
numbers_front w [] r h = refl
numbers_front w (n ∷ ns) r h =
    let apart : (lowest_first w n ++ each_lowest_first w ns) ++ r ≡ lowest_first w n ++ (each_lowest_first w ns ++ r) =
    append_assoc (lowest_first w n) (each_lowest_first w ns) r in
    let next : 0 + w ≡ length (lowest_first w n) + 0 = omega (arith, length_lowest w n) in
    rw apart
    (ap (λ (m : ℕ). m ∷ numbers (length ns) w (0 + w) (lowest_first w n ++ (each_lowest_first w ns ++ r))) (number_front w n (each_lowest_first w ns ++ r) h.0)
    ∙ ap (λ (ms : List ℕ). n ∷ ms)
    (ap (λ (m : ℕ). numbers (length ns) w m (lowest_first w n ++ (each_lowest_first w ns ++ r))) next
    ∙ numbers_skip (lowest_first w n) (each_lowest_first w ns ++ r) (length ns) w 0
    ∙ numbers_front w ns r h.1))

-- ---- the fields that are no numbers

flag_back : (b : Bool) → (eqb (flag b) 1 ≡ b) × (leb (flag b) 1 ≡ true)
flag_back true = (refl, refl)
flag_back false = (refl, refl)

rule_back : (r : Rule) → (rule_of (eqb (rule_number r) 1) ≡ r) × (leb (rule_number r) 1 ≡ true)
rule_back Im = (refl, refl)
rule_back Mm = (refl, refl)

edge_back : (z : ℤ) → SFits w64 z → to_z w64 (number 8 0 (lowest_first 8 (of_z w64 z) ++ [])) ≡ z
edge_back z f = ap (to_z w64) (number_front 8 (of_z w64 z) [] (Fits-of_z f).fits) ∙ to_z-of_z f

-- ---- the peers

-- Sixteen numbers whose bytes stand in an image behind `before`, which ends at the place, are read from that place on.
run_back : (w : ℕ) (before ns after image : List ℕ) (at : ℕ) → image ≡ before ++ (each_lowest_first w ns ++ after) → at ≡ length before
    → length ns ≡ 16 → AllBelow (256 ^ w) ns → numbers 16 w at image ≡ ns
run_back w before ns after image at e place sixteen h =
    let rest = each_lowest_first w ns ++ after in
    let here : at ≡ length before + 0 = omega (arith, place) in
    ap (numbers 16 w at) e
    ∙ ap (λ (n : ℕ). numbers 16 w n (before ++ rest)) here
    ∙ numbers_skip before rest 16 w 0
    ∙ ap (λ (n : ℕ). numbers n w 0 rest) (sym sixteen)
    ∙ numbers_front w ns after h

-- an image's bytes from each run of numbers on
module _ (own t s o b : List ℕ) where
  from_tags : own ++ (t ++ s) ++ (o ++ b) ≡ own ++ (t ++ (s ++ (o ++ b)))
  from_tags = simp append_assoc

  from_counts : own ++ (t ++ s) ++ (o ++ b) ≡ (own ++ t) ++ (s ++ (o ++ b))
  from_counts = simp append_assoc

  from_outs : own ++ (t ++ s) ++ (o ++ b) ≡ (own ++ (t ++ s)) ++ (o ++ b)
  from_outs = refl

  from_backs : own ++ (t ++ s) ++ (o ++ b) ≡ (own ++ (t ++ s) ++ o) ++ (b ++ [])
  from_backs = simp (append_assoc, append-nil)

module _ (k : Keeper) (f : Fitting k) where
  abbrev t : List ℕ
  t = each_lowest_first 4 k.tags

  abbrev s : List ℕ
  s = each_lowest_first 8 k.sent_at

  abbrev o : List ℕ
  o = each_lowest_first 4 k.out

  abbrev b : List ℕ
  b = each_lowest_first 4 k.back

  before_outs : length (own_bytes k ++ peer_bytes k) ≡ 232
  before_outs = length-append (own_bytes k) (peer_bytes k) ∙ omega (arith, own_length k, peers_length k f.tags.0 f.sent_at.0)

  tags_back : numbers 16 4 40 (own_bytes k ++ peer_bytes k ++ flight_bytes k) ≡ k.tags
  tags_back = run_back 4 (own_bytes k) k.tags (s ++ (o ++ b)) _ 40 (from_tags (own_bytes k) t s o b) (sym (own_length k)) f.tags.0 f.tags.1

  counts_back : numbers 16 8 104 (own_bytes k ++ peer_bytes k ++ flight_bytes k) ≡ k.sent_at
  counts_back =
      let place : 104 ≡ length (own_bytes k ++ t) = omega (arith, length-append (own_bytes k) t, own_length k, length_each 4 k.tags, f.tags.0) in
      run_back 8 (own_bytes k ++ t) k.sent_at (o ++ b) _ 104 (from_counts (own_bytes k) t s o b) place f.sent_at.0 f.sent_at.1

  outs_back : numbers 16 4 232 (own_bytes k ++ peer_bytes k ++ flight_bytes k) ≡ k.out
  outs_back = run_back 4 (own_bytes k ++ peer_bytes k) k.out b _ 232 (from_outs (own_bytes k) t s o b) (sym before_outs) f.out.0 f.out.1

  backs_back : numbers 16 4 296 (own_bytes k ++ peer_bytes k ++ flight_bytes k) ≡ k.back
  backs_back =
      let place : 296 ≡ length (own_bytes k ++ peer_bytes k ++ o) = omega (arith, length-append (own_bytes k ++ peer_bytes k) o, before_outs, length_each 4 k.out, f.out.0) in
      run_back 4 (own_bytes k ++ peer_bytes k ++ o) k.back [] _ 296 (from_backs (own_bytes k) t s o b) place f.back.0 f.back.1

  image_readable : readable (image_of k) ≡ true
  unfolding readable image_of lowest_first
  image_readable = rw (eq-eqb _ _ (image_length_lem k f.tags.0 f.sent_at.0 f.out.0 f.back.0), (flag_back k.started).1, (rule_back k.rule).1)

  at_back : keeper_at (image_of k) ≡ k
  unfolding keeper_at image_of number lowest_first
  at_back =
      rw (
        (flag_back k.started).0,
        (rule_back k.rule).0,
        number_front 2 k.claim [] f.claim,
        edge_back k.edges.lower f.lower,
        edge_back k.edges.upper f.upper,
        number_front 8 k.ticks [] f.ticks,
        number_front 4 k.requests [] f.requests,
        number_front 4 k.conflicts [] f.conflicts,
        number_front 2 k.waiting [] f.waiting,
        tags_back,
        counts_back,
        outs_back,
        backs_back,
      )

-- What was stored is what is loaded.
pub image_read_back : (k : Keeper) → Fitting k → keeper_in (image_of k) ≡ k
unfolding keeper_in
image_read_back k f = rw (image_readable k f) (at_back k f)
