-- The laws of numbers that are put one after the other, and of a buffer that is filled from its first byte to its last.
use mathlib.Core.Path.{◌≡◌, refl, sym, ap, ◌∙◌}
use mathlib.Core.List.{List, [], ◌∷◌, ◌++◌, append-nil, append_assoc}
use Prim.Native.Nat.{ℕ, zero, suc, ◌+◌, ◌*◌, ◌<◌, ◌≤◌}
use native.Mathlib.Omega.{arith}
use lib.ListN.{length, get_or, set, take, length-set, length-append, drop_of_length-le}
use lib.Seq.{take-suc, length-take-le, take_all}
use Rattle.std.specs.Prelude.{map}
use Rattle.std.proofs.lemmas.List.{length-map, map-append, map-id}
use Rattle.image.specs.Bytes.{lowest_first, each_lowest_first, stored}
use Rattle.image.proofs.ByteLaws.{stored_more, stored_part}

pub length_stored : (l : List ℕ) (at : ℕ) (s : List ℕ) → length (stored l at s) ≡ length l
unfolding stored
length_stored l at [] = refl
length_stored l at (b ∷ s) = length_stored (set l at b) (at + 1) s ∙ length-set l at b

pub length_lowest : (w n : ℕ) → length (lowest_first w n) ≡ w
unfolding lowest_first
length_lowest zero n = refl
length_lowest (suc w) n = ap suc (length_lowest w _)

pub length_each : (w : ℕ) (ns : List ℕ) → length (each_lowest_first w ns) ≡ w * length ns
unfolding each_lowest_first
length_each w [] = omega arith
length_each w (n ∷ ns) =
    length-append (lowest_first w n) (each_lowest_first w ns) ∙ omega (arith, length_lowest w n, length_each w ns)

each_more : (w : ℕ) (ns ms : List ℕ) → each_lowest_first w (ns ++ ms) ≡ each_lowest_first w ns ++ each_lowest_first w ms
unfolding each_lowest_first
each_more w [] ms = refl
each_more w (n ∷ ns) ms =
    ap (λ (s : List ℕ). lowest_first w n ++ s) (each_more w ns ms) ∙ sym (append_assoc (lowest_first w n) (each_lowest_first w ns) (each_lowest_first w ms))

one_each : (w n : ℕ) → each_lowest_first w (n ∷ []) ≡ lowest_first w n
unfolding each_lowest_first
one_each w n = append-nil (lowest_first w n)

-- ---- n bytes put from a place on, in runs

pub record Put (before : List ℕ) (at n : ℕ) (s after : List ℕ) : Type 0 where
  pub long : length s ≡ n
  pub is : after ≡ stored before at s

-- one run more
pub then : {before so_far s : List ℕ} {at n m : ℕ} (t after : List ℕ) → Put before at n s so_far → length t ≡ m
    → after ≡ stored so_far (at + n) t → Put before at (n + m) (s ++ t) after
then {before} {so_far} {s} {at} {n} {m} t after h more e =
    record {
      long = length-append s t ∙ omega (arith, h.long, more);
      is =
          e ∙ ap (λ (l : List ℕ). stored l (at + n) t) h.is
          ∙ ap (λ (i : ℕ). stored (stored before at s) (at + i) t) (sym h.long)
          ∙ stored_more before at s t;
    }

-- sixteen numbers more
pub then_sixteen : {before so_far s : List ℕ} {at n : ℕ} (w : ℕ) (ns after : List ℕ) → Put before at n s so_far → length ns ≡ 16
    → after ≡ stored so_far (at + n) (each_lowest_first w (map (λ m. m) ns)) → Put before at (n + w * 16) (s ++ each_lowest_first w ns) after
then_sixteen {before} {so_far} {s} {at} {n} w ns after h sixteen e =
    then (each_lowest_first w ns) after h (length_each w ns ∙ ap (λ (m : ℕ). w * m) sixteen)
    (e ∙ ap (λ (ms : List ℕ). stored so_far (at + n) (each_lowest_first w ms)) (map-id ns))

-- the first four bytes
pub first_four : (l : List ℕ) (a b c d : ℕ) → Put l 0 4 (a ∷ b ∷ c ∷ d ∷ []) (set (set (set (set l 0 a) 1 b) 2 c) 3 d)
unfolding stored
first_four l a b c d = record { long = refl; is = refl }

-- ---- the numbers of an array

-- The bits of the first p of sixteen numbers were put.
pub record Filled {A : Type 0} (bits : A → ℕ) (width at p : ℕ) (xs : List A) (before after : List ℕ) : Type 0 where
  pub upto : p ≤ 16
  pub sofar : after ≡ stored before at (each_lowest_first width (map bits (take p xs)))

pub filled_none : {A : Type 0} (bits : A → ℕ) (w at : ℕ) (xs : List A) (before : List ℕ) → Filled bits w at 0 xs before before
unfolding each_lowest_first stored
filled_none bits w at xs before = record { upto = omega arith; sofar = refl }

pub filled_more : {A : Type 0} {bits : A → ℕ} {w at p : ℕ} {xs : List A} {before after next : List ℕ} (x : A) → Filled bits w at p xs before after
    → length xs ≡ 16 → p < 16 → next ≡ stored after (at + w * p) (lowest_first w (bits (get_or xs p x))) → Filled bits w at (p + 1) xs before next
filled_more {A} {bits} {w} {at} {p} {xs} {before} {after} {next} x h all less e =
    record { upto = omega arith; sofar = e ∙ put }
  where
    ns : List ℕ
    ns = map bits (take p xs)

    n : ℕ
    n = bits (get_or xs p x)

    inside : p < length xs
    inside = omega (arith, all, less)

    here : length ns ≡ p
    here = length-map (take p xs) bits ∙ length-take-le p xs (omega (arith, inside))

    place : at + w * p ≡ at + length (each_lowest_first w ns)
    place = ap (λ (i : ℕ). at + i) (sym (length_each w ns ∙ ap (λ (i : ℕ). w * i) here))

    next_place : p + 1 ≡ suc p
    next_place = omega arith

    longer : each_lowest_first w (map bits (take (p + 1) xs)) ≡ each_lowest_first w ns ++ lowest_first w n
    longer =
        ap (λ (i : ℕ). each_lowest_first w (map bits (take i xs))) next_place
        ∙ ap (λ (ys : List A). each_lowest_first w (map bits ys)) (take-suc xs p x inside)
        ∙ ap (each_lowest_first w) (map-append bits (take p xs) (get_or xs p x ∷ []))
        ∙ each_more w ns (n ∷ [])
        ∙ ap (λ (s : List ℕ). each_lowest_first w ns ++ s) (one_each w n)

    put : stored after (at + w * p) (lowest_first w n) ≡ stored before at (each_lowest_first w (map bits (take (p + 1) xs)))
    put =
        ap (λ (l : List ℕ). stored l (at + w * p) (lowest_first w n)) h.sofar
        ∙ ap (λ (i : ℕ). stored (stored before at (each_lowest_first w ns)) i (lowest_first w n)) place
        ∙ stored_more before at (each_lowest_first w ns) (lowest_first w n)
        ∙ ap (stored before at) (sym longer)

pub filled_all : {A : Type 0} {bits : A → ℕ} {w at p : ℕ} {xs : List A} {before after : List ℕ} → Filled bits w at p xs before after
    → length xs ≡ 16 → 16 ≤ p → after ≡ stored before at (each_lowest_first w (map bits xs))
filled_all {A} {bits} {w} {at} {p} {xs} {before} h all most =
    h.sofar ∙ ap (λ (ys : List A). stored before at (each_lowest_first w (map bits ys))) (take_all p xs (omega (arith, all, most)))

-- ---- a whole buffer

-- as many bytes as the buffer has, from its first on, are all that stands in it
pub stored_whole : (l s : List ℕ) → length l ≡ length s → stored l 0 s ≡ s
stored_whole l s e =
    let past : length l ≤ 0 + length s = omega (arith, e) in
    stored_part l 0 s (omega (arith, e)) ∙ ap (λ (r : List ℕ). s ++ r) (drop_of_length-le l past) ∙ append-nil s
