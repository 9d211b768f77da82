-- Laws of the bytes of an unfinished line that are moved to the front of a buffer.
use mathlib.Core.Path.{◌≡◌, sym, ap, ◌∙◌}
use mathlib.Core.List.{List, ◌++◌}
use Prim.Native.Nat.{ℕ, ◌+◌, ◌-◌, ◌≤◌, ◌<◌, min}
use native.Mathlib.Omega.{arith}
use borrow.Author.Tests.{leb-true, leb-false}
use lib.Dec.{leb}
use lib.ListN.{length, take, drop, length-take, length-drop, take-append-drop, drop_of_length-le}
use lib.Seq.{take_all, take-nil, take-append-le, drop-append-le}
use Rattle.std.specs.List.{copy_within}
use Rattle.lines.specs.Lines.{held_of}
use Rattle.bits.proofs.Tests.{by_test}

-- so many bytes from a place on, moved to the front
pub moved_front : (s : List ℕ) (from n : ℕ) → copy_within s from (from + n) 0 ≡ take n (drop from s) ++ drop n s
moved_front s from n =
    let count : from + n - from ≡ n = omega arith in
    let place : 0 + n ≡ n = omega arith in
    rw (count, place)

-- the bytes that are held, by their count
pub held_is : (s : List ℕ) (from end most : ℕ) → held_of s from end most ≡ take (min most (min end (length s) - from)) (drop from s)
held_is s from end most = by_test (leb from (length front)) (λ t. inside (leb-true _ _ t)) (λ t. outside (leb-false _ _ t))
  where
    front : List ℕ
    front = take end s

    size : length front ≡ min end (length s)
    size = length-take end s

    n : ℕ
    n = min most (min end (length s) - from)

    enough : from ≤ length front → take n (drop from front) ≡ take most (drop from front)
    enough h =
        by_test (leb most (length front - from))
        (λ t. rw (the_most (leb-true _ _ t)))
        (λ t.
        let all : length (drop from front) ≤ n = simp length-drop (omega (arith, size, leb-false most (length front - from) t)) in
        let over : length (drop from front) ≤ most = simp length-drop (omega (arith, leb-false most (length front - from) t)) in
        take_all n (drop from front) all ∙ sym (take_all most (drop from front) over))
      where
        the_most : most ≤ length front - from → n ≡ most
        the_most le = omega (arith, size)

    inside : from ≤ length front → take most (drop from front) ≡ take n (drop from s)
    inside h =
        let few : n ≤ length (drop from front) = simp length-drop (omega (arith, size)) in
        let parts : drop from s ≡ drop from front ++ drop end s =
        ap (λ (l : List ℕ). drop from l) (sym (take-append-drop end s)) ∙ drop-append-le from front (drop end s) h
        in
        rw (parts, take-append-le n (drop from front) (drop end s) few) (sym (enough h))

    outside : length front < from → take most (drop from front) ≡ take n (drop from s)
    outside h =
        let none : n ≡ 0 = omega (arith, size) in
        let past : length front ≤ from = omega arith in
        rw (none, drop_of_length-le front past) (take-nil most)
