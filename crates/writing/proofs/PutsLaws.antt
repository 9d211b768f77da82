-- Laws of writes one after the other: they are one write; and how long the spelling of a number is, by the type of what is spelled.
use mathlib.Core.Path.{◌≡◌, sym, ap, ◌∙◌}
use mathlib.Core.List.{List, [], ◌++◌, append-nil}
use Prim.Native.Nat.{ℕ, suc, ◌+◌, ◌^◌, ◌≤◌, ◌<◌}
use native.Mathlib.Nat.{add-zero}
use native.Mathlib.Omega.{arith}
use lib.IntN.{ℤ, pos, negsuc}
use lib.Signed.{mag}
use lib.ListN.{length, take, drop, length-append, take-append-drop}
use Rattle.text.specs.Output.{Put}
use Rattle.text.proofs.OutputLaws.{room_put, put_room, put_length, put_both}
use Rattle.numeral.specs.Digits.{signed_digits}
use Rattle.numeral.proofs.Digits.{digits_most}
use Rattle.writing.specs.Puts.{Puts, pair}

infixl 50 ◌then◌
pub one_put : {b s a : List ℕ} {at n : ℕ} → Put b at s a n → Puts b at s a n
one_put p = record { put = λ h. p }

-- the bytes put, grouped another way
pub puts_same : {b s t a : List ℕ} {at n : ℕ} → Puts b at s a n → s ≡ t → Puts b at t a n
puts_same p e = rw e at p

-- no bytes are put by doing nothing
pub nothing : (b : List ℕ) (at : ℕ) → Puts b at [] b at
nothing b at = record { put = λ h. room_put h (sym (rw append-nil (ap (λ (i : ℕ). take at b ++ drop i b) (add-zero at) ∙ take-append-drop at b))) (omega arith) }

-- two writes one after the other: the room that both want is room for each
pub ◌then◌ : {b s a t c : List ℕ} {at n m : ℕ} → Puts b at s a n → Puts a n t c m → Puts b at (s ++ t) c m
◌then◌ {b} {s} {a} {t} {c} {at} {n} {m} p q =
    record {
      put = λ h.
          let both : length (s ++ t) ≡ length s + length t = length-append s t in
          let front : Put b at s a n = p.put (omega arith) in
          let next : n ≡ at + length s = (put_room {b = b} {s = s} {a = a} {at = at} {n = n} (omega arith) front).1 in
          let same : length a ≡ length b = put_length front in
          put_both front (q.put (omega arith)) (omega arith);
    }

-- ---- how long a spelling is

pub signed_most : (z : ℤ) → mag z < 2 ^ 63 → length (signed_digits z) ≤ 20
unfolding signed_digits
signed_most (pos n) h = omega (arith, digits_most 18 n (omega arith))
signed_most (negsuc n) h = omega (arith, digits_most 18 (suc n) (omega arith))

pub pair_most : (a b : ℤ) → mag a < 2 ^ 63 → mag b < 2 ^ 63 → length (pair a b) ≤ 43
unfolding pair
pair_most a b l u = simp length-append (omega (arith, signed_most a l, signed_most b u))
