-- Laws of `last_digits`: how many there are; that the digits of a number are those of what stands before its last k, and then these; and what two stored
-- digits are.
use mathlib.Core.Path.{◌≡◌, refl, sym, ap, ◌∙◌}
use mathlib.Core.List.{List, [], ◌∷◌, ◌++◌, append_assoc, append-nil}
use Prim.Native.Nat.{ℕ, zero, suc, ◌+◌, ◌*◌, ◌/◌, ◌%◌, ◌^◌, ◌<◌, ◌≤◌}
use native.Mathlib.Nat.{pow-suc, mul_assoc, mul-pos, one-le-pow, mod-lt, div-add-mod'}
use native.Mathlib.Omega.{arith}
use lib.ListN.{length, take, drop, set, length-append, length-set}
use lib.Seq.{set_split, take-suc-set, drop-set-lt, append_snoc}
use Rattle.text.specs.Output.{Put}
use Rattle.text.proofs.OutputLaws.{room_put, put_room, put_length, put_same, put_both}
use Rattle.numeral.specs.Digits.{digits}
use Rattle.digits.specs.Width.{last_digits}
use Rattle.numeral.proofs.Digits.{digits_one, digits_more}

-- the last digit, and those before it
last_none : (n : ℕ) → last_digits 0 n ≡ []
unfolding last_digits
last_none n = refl

last_more : (k n : ℕ) → last_digits (suc k) n ≡ last_digits k (n / 10) ++ (48 + n % 10) ∷ []
unfolding last_digits
last_more k n = refl

pub length_last : (k n : ℕ) → length (last_digits k n) ≡ k
length_last zero n = ap length (last_none n)
length_last (suc k) n =
    omega (arith, ap length (last_more k n) ∙ length-append (last_digits k (n / 10)) ((48 + n % 10) ∷ []), length_last k (n / 10))

-- a number with k + 1 digits r behind q, less its last digit
module _ (k q r : ℕ) (h : r < 10 ^ suc k) where
  shifted : q * 10 ^ suc k ≡ q * 10 ^ k * 10
  shifted = ap (λ (x : ℕ). q * x) (pow-suc 10 k) ∙ sym (mul_assoc q (10 ^ k) 10)

  tenth : (q * 10 ^ suc k + r) / 10 ≡ q * 10 ^ k + r / 10
  tenth = omega (arith, shifted)

  ones : (q * 10 ^ suc k + r) % 10 ≡ r % 10
  ones = omega (arith, shifted)

  less : r / 10 < 10 ^ k
  less = omega (arith, pow-suc 10 k)

-- k digits behind others, and behind a numeral
pub last_join : (j k q r : ℕ) → r < 10 ^ k → last_digits (j + k) (q * 10 ^ k + r) ≡ last_digits j q ++ last_digits k r
last_join j zero q r h =
    let e : j + 0 ≡ j = omega arith in
    let f : q * 10 ^ 0 + r ≡ q = omega arith in
    rw (e, f, last_none r) (sym (append-nil (last_digits j q)))
last_join j (suc k) q r h =
    let e : j + suc k ≡ suc (j + k) = omega arith in
    rw (e, last_more (j + k) (q * 10 ^ suc k + r), tenth k q r h, ones k q r h, last_join j k q (r / 10) (less k q r h), last_more k r)
    (append_assoc (last_digits j q) (last_digits k (r / 10)) ((48 + r % 10) ∷ []))

digits_join : (k q r : ℕ) → 1 ≤ q → r < 10 ^ k → digits (q * 10 ^ k + r) ≡ digits q ++ last_digits k r
digits_join zero q r p h =
    let f : q * 10 ^ 0 + r ≡ q = omega arith in
    rw (f, last_none r) (sym (append-nil (digits q)))
digits_join (suc k) q r p h =
    let some : 1 ≤ q * 10 ^ k = mul-pos p (one-le-pow k 10 (omega arith)) in
    rw (digits_more (q * 10 ^ suc k + r) (omega (arith, shifted k q r h, some)), tenth k q r h, ones k q r h, digits_join k q (r / 10) p (less k q r h), last_more k r)
    (append_assoc (digits q) (last_digits k (r / 10)) ((48 + r % 10) ∷ []))

-- the last k digits of a number that has more
pub digits_parts : (k n : ℕ) → 1 ≤ n / 10 ^ k → digits n ≡ digits (n / 10 ^ k) ++ last_digits k (n % 10 ^ k)
digits_parts k n h =
    ap digits (sym (div-add-mod' n (10 ^ k))) ∙ digits_join k (n / 10 ^ k) (n % 10 ^ k) h (mod-lt n (one-le-pow k 10 (omega arith)))

pub last_parts : (j k n : ℕ) → last_digits (j + k) n ≡ last_digits j (n / 10 ^ k) ++ last_digits k (n % 10 ^ k)
last_parts j k n =
    ap (last_digits (j + k)) (sym (div-add-mod' n (10 ^ k))) ∙ last_join j k (n / 10 ^ k) (n % 10 ^ k) (mod-lt n (one-le-pow k 10 (omega arith)))

-- two digits stored at a place and at the next one
pub last_two : (n : ℕ) → last_digits 2 n ≡ (48 + n / 10 % 10) ∷ (48 + n % 10) ∷ []
unfolding last_digits
last_two n = refl

module _ (part : List ℕ) (at a b : ℕ) (h : at + 2 ≤ length part) where
  stored : set (set part at a) (at + 1) b ≡ take at part ++ (a ∷ b ∷ []) ++ drop (at + 2) part
  stored =
      let next : at + 1 ≡ suc at = omega arith in
      let end : at + 2 ≡ suc (suc at) = omega arith in
      let room : suc at < length (set part at a) = omega (arith, length-set part at a) in
      rw
      (next, end, set_split (set part at a) (suc at) b room, take-suc-set part at a (omega arith), drop-set-lt (suc (suc at)) part at a (omega arith))
      (append_snoc (take at part) a (b ∷ drop (suc (suc at)) part) ∙ sym (append_assoc (take at part) (a ∷ b ∷ []) (drop (suc (suc at)) part)))

  pub two_put : (n : ℕ) → a ≡ 48 + n / 10 → b ≡ 48 + n % 10 → n < 100 → Put part at (last_digits 2 n) (set (set part at a) (at + 1) b) (at + 2)
  two_put n p q l =
      let first : 48 + n / 10 % 10 ≡ a = omega arith in
      put_same (room_put {s = a ∷ b ∷ []} h stored refl) (sym (last_two n ∙ rw (first, q)))

-- k digits put where there is room for them: the place after them
pub width_put : {b a : List ℕ} {at m : ℕ} (k n : ℕ) → at + k ≤ length b → Put b at (last_digits k n) a m → (m ≡ at + k) × (length a ≡ length b)
width_put {b} {a} {at} {m} k n h put =
    let long = length_last k n in
    ((put_room {at = at} (omega (arith, long)) put).1 ∙ ap (λ (i : ℕ). at + i) long, put_length put)

-- the digits before the last k put, and then these
pub width_both : {b a c : List ℕ} {at m e : ℕ} (j k n : ℕ) → at + (j + k) ≤ length b
    → Put b at (last_digits j (n / 10 ^ k)) a m → Put a m (last_digits k (n % 10 ^ k)) c e → Put b at (last_digits (j + k) n) c e
width_both j k n h p q =
    put_same
    (put_both p q (omega (arith, length_last j (n / 10 ^ k), length_last k (n % 10 ^ k))))
    (sym (last_parts j k n))

-- a number of two digits
pub two_digits : (n : ℕ) → 10 ≤ n → n < 100 → digits n ≡ last_digits 2 n
two_digits n h l =
    let e : n / 10 % 10 ≡ n / 10 = omega arith in
    digits_more n h ∙ rw (digits_one (n / 10) (omega arith), last_two n, e)
