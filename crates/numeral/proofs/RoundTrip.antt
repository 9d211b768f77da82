-- Reading and writing against each other: every number of at most 19 digits, written, is read back as the same number (a larger one has no
-- numeral), and every number that is read, written again at its place, leaves the line as it was if no `_` stood there.
use Rattle.std.proofs.Common.{Some, ◌≡◌, ℕ, suc, ◌+◌, ◌-◌, ◌^◌, ◌<◌, ◌≤◌, Bool, true, false, List, ◌∷◌, ◌++◌, length, take, drop, ℤ, pos, negsuc, nat_abs, sym, refl, ap, ◌∙◌, inl, append_assoc, arith, length-append, length-drop, take-append-drop, length-take-le, drop_at}
use Rattle.text.specs.Words.{Stands}
use Rattle.text.specs.Output.{Put}
use Rattle.text.proofs.OutputLaws.{put_room, room_put, put_same}
use Rattle.numeral.specs.Digits.{digits, signed_digits}
use Rattle.numeral.specs.Groups.{ungrouped, carries_underscore}
use Rattle.numeral.specs.Numerals.{Numeral, SignedNumeral}
use Rattle.numeral.specs.Reading.{numeral_ends, number_at, signed, signed_at, negative, integer}
use Rattle.numeral.proofs.Digits.{digits_some, digits_most}
use Rattle.numeral.proofs.GroupLaws.{ungrouped_other, ungrouped_same}
use Rattle.numeral.proofs.Numerals.{numeral_ungrouped, numeral_most, numeral_read, read_numeral}
use Rattle.numeral.proofs.SignedNumerals.{signed_read, read_signed}

-- a number below 10 ^ 19 has a numeral, its spelling
pub digits_numeral : (n : ℕ) → n < 10 ^ 19 → Numeral n (digits n)
digits_numeral n h = record { spelling = inl refl; most = digits_most 18 n h }

pub signed_numeral : (z : ℤ) → nat_abs z < 10 ^ 19 → SignedNumeral z (signed_digits z)
unfolding signed_digits
signed_numeral (pos n) h = digits_numeral n h
signed_numeral (negsuc n) h = (digits (suc n), digits_numeral (suc n) h, refl)

-- the output from the place on, after bytes were put there with room for them
put_here : {b s a : List ℕ} {at next : ℕ} → at + length s ≤ length b → Put b at s a next → drop at a ≡ s ++ drop next a
put_here {b} {s} {a} {at} {next} room p =
    let (all, place) = put_room {at = at} room p in
    let front : length (take at b) ≡ at = length-take-le at b (omega arith) in
    let here : drop at a ≡ s ++ drop (at + length s) b =
    ap (drop at) (all ∙ append_assoc (take at b) s (drop (at + length s) b)) ∙ drop_at (take at b) (s ++ drop (at + length s) b) at front in
    let long : length (take at b ++ s) ≡ at + length s = length-append (take at b) s ∙ ap (λ (k : ℕ). k + length s) front in
    let rest : drop next a ≡ drop (at + length s) b =
    ap (λ (k : ℕ). drop k a) place ∙ ap (drop (at + length s)) all ∙ drop_at (take at b ++ s) (drop (at + length s) b) (at + length s) long in
    here ∙ ap (λ (r : List ℕ). s ++ r) (sym rest)

-- what is written is read back, if neither a digit nor a `_` follows it
pub written_read : {b a : List ℕ} {at next : ℕ} (n : ℕ) → n < 10 ^ 19 → at + length (digits n) ≤ length b → Put b at (digits n) a next
    → numeral_ends (drop next a) ≡ true → number_at a at ≡ Some (n, next)
written_read {b} {a} {at} {next} n small room p ends =
    numeral_read a at n (digits n) (drop next a) (digits_numeral n small) (put_here {at = at} room p) ends
    ∙ ap (λ (k : ℕ). Some (n, k)) (sym (put_room {at = at} room p).1)

pub signed_written_read : {b a : List ℕ} {at next : ℕ} (z : ℤ) → nat_abs z < 10 ^ 19 → at + length (signed_digits z) ≤ length b → Put b at (signed_digits z) a next
    → numeral_ends (drop next a) ≡ true → signed_at a at ≡ Some (signed (negative z) (nat_abs z), next)
signed_written_read {b} {a} {at} {next} z small room p ends =
    signed_read a at z (signed_digits z) (drop next a) (signed_numeral z small) (put_here {at = at} room p) ends
    ∙ ap (λ (k : ℕ). Some (signed (negative z) (nat_abs z), k)) (sym (put_room {at = at} room p).1)

-- bytes put where they stand leave the line as it was
stands_put : {Kind : List ℕ → Type 0} {line : List ℕ} {at next : ℕ} (w : Stands Kind line at next) → 1 ≤ length w.bytes → Put line at w.bytes line next
stands_put {Kind} {line} {at} {next} w some =
    let long : length (w.bytes ++ drop next line) ≡ length line - at = ap length (sym w.here) ∙ length-drop at line in
    let room : at + length w.bytes ≤ length line = omega (arith, long, length-append w.bytes (drop next line)) in
    room_put room
    (sym (take-append-drop at line) ∙ ap (λ (r : List ℕ). take at line ++ r) (w.here ∙ ap (λ (k : ℕ). w.bytes ++ drop k line) w.after) ∙ sym (append_assoc (take at line) w.bytes (drop (at + length w.bytes) line)))
    w.after

-- without its `_` a signed numeral is the spelling of its integer
pub signed_ungrouped : (z : ℤ) (s : List ℕ) → SignedNumeral z s → ungrouped s ≡ signed_digits z
unfolding signed_digits
signed_ungrouped (pos n) s m = numeral_ungrouped n s m
signed_ungrouped (negsuc n) s (t, m, e) =
    ap ungrouped e ∙ ungrouped_other 45 t (λ h. omega arith) ∙ ap (λ (x : List ℕ). 45 ∷ x) (numeral_ungrouped (suc n) t m)

-- a signed numeral has at most 26 bytes
pub signed_most : (z : ℤ) (s : List ℕ) → SignedNumeral z s → length s ≤ 26
signed_most (pos n) s m = omega (arith, numeral_most n s m)
signed_most (negsuc n) s (t, m, e) = rw e (omega (arith, numeral_most (suc n) t m))

signed_some : (z : ℤ) → 1 ≤ length (signed_digits z)
unfolding signed_digits
signed_some (pos n) = digits_some n
signed_some (negsuc n) = omega arith

-- what is read without a `_`, written again, gives the bytes that were read
module _ (line : List ℕ) (at next : ℕ) where
  again : {Kind : List ℕ → Type 0} (s : List ℕ) → 1 ≤ length s → (w : Stands Kind line at next) → ungrouped w.bytes ≡ s → carries_underscore w.bytes ≡ false
      → Put line at s line next
  again s some w spelt none =
      let same : w.bytes ≡ s = sym (ungrouped_same w.bytes none) ∙ spelt in
      put_same (stands_put w (rw same some)) same

  pub read_written : (n : ℕ) (e : number_at line at ≡ Some (n, next)) → carries_underscore (read_numeral line at n next e).bytes ≡ false → Put line at (digits n) line next
  read_written n e none =
      let w = read_numeral line at n next e in
      again (digits n) (digits_some n) w (numeral_ungrouped n w.bytes w.kind) none

  pub signed_read_written : (b : Bool) (m : ℕ) (e : signed_at line at ≡ Some (signed b m, next)) → carries_underscore (read_signed line at b m next e).bytes ≡ false
      → Put line at (signed_digits (integer b m)) line next
  signed_read_written b m e none =
      let w = read_signed line at b m next e in
      again (signed_digits (integer b m)) (signed_some (integer b m)) w (signed_ungrouped (integer b m) w.bytes w.kind) none
