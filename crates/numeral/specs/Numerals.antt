-- Which bytes are a numeral, and of which number: document 01, 'Line forms', and document 02, order 4. Every reader of numerals is proved against
-- these two relations, and a numeral's spelling is known by them alone.
use Rattle.std.specs.Prelude.{◌≡◌, ℕ, suc, ◌≤◌, ◌⊎◌, List, [], ◌∷◌, ◌++◌, length, ℤ, pos, negsuc, slice_index_or}
use Rattle.numeral.specs.Digits.{digits}
use Rattle.numeral.specs.Groups.{underscore, grouped, ungrouped}

-- 'A numeral is 1 to 19 digits, with no leading zero unless it is 0 itself' and 'may now carry `_` between groups of three counted from the right,
-- either at every group or at none': the spelling of a number, plain or in groups. 'The 19-digit limit counts digits only.' That these are the
-- bytes that the sentences describe is `described` of proofs/Numerals.antt.
pub record Numeral (n : ℕ) (s : List ℕ) : Type 0 where
  pub spelling : (s ≡ digits n) ⊎ (s ≡ grouped (digits n))
  pub most : length (digits n) ≤ 19

-- 'and one '-' before it if negative; -0 is no numeral.' (45 is '-'.)
abbrev pub SignedNumeral : ℤ → List ℕ → Type 0
SignedNumeral (pos n) s = Numeral n s
SignedNumeral (negsuc n) s = (m : List ℕ) × Numeral (suc n) m × (s ≡ 45 ∷ m)

-- Document 01's sentence, word by word: digits only, '0' (48) to '9' (57), 1 to 19 of them, and the first is 0 only if it is the one digit.
pub data AllDigits : List ℕ → Type 0 where
  none : AllDigits []
  more : {b : ℕ} {s : List ℕ} → 48 ≤ b → b ≤ 57 → AllDigits s → AllDigits (b ∷ s)

pub record Plain (s : List ℕ) : Type 0 where
  pub all : AllDigits s
  pub some : 1 ≤ length s
  pub most : length s ≤ 19
  pub lead : slice_index_or s 0 0 ≡ 48 → length s ≡ 1

-- Order 4's sentence, word by word: groups of three digits, a `_` before each; with the first group, in which one to three digits are left,
-- they are all the bytes.
pub data Groups : List ℕ → Type 0 where
  end : Groups []
  group : {a b c : ℕ} {s : List ℕ} → AllDigits (a ∷ b ∷ c ∷ []) → Groups s → Groups (underscore ∷ a ∷ b ∷ c ∷ s)

pub record InGroups (s : List ℕ) : Type 0 where
  pub first : List ℕ
  pub rest : List ℕ
  pub whole : s ≡ first ++ rest
  pub all : AllDigits first
  pub some : 1 ≤ length first
  pub most : length first ≤ 3
  pub groups : Groups rest

-- Without its `_` a numeral is what document 01 describes, and it has one at every group or none at all.
pub record Described (s : List ℕ) : Type 0 where
  pub plain : Plain (ungrouped s)
  pub carried : AllDigits s ⊎ InGroups s
