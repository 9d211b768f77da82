-- A program that answers lines as their bytes come, in pieces of any lengths, and holds no more of an unfinished line than it needs. It goes
-- in turns: each has the bytes that are left from the turn before and what was read since, answers whole lines, and leaves the rest.
use Rattle.std.specs.Prelude.{◌≡◌, Bool, true, false, List, [], ◌∷◌, ◌++◌, ℕ, suc, ◌<◌, length, take}
use Rattle.lines.specs.Lines.{lf, breaks, joined, lines_of, Unbroken}

-- The state after lines, the oldest first.
unfoldable pub through : {S : Type 0} → (S → List ℕ → S) → S → List (List ℕ) → S
through next s [] = s
through next s (l ∷ ls) = through next (next s l) ls

module _ {S : Type 0} (next : S → List ℕ → S) (answer : S → List ℕ → List ℕ) where
  -- The answers to lines, in turn: each is that in the state which the lines before it left.
  unfoldable pub answers_to : S → List (List ℕ) → List ℕ
  answers_to s [] = []
  answers_to s (l ∷ ls) = answer s l ++ answers_to (next s l) ls

  -- One turn over bytes: the lines answered are those at the front, each ended by its LF; `o` was written. Where the output had no room left
  -- for one more answer (`full`), a line was answered, and a whole line is left with all that follows it. Otherwise no LF is left, and of
  -- the unfinished line at most `most` bytes and one more are held.
  pub record Turn (most : ℕ) (s : S) (bytes : List ℕ) (s' : S) (left o : List ℕ) (full : Bool) : Type 0 where
    pub lines : List (List ℕ)
    pub rest : List ℕ
    pub bytes_are : bytes ≡ joined lines ++ rest
    pub whole : Unbroken lines
    pub state_is : s' ≡ through next s lines
    pub answers : o ≡ answers_to s lines
    pub more : full ≡ true → (left ≡ rest) × (0 < breaks rest) × (0 < length lines)
    pub held : full ≡ false → (left ≡ take (suc most) rest) × (breaks rest ≡ 0)

-- What was read before a turn, which may be nothing, and what the turn wrote.
pub record Step : Type 0 where
  pub got : List ℕ
  pub wrote : List ℕ

abbrev pub all_got : List Step → List ℕ
all_got [] = []
all_got (x ∷ xs) = x.got ++ all_got xs

abbrev pub all_written : List Step → List ℕ
all_written [] = []
all_written (x ∷ xs) = x.wrote ++ all_written xs

-- The end of the input: an LF is put behind a line that is not whole; there is no line where nothing is left.
abbrev pub ending : List ℕ → List ℕ
ending [] = []
ending (b ∷ bs) = lf ∷ []

module _ {S : Type 0} (next : S → List ℕ → S) (answer : S → List ℕ → List ℕ) (most : ℕ) where
  -- Turns one after the other: each has what the one before it left, and what was read.
  abbrev pub Turns : S → List ℕ → Bool → List Step → S → List ℕ → Bool → Type 0
  Turns s left full [] s' left' full' = (s' ≡ s) × (left' ≡ left) × (full' ≡ full)
  Turns s left full (x ∷ xs) s' left' full' =
      (s₁ : S) × (left₁ : List ℕ) × (full₁ : Bool)
      × Turn next answer most s (left ++ x.got) s₁ left₁ x.wrote full₁
      × Turns s₁ left₁ full₁ xs s' left' full'

  -- A whole run from a state: the turns, and one more when the input has ended, which is seen only where no whole line waits.
  pub record Ran (s : S) (steps : List Step) (last : List ℕ) (s' : S) : Type 0 where
    pub before : S
    pub left : List ℕ
    pub turns : Turns s [] false steps before left false
    pub after : List ℕ
    pub full : Bool
    pub ended : Turn next answer most before (left ++ ending left) s' after last full

  -- Every two lines of more than `most` bytes are answered alike and leave the same state.
  abbrev pub LongAlike : Type 0
  LongAlike = (s : S) (a b : List ℕ) → most < length a → most < length b → (next s a ≡ next s b) × (answer s a ≡ answer s b)

  -- However the input was cut into reads: what was written is the answers to the lines of the input, in turn, and the state is that of the
  -- lines.
  pub record AnswersTheInput (s : S) (steps : List Step) (last : List ℕ) (s' : S) : Type 0 where
    pub written : all_written steps ++ last ≡ answers_to next answer s (lines_of (all_got steps))
    pub state : s' ≡ through next s (lines_of (all_got steps))
