-- Document 01's thirteen marked examples, as one table: the lines so far, a line, and its answer. 'The run in document 01 is stored anew, and the
-- marked table with it, at claim 200 where it names none' (document 02, order 5): the answers are those that follow now.
use Rattle.std.specs.Prelude.{◌≡◌, List, [], ◌∷◌, ℕ, take}
use Prim.Native.String.{String}
use Rattle.text.specs.Words.{bytes}
use Rattle.keeper.specs.State.{fresh}
use Rattle.keeper.specs.declared.Keeper.{Keeper}
use Rattle.line.specs.Call.{answered, answer_line}

pub record Example : Type 0 where
  pub before : List String
  pub line : String
  pub answer : String

abbrev example : List String → String → String → Example
example before line answer = record { before = before; line = line; answer = answer }

-- The keeper after lines, the oldest first, and the answer to one more.
unfoldable pub keeper_of : Keeper → List String → Keeper
keeper_of k [] = k
keeper_of k (l ∷ ls) = keeper_of (answered k (bytes l)).keeper ls

unfoldable pub answer_of : Example → List ℕ
answer_of e = answer_line (keeper_of fresh e.before) (bytes e.line)

-- 'A whole run': the lines, in order
abbrev whole_run : List String
whole_run =
    "(start 3 im 200 (-1000 1000))"
    ∷ "(pass 10)"
    ∷ "(request 4)"
    ∷ "(pass 5)"
    ∷ "(reply 4 1 (9999000 10001000))"
    ∷ "(reply 4 1 (9999000 10001000))"
    ∷ "(request 4)"
    ∷ "(reply 4 2 (15002001 15002001))"
    ∷ "(read)"
    ∷ "(pass 12x7)"
    ∷ []

-- edges and a request under mm, with no tick since
abbrev mm_run : List String
mm_run = "(start 3 mm 200 (14996000 15004000))" ∷ "(request 4)" ∷ []

abbrev pub examples : List Example
examples =
    example (take 0 whole_run) "(start 3 im 200 (-1000 1000))" "(started 3)"
    ∷ example (take 1 whole_run) "(pass 10)" "(at 10 (9997000 10003000))"
    ∷ example (take 2 whole_run) "(request 4)" "(sent 4 1)"
    ∷ example (take 3 whole_run) "(pass 5)" "(at 15 (14996000 15004000))"
    ∷ example (take 4 whole_run) "(reply 4 1 (9999000 10001000))" "(taken 4 (14996000 15002000))"
    ∷ example (take 5 whole_run) "(reply 4 1 (9999000 10001000))" "(no 7)"
    ∷ example (take 6 whole_run) "(request 4)" "(sent 4 2)"
    ∷ example (take 7 whole_run) "(reply 4 2 (15002001 15002001))" "(taken 4 (14996000 15002000))"
    ∷ example (take 8 whole_run) "(read)" "(time (14996000 16002200) (15499100 503100) 0 0)"
    ∷ example (take 9 whole_run) "(pass 12x7)" "(no 1)"
    ∷ example ("(start 3 im 200 (-5 2))" ∷ []) "(read)" "(time (-5 1000202) (500098 500104) 0 0)"
    ∷ example mm_run "(reply 4 1 (14997000 15005000))" "(kept 4 (14996000 15004000))"
    ∷ example mm_run "(reply 4 1 (14997000 15005001))" "(kept 4 (14996000 15004000))"
    ∷ []

-- The answer of every example is the one in the table.
abbrev pub Answered : List Example → Type 0
Answered [] = Unit {0}
Answered (e ∷ es) = (answer_of e ≡ bytes e.answer) × Answered es
