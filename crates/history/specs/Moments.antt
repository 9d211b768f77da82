-- A course as its list of moments: document 01, 'A course'. It 'follows the same list' of lines, with one moment for each line from the accepted
-- start on; a line before the start has none. What a line is to a course (`event_of`) is worked from the log before that line.
use Rattle.std.specs.Prelude.{◌≡◌, List, [], ◌∷◌, ◌++◌, ◌↔◌, ◌⊎◌, ℕ, ◌+◌, ◌≤◌, ℤ, pos, ◌+ℤ◌, ◌<ℤ◌, length}
use Rattle.moment.specs.Intervals.{Holds}
use Rattle.moment.specs.declared.Interval.{Interval}
use Rattle.history.specs.Log.{Input, Log, log_start, logged, log_after}
use Rattle.history.specs.Course.{Event, began, passed, met, stayed, event_of, no_course, courses_after}

-- 'At the accepted start it is a moment from that line's lower through its upper edge.'
pub data Begins : Event → ℤ → Type 0 where
  within_edges : {edges : Interval} {m : ℤ} → Holds edges m → Begins (began edges) m

-- One step of a course, from its moment x to its moment at the next line. A start is no step: a course begins once.
pub data Step : Event → ℤ → ℤ → Type 0 where
  -- 'At each accepted pass of n it gains a whole number of ns, from n times the shortest tick through n times the longest.'
  gains : {least most : ℕ} {x : ℤ} (d : ℕ) → least ≤ d → d ≤ most → Step (passed least most) x (x +ℤ pos d)
  -- 'At a reply that the log counts as taken or conflict it stays and must lie in that reply's bracket, or it is no course.'
  stays_in_bracket : {bracket : Interval} {x : ℤ} → Holds bracket x → Step (met bracket) x x
  -- 'At every other line, kept and refused ones too, it just stays.'
  just_stays : {x : ℤ} → Step stayed x x

-- From the moment x on, along the lines that follow: a step and a moment for each.
pub data Onward : Log → ℤ → List Input → List ℤ → Type 0 where
  at_end : {l : Log} {x : ℤ} → Onward l x [] []
  next : {l : Log} {x y : ℤ} {i : Input} {is : List Input} {ms : List ℤ} → Step (event_of l.state i) x y → Onward (logged l i) y is ms
      → Onward l x (i ∷ is) (y ∷ ms)

-- A course along a list of lines, the oldest first: the lines before its start, which have no moment; its start; and onward from there.
pub data Course : Log → List Input → List ℤ → Type 0 where
  before_start : {l : Log} {i : Input} {is : List Input} {ms : List ℤ} → Course (logged l i) is ms → Course l (i ∷ is) ms
  at_start : {l : Log} {m : ℤ} {i : Input} {is : List Input} {ms : List ℤ} → Begins (event_of l.state i) m → Onward (logged l i) m is ms
      → Course l (i ∷ is) (m ∷ ms)

-- Some course stands at m after the list: m is the last of its moments.
pub record SomeStandsAt (inputs : List Input) (m : ℤ) : Type 0 where
  pub earlier : List ℤ
  pub course : Course log_start inputs (earlier ++ m ∷ [])

-- ---- What is proved of courses.

-- 'The second set of demand 3 has the moments at which some course stands after the list.'
abbrev pub SecondSet : List Input → Type 0
SecondSet inputs = (m : ℤ) → courses_after log_start no_course inputs m ↔ SomeStandsAt inputs m

-- 'start after a start' is refused, so a list has at most one accepted start: if a course begins at line i, none begins at a later line j.
abbrev pub OneStart : Type 0
OneStart =
    (l : Log) (earlier between : List Input) (i j : Input) (x y : ℤ) → Begins (event_of (log_after l earlier).state i) x
    → Begins (event_of (log_after l (earlier ++ i ∷ between)).state j) y → ⊥

-- So every course begins at that start, and has one moment for each line from it on.
abbrev pub OneForEachLine : Type 0
OneForEachLine =
    (l : Log) (earlier later : List Input) (i : Input) (x : ℤ) (ms : List ℤ) → Begins (event_of (log_after l earlier).state i) x
    → Course l (earlier ++ i ∷ later) ms → length ms ≡ length (i ∷ later)

-- 'A course must now lie in the shifted bracket, and an empty one admits no course' (document 02, order 7): over a line with an empty bracket no
-- course takes a step, from any moment.
abbrev pub EmptyAdmitsNone : Type 0
EmptyAdmitsNone =
    (l : Log) (i : Input) (bracket : Interval) (x y : ℤ) → event_of l.state i ≡ met bracket → bracket.upper <ℤ bracket.lower
    → Step (event_of l.state i) x y → ⊥

-- A line has a bracket in which a course must lie exactly if 'the log counts [it] as taken or conflict'.
abbrev pub BracketIffCounted : Type 0
BracketIffCounted =
    (l : Log) (i : Input) → ((bracket : Interval) × (event_of l.state i ≡ met bracket))
    ↔ (((logged l i).taken ≡ l.taken + 1) ⊎ ((logged l i).state.conflicts ≡ l.state.conflicts + 1))
