-- The set that demand 3 uses is the set of the moments at which some course stands; and an empty bracket admits no course.
use mathlib.Core.Path.{◌≡◌, refl, sym, ap, subst}
use mathlib.Core.List.{List, [], ◌∷◌, ◌++◌}
use mathlib.Core.Logic.{◌⊎◌, inl, inr}
use lib.IntN.{ℤ}
use Rattle.moment.specs.Intervals.{Holds}
use Rattle.moment.specs.declared.Interval.{Interval}
use Rattle.moment.proofs.IntervalLaws.{disordered}
use Rattle.history.specs.Log.{Input, Log, log_start, logged}
use Rattle.history.specs.Course.{Event, began, passed, met, stayed, event_of, advanced, no_course, courses_after}
use Rattle.history.specs.Moments.{Begins, within_edges, Step, gains, stays_in_bracket, just_stays, Onward, at_end, next, Course, before_start, at_start, SomeStandsAt, SecondSet, EmptyAdmitsNone}

-- the last of a list of moments, or x if it has none
abbrev last_of : ℤ → List ℤ → ℤ
last_of x [] = x
last_of x (m ∷ ms) = last_of m ms

last_is : (x : ℤ) (earlier : List ℤ) (m : ℤ) → last_of x (earlier ++ m ∷ []) ≡ m
last_is x [] m = refl
last_is x (y ∷ ys) m = last_is y ys m

up_to_last : (x : ℤ) (ms : List ℤ) → (earlier : List ℤ) × (x ∷ ms ≡ earlier ++ last_of x ms ∷ [])
up_to_last x [] = ([], refl)
up_to_last x (m ∷ ms) = let r = up_to_last m ms in (x ∷ r.0, ap (λ (t : List ℤ). x ∷ t) r.1)

-- ---- a course stands at a moment of the set

begins_in : {e : Event} {m : ℤ} (before : ℤ → Type 0) → Begins e m → advanced e before m
begins_in before (within_edges h) = h

step_in : {e : Event} {x y : ℤ} (before : ℤ → Type 0) → Step e x y → before x → advanced e before y
step_in {x} before (gains d least most) s = (x, d, s, least, most, refl)
step_in before (stays_in_bracket h) s = (s, h)
step_in before just_stays s = s

onward_in : {l : Log} {x : ℤ} {is : List Input} {ms : List ℤ} (before : ℤ → Type 0) → Onward l x is ms → before x
    → courses_after l before is (last_of x ms)
onward_in before at_end s = s
onward_in before (next {l} {i} step rest) s = onward_in (advanced (event_of l.state i) before) rest (step_in before step s)

course_in : {l : Log} {is : List Input} {ms : List ℤ} (x : ℤ) (before : ℤ → Type 0) → Course l is ms → courses_after l before is (last_of x ms)
course_in x before (before_start {l} {i} rest) = course_in x (advanced (event_of l.state i) before) rest
course_in x before (at_start {l} {i} begins rest) = onward_in (advanced (event_of l.state i) before) rest (begins_in before begins)

-- ---- at each moment of the set some course stands

-- from the moment x on, and at m after the lines
record Reaches (l : Log) (x : ℤ) (is : List Input) (m : ℤ) : Type 0 where
  later : List ℤ
  onward : Onward l x is later
  last : last_of x later ≡ m

-- a course that begins at one of the lines, and stands at m after them
record Arrives (l : Log) (is : List Input) (m : ℤ) : Type 0 where
  first : ℤ
  later : List ℤ
  course : Course l is (first ∷ later)
  last : last_of first later ≡ m

-- at a moment that the event leaves in the set, a course begins, or it comes there by a step
came : {e : Event} {y : ℤ} (before : ℤ → Type 0) → advanced e before y → (Begins e y) ⊎ ((x : ℤ) × before x × Step e x y)
came {e} {y} before s = go e s
  where
    go : (e : Event) → advanced e before y → (Begins e y) ⊎ ((x : ℤ) × before x × Step e x y)
    go (began edges) h = inl (within_edges h)
    go (passed least most) h = inr (h.0, h.2, subst (λ (z : ℤ). Step (passed least most) h.0 z) (sym h.5) (gains h.1 h.3 h.4))
    go (met bracket) h = inr (y, h.0, stays_in_bracket h.1)
    go stayed h = inr (y, h, just_stays)

-- a course that stands at m after the lines has begun at one of them, or goes on from a moment at which one stood before
found : (l : Log) (before : ℤ → Type 0) (is : List Input) (m : ℤ) → courses_after l before is m
    → (Arrives l is m) ⊎ ((x : ℤ) × before x × Reaches l x is m)
found l before [] m s = inr (m, s, record { later = []; onward = at_end; last = refl })
found l before (i ∷ is) m s = go (found (logged l i) (advanced (event_of l.state i) before) is m s)
  where
    begun : (y : ℤ) → Reaches (logged l i) y is m → (Begins (event_of l.state i) y) ⊎ ((x : ℤ) × before x × Step (event_of l.state i) x y)
        → (Arrives l (i ∷ is) m) ⊎ ((x : ℤ) × before x × Reaches l x (i ∷ is) m)
    begun y r (inl b) = inl (record { first = y; later = r.later; course = at_start b r.onward; last = r.last })
    begun y r (inr s) = inr (s.0, s.1, record { later = y ∷ r.later; onward = next s.2 r.onward; last = r.last })

    go : (Arrives (logged l i) is m) ⊎ ((y : ℤ) × advanced (event_of l.state i) before y × Reaches (logged l i) y is m)
        → (Arrives l (i ∷ is) m) ⊎ ((x : ℤ) × before x × Reaches l x (i ∷ is) m)
    go (inl a) = inl (record { first = a.first; later = a.later; course = before_start a.course; last = a.last })
    go (inr a) = begun a.0 a.2 (came before a.1)

-- its moments, with m written as the last of them
stands : (inputs : List Input) (m : ℤ) → Arrives log_start inputs m → SomeStandsAt inputs m
stands inputs m a =
    let split = up_to_last a.first a.later in
    record {
      earlier = split.0;
      course =
          subst (λ (z : ℤ). Course log_start inputs (split.0 ++ z ∷ [])) a.last
          (subst (λ (ms : List ℤ). Course log_start inputs ms) split.1 a.course);
    }

pub second_set : (inputs : List Input) → SecondSet inputs
second_set inputs m = (λ s. go (found log_start no_course inputs m s), back)
  where
    go : (Arrives log_start inputs m) ⊎ ((x : ℤ) × no_course x × Reaches log_start x inputs m) → SomeStandsAt inputs m
    go (inl a) = stands inputs m a
    go (inr a) = absurd a.1

    back : SomeStandsAt inputs m → courses_after log_start no_course inputs m
    back c = subst (λ (z : ℤ). courses_after log_start no_course inputs z) (last_is m c.earlier m) (course_in m no_course c.course)

-- where a line has a bracket, a course steps over it only from a moment of the bracket
step_held : {bracket : Interval} {x y : ℤ} → Step (met bracket) x y → Holds bracket x
step_held (stays_in_bracket h) = h

-- in an empty bracket no moment lies
pub empty_admits_none : EmptyAdmitsNone
empty_admits_none l i bracket x y e empty step = disordered bracket x empty (step_held (subst (λ (v : Event). Step v x y) e step))
