-- The rules as sets of moments: what a pass makes of the moments within the edges, what a reply leaves of them, and what is told of them. Demand
-- 3 rests on these laws.
use mathlib.Core.Path.{◌≡◌, ap}
use mathlib.Core.Bool.{true, false, not}
use mathlib.Core.Logic.{◌↔◌}
use Prim.Native.Nat.{ℕ, ◌+◌, ◌-◌, ◌*◌, ◌≤◌, max}
use native.Mathlib.Nat.{mul-le-mul_left}
use native.Mathlib.Omega.{arith}
use borrow.Author.Tests.{not-true}
use lib.IntN.{ℤ, pos, ◌+ℤ◌, ◌-ℤ◌}
use lib.Signed.{◌≤ℤ◌, ◌<ℤ◌}
use Rattle.moment.specs.Moment.{shortest, longest, larger_of, smaller_of}
use Rattle.moment.specs.declared.Interval.{Interval}
use Rattle.moment.proofs.Integers.{ints, up, dn, sum, dif, max_is, min_is}
use Rattle.moment.proofs.IntervalLaws.{meet, share_made, disordered_first}
use Rattle.bits.proofs.Tests.{clash}
use Rattle.rules.specs.Rules.{widened, bracket, conflicting, narrowed, outward, adopted, told}
use Rattle.moment.specs.Intervals.{interval, Holds, share_one}

-- a tick's shortest length is at most its longest, and so are those of n ticks
pub ticks_apart : (claim n : ℕ) → n * shortest claim ≤ n * longest claim
ticks_apart claim n = mul-le-mul_left n (omega arith)

-- the ticks of a wait and one more
pub one_more : (claim w : ℕ) → (w + 1) * longest claim ≡ w * longest claim + longest claim
one_more claim w = omega arith

-- a course that was within the edges is within those of a pass
pub passed_within : (claim n : ℕ) (edges : Interval) (x m : ℤ) (d : ℕ) → Holds edges x → n * shortest claim ≤ d → d ≤ n * longest claim → m ≡ x +ℤ pos d → Holds (widened claim n edges) m
unfolding widened
passed_within claim n edges x m d h least most e =
    omega (ints, sum edges.lower (pos (n * shortest claim)), sum edges.upper (pos (n * longest claim)), sum x (pos d))

-- Where a course came from that stands within the edges after a pass: a moment of the edges before it, and what it gained.
pub record Reached (edges : Interval) (least most : ℕ) (m : ℤ) : Type 0 where
  pub moment : ℤ
  pub gained : ℕ
  pub within : Holds edges moment
  pub least_gained : least ≤ gained
  pub most_gained : gained ≤ most
  pub sum : m ≡ moment +ℤ pos gained

-- It gained the least, or more if it would have been past the upper edge.
pub passed_reached : (claim n : ℕ) (edges : Interval) (m : ℤ) → edges.lower ≤ℤ edges.upper → Holds (widened claim n edges) m → Reached edges (n * shortest claim) (n * longest claim) m
unfolding widened
passed_reached claim n edges m order h =
    let past = m -ℤ edges.upper in
    let over : ℕ = max (n * shortest claim) (up past - dn past) in
    let spans = ticks_apart claim n in
    let lower = sum edges.lower (pos (n * shortest claim)) in
    let upper = sum edges.upper (pos (n * longest claim)) in
    let by = dif m edges.upper in
    let from = dif m (pos over) in
    record {
      moment = m -ℤ pos over;
      gained = over;
      within = omega ints;
      least_gained = omega arith;
      most_gained = omega ints;
      sum = omega (ints, sum (m -ℤ pos over) (pos over));
    }

-- A moment that lies, from some moment of the interval, at most so many nanoseconds before or after it.
pub record Near (i : Interval) (before after : ℕ) (m : ℤ) : Type 0 where
  pub moment : ℤ
  pub within : Holds i moment
  pub from : (moment -ℤ pos before) ≤ℤ m
  pub through : m ≤ℤ (moment +ℤ pos after)

-- An interval moved outward by these holds those moments and no other. The moment that one is near to is itself, or the edge that it lies beyond.
module _ (i : Interval) (before after : ℕ) (m : ℤ) where
  abbrev nearest : ℤ
  nearest = smaller_of i.upper (larger_of i.lower m)

  abbrev moved : Interval
  moved = interval (i.lower -ℤ pos before) (i.upper +ℤ pos after)

  near_reached : i.lower ≤ℤ i.upper → Holds moved m → Near i before after m
  near_reached order h =
      let high = max_is i.lower m in
      let low = min_is i.upper (larger_of i.lower m) in
      let least = dif i.lower (pos before) in
      let most = sum i.upper (pos after) in
      record {
        moment = nearest;
        within = omega ints;
        from = omega (ints, dif nearest (pos before));
        through = omega (ints, sum nearest (pos after));
      }

  near_within : Near i before after m → Holds moved m
  near_within c =
      omega (ints, c.within, c.from, c.through, dif i.lower (pos before), sum i.upper (pos after), dif c.moment (pos before), sum c.moment (pos after))

-- The bracket holds the moments that come no earlier than BACK less one longest tick after some moment of the reply's edges, and no later than w
-- longest ticks less OUT after some moment of them, and no other.
pub record Bracketed (claim w out back : ℕ) (reply : Interval) (m : ℤ) : Type 0 where
  pub earliest : ℤ
  pub earliest_within : Holds reply earliest
  pub from : (earliest +ℤ pos back) ≤ℤ (m +ℤ pos (longest claim))
  pub latest : ℤ
  pub latest_within : Holds reply latest
  pub through : (m +ℤ pos out) ≤ℤ (latest +ℤ pos (w * longest claim))

module _ (claim w out back : ℕ) (reply : Interval) (m : ℤ) (order : reply.lower ≤ℤ reply.upper) where
  bracket_reached : Holds (bracket claim w out back reply) m → Bracketed claim w out back reply m
  unfolding bracket
  bracket_reached h =
      let tick = dif reply.lower (pos (longest claim)) in
      let wait = sum reply.upper (pos (w * longest claim)) in
      let lower = sum (reply.lower -ℤ pos (longest claim)) (pos back) in
      let upper = dif (reply.upper +ℤ pos (w * longest claim)) (pos out) in
      record {
        earliest = reply.lower;
        earliest_within = omega ints;
        from = omega (ints, sum reply.lower (pos back), sum m (pos (longest claim)));
        latest = reply.upper;
        latest_within = omega ints;
        through = omega (ints, sum m (pos out), wait);
      }

  bracket_within : Bracketed claim w out back reply m → Holds (bracket claim w out back reply) m
  unfolding bracket
  bracket_within c =
      let tick = dif reply.lower (pos (longest claim)) in
      let wait = sum reply.upper (pos (w * longest claim)) in
      let lower = sum (reply.lower -ℤ pos (longest claim)) (pos back) in
      let upper = dif (reply.upper +ℤ pos (w * longest claim)) (pos out) in
      record {
        from = omega (ints, c.earliest_within, c.from, sum c.earliest (pos back), sum m (pos (longest claim)));
        through = omega (ints, c.latest_within, c.through, sum m (pos out), sum c.latest (pos (w * longest claim)));
      }

  pub bracket_moments : Holds (bracket claim w out back reply) m ↔ Bracketed claim w out back reply m
  bracket_moments = (bracket_reached, bracket_within)

-- The told edges hold the moments from one of the edges through one longest tick after it, and no other.
pub told_moments : (claim : ℕ) (edges : Interval) (m : ℤ) → edges.lower ≤ℤ edges.upper → Holds (told claim edges) m ↔ Near edges 0 (longest claim) m
unfolding told
told_moments claim edges m order =
    let none = dif edges.lower (pos 0) in (
      λ h. near_reached edges 0 (longest claim) m order (record { from = omega ints; through = h.through }),
      λ c. (let h = near_within edges 0 (longest claim) m c in record { from = omega (ints, h.from); through = h.through }),
    )

-- 'a bracket left empty is a conflict', whatever the edges are (order 7)
pub empty_conflicts : (b edges : Interval) → b.upper <ℤ b.lower → conflicting b edges ≡ true
unfolding conflicting
empty_conflicts b edges empty = ap not (disordered_first b edges empty)

-- nothing lies in a bracket and in edges that conflict with it
pub none_in_both : (b edges : Interval) (m : ℤ) → conflicting b edges ≡ true → Holds b m → Holds edges m → ⊥
unfolding conflicting
none_in_both b edges m e h k =
    let apart : share_one b edges ≡ false = not-true (share_one b edges) e in
    let shared = share_made b edges (record { moment = m; first = h; second = k }) in
    clash shared apart

-- under im the new edges hold what lies in the bracket and in the edges, and nothing else
pub met_reached : (b edges : Interval) (m : ℤ) → Holds (narrowed b edges) m → Holds b m × Holds edges m
unfolding narrowed
met_reached b edges m h = (meet b edges m).1 h

pub met_within : (b edges : Interval) (m : ℤ) → Holds edges m → Holds b m → Holds (narrowed b edges) m
unfolding narrowed
met_within b edges m h k = (meet b edges m).0 (k, h)

-- Under mm the new edges hold the moments from w + 1 longest ticks before a moment of the reply's edges through as many after one, and no other.
pub adopted_moments : (claim w : ℕ) (reply : Interval) (m : ℤ) → reply.lower ≤ℤ reply.upper
    → Holds (adopted (outward claim w) reply) m ↔ Near reply ((w + 1) * longest claim) ((w + 1) * longest claim) m
unfolding adopted outward
adopted_moments claim w reply m order =
    let all = (w + 1) * longest claim in
    (near_reached reply all all m order, near_within reply all all m)

-- So they hold the whole bracket.
pub adopted_holds : (claim w out back : ℕ) (reply : Interval) (m : ℤ) → Holds (bracket claim w out back reply) m → Holds (adopted (outward claim w) reply) m
unfolding bracket adopted outward
adopted_holds claim w out back reply m h =
    let all = (w + 1) * longest claim in
    let lower = sum (reply.lower -ℤ pos (longest claim)) (pos back) in
    let upper = dif (reply.upper +ℤ pos (w * longest claim)) (pos out) in
    omega (ints, h.from, h.through, one_more claim w, dif reply.lower (pos (longest claim)), sum reply.upper (pos (w * longest claim)), dif reply.lower (pos all), sum reply.upper (pos all))
