-- The rules keep edges in order and in the range.
use mathlib.Core.Path.{◌≡◌}
use mathlib.Core.Bool.{true, false}
use Prim.Native.Nat.{ℕ, ◌*◌, ◌≤◌}
use borrow.Author.Tests.{not-false}
use lib.IntN.{ℤ, pos}
use lib.Signed.{◌≤ℤ◌}
use Rattle.moment.specs.Moment.{shortest, longest}
use Rattle.moment.specs.Intervals.{share_one, both_in_range, edges_within}
use Rattle.moment.specs.declared.Interval.{Interval}
use Rattle.moment.proofs.Integers.{ints, sum, dif, max_is, min_is}
use Rattle.moment.proofs.Within.{within_read, within_made, ordered_within}
use Rattle.rules.specs.Rules.{widened, conflicting, narrowed, adopted, told}
use Rattle.rules.proofs.Sets.{ticks_apart}

pub widened_within : (claim n : ℕ) (edges : Interval) → claim ≤ 50000 → edges_within edges ≡ true → both_in_range (widened claim n edges) ≡ true → edges_within (widened claim n edges) ≡ true
unfolding widened
widened_within claim n edges h e range =
    let old = within_read edges e in
    ordered_within (widened claim n edges) range
    (omega (ints, ticks_apart claim n, sum edges.lower (pos (n * shortest claim)), sum edges.upper (pos (n * longest claim))))

-- whatever the bracket is
pub narrowed_within : (b edges : Interval) → edges_within edges ≡ true → conflicting b edges ≡ false → edges_within (narrowed b edges) ≡ true
unfolding narrowed conflicting share_one
narrowed_within b edges e apart =
    let ours = within_read edges e in
    let order = not-false (share_one b edges) apart in
    within_made
    (omega (ints, max_is b.lower edges.lower, min_is b.upper edges.upper))

pub adopted_within : (span : ℤ) (reply : Interval) → pos 0 ≤ℤ span → edges_within reply ≡ true → both_in_range (adopted span reply) ≡ true → edges_within (adopted span reply) ≡ true
unfolding adopted
adopted_within span reply h e range =
    let theirs = within_read reply e in
    ordered_within (adopted span reply) range (omega (ints, dif reply.lower span, sum reply.upper span))

-- the told edges are in order too; their upper one may be past the range
pub told_order : (claim : ℕ) (edges : Interval) → edges.lower ≤ℤ edges.upper → (told claim edges).lower ≤ℤ (told claim edges).upper
unfolding told
told_order claim edges order = omega (ints, sum edges.upper (pos (longest claim)))
