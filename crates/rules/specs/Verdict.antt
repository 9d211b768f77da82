-- What a reply comes to: document 01, 'Reply'; orders 5 and 7 of document 02 are in the bracket and the span that are handed in. One definition, by
-- which the causes of a refusal, what an accepted reply does, the log and courses go.
use Rattle.std.specs.Prelude.{Bool, true, false, not, ◌&&◌, ℕ, ◌+◌, ℤ}
use Rattle.bits.specs.Choice.{choose}
use Rattle.moment.specs.Intervals.{both_in_range}
use Rattle.moment.specs.declared.Interval.{Interval}
use Rattle.rules.specs.Rules.{conflicting, narrowed, no_wider, adopted}
use Rattle.rules.specs.declared.Rule.{Rule}
use Rattle.rules.specs.declared.Rule.TheVariants.{Im, Mm}
use Rattle.rules.specs.declared.Finding.{Finding}
use Rattle.rules.specs.declared.Finding.TheVariants.{Conflict, Taken, Kept}
use Rattle.rules.specs.declared.Verdict.{Verdict}

abbrev pub verdict : Finding → Interval → Verdict
verdict finding edges = record { finding = finding; edges = edges }

-- 'rule im: the new edges are the larger lower and the smaller upper', and the word is `taken`. 'rule mm: if LEADING - TRAILING + 2 times w times
-- the longest tick is at most UPPER - LOWER, the new edges are TRAILING and LEADING, each moved outward', and the word is `taken`; if it is
-- wider, nothing moves and the word is `kept`.
unfoldable pub judged_by : Rule → Interval → ℤ → Interval → Interval → Verdict
judged_by Im b span reply edges = verdict Taken (narrowed b edges)
judged_by Mm b span reply edges =
    choose (no_wider span reply edges) (λ _. verdict Taken (adopted span reply)) (λ _. verdict Kept edges)

-- The verdict on a reply, from the rule, the reply's bracket, the span that its edges are moved outward by, its edges, and the keeper's. If the
-- bracket and the keeper's edges share no moment it is a conflict, whatever the rule, and 'the edges stay'; an empty bracket shares none with any
-- edges, so 'a bracket left empty is a conflict' (order 7).
unfoldable pub judged : Rule → Interval → ℤ → Interval → Interval → Verdict
judged rule b span reply edges =
    choose (conflicting b edges) (λ _. verdict Conflict edges) (λ _. judged_by rule b span reply edges)

abbrev pub is_taken : Finding → Bool
is_taken Conflict = false
is_taken Taken = true
is_taken Kept = false

-- 'the conflict count rises by 1' at a conflict, whatever it was, and at no other reply.
abbrev pub conflicts_after : ℕ → Finding → ℕ
conflicts_after conflicts Conflict = conflicts + 1
conflicts_after conflicts Taken = conflicts
conflicts_after conflicts Kept = conflicts

-- Refusal 5 of a reply: edges that would be taken leave the range. Only an adoption by rule mm can do so: `im_never_leaves` proves that under
-- im no verdict on edges within the range does.
unfoldable pub leaves : Verdict → Bool
leaves v = is_taken v.finding && not (both_in_range v.edges)
