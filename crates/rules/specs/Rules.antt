-- The rules on edges: document 01, 'The calls', from MM-1, MM-2, IM-1 and IM-2 of the report, and document 02, order 5: a frame may arrive, or a
-- reading leave, almost a whole tick after the last count; and order 7: frames that never take less than a known time. A keeper's edges are those
-- at its last tick. All numbers are integers here.
use Rattle.std.specs.Prelude.{Bool, not, eqb, ℕ, ◌+◌, ◌*◌, ℤ, pos, ◌+ℤ◌, ◌-ℤ◌, Result, Ok, Err}
use Rattle.std.specs.Int.Signed.{le_z}
use Rattle.bits.specs.Choice.{choose}
use Rattle.moment.specs.Moment.{shortest, longest, larger_of, smaller_of, floor_half}
use Rattle.moment.specs.Intervals.{interval, share_one}
use Rattle.moment.specs.declared.Interval.{Interval}
use Rattle.refusal.specs.declared.Refusal.{Refusal}
use Rattle.refusal.specs.declared.Refusal.TheVariants.{OutsideLimits}
use Rattle.rules.specs.declared.Rule.{Rule}
use Rattle.rules.specs.declared.Rule.TheVariants.{Im, Mm}

-- Where a rule is a number, in an image and from C, im is 0 and mm is 1.
abbrev pub rule_number : Rule → ℕ
rule_number Im = 0
rule_number Mm = 1

-- The rule that has a number, or 2 where none has it.
abbrev pub rule_numbered : ℕ → Result Rule Refusal
rule_numbered n =
    choose (eqb n (rule_number Im)) (λ _. Ok Im) (λ _. choose (eqb n (rule_number Mm)) (λ _. Ok Mm) (λ _. Err OutsideLimits))

-- 'Pass of n adds n times the shortest tick to the lower edge, n times the longest to the upper' (MM-1 and IM-1)
unfoldable pub widened : ℕ → ℕ → Interval → Interval
widened claim n edges = interval (edges.lower +ℤ pos (n * shortest claim)) (edges.upper +ℤ pos (n * longest claim))

-- 'reply with w above 3600000': the most ticks that a reply may come after its request
abbrev pub longest_wait : ℕ
longest_wait = 3600000

-- 'A bracket begins at TRAILING less one longest tick; its upper end is unchanged' (order 5), which is 'LEADING + w times the longest tick'. w is
-- the ticks since the request was sent. 'A bracket's lower end gains BACK and its upper end loses OUT' (order 7), the flight times of the peer. The
-- lower end may lie below the range, and it may lie above the upper one: then the bracket is empty.
unfoldable pub bracket : ℕ → ℕ → ℕ → ℕ → Interval → Interval
bracket claim w out back reply =
    interval ((reply.lower -ℤ pos (longest claim)) +ℤ pos back) ((reply.upper +ℤ pos (w * longest claim)) -ℤ pos out)

-- 'If the bracket and the keeper's own edges share no moment'
unfoldable pub conflicting : Interval → Interval → Bool
conflicting b edges = not (share_one b edges)

-- 'rule im: the new edges are the larger lower and the smaller upper' (IM-2)
unfoldable pub narrowed : Interval → Interval → Interval
narrowed b edges = interval (larger_of b.lower edges.lower) (smaller_of b.upper edges.upper)

-- What rule mm moves each edge of a reply outward by: 'w times the longest tick' (MM-2), and 'under mm the moves outward and the width test use
-- w + 1 in place of w' (order 5)
unfoldable pub outward : ℕ → ℕ → ℤ
outward claim w = pos ((w + 1) * longest claim)

-- The mm adoption goes by the reply's own edges: 'The mm adoption is unchanged' (order 7).
-- 'rule mm: if LEADING - TRAILING + 2 times w times the longest tick is at most UPPER - LOWER', where the span is that of the ticks (`outward`)
unfoldable pub no_wider : ℤ → Interval → Interval → Bool
no_wider span reply edges = le_z ((reply.upper -ℤ reply.lower) +ℤ (span +ℤ span)) (edges.upper -ℤ edges.lower)

-- 'the new edges are TRAILING and LEADING, each moved outward by w times the longest tick', by the same span
unfoldable pub adopted : ℤ → Interval → Interval
adopted span reply = interval (reply.lower -ℤ span) (reply.upper +ℤ span)

-- The edges that the read line and windows tell: 'UPPER plus one longest tick', and LOWER as it is. 'A told edge may pass the range by that tick.'
unfoldable pub told : ℕ → Interval → Interval
told claim edges = interval edges.lower (edges.upper +ℤ pos (longest claim))

-- 'CENTRE is the sum of the edges divided by 2, rounded toward minus infinity. ERROR is UPPER - CENTRE.' Both are 'worked from the told edges'.
unfoldable pub centre : Interval → ℤ
centre edges = floor_half (edges.lower +ℤ edges.upper)

unfoldable pub error_of : Interval → ℤ
error_of edges = edges.upper -ℤ centre edges
