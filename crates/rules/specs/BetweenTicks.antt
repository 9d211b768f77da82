-- What orders 5 and 7 of document 02 are for: 'A frame may arrive, or a reading leave, almost a whole tick after the last count', and 'Our longer
-- harness has repeaters that never take less than a known time'. The true time is a whole number of nanoseconds here; `last` is the true time at
-- the keeper's last tick, and `now` the true time at which a reading leaves or a frame arrives.
use Rattle.std.specs.Prelude.{◌≡◌, ℕ, ◌*◌, ◌≤◌, ℤ, pos, ◌+ℤ◌, ◌≤ℤ◌, ◌<ℤ◌}
use Rattle.moment.specs.Moment.{shortest, longest}
use Rattle.moment.specs.Intervals.{Holds}
use Rattle.moment.specs.declared.Interval.{Interval}
use Rattle.rules.specs.Rules.{bracket, outward, told}
use Rattle.rules.specs.Verdict.{judged}
use Rattle.rules.specs.declared.Rule.{Rule}
use Rattle.rules.specs.declared.Finding.TheVariants.{Conflict}

-- Less than one whole tick has passed since the last one, of any length within the claim.
pub record SinceTick (claim : ℕ) (last now : ℤ) : Type 0 where
  pub tick : ℕ
  pub least : shortest claim ≤ tick
  pub most : tick ≤ longest claim
  pub from : last ≤ℤ now
  pub before : now <ℤ (last +ℤ pos tick)

-- A request and the frame that answers it. The request was sent at the true time `sent`, at its tick or after it, reached the peer no less than OUT
-- later, and was answered there at the true time `left`; the answer arrived now, no less than BACK later. From the request's tick, at the true time
-- `asked`, w ticks passed up to the last one, and by the claim they took between w shortest and w longest.
pub record Frame (claim w out back : ℕ) (asked left last now : ℤ) : Type 0 where
  pub passed : ℕ
  pub least : w * shortest claim ≤ passed
  pub most : passed ≤ w * longest claim
  pub sum : last ≡ asked +ℤ pos passed
  pub sent : ℤ
  pub from : asked ≤ℤ sent
  pub reached : ℤ
  pub out_took : (sent +ℤ pos out) ≤ℤ reached
  pub answered : reached ≤ℤ left
  pub back_took : (left +ℤ pos back) ≤ℤ now

pub record BetweenTicks : Type 0 where
  -- if the true time at the last tick lies between the keeper's edges, then it lies between the told edges now
  pub told_holds : (claim : ℕ) (edges : Interval) (last now : ℤ) → SinceTick claim last now → Holds edges last → Holds (told claim edges) now
  -- a frame whose edges held the true time when it left has a bracket that holds the true time at the last tick, if the request and the frame took
  -- no less than the peer's flight times
  pub bracket_holds : (claim w out back : ℕ) (reply : Interval) (asked left last now : ℤ)
      → SinceTick claim last now → Frame claim w out back asked left last now → Holds reply left → Holds (bracket claim w out back reply) last
  -- so, under either rule, it is no conflict with edges that held the true time at the last tick, and the edges after it hold that too
  pub reply_holds : (rule : Rule) (claim w out back : ℕ) (reply edges : Interval) (asked left last now : ℤ)
      → SinceTick claim last now → Frame claim w out back asked left last now → Holds reply left → Holds edges last
      → ((judged rule (bracket claim w out back reply) (outward claim w) reply edges).finding ≡ Conflict → ⊥)
      × Holds (judged rule (bracket claim w out back reply) (outward claim w) reply edges).edges last
