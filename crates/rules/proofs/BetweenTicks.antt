-- What orders 5 and 7 are for, proved: `between_ticks`.
use mathlib.Core.Path.{◌≡◌, refl}
use Prim.Native.Nat.{ℕ, ◌*◌}
use lib.IntN.{ℤ, pos}
use Rattle.moment.specs.Moment.{longest}
use Rattle.moment.specs.Intervals.{Holds}
use Rattle.moment.specs.declared.Interval.{Interval}
use Rattle.moment.proofs.Integers.{ints, sum, dif}
use Rattle.rules.specs.Rules.{bracket, told}
use Rattle.rules.specs.BetweenTicks.{SinceTick, Frame, BetweenTicks}
use Rattle.rules.specs.declared.Rule.{Rule}
use Rattle.rules.specs.declared.Finding.{Finding}
use Rattle.rules.specs.declared.Finding.TheVariants.{Conflict, Taken, Kept}
use Rattle.rules.specs.declared.Verdict.{Verdict}
use Rattle.rules.proofs.Sets.{bracket_moments, told_moments, adopted_holds}
use Rattle.rules.proofs.VerdictLaws.{Sound, judged_sound}

now_told : (claim : ℕ) (edges : Interval) (last now : ℤ) → SinceTick claim last now → Holds edges last → Holds (told claim edges) now
now_told claim edges last now since h =
    (told_moments claim edges now (omega (ints, h.from, h.through))
    ).1
    record {
      moment = last;
      within = h;
      from = omega (ints, since.from, dif last (pos 0));
      through = omega (ints, since.before, since.most, sum last (pos since.tick), sum last (pos (longest claim)));
    }

last_bracketed : (claim w out back : ℕ) (reply : Interval) (asked left last now : ℤ)
    → SinceTick claim last now → Frame claim w out back asked left last now → Holds reply left → Holds (bracket claim w out back reply) last
last_bracketed claim w out back reply asked left last now since frame h =
    (bracket_moments claim w out back reply last (omega (ints, h.from, h.through))
    ).1
    record {
      earliest = left;
      earliest_within = h;
      from = omega (ints, since.before, since.most, frame.back_took, sum last (pos since.tick), sum last (pos (longest claim)), sum left (pos back));
      latest = left;
      latest_within = h;
      through =
          omega (ints, frame.sum, frame.most, frame.from, frame.out_took, frame.answered, sum asked (pos frame.passed), sum frame.sent (pos out), sum last (pos out), sum left (pos (w * longest claim)));
    }

-- a moment that lies in the bracket and in the edges stays within them, whatever the verdict
stays : {rule : Rule} {b edges : Interval} {m : ℤ} → Holds b m → Holds edges m → (v : Verdict) → Sound rule b edges v → (v.finding ≡ Conflict → ⊥) × Holds v.edges m
stays {rule} {b} {edges} {m} h k v s = ((λ c. s.apart c m h k), go v.finding refl)
  where
    go : (f : Finding) → v.finding ≡ f → Holds v.edges m
    go Conflict e = absurd (s.apart e m h k)
    go Taken e = s.within e m h k
    go Kept e = rw (s.kept_stays e) k

pub between_ticks : BetweenTicks
between_ticks =
    record {
      told_holds = now_told;
      bracket_holds = last_bracketed;
      reply_holds = λ rule claim w out back reply edges asked left last now since frame h k.
          stays (last_bracketed claim w out back reply asked left last now since frame h) k _
          (judged_sound (bracket claim w out back reply) _ reply edges (adopted_holds claim w out back reply) rule);
    }
