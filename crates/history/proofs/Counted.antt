-- A course must lie in a line's bracket exactly if the log counts the line as taken or conflict.
use mathlib.Core.Path.{◌≡◌, refl}
use mathlib.Core.Logic.{◌↔◌, ◌⊎◌, inl, inr}
use Prim.Native.Nat.{ℕ, ◌+◌}
use native.Mathlib.Omega.{arith}
use Rattle.moment.specs.declared.Interval.{Interval}
use Rattle.rules.specs.declared.Finding.{Finding}
use Rattle.rules.specs.declared.Finding.TheVariants.{Conflict, Taken, Kept}
use Rattle.command.specs.declared.Command.{Command}
use Rattle.command.specs.declared.Command.TheVariants as C
use Rattle.keeper.specs.Refusals.{reply_bracket, reply_verdict}
use Rattle.history.specs.Log.{Log, Accepting, accepts, refuses, accepting, log_started, state_with, log_passed, log_asked, log_ended, log_flight, log_conflicts, log_counted, log_replied, log_accepted, log_by, logged}
use Rattle.history.specs.Course.{Event, began, passed, met, stayed, replied_event, command_event, event_by, event_of}
use Rattle.history.specs.Moments.{BracketIffCounted}

-- of the event of a line, and the counts of taken and conflicts before and after it
abbrev Counted : Event → (taken conflicts taken₁ conflicts₁ : ℕ) → Type 0
Counted e taken conflicts taken₁ conflicts₁ =
    ((bracket : Interval) × (e ≡ met bracket)) ↔ ((taken₁ ≡ taken + 1) ⊎ (conflicts₁ ≡ conflicts + 1))

abbrev CountedBy : Event → Log → Log → Type 0
CountedBy e l r = Counted e l.taken l.state.conflicts r.taken r.state.conflicts

abbrev IsBracket : Event → Type 0
IsBracket (began edges) = ⊥
IsBracket (passed least most) = ⊥
IsBracket (met bracket) = Unit {0}
IsBracket stayed = ⊥

-- no bracket, and neither count moves
neither : {e : Event} {taken conflicts : ℕ} → (IsBracket e → ⊥) → Counted e taken conflicts taken conflicts
neither {taken} {conflicts} none = (λ b. absurd (none (rw b.1 tt)), λ s. absurd (go s))
  where
    go : (taken ≡ taken + 1) ⊎ (conflicts ≡ conflicts + 1) → ⊥
    go (inl h) = omega arith
    go (inr h) = omega arith

finding_counted : (finding : Finding) (l : Log) (peer : ℕ) (b edges : Interval)
    → CountedBy (replied_event finding b) l (log_counted finding l (log_ended l.state peer edges (log_conflicts l.state.conflicts finding)))
unfolding log_ended state_with
finding_counted Conflict l peer b edges = (λ h. inr refl, λ s. (b, refl))
finding_counted Taken l peer b edges = (λ h. inl refl, λ s. (b, refl))
finding_counted Kept l peer b edges = neither (λ n. n)

command_counted : (l : Log) (c : Command) → CountedBy (command_event l.state c) l (log_accepted l c)
unfolding log_accepted log_started state_with log_passed log_asked log_ended log_flight log_replied
command_counted l (C.Start board rule claim edges) = neither (λ n. n)
command_counted l (C.Pass ticks) = neither (λ n. n)
command_counted l (C.Request peer) = neither (λ n. n)
command_counted l (C.Reply peer tag reply) =
    finding_counted (reply_verdict l.state peer reply).finding l peer (reply_bracket l.state peer reply) (reply_verdict l.state peer reply).edges
command_counted l (C.Drop peer) = neither (λ n. n)
command_counted l C.Read = neither (λ n. n)
command_counted l C.Waiting = neither (λ n. n)
command_counted l (C.Window slot start end) = neither (λ n. n)
command_counted l (C.Flight peer out back) = neither (λ n. n)

pub bracket_iff_counted : BracketIffCounted
unfolding event_of logged
bracket_iff_counted l i = go (accepting l.state i)
  where
    go : (a : Accepting) → CountedBy (event_by l.state a) l (log_by l a)
    go (accepts c) = command_counted l c
    go refuses = neither (λ n. n)
