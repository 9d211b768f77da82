-- Demand 3: one claim about every list of lines. 'The statement about the two sets now uses these brackets, with the keeper's edges at the last
-- tick' (document 02, order 5): the edges here are the keeper's own, and not those that are told.
use Rattle.std.specs.Prelude.{◌≡◌, true, List, [], ◌∷◌, ◌↔◌, ℕ, ◌+◌, ◌<◌, ℤ, get_or}
use Rattle.moment.specs.Intervals.{Holds}
use Rattle.rules.specs.declared.Rule.TheVariants.{Im, Mm}
use Rattle.keeper.specs.State.{counts_as_started, fresh}
use Rattle.keeper.specs.declared.Keeper.{Keeper}
use Rattle.line.specs.Call.{keeper_after}
use Rattle.history.specs.Log.{Input, Log, log_start, log_after}
use Rattle.history.specs.Course.{no_course, courses_after}
use Rattle.bits.specs.Bits.{bit_of}
use Rattle.bits.specs.Below.{count_below}

-- 'It gets the keeper that the line before it returned or left, the first line a fresh one.'
unfoldable pub keeper_through : Keeper → List Input → Keeper
keeper_through k [] = k
keeper_through k (i ∷ is) = keeper_through (keeper_after k i.line i.room) is

-- The keeper is what the log says, field by field and peer by peer.
pub record IsTheLog (k : Keeper) (l : Log) : Type 0 where
  pub started : k.started ≡ l.state.started
  pub counts : counts_as_started k ≡ l.state.started
  pub board : k.board ≡ l.state.board
  pub rule : k.rule ≡ l.state.rule
  pub claim : k.claim ≡ l.state.claim
  pub edges : k.edges ≡ l.state.edges
  pub ticks : k.ticks ≡ l.state.ticks
  pub requests : k.requests ≡ l.state.requests
  pub conflicts : k.conflicts ≡ l.state.conflicts
  pub waits : (p : ℕ) → p < 16 → bit_of k.waiting p ≡ l.state.waits p
  pub tag : (p : ℕ) → p < 16 → get_or k.tags p 0 ≡ l.state.tag p
  pub sent_at : (p : ℕ) → p < 16 → get_or k.sent_at p 0 ≡ l.state.sent_at p
  pub out : (p : ℕ) → p < 16 → get_or k.out p 0 ≡ l.state.out p
  pub back : (p : ℕ) → p < 16 → get_or k.back p 0 ≡ l.state.back p

-- Of the keeper and the log after the list, and of the moments at which some course stands.
pub record Demand3 (inputs : List Input) : Type 0 where
  pub is_the_log : IsTheLog (keeper_through fresh inputs) (log_after log_start inputs)
  -- requests sent = taken + kept + conflict + dropped + waiting
  pub sum : let l = log_after log_start inputs in
      l.state.requests ≡ l.taken + l.kept + l.state.conflicts + l.dropped + count_below 16 l.state.waits
  -- under im the two sets are equal if and only if the conflict count is 0
  pub im : let k = keeper_through fresh inputs in
      k.started ≡ true → k.rule ≡ Im
      → ((m : ℤ) → Holds k.edges m ↔ courses_after log_start no_course inputs m) ↔ (k.conflicts ≡ 0)
  -- under mm the second set lies in the first
  pub mm : let k = keeper_through fresh inputs in
      k.started ≡ true → k.rule ≡ Mm → (m : ℤ) → courses_after log_start no_course inputs m → Holds k.edges m
