-- What the verdict on a reply says of widths, of moments and of edges.
use mathlib.Core.Path.{◌≡◌, refl, sym, ap, ◌∙◌}
use mathlib.Core.Bool.{Bool, true, false}
use Prim.Native.Nat.{ℕ}
use native.Mathlib.Omega.{arith}
use borrow.Author.Tests.{not-false}
use lib.IntN.{ℤ, pos, ◌-ℤ◌}
use lib.Signed.{◌≤ℤ◌, ◌<ℤ◌}
use Rattle.bits.specs.Choice.{choose}
use Rattle.bits.proofs.Tests.{by_test}
use Rattle.moment.specs.Intervals.{Holds, both_in_range, edges_within}
use Rattle.moment.specs.declared.Interval.{Interval}
use Rattle.moment.proofs.Integers.{ints}
use Rattle.moment.proofs.Within.{within_range}
use Rattle.rules.specs.Rules.{conflicting, narrowed, outward, no_wider, adopted}
use Rattle.rules.specs.Verdict.{verdict, judged_by, judged, leaves}
use Rattle.rules.specs.declared.Rule.{Rule}
use Rattle.rules.specs.declared.Rule.TheVariants.{Im, Mm}
use Rattle.rules.specs.declared.Finding.TheVariants.{Conflict, Taken, Kept}
use Rattle.rules.specs.declared.Verdict.{Verdict}
use Rattle.rules.proofs.Sets.{none_in_both, met_within, met_reached}
use Rattle.rules.proofs.Limits.{narrowed_within, adopted_within}
use Rattle.rules.proofs.Widths.{narrowed_no_wider, adopted_no_wider, adopted_wider}

-- 'The mm adoption is unchanged' by flight times: of two brackets that do not conflict with the edges, whatever they are, rule mm makes the same, the
-- test of the width and the edges that are adopted alike.
pub adoption_unchanged : (b c : Interval) (span : ℤ) (reply edges : Interval) → conflicting b edges ≡ false → conflicting c edges ≡ false
    → judged Mm b span reply edges ≡ judged Mm c span reply edges
unfolding judged judged_by
adoption_unchanged b c span reply edges d e =
    let by : (x : Interval) → conflicting x edges ≡ false
    → judged Mm x span reply edges ≡ choose (no_wider span reply edges) (λ _. verdict Taken (adopted span reply)) (λ _. verdict Kept edges) =
    λ x h. ap (λ (t : Bool). choose t (λ _. verdict Conflict edges) (λ _. judged_by Mm x span reply edges)) h in
    by b d ∙ sym (by c e)

-- a reply's span is not negative
pub outward_from : (claim w : ℕ) → pos 0 ≤ℤ outward claim w
unfolding outward
outward_from claim w = omega ints

-- The edges after a verdict are no wider than before it, whatever the rule; and a reply that is answered with `kept` would have been wider,
-- moved outward by the same span by which it would have been adopted.
pub record NoWider (span : ℤ) (reply edges : Interval) (v : Verdict) : Type 0 where
  pub after : (v.edges.upper -ℤ v.edges.lower) ≤ℤ (edges.upper -ℤ edges.lower)
  pub kept : v.finding ≡ Kept → (edges.upper -ℤ edges.lower) <ℤ ((adopted span reply).upper -ℤ (adopted span reply).lower)

module _ (b : Interval) (span : ℤ) (reply edges : Interval) where
  -- under mm the test is of the width that would be adopted
  mm_no_wider : (t : Bool) → no_wider span reply edges ≡ t → NoWider span reply edges (choose t (λ _. verdict Taken (adopted span reply)) (λ _. verdict Kept edges))
  mm_no_wider true e = record { after = adopted_no_wider span reply edges e; kept = λ f. absurd (let z : ◌≡◌ {A = ℕ} 0 1 = cc in omega arith) }
  mm_no_wider false e = record { after = omega ints; kept = λ f. adopted_wider span reply edges e }

  rule_no_wider : (rule : Rule) → NoWider span reply edges (judged_by rule b span reply edges)
  unfolding judged_by
  rule_no_wider Im = record { after = narrowed_no_wider b edges; kept = λ f. absurd (let z : ◌≡◌ {A = ℕ} 0 1 = cc in omega arith) }
  rule_no_wider Mm = mm_no_wider (no_wider span reply edges) refl

  pub judged_no_wider : (rule : Rule) → NoWider span reply edges (judged rule b span reply edges)
  unfolding judged
  judged_no_wider rule =
      by_test (conflicting b edges)
      (λ e. rw e (record { after = omega ints; kept = λ f. absurd (let z : ◌≡◌ {A = ℕ} 0 1 = cc in omega arith) }))
      (λ e. rw e (rule_no_wider rule))

-- A verdict on a reply with the bracket, for a keeper with the rule and the edges. In a conflict no moment lies in both. What lies in both is
-- held by edges that are taken; under im they hold nothing else. Else the edges stay; under im nothing is kept.
pub record Sound (rule : Rule) (b edges : Interval) (v : Verdict) : Type 0 where
  pub apart : v.finding ≡ Conflict → (m : ℤ) → Holds b m → Holds edges m → ⊥
  pub within : v.finding ≡ Taken → (m : ℤ) → Holds b m → Holds edges m → Holds v.edges m
  pub reached : v.finding ≡ Taken → rule ≡ Im → (m : ℤ) → Holds v.edges m → Holds b m × Holds edges m
  pub conflict_stays : v.finding ≡ Conflict → v.edges ≡ edges
  pub kept_stays : v.finding ≡ Kept → v.edges ≡ edges
  pub kept_rule : v.finding ≡ Kept → rule ≡ Im → ⊥

module _ (b : Interval) (span : ℤ) (reply edges : Interval) where
  -- the edges moved outward hold all of the bracket
  abbrev pub Covered : Type 0
  Covered = (m : ℤ) → Holds b m → Holds (adopted span reply) m

  conflict_sound : (rule : Rule) → conflicting b edges ≡ true → Sound rule b edges (verdict Conflict edges)
  conflict_sound rule e =
      record {
        apart = λ f m h k. none_in_both b edges m e h k;
        within = λ f. absurd (let z : ◌≡◌ {A = ℕ} 0 1 = cc in omega arith);
        reached = λ f. absurd (let z : ◌≡◌ {A = ℕ} 0 1 = cc in omega arith);
        conflict_stays = λ f. refl;
        kept_stays = λ f. refl;
        kept_rule = λ f. absurd (let z : ◌≡◌ {A = ℕ} 0 1 = cc in omega arith);
      }

  narrowed_sound : Sound Im b edges (verdict Taken (narrowed b edges))
  narrowed_sound =
      record {
        apart = λ f. absurd (let z : ◌≡◌ {A = ℕ} 0 1 = cc in omega arith);
        within = λ f m h k. met_within b edges m k h;
        reached = λ f r m h. met_reached b edges m h;
        conflict_stays = λ f. absurd (let z : ◌≡◌ {A = ℕ} 0 1 = cc in omega arith);
        kept_stays = λ f. absurd (let z : ◌≡◌ {A = ℕ} 0 1 = cc in omega arith);
        kept_rule = λ f. absurd (let z : ◌≡◌ {A = ℕ} 0 1 = cc in omega arith);
      }

  adopted_sound : Covered → Sound Mm b edges (verdict Taken (adopted span reply))
  adopted_sound covered =
      record {
        apart = λ f. absurd (let z : ◌≡◌ {A = ℕ} 0 1 = cc in omega arith);
        within = λ f m h k. covered m h;
        reached = λ f r. absurd (let z : ◌≡◌ {A = ℕ} 0 1 = cc in omega arith);
        conflict_stays = λ f. absurd (let z : ◌≡◌ {A = ℕ} 0 1 = cc in omega arith);
        kept_stays = λ f. absurd (let z : ◌≡◌ {A = ℕ} 0 1 = cc in omega arith);
        kept_rule = λ f. absurd (let z : ◌≡◌ {A = ℕ} 0 1 = cc in omega arith);
      }

  kept_sound : Sound Mm b edges (verdict Kept edges)
  kept_sound =
      record {
        apart = λ f. absurd (let z : ◌≡◌ {A = ℕ} 0 1 = cc in omega arith);
        within = λ f. absurd (let z : ◌≡◌ {A = ℕ} 0 1 = cc in omega arith);
        reached = λ f. absurd (let z : ◌≡◌ {A = ℕ} 0 1 = cc in omega arith);
        conflict_stays = λ f. refl;
        kept_stays = λ f. refl;
        kept_rule = λ f r. let z : ◌≡◌ {A = ℕ} 0 1 = cc in omega arith;
      }

  rule_sound : Covered → (rule : Rule) → Sound rule b edges (judged_by rule b span reply edges)
  unfolding judged_by
  rule_sound covered Im = narrowed_sound
  rule_sound covered Mm = by_test (no_wider span reply edges) (λ e. rw e (adopted_sound covered)) (λ e. rw e kept_sound)

  pub judged_sound : Covered → (rule : Rule) → Sound rule b edges (judged rule b span reply edges)
  unfolding judged
  judged_sound covered rule = by_test (conflicting b edges) (λ e. rw e (conflict_sound rule e)) (λ e. rw e (rule_sound covered rule))

  -- edges of a verdict that does not leave the range are within their limits
  rule_within : pos 0 ≤ℤ span → edges_within reply ≡ true → edges_within edges ≡ true → conflicting b edges ≡ false → (rule : Rule)
      → leaves (judged_by rule b span reply edges) ≡ false → edges_within (judged_by rule b span reply edges).edges ≡ true
  unfolding judged_by leaves
  rule_within h d e apart Im range = narrowed_within b edges e apart
  rule_within h d e apart Mm range = go (no_wider span reply edges) range
    where
      go : (t : Bool) → leaves (choose t (λ _. verdict Taken (adopted span reply)) (λ _. verdict Kept edges)) ≡ false
          → edges_within (choose t (λ _. verdict Taken (adopted span reply)) (λ _. verdict Kept edges)).edges ≡ true
      go true r = adopted_within span reply h d (not-false (both_in_range (adopted span reply)) r)
      go false r = e

  pub judged_within : pos 0 ≤ℤ span → edges_within reply ≡ true → edges_within edges ≡ true → (rule : Rule)
      → leaves (judged rule b span reply edges) ≡ false → edges_within (judged rule b span reply edges).edges ≡ true
  unfolding judged
  judged_within h d e rule range = go (conflicting b edges) refl range
    where
      go : (t : Bool) → conflicting b edges ≡ t
          → leaves (choose t (λ _. verdict Conflict edges) (λ _. judged_by rule b span reply edges)) ≡ false
          → edges_within (choose t (λ _. verdict Conflict edges) (λ _. judged_by rule b span reply edges)).edges ≡ true
      go true c r = e
      go false c r = rule_within h d e c rule r

  -- under im no edges leave the range
  pub im_never_leaves : edges_within edges ≡ true → leaves (judged Im b span reply edges) ≡ false
  unfolding judged judged_by leaves
  im_never_leaves e = go (conflicting b edges) refl
    where
      go : (t : Bool) → conflicting b edges ≡ t
          → leaves (choose t (λ _. verdict Conflict edges) (λ _. judged_by Im b span reply edges)) ≡ false
      go true c = refl
      go false c = rw (within_range (narrowed b edges) (narrowed_within b edges e c))
