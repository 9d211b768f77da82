-- Laws of groups: what is left without the `_`, and where `grouped` sets them.
use Rattle.std.proofs.Common.{◌≡◌, ℕ, zero, suc, ◌+◌, ◌-◌, ◌*◌, ◌/◌, ◌%◌, ◌≤◌, Bool, true, false, eqb, List, [], ◌∷◌, ◌++◌, length, take, drop, sym, refl, ap, ◌∙◌, subst, arith, length-append, length-drop, take-append-drop, length-take-le, eq-eqb, ne_eqb, eqb-true}
use borrow.Author.Tests.{eqb-false}
use Rattle.bits.specs.Choice.{choose}
use Rattle.bits.proofs.Tests.{neither}
use Rattle.numeral.specs.Groups.{underscore, grouped, ungrouped, carries_underscore}
use Rattle.numeral.specs.Numerals.{AllDigits, none, more, Groups, end, group, InGroups}

-- ---- bytes without their `_`

pub ungrouped_append : (s t : List ℕ) → ungrouped (s ++ t) ≡ ungrouped s ++ ungrouped t
unfolding ungrouped
ungrouped_append [] t = refl
ungrouped_append (b ∷ s) t = go (eqb b underscore) (ungrouped_append s t)
  where
    go : (u : Bool) → ungrouped (s ++ t) ≡ ungrouped s ++ ungrouped t → choose u (λ _. ungrouped (s ++ t)) (λ _. b ∷ ungrouped (s ++ t)) ≡ choose u (λ _. ungrouped s) (λ _. b ∷ ungrouped s) ++ ungrouped t
    go true e = e
    go false e = ap (λ (x : List ℕ). b ∷ x) e

-- another byte stays
pub ungrouped_other : (b : ℕ) (s : List ℕ) → (b ≡ underscore → ⊥) → ungrouped (b ∷ s) ≡ b ∷ ungrouped s
unfolding ungrouped
ungrouped_other b s h = rw (ne_eqb b underscore h)

pub ungrouped_underscore : (s : List ℕ) → ungrouped (underscore ∷ s) ≡ ungrouped s
unfolding ungrouped
ungrouped_underscore s = refl

pub ungrouped_digits : {s : List ℕ} → AllDigits s → ungrouped s ≡ s
unfolding ungrouped
ungrouped_digits none = refl
ungrouped_digits (more {b = b} {s = s} low high r) = ungrouped_other b s (λ e. omega arith) ∙ ap (λ (x : List ℕ). b ∷ x) (ungrouped_digits r)

pub ungrouped_group : {a b c : ℕ} (s : List ℕ) → AllDigits (a ∷ b ∷ c ∷ []) → ungrouped (underscore ∷ a ∷ b ∷ c ∷ s) ≡ a ∷ b ∷ c ∷ ungrouped s
ungrouped_group {a} {b} {c} s (more p q (more u v (more x y none))) =
    ungrouped_underscore (a ∷ b ∷ c ∷ s)
    ∙ ungrouped_other a (b ∷ c ∷ s) (λ e. omega arith)
    ∙ ap (λ (t : List ℕ). a ∷ t) (ungrouped_other b (c ∷ s) (λ e. omega arith) ∙ ap (λ (t : List ℕ). b ∷ t) (ungrouped_other c s (λ e. omega arith)))

-- bytes that carry none stay as they are
pub ungrouped_same : (s : List ℕ) → carries_underscore s ≡ false → ungrouped s ≡ s
unfolding ungrouped carries_underscore
ungrouped_same [] e = refl
ungrouped_same (b ∷ s) e = let (this, others) = neither (eqb b underscore) (carries_underscore s) e in rw this (ap (λ (x : List ℕ). b ∷ x) (ungrouped_same s others))

-- ---- digits in groups

pub grouped_short : (s : List ℕ) → length s ≤ 3 → grouped s ≡ s
unfolding grouped
grouped_short [] h = refl
grouped_short (a ∷ []) h = refl
grouped_short (a ∷ b ∷ []) h = refl
grouped_short (a ∷ b ∷ c ∷ []) h = refl
grouped_short (a ∷ b ∷ c ∷ d ∷ s) h = absurd (omega arith)

-- what follows digits that have a number of digits behind them that three divides
abbrev behind : List ℕ → List ℕ
behind [] = []
behind (b ∷ s) = underscore ∷ grouped (b ∷ s)

grouped_more : (s t : List ℕ) → 1 ≤ length s → length t % 3 ≡ 0 → grouped (s ++ t) ≡ grouped s ++ behind t
unfolding grouped
grouped_more [] t h e = absurd (omega arith)
grouped_more (b ∷ []) [] h e = refl
grouped_more (b ∷ []) (c ∷ t) h e = rw (eq-eqb (length (c ∷ t) % 3) 0 e)
grouped_more (b ∷ c ∷ s) t h e =
    let alike : length (c ∷ (s ++ t)) % 3 ≡ length (c ∷ s) % 3 = omega (arith, length-append s t, e) in
    rw alike (go (eqb (length (c ∷ s) % 3) 0) (grouped_more (c ∷ s) t (omega arith) e))
  where
    go : (u : Bool) → grouped (c ∷ (s ++ t)) ≡ grouped (c ∷ s) ++ behind t
        → b ∷ choose u (λ _. underscore ∷ grouped (c ∷ (s ++ t))) (λ _. grouped (c ∷ (s ++ t)))
        ≡ b ∷ (choose u (λ _. underscore ∷ grouped (c ∷ s)) (λ _. grouped (c ∷ s)) ++ behind t)
    go true r = ap (λ (x : List ℕ). b ∷ underscore ∷ x) r
    go false r = ap (λ (x : List ℕ). b ∷ x) r

-- groups have three digits each
groups_length : {g : List ℕ} → Groups g → length (ungrouped g) % 3 ≡ 0
unfolding ungrouped
groups_length end = refl
groups_length (group {s = s} a g) = rw (ungrouped_group s a) (omega (arith, groups_length g))

groups_behind : {g : List ℕ} → Groups g → behind (ungrouped g) ≡ g
unfolding ungrouped
groups_behind end = refl
groups_behind (group {a} {b} {c} {s} d g) =
    ap behind (ungrouped_group s d)
    ∙ ap (λ (x : List ℕ). underscore ∷ x)
    (grouped_more (a ∷ b ∷ c ∷ []) (ungrouped s) (omega arith) (groups_length g)
    ∙ ap (λ (x : List ℕ). x ++ behind (ungrouped s)) (grouped_short (a ∷ b ∷ c ∷ []) (omega arith))
    ∙ ap (λ (x : List ℕ). a ∷ b ∷ c ∷ x) (groups_behind g))

-- one to three digits, and groups after them, are their digits grouped
pub grouped_is : (first rest : List ℕ) → 1 ≤ length first → length first ≤ 3 → Groups rest → grouped (first ++ ungrouped rest) ≡ first ++ rest
grouped_is first rest some most g =
    grouped_more first (ungrouped rest) some (groups_length g)
    ∙ ap (λ (x : List ℕ). x ++ behind (ungrouped rest)) (grouped_short first most)
    ∙ ap (λ (x : List ℕ). first ++ x) (groups_behind g)

pub all_append : {s t : List ℕ} → AllDigits s → AllDigits t → AllDigits (s ++ t)
all_append none u = u
all_append (more p q r) u = more p q (all_append r u)

pub groups_digits : {g : List ℕ} → Groups g → AllDigits (ungrouped g)
unfolding ungrouped
groups_digits end = none
groups_digits (group {s = s} d g) = rw (ungrouped_group s d) (all_append d (groups_digits g))

-- bytes in groups are their digits grouped
pub in_groups_are : {s : List ℕ} → InGroups s → grouped (ungrouped s) ≡ s
in_groups_are g =
    ap (λ (x : List ℕ). grouped (ungrouped x)) g.whole
    ∙ ap grouped (ungrouped_append g.first g.rest ∙ ap (λ (x : List ℕ). x ++ ungrouped g.rest) (ungrouped_digits g.all))
    ∙ grouped_is g.first g.rest g.some g.most g.groups
    ∙ sym g.whole

-- ---- digits, cut into a first group and the groups after it

all_take : (k : ℕ) {s : List ℕ} → AllDigits s → AllDigits (take k s)
all_take zero r = none
all_take (suc k) none = none
all_take (suc k) (more p q r) = more p q (all_take k r)

all_drop : (k : ℕ) {s : List ℕ} → AllDigits s → AllDigits (drop k s)
all_drop zero r = r
all_drop (suc k) none = none
all_drop (suc k) (more p q r) = all_drop k r

threes : (k : ℕ) (s : List ℕ) → AllDigits s → length s ≡ k * 3 → (g : List ℕ) × Groups g × (ungrouped g ≡ s)
unfolding ungrouped
threes zero [] r e = ([], end, refl)
threes zero (a ∷ s) r e = absurd (omega arith)
threes (suc k) [] r e = absurd (omega arith)
threes (suc k) (a ∷ []) r e = absurd (omega arith)
threes (suc k) (a ∷ b ∷ []) r e = absurd (omega arith)
threes (suc k) (a ∷ b ∷ c ∷ s) (more p q (more u v (more x y r))) e =
    let three : AllDigits (a ∷ b ∷ c ∷ []) = more p q (more u v (more x y none)) in
    let (g, groups, same) = threes k s r (omega arith) in
    (underscore ∷ a ∷ b ∷ c ∷ g, group three groups, ungrouped_group g three ∙ ap (λ (t : List ℕ). a ∷ b ∷ c ∷ t) same)

-- digits are those of a first group and of groups after it, and grouped they are the two
pub record Cut (s : List ℕ) : Type 0 where
  pub first : List ℕ
  pub rest : List ℕ
  pub digits : s ≡ first ++ ungrouped rest
  pub spelt : grouped s ≡ first ++ rest
  pub all : AllDigits first
  pub some : 1 ≤ length first
  pub most : length first ≤ 3
  pub groups : Groups rest

-- cut behind a first part after which threes are left
cut_after : {first after : List ℕ} (k : ℕ) → AllDigits first → AllDigits after → 1 ≤ length first → length first ≤ 3 → length after ≡ k * 3 → Cut (first ++ after)
cut_after {first} {after} k p q low high threefold =
    let (g, groups, same) = threes k after q threefold in
    record {
      first = first;
      rest = g;
      digits = ap (λ (x : List ℕ). first ++ x) (sym same);
      spelt = ap (λ (x : List ℕ). grouped (first ++ x)) (sym same) ∙ grouped_is first g low high groups;
      all = p;
      some = low;
      most = high;
      groups = groups;
    }

pub cut : (s : List ℕ) → AllDigits s → 1 ≤ length s → Cut s
cut s r h = at_place ((length s - 1) / 3) refl
  where
    at_place : (m : ℕ) → (length s - 1) / 3 ≡ m → Cut s
    at_place m e =
        let k : ℕ = length s - m * 3 in
        let long : length (take k s) ≡ k = length-take-le k s (omega arith) in
        let behind_it : length (drop k s) ≡ m * 3 = length-drop k s ∙ omega (arith, e) in
        subst Cut (take-append-drop k s) (cut_after m (all_take k r) (all_drop k r) (omega (arith, long, e)) (omega (arith, long, e)) behind_it)

-- digits in groups, without their `_`, are the digits
pub ungrouped_grouped : (s : List ℕ) → AllDigits s → 1 ≤ length s → ungrouped (grouped s) ≡ s
ungrouped_grouped s r h =
    let c = cut s r h in
    ap ungrouped c.spelt
    ∙ ungrouped_append c.first c.rest
    ∙ ap (λ (x : List ℕ). x ++ ungrouped c.rest) (ungrouped_digits c.all)
    ∙ sym c.digits

-- n digits in groups carry (n - 1) / 3 `_`, rounded down
pub grouped_length : (s : List ℕ) → 1 ≤ length s → length (grouped s) ≡ length s + (length s - 1) / 3
unfolding grouped
grouped_length [] h = absurd (omega arith)
grouped_length (b ∷ []) h = refl
grouped_length (b ∷ c ∷ s) h = go (eqb (length (c ∷ s) % 3) 0) refl (grouped_length (c ∷ s) (omega arith))
  where
    go : (t : Bool) → eqb (length (c ∷ s) % 3) 0 ≡ t → length (grouped (c ∷ s)) ≡ length (c ∷ s) + (length (c ∷ s) - 1) / 3
        → suc (length (choose t (λ _. underscore ∷ grouped (c ∷ s)) (λ _. grouped (c ∷ s)))) ≡ length (b ∷ c ∷ s) + (length (b ∷ c ∷ s) - 1) / 3
    go true e r = omega (arith, r, eqb-true (length (c ∷ s) % 3) 0 e)
    go false e r = let other : length (c ∷ s) % 3 ≡ 0 → ⊥ = eqb-false (length (c ∷ s) % 3) 0 e in by_third (length (c ∷ s) % 3) refl other
      where
        by_third : (m : ℕ) → length (c ∷ s) % 3 ≡ m → (length (c ∷ s) % 3 ≡ 0 → ⊥) → suc (length (grouped (c ∷ s))) ≡ length (b ∷ c ∷ s) + (length (b ∷ c ∷ s) - 1) / 3
        by_third zero p q = absurd (q p)
        by_third (suc m) p q = omega (arith, r, p)
