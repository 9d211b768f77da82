-- What the code computes of edges and spans fits an i64.
use mathlib.Core.Path.{◌≡◌, ap, ◌∙◌}
use Prim.Native.Nat.{ℕ, ◌*◌, ◌^◌, ◌≤◌, ◌<◌}
use native.Mathlib.Nat.{mul-le-mul_left, one-mul}
use native.Mathlib.Omega.{arith}
use lib.IntN.{ℤ, pos, ◌+ℤ◌, ◌-ℤ◌}
use mir.Syntax.{w64}
use mir.Val.{SFits, of_z, to_z}
use mir.Facts.{to_z-of_z}
use Rattle.moment.specs.Moment.{longest, floor_half}
use Rattle.moment.specs.declared.Interval.{Interval}
use Rattle.moment.proofs.Integers.{ints, sum, dif, half}
use Rattle.moment.proofs.Within.{Within}
use Rattle.rules.specs.Rules.{longest_wait, outward, told, centre, error_of}
use Rattle.rules.specs.Spans.{Span}
use Rattle.rules.proofs.Sets.{one_more}

-- the wait of a reply that is not too late, in nanoseconds
pub wait_bound : (w claim : ℕ) → w ≤ longest_wait → claim < 2 ^ 16 → w * longest claim ≤ 4000000000000
wait_bound w claim h l =
    let most : longest claim ≤ 1065535 = omega arith in
    let by_claim : w * longest claim ≤ w * 1065535 = mul-le-mul_left w most in
    omega arith

-- one tick is given as the span of one
pub one_tick : {span : ℤ} (claim : ℕ) → span ≡ pos (1 * longest claim) → span ≡ pos (longest claim)
one_tick claim e = e ∙ ap (λ (n : ℕ). pos n) (one-mul (longest claim))

pub tick_bound : (claim : ℕ) → claim < 2 ^ 16 → longest claim ≤ 4000000000000
tick_bound claim l = omega arith

-- the wait and one tick more, in nanoseconds
pub outward_sum : (w claim : ℕ) → pos (w * longest claim) +ℤ pos (longest claim) ≡ outward claim w
unfolding outward
outward_sum w claim = omega (ints, one_more claim w, sum (pos (w * longest claim)) (pos (longest claim)))

pub wait_span : (w claim : ℕ) → w ≤ longest_wait → claim < 2 ^ 16 → Span (outward claim w)
unfolding outward
wait_span w claim h l = omega (ints, wait_bound w claim h l, tick_bound claim l, one_more claim w)

-- also of a wait of any ticks
pub outward_fits : (w claim : ℕ) → w < 2 ^ 32 → claim < 2 ^ 16 → SFits w64 (outward claim w)
unfolding outward
outward_fits w claim h l =
    let most : longest claim ≤ 1065535 = omega arith in
    let by_claim : w * longest claim ≤ w * 1065535 = mul-le-mul_left w most in
    omega (ints, one_more claim w)

pub span_fits : (span : ℤ) → Span span → SFits w64 span
span_fits span s = omega ints

pub twice_fits : (span : ℤ) → Span span → SFits w64 (span +ℤ span)
twice_fits span s = omega (ints, sum span span)

module _ (i : Interval) (h : Within i) where
  -- the told edges, their sum and their error
  module _ (claim : ℕ) (l : claim < 2 ^ 16) where
    pub told_lower_fits : SFits w64 (told claim i).lower
    unfolding told
    told_lower_fits = omega ints

    pub told_upper_fits : SFits w64 (told claim i).upper
    unfolding told
    told_upper_fits = omega (ints, sum i.upper (pos (longest claim)))

    pub told_ends_fit : SFits w64 ((told claim i).lower +ℤ (told claim i).upper)
    unfolding told
    told_ends_fit = omega (ints, sum i.upper (pos (longest claim)), sum i.lower (i.upper +ℤ pos (longest claim)))

    pub told_error_fits : SFits w64 (error_of (told claim i))
    unfolding told error_of centre
    told_error_fits =
        let upper = i.upper +ℤ pos (longest claim) in
        omega (ints, sum i.upper (pos (longest claim)), sum i.lower upper, half (i.lower +ℤ upper), dif upper (floor_half (i.lower +ℤ upper)))

    -- as they are read from what `told_of` gives
    pub told_read : {shown : Interval} → shown ≡ told claim i
        → (to_z w64 (of_z w64 shown.lower) ≡ (told claim i).lower) × (to_z w64 (of_z w64 shown.upper) ≡ (told claim i).upper)
    told_read e = (rw e (to_z-of_z told_lower_fits), rw e (to_z-of_z told_upper_fits))

    -- and their sum
    pub told_sum_read : {shown : Interval} → shown ≡ told claim i
        → to_z w64 (of_z w64 (to_z w64 (of_z w64 shown.lower) +ℤ to_z w64 (of_z w64 shown.upper))) ≡ (told claim i).lower +ℤ (told claim i).upper
    told_sum_read e = rw ((told_read e).0, (told_read e).1) (to_z-of_z told_ends_fit)

  pub trailing_fits : (n : ℕ) → n ≤ 4000000000000 → SFits w64 (i.lower -ℤ pos n)
  trailing_fits n l = omega (ints, dif i.lower (pos n))

  pub leading_fits : (n : ℕ) → n ≤ 4000000000000 → SFits w64 (i.upper +ℤ pos n)
  leading_fits n l = omega (ints, sum i.upper (pos n))

  -- with the flight times of the peer
  pub later_fits : (n back : ℕ) → n ≤ 4000000000000 → back < 2 ^ 32 → SFits w64 ((i.lower -ℤ pos n) +ℤ pos back)
  later_fits n back l b = omega (ints, dif i.lower (pos n), sum (i.lower -ℤ pos n) (pos back))

  pub sooner_fits : (n out : ℕ) → n ≤ 4000000000000 → out < 2 ^ 32 → SFits w64 ((i.upper +ℤ pos n) -ℤ pos out)
  sooner_fits n out l o = omega (ints, sum i.upper (pos n), dif (i.upper +ℤ pos n) (pos out))

  module _ (span : ℤ) (s : Span span) where
    pub lower_out_fits : SFits w64 (i.lower -ℤ span)
    lower_out_fits = omega (ints, dif i.lower span)

    pub upper_out_fits : SFits w64 (i.upper +ℤ span)
    upper_out_fits = omega (ints, sum i.upper span)

    pub wide_fits : SFits w64 ((i.upper -ℤ i.lower) +ℤ (span +ℤ span))
    wide_fits = omega (ints, sum (i.upper -ℤ i.lower) (span +ℤ span), sum span span, dif i.upper i.lower)
