-- The list of the waiting peers, of a keeper that counts as started: it is the one by tag, and it is put.
use mathlib.Core.Path.{◌≡◌, sym}
use mathlib.Core.Bool.{true}
use mathlib.Core.List.{List, ◌++◌}
use Prim.Native.Nat.{ℕ, ◌<◌}
use native.Mathlib.Omega.{arith}
use borrow.Author.Tests.{ltb-true, ltb-false, eqb-true, eqb-false}
use lib.Dec.{eqb, ltb}
use lib.ListN.{get_or}
use Rattle.bits.specs.Bits.{bit_of}
use Rattle.bits.proofs.Tests.{by_test}
use Rattle.waiting_lines.specs.ByTag.{TagsKept}
use Rattle.waiting_lines.specs.Waiting.{waiting_line, PutByTag}
use Rattle.waiting_lines.proofs.ByTagLaws.{by_tag_lem, by_tag_alone}
use Rattle.waiting_lines.proofs.LengthLaws.{waiting_short}
use Rattle.keeper.specs.State.{counts_as_started}
use Rattle.keeper.specs.declared.Answer.TheVariants.{Waiting}
use Rattle.keeper.specs.declared.Keeper.{Keeper}
use Rattle.keeper.proofs.StartedLaws.{started_read}
use Rattle.answers.specs.Answers.{line_of, oldest_first, OneList}
use Rattle.answers.specs.Writing.{line_end, PutShort}

module _ (k : Keeper) (counts : counts_as_started k ≡ true) where
  -- two waiting peers with one tag are one
  same_peer : (p q : ℕ) → p < 16 → q < 16 → bit_of k.waiting p ≡ true → bit_of k.waiting q ≡ true → get_or k.tags p 0 ≡ get_or k.tags q 0 → p ≡ q
  same_peer p q lp lq wp wq same =
      let apart = (started_read k counts).apart in
      by_test (eqb p q)
      (λ t. eqb-true p q t)
      (λ t.
      by_test (ltb q p)
      (λ s. absurd (apart p q lp (ltb-true q p s) wp wq same))
      (λ s. absurd (apart q p lq (omega (arith, ltb-false q p s, eqb-false p q t)) wq wp (sym same))))

  tags_kept : TagsKept k.waiting k.tags k.requests
  tags_kept =
      let peers = (started_read k counts).peers in
      record { least = λ p l w. ((peers p l).waits w).least; most = λ p l w. ((peers p l).waits w).most; differ = same_peer }

  pub one_list : OneList k
  unfolding oldest_first
  one_list = record { is_one = by_tag_lem k.waiting k.tags tags_kept; no_other = by_tag_alone k.waiting k.tags tags_kept }

  pub list_put : {b x : List ℕ} {at n : ℕ}
      → PutByTag k.waiting k.tags (λ order. waiting_line k.tags order ++ line_end) b at x n → PutShort b at (line_of Waiting k) x n
  unfolding line_of oldest_first
  list_put put =
      record {
        puts = put.put k.requests tags_kept;
        short = waiting_short k.waiting k.tags k.requests (omega (arith, (started_read k counts).requests));
      }
