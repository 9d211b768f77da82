-- The outcome is that of the command on the keeper in the image, and what is stored
-- makes the image that of the keeper handed back.
use mathlib.Core.Path.{◌≡◌, sym, ap, ◌∙◌, subst}
use Prim.Native.Nat.{ℕ, ◌+◌, ◌*◌}
use native.Mathlib.Omega.{arith}
use lib.ListN.{length}
use borrow.Author.Rules.{rules}
use Rattle.keeper.specs.Apply.{apply, number_of}
use Rattle.keeper.specs.declared.Keeper.{Keeper}
use Rattle.keeper.specs.declared.Outcome.{Outcome}
use Rattle.keeper.proofs.Listing.{listed_started}
use Rattle.line.specs.Call.{Wrote}
use Rattle.image.specs.Layout.{keeper_in}
use Rattle.image.proofs.StartedFits.{all_below}
use Rattle.on_image.specs.Apply.{stored_after}
use Rattle.on_image.proofs.ApplyLaws.{command_stored}
use Rattle.on_image.proofs.answer_command.Goals as goal

pub write_answer-length-requires : goal.write_answer-length-requires
write_answer-length-requires c =
    let same = c.apply_command-outcome.ensures in
    (c.requires.least_output_in_bounds, λ h. rw same (listed_started _ _ (sym (ap (λ (o : Outcome). o.answer) same) ∙ h)))

pub returns : goal.returns
returns c =
    let places : (length c.load-keeper.result.tags ≡ 16) × (length c.load-keeper.result.sent_at ≡ 16) × (length c.load-keeper.result.out ≡ 16) × (length c.load-keeper.result.back ≡ 16) =
    (search rules, search rules, search rules, search rules)
    in
    let image = c.args.image.now in
    let out = c.args.out.now in
    let command = c.args.command in
    let loaded : c.load-keeper.result ≡ keeper_in image = c.load-keeper.ensures in
    let same : c.apply_command-outcome.result ≡ apply (keeper_in image) command = c.apply_command-outcome.ensures ∙ ap (λ (k : Keeper). apply k command) loaded in
    let w = c.write_answer-length in
    let wrote : Wrote (apply (keeper_in image) command).answer (apply (keeper_in image) command).keeper out w.new.out w.result =
    subst (λ (o : Outcome). Wrote o.answer o.keeper out w.new.out w.result) same w.ensures in
    record {
      returned =
          c.returned.ensures
          ∙ ap (λ (n : ℕ). n + 256 * w.result) (c.number_of.ensures ∙ ap (λ (o : Outcome). number_of o.answer) same)
          ∙ ap (λ (n : ℕ). number_of (apply (keeper_in image) command).answer + 256 * n) wrote.written;
      output_is = wrote.output;
      short = rw wrote.written at wrote.short;
      image_is =
          c.store_changes.ensures
          ∙ ap (λ (o : Outcome). stored_after o.answer o.keeper image) same
          ∙ command_stored image c.requires.image_len (all_below 256 image (λ i h. omega (arith, c.slice_known-1.given i)))
          (subst (λ (k : Keeper). length k.tags ≡ 16) loaded (places).0)
          (subst (λ (k : Keeper). length k.sent_at ≡ 16) loaded (places).1)
          (subst (λ (k : Keeper). length k.out ≡ 16) loaded (places).2)
          (subst (λ (k : Keeper). length k.back ≡ 16) loaded (places).3)
          command;
    }
