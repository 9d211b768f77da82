-- What the line has from the place on begins with the word or not.
use Rattle.std.proofs.Common.{refl, sym, ap, ◌∙◌}
use Rattle.text.proofs.WordLaws.{line_from, word_tested, word_here, word_other}
use Rattle.text.proofs.words.word_at.Goals as goal

pub returns-then-not-starts_with : goal.returns-then-not-starts_with
returns-then-not-starts_with c =
    let rest = ap (λ r. r.now) c.unwrap_or-rest.ensures ∙ line_from c.args.line.now c.args.at _ _ refl c.get.ensures.lookup in
    sym (word_other _ _ _ (word_tested c.args.line.now c.args.at _ _ _ rest c.starts_with.ensures.value ∙ c.if-not-starts_with.true))

pub returns : goal.returns
returns c =
    let rest = ap (λ r. r.now) c.unwrap_or-rest.ensures ∙ line_from c.args.line.now c.args.at _ _ refl c.get.ensures.lookup in
    sym (word_here _ _ _ (word_tested c.args.line.now c.args.at _ _ _ rest c.starts_with.ensures.value ∙ c.if-not-starts_with.false))
