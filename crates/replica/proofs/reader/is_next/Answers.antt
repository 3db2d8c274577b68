-- The last triple decides.
use Rattle.std.proofs.Common.{◌∙◌, ap, sym, is_lt, arith}
use Rattle.replica.proofs.ByTexts.{next_by_texts, none_before}
use Rattle.replica.proofs.reader.is_next.Goals as goal

pub returns-then-count-eq0 : goal.returns-then-count-eq0
returns-then-count-eq0 c = λ triple is. sym (none_before c.args.triples.now triple (omega (arith, c.if-count-eq0.true, c.len-count.ensures)))

pub returns : goal.returns
returns c = λ triple is.
    c.is_lt.ensures ∙ ap is_lt c.compare.ensures
    ∙ next_by_texts c.args.triples.now c.get.result c.args.texts.now triple (omega (arith, c.if-count-eq0.false, c.len-count.ensures)) (rw c.len-count.ensures at c.get.ensures) is
