-- The first lines of both texts are those of the first triples.
use Rattle.std.proofs.Common.{◌≡◌, Less, Equal, Greater, take, refl, sym, ◌∙◌}
use Rattle.std.proofs.lemmas.Bool.{eqb-true}
use Rattle.rdf_term.specs.Order.{bytes_cmp}
use Rattle.parts_exchange.proofs.Merged.{first_line, next_greater, next_left, next_lesser, next_right, next_same}
use Rattle.parts_exchange.proofs.merging.next_line.Goals as goal

pub returns-then-is_empty-clause-next : goal.returns-then-is_empty-clause-next
returns-then-is_empty-clause-next c some others left_is right_is ordered orders =
    next_left some others c.args.left.now c.args.right.now left_is right_is ordered orders c.line_end.result _ (first_line some c.args.left.now c.line_end.result left_is ordered c.line_end.ensures.some c.line_end.ensures.within c.line_end.ensures.before c.line_end.ensures.ended)
    (eqb-true _ 0 (sym c.is_empty.ensures ∙ c.if-is_empty.true)) c.split_at.ensures.front c.split_at.ensures.back refl

pub returns-then-is_empty-2-clause-next : goal.returns-then-is_empty-2-clause-next
returns-then-is_empty-2-clause-next c some others left_is right_is ordered orders =
    next_right some others c.args.left.now c.args.right.now left_is right_is ordered orders c.line_end-then-is_empty-2.result _ (first_line others c.args.right.now c.line_end-then-is_empty-2.result right_is orders c.line_end-then-is_empty-2.ensures.some c.line_end-then-is_empty-2.ensures.within c.line_end-then-is_empty-2.ensures.before c.line_end-then-is_empty-2.ensures.ended)
    (eqb-true _ 0 (sym c.is_empty-2.ensures ∙ c.if-is_empty-2.true)) c.split_at-then-is_empty-2.ensures.front c.split_at-then-is_empty-2.ensures.back refl

pub returns-in-Less-clause-next : goal.returns-in-Less-clause-next
returns-in-Less-clause-next c some others left_is right_is ordered orders =
    let order : bytes_cmp (take c.line_end-2.result c.args.left.now) (take c.line_end-3.result c.args.right.now) ≡ Less = (λ i. bytes_cmp (sym c.split_at-2.ensures.front i) (sym c.split_at-3.ensures.front i)) ∙ sym c.compare_texts.ensures ∙ c.in-Less.is in
    next_lesser some others c.args.left.now c.args.right.now left_is right_is ordered orders c.line_end-2.result c.line_end-3.result
    (first_line some c.args.left.now c.line_end-2.result left_is ordered c.line_end-2.ensures.some c.line_end-2.ensures.within c.line_end-2.ensures.before c.line_end-2.ensures.ended)
    (first_line others c.args.right.now c.line_end-3.result right_is orders c.line_end-3.ensures.some c.line_end-3.ensures.within c.line_end-3.ensures.before c.line_end-3.ensures.ended)
    _ order c.split_at-2.ensures.front c.split_at-2.ensures.back refl

pub returns-in-Equal-clause-next : goal.returns-in-Equal-clause-next
returns-in-Equal-clause-next c some others left_is right_is ordered orders =
    let order : bytes_cmp (take c.line_end-2.result c.args.left.now) (take c.line_end-3.result c.args.right.now) ≡ Equal = (λ i. bytes_cmp (sym c.split_at-2.ensures.front i) (sym c.split_at-3.ensures.front i)) ∙ sym c.compare_texts.ensures ∙ c.in-Equal.is in
    next_same some others c.args.left.now c.args.right.now left_is right_is ordered orders c.line_end-2.result c.line_end-3.result
    (first_line some c.args.left.now c.line_end-2.result left_is ordered c.line_end-2.ensures.some c.line_end-2.ensures.within c.line_end-2.ensures.before c.line_end-2.ensures.ended)
    (first_line others c.args.right.now c.line_end-3.result right_is orders c.line_end-3.ensures.some c.line_end-3.ensures.within c.line_end-3.ensures.before c.line_end-3.ensures.ended)
    _ order c.split_at-2.ensures.front c.split_at-2.ensures.back c.split_at-3.ensures.back

pub returns-in-Greater-clause-next : goal.returns-in-Greater-clause-next
returns-in-Greater-clause-next c some others left_is right_is ordered orders =
    let order : bytes_cmp (take c.line_end-2.result c.args.left.now) (take c.line_end-3.result c.args.right.now) ≡ Greater = (λ i. bytes_cmp (sym c.split_at-2.ensures.front i) (sym c.split_at-3.ensures.front i)) ∙ sym c.compare_texts.ensures ∙ c.in-Greater.is in
    next_greater some others c.args.left.now c.args.right.now left_is right_is ordered orders c.line_end-2.result c.line_end-3.result
    (first_line some c.args.left.now c.line_end-2.result left_is ordered c.line_end-2.ensures.some c.line_end-2.ensures.within c.line_end-2.ensures.before c.line_end-2.ensures.ended)
    (first_line others c.args.right.now c.line_end-3.result right_is orders c.line_end-3.ensures.some c.line_end-3.ensures.within c.line_end-3.ensures.before c.line_end-3.ensures.ended)
    _ order c.split_at-3.ensures.front refl c.split_at-3.ensures.back
