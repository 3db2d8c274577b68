-- One triple more, and in the end all.
use Rattle.std.proofs.Common.{◌≡◌, ◌<◌, ◌≤◌, ◌++◌, ◌∙◌, ◌∷◌, [], Some, take, length, get_or, ap, sym, subst, arith}
use Rattle.std.proofs.{lemmas.List.take_all, lemmas.List.take_more, lemmas.Option.slice_get-get_or}
use Rattle.sorted_sets.specs.Rising.{IsRising}
use Rattle.rdf_term.specs.Order.{triple_cmp}
use Rattle.triple_catalog.proofs.rows.Rows.to_set.Goals as goal

pub loop-index-preserved : goal.loop-index-preserved
loop-index-preserved c =
    let rows = c.args.self.now in
    let i = c.loop-index.index in
    let d = c.in_ok-read_row.field-0 in
    let within : i < length rows = omega (arith, c.loop-index-test.true, c.count-count.ensures.count) in
    let one : Some (get_or rows i d) ≡ Some d = sym (slice_get-get_or rows i d within) ∙ c.row.ensures.triple ∙ ap Some (sym c.in_ok-read_row.ensures) in
    let same : get_or rows i d ≡ d = cc in
    c.in_ok-push.ensures.items ∙ ap (λ l. l ++ d ∷ []) c.loop-index.invariant ∙ ap (λ t. take i rows ++ t ∷ []) (sym same) ∙ sym (take_more rows i d within)

pub from_rising-requires : goal.from_rising-requires
from_rising-requires c =
    let rows = c.args.self.now in
    let whole : length rows ≤ c.loop-index.index = omega (arith, c.loop-index-test.false, c.count-count.ensures.count) in
    let all : c.from_vec.result ≡ rows = c.from_vec.ensures ∙ c.loop-index.invariant ∙ take_all c.loop-index.index rows whole in
    subst (IsRising triple_cmp) (sym all) c.count-count.ensures.rising
