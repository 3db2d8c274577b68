-- A set is its own sorted list.
use Rattle.std.proofs.Common.{◌≡◌, List, ap, ◌∙◌}
use Rattle.std.specs.FinMap as map
use Rattle.std.proofs.lemmas.Result.{on_ok_weaker}
use Rattle.sorted_sets.specs.Rising.{sorted}
use Rattle.sorted_sets.proofs.Rising.{sorted_rising}
use Rattle.rdf_term.specs.{declared.triple.Triple.Triple, Order.triple_cmp, Order.triple_cmp-total}
use Rattle.rdf_term.proofs.Texts.{triple_cmp-IsAntisymmetric}
use Rattle.subgraph.specs.{Entries.SplitState, Split.entry}
use Rattle.subgraph.proofs.split.Split.set.Goals as goal

pub returns-clause-ok : goal.returns-clause-ok
returns-clause-ok c =
    let same : sorted triple_cmp c.in-Ok.texts ≡ c.args.new.now =
    ap (sorted triple_cmp) c.in-Ok.ensures.texts ∙ sorted_rising triple_cmp-total triple_cmp-IsAntisymmetric c.args.new.now c.texts_of.ensures.rising in
    let with_set : List Triple → SplitState = λ ts. record { entries = map.insert c.args.self.now.entries c.args.id (entry c.args.graph ts); graphs = c.args.self.now.graphs; limit = c.args.self.now.limit } in
    on_ok_weaker c.set_texts-done.result (λ is. is ∙ ap with_set same) c.set_texts-done.ensures.ok
