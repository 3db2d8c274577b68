-- One graph of the list has the set, or a fault changed none.
use Rattle.std.proofs.Common.{◌≡◌, ◌<◌, ◌≤◌, Option, Some, IfSome, length, slice_get, refl, sym, subst}
use Rattle.std.proofs.{lemmas.Option.slice_get_read, lemmas.Result.on_ok_weaker}
use Rattle.sorted_sets.specs.Rising.{sorted}
use Rattle.rdf_term.specs.Order.{triple_cmp}
use Rattle.subgraph.specs.Entries.{GraphState, terms_with, union_of}
use Rattle.subgraph.proofs.Placed.{set_one}
use Rattle.subgraph.proofs.placing.set_at.Goals as goal

pub returns-clause-ok : goal.returns-clause-ok
returns-clause-ok c =
    let at : slice_get c.args.graphs.now.items c.args.graph ≡ Some c.index_mut.result.now = slice_get_read c.args.graphs.now.items (length c.args.graphs.now.items) c.args.graph c.index_mut.result.now refl c.requires.graph c.index_mut.ensures.value in
    on_ok_weaker c.set.result (set_one c.args.graphs.now.items c.args.graph c.index_mut.result.now c.set.new.self c.args.id (sorted triple_cmp c.args.new.now) c.requires.graph at) c.set.ensures.ok

pub returns-clause-full : goal.returns-clause-full
returns-clause-full c =
    let at : slice_get c.args.graphs.now.items c.args.graph ≡ Some c.index_mut.result.now = slice_get_read c.args.graphs.now.items (length c.args.graphs.now.items) c.args.graph c.index_mut.result.now refl c.requires.graph c.index_mut.ensures.value in
    λ is. subst (λ (o : Option GraphState). IfSome o (λ g. g.limit < terms_with (union_of g.sets) c.args.new.now)) (sym at) (c.set.ensures.full is)

pub returns-clause-within : goal.returns-clause-within
returns-clause-within c =
    let at : slice_get c.args.graphs.now.items c.args.graph ≡ Some c.index_mut.result.now = slice_get_read c.args.graphs.now.items (length c.args.graphs.now.items) c.args.graph c.index_mut.result.now refl c.requires.graph c.index_mut.ensures.value in
    on_ok_weaker c.set.result (subst (λ (o : Option GraphState). IfSome o (λ g. terms_with (union_of g.sets) c.args.new.now ≤ g.limit)) (sym at)) c.set.ensures.within
