-- The entity is in one graph, or a fault changed none.
use Rattle.std.proofs.Common.{Some, length, refl}
use Rattle.std.proofs.lemmas.Result.{on_err_weaker, on_ok_weaker}
use Rattle.sorted_sets.specs.Rising.{sorted}
use Rattle.rdf_term.specs.Order.{triple_cmp}
use Rattle.subgraph.specs.Split.{entries_in, entry}
use Rattle.subgraph.proofs.Placed.{entries_with, is_full, is_within, placed_or_same}
use Rattle.subgraph.proofs.split.Split.set_texts.Goals as goal

pub invariant_of-self : goal.invariant_of-self
invariant_of-self c =
    placed_or_same c.self.inside.graphs.items c.set_in.new.graphs.items c.args.id (Some (entry c.args.graph (sorted triple_cmp c.args.new.now))) c.self.inside.limit c.set_in.result c.self.invariant
    c.set_in.ensures.ok c.set_in.ensures.err

pub returns-clause-ok : goal.returns-clause-ok
returns-clause-ok c = rw (← c.self.view_is) (on_ok_weaker c.set_in.result (λ placed. λ i. record {
  entries = entries_with c.self.inside.graphs.items c.set_in.new.graphs.items c.args.id (Some (entry c.args.graph (sorted triple_cmp c.args.new.now))) c.self.invariant.0 placed (entry c.args.graph (sorted triple_cmp c.args.new.now)) refl i;
  graphs = placed.long i;
  limit = c.self.inside.limit;
}) c.set_in.ensures.ok)

pub returns-clause-err : goal.returns-clause-err
returns-clause-err c = rw (← c.self.view_is) (on_err_weaker c.set_in.result (λ same. λ i. record {
  entries = entries_in (same i);
  graphs = length (same i);
  limit = c.self.inside.limit;
}) c.set_in.ensures.err)

pub returns-clause-full : goal.returns-clause-full
returns-clause-full c =
    let low = rw (← c.self.view_is) at c.requires.graph in
    rw (← c.self.view_is) (λ is. is_full c.self.inside.graphs.items c.args.graph c.self.inside.limit c.args.new.now c.self.invariant.0 c.self.invariant.1 low (c.set_in.ensures.full is))

pub returns-clause-within : goal.returns-clause-within
returns-clause-within c =
    let low = rw (← c.self.view_is) at c.requires.graph in
    rw (← c.self.view_is) (on_ok_weaker c.set_in.result (is_within c.self.inside.graphs.items c.args.graph c.self.inside.limit c.args.new.now c.self.invariant.0 c.self.invariant.1 low) c.set_in.ensures.within)
