-- The keys of what an entity holds are those of its triples.
use Rattle.std.proofs.Common.{◌≡◌, List, IfOk, subst}
use Rattle.rdf_term.specs.declared.triple.Triple.{Triple}
use Rattle.replay_model.specs.Versions.{meaning_by}
use Rattle.fetched_pages.specs.Meaning.{meaning}
use Rattle.holdings.proofs.{Moving.are_stored, OneSet.set_is}
use Rattle.holdings.proofs.holdings.Holdings.triples_of.Goals as goal

pub rows_of-requires : goal.rows_of-requires
rows_of-requires c = record {
  stored = are_stored (meaning_by meaning c.self.inside.holders.by_two) c.self.inside.store c.self.inside.store c.self.inside.table.records c.args.id _ c.self.invariant.kept (λ _ _ is. is) c.keys_of.ensures;
}

pub returns : goal.returns
returns c =
    let is = set_is c.self.inside.store c.self.inside.holders c.self.inside.table.records c.args.id c.self.invariant c.keys_of.result.rising.now c.keys_of.ensures c.in_ok-rows.rows c.in_ok-rows.ensures.rows in
    rw (← c.self.view_is) (subst (λ (ts : List Triple). IfOk c.to_set.result (λ set. set ≡ ts)) is c.to_set.ensures)
