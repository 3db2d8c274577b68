-- The triples of all that is held stay.
use Rattle.std.proofs.Common.{List, refl, ap, ◌∙◌}
use Rattle.rdf_term.specs.Order.{triple_cmp}
use Rattle.entity_model.specs.declared.id.EntityId.{EntityId}
use Rattle.replay_model.specs.{Records.Records, Union.union, Versions.meaning_by}
use Rattle.fetched_pages.specs.Meaning.{meaning}
use Rattle.world.proofs.Kept.{on_ok, union_kept}
use Rattle.world.proofs.held.WorldHoldings.keep.Goals as goal

pub returns-in-Lean-clause-stored : goal.returns-in-Lean-clause-stored
returns-in-Lean-clause-stored c =
    let h = c.in-Lean.lean.holdings in
    rw c.in-Lean.is (on_ok c.keep-in-Lean.result (λ put.
    ap (λ (ids : List EntityId). union triple_cmp (meaning_by meaning ids) c.keep-in-Lean.new.self.records) c.keep-in-Lean.ensures.by_two
    ∙ ap (λ (records : Records). union triple_cmp (meaning_by meaning h.by_two) records) put
    ∙ union_kept (meaning_by meaning h.by_two) h.records c.args.id _ refl) c.keep-in-Lean.ensures.records)
