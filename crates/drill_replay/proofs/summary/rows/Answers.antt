-- No page is mapped by version Two.
use Rattle.std.proofs.Common.{◌≡◌, List, IfOk, subst}
use Rattle.entity_model.specs.declared.id.EntityId.{EntityId}
use Rattle.rdf_term.specs.Order.{triple_cmp}
use Rattle.replay_model.specs.{Union.union, Versions.meaning_by}
use Rattle.fetched_pages.specs.Meaning.{meaning}
use Rattle.drill_replay.proofs.summary.rows.Goals as goal

pub returns : goal.returns
returns c =
    subst (λ (by_two : List EntityId). IfOk c.rows.result (λ set. set ≡ union triple_cmp (meaning_by meaning by_two) c.args.world.now.replay.played.records))
    c.requires.first.1 c.rows.ensures
