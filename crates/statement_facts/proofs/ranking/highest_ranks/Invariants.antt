-- The map has the highest ranks of the statements so far.
use Rattle.std.proofs.Common.{◌≡◌, ℕ, take}
use Rattle.std.specs.BTreeMap.{get}
use Rattle.std.specs.List.{list_any}
use Rattle.entity_model.specs.declared.id.EntityId.{EntityId}
use Rattle.entity_model.specs.EntityId.{entity_cmp}
use Rattle.statement_facts.specs.Ranking.{has_rank_above, is_ranked_above}
use Rattle.statement_facts.proofs.ranking.highest_ranks.Given as goal

abbrev pub invariant-loop-statement : goal.invariant-loop-statement
invariant-loop-statement l =
    (property : EntityId) (number : ℕ) → has_rank_above number (get entity_cmp l.highest property) ≡ list_any (is_ranked_above property number) (take l.statement-index l.statements)
