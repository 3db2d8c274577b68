-- The answers are those of the statements so far.
use Rattle.std.proofs.Common.{◌≡◌, take}
use Rattle.std.specs.Prelude.{map}
use Rattle.std.specs.BTreeMap.{get}
use Rattle.entity_model.specs.EntityId.{entity_cmp}
use Rattle.statement_facts.specs.Ranking.{is_highest}
use Rattle.statement_facts.proofs.ranking.judge_all.Given as goal

abbrev pub invariant-loop-statement : goal.invariant-loop-statement
invariant-loop-statement l =
    l.answers ≡ map (λ s. is_highest s.rank (get entity_cmp l.highest s.property)) (take l.statement-index l.statements)
