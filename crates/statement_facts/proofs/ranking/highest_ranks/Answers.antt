-- One statement more is taken into account.
use Rattle.std.proofs.Common.{◌||◌, take, ap, sym, ◌∙◌, arith}
use Rattle.std.specs.List.{list_any}
use Rattle.std.proofs.lemmas.List.Folds.{list_any_more}
use Rattle.statement_facts.specs.Ranking.{is_ranked_above}
use Rattle.statement_facts.proofs.ranking.highest_ranks.Goals as goal

pub loop-statement-preserved : goal.loop-statement-preserved
loop-statement-preserved c = λ property number.
    c.in_ok-raise.ensures property number
    ∙ ap (λ b. b || is_ranked_above property number c.statement-item.result) (c.loop-statement.invariant property number)
    ∙ ap (λ s. list_any (is_ranked_above property number) (take c.loop-statement.statement-index c.args.statements.now) || is_ranked_above property number s) c.statement-item.is
    ∙ sym (list_any_more (is_ranked_above property number) c.args.statements.now c.loop-statement.statement-index c.statement-item.result (omega arith))
