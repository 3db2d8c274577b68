-- One row more.
use Rattle.std.proofs.Common.{◌≡◌, ℕ, ◌<◌, length, arith, subst}
use Rattle.page_parts.specs.Row.{subject_texts}
use Rattle.page_parts.specs.Rows.{IsRankAt}
use Rattle.page_parts.proofs.Ranking.{ranked_more, rows_more}
use Rattle.page_parts.proofs.rows.listed_rows.Goals as goal

pub loop-index-preserved : goal.loop-index-preserved
loop-index-preserved c =
    let texts = subject_texts c.args.subjects.now in
    let triples = c.args.texts.now in
    let index : ℕ = c.loop-index.index in
    let within : index < length triples = omega arith in
    record {
      triples = rows_more texts triples index c.rank_at-rank.result c.get-row.result c.loop-index.rows.items _ within c.get-row.ensures c.rank_at-rank.ensures c.in_ok-push.ensures.items c.loop-index.invariant.triples;
      ranked = ranked_more texts triples index c.rank_at-rank.result c.get-row.result c.loop-index.rows.items _ within c.get-row.ensures c.rank_at-rank.ensures c.in_ok-push.ensures.items c.loop-index.invariant.ranked;
      before = λ k e. let is : index ≡ k = omega (arith, e) in subst (λ n. IsRankAt texts triples n c.rank_at-rank.result) is c.rank_at-rank.ensures;
    }
