-- The change of the page that is held.
use Rattle.std.proofs.Common.{◌≡◌, ◌≤◌, length, sym, ◌∙◌, subst}
use Rattle.replay_model.specs.Records.{Bytes}
use Rattle.fetched_pages.specs.Compared.{IsChangeOfHeld}
use Rattle.fetched_pages.proofs.Fit.{page_short}
use Rattle.fetched_pages.proofs.fetching.judge_beside.Goals as goal

pub returns-in-Some-clause-meant : goal.returns-in-Some-clause-meant
returns-in-Some-clause-meant c records by_two known held =
    let same : c.as_slice.result.now ≡ c.from_vec-bytes.result = c.as_slice.ensures.value ∙ sym c.from_vec-bytes.ensures in
    record {
      change = subst (λ (b : Bytes). IsChangeOfHeld records by_two c.args.wanted.version c.args.wanted.id c.args.wanted.rev b c.in-Some.texts) same (c.in-Some.ensures.changes records by_two known);
      short = subst (λ (b : Bytes). length b ≤ 33554432) same (page_short c.args.wanted.id c.as_slice.result.now c.in-Some.ensures.document);
    }
