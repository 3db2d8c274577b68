-- The parts are those of the page's bytes.
use Rattle.std.proofs.Common.{◌≡◌, ◌≤◌, length, sym, ◌∙◌, subst}
use Rattle.replay_model.specs.Records.{Bytes}
use Rattle.fetched_pages.specs.Parted.{ArePartsIn}
use Rattle.fetched_pages.proofs.Fit.{page_short}
use Rattle.fetched_pages.proofs.parting.judge_parted.Goals as goal

pub returns-in-Ok-clause-meant : goal.returns-in-Ok-clause-meant
returns-in-Ok-clause-meant c =
    let w = c.args.wanted in
    let same : c.as_slice.result.now ≡ c.from_vec.result = c.as_slice.ensures.value ∙ sym c.from_vec.ensures in
    record {
      parts = subst (λ (b : Bytes). ArePartsIn w.version w.id w.rev b c.args.is_counted c.in-Ok.parts) same c.in-Ok.ensures.parts;
      short = subst (λ (b : Bytes). length b ≤ 33554432) same (page_short w.id c.as_slice.result.now c.in-Ok.ensures.document);
    }
