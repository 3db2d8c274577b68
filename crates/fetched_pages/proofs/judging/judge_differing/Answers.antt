-- What is told of the bytes is told of the page.
use Rattle.std.proofs.Common.{◌≡◌, ◌≤◌, length, sym, ◌∙◌, subst}
use Rattle.replay_model.specs.Records.{Bytes}
use Rattle.page_parts.specs.Apart.{AreApart}
use Rattle.fetched_pages.specs.declared.apart.Told.{Told}
use Rattle.fetched_pages.specs.{Differing.IsTold, Meaning.meaning, Parted.ArePartsIn}
use Rattle.fetched_pages.proofs.Fit.{page_short}
use Rattle.fetched_pages.proofs.judging.judge_differing.Goals as goal

pub returns-in-Ok-Apart-clause-meant : goal.returns-in-Ok-Apart-clause-meant
returns-in-Ok-Apart-clause-meant c records by_two h =
    let w = c.args.wanted in
    let held = c.args.held in
    let same : c.as_slice.result.now ≡ c.from_vec.result = c.as_slice.ensures.value ∙ sym c.from_vec.ensures in
    let told = subst (λ (t : Told). IsTold w.version w.id w.rev c.as_slice.result.now held c.args.is_counted t) c.in-Ok-Apart.field-0-is c.in-Ok-Apart.ensures.told in
    record {
      before = record { revision = held.rev; content = held.bytes.now };
      held = h.held;
      by_version = h.by_version;
      apart = subst (λ (b : Bytes). AreApart w.id c.args.is_counted (meaning w.version w.id held.rev held.bytes.now) (meaning w.version w.id w.rev b) c.in-Ok-Apart.difference) same (told h.fit);
      short = subst (λ (b : Bytes). length b ≤ 33554432) same (page_short w.id c.as_slice.result.now c.in-Ok-Apart.ensures.document);
    }

pub returns-in-Ok-Parts-clause-meant : goal.returns-in-Ok-Parts-clause-meant
returns-in-Ok-Parts-clause-meant c records by_two h =
    let w = c.args.wanted in
    let same : c.as_slice.result.now ≡ c.from_vec-in-Ok-Parts.result = c.as_slice.ensures.value ∙ sym c.from_vec-in-Ok-Parts.ensures in
    let told = subst (λ (t : Told). IsTold w.version w.id w.rev c.as_slice.result.now c.args.held c.args.is_counted t) c.in-Ok-Parts.field-0-is c.in-Ok-Parts.ensures.told in
    record {
      parts = subst (λ (b : Bytes). ArePartsIn w.version w.id w.rev b c.args.is_counted c.in-Ok-Parts.parts) same told;
      short = subst (λ (b : Bytes). length b ≤ 33554432) same (page_short w.id c.as_slice.result.now c.in-Ok-Parts.ensures.document);
    }
