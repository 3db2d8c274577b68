-- The parts of the document are those of the bytes.
use Rattle.std.proofs.Common.{Ok}
use Rattle.fetched_pages.proofs.Parted.{named_in}
use Rattle.fetched_pages.proofs.apart.told_in.Goals as goal

pub returns-in-Ok-named-clause-told : goal.returns-in-Ok-named-clause-told
returns-in-Ok-named-clause-told c =
    let w = c.args.wanted in
    named_in {F = Unit {0}} w.version w.id w.rev c.args.bytes.now c.args.is_counted c.in-Ok.document c.document_parts-parts.result (Ok c.in-Ok-named.parts) c.in-Ok.ensures.answer c.in-Ok.ensures.small
    c.document_parts-parts.ensures.parts c.document_parts-parts.ensures.fit_shared c.in-Ok-named.ensures.ok
