-- The parts of the document are those of the bytes.
use Rattle.fetched_pages.proofs.Parted.{named_in}
use Rattle.fetched_pages.proofs.parting.parts_in.Goals as goal

pub returns-in-Ok-clause-parts : goal.returns-in-Ok-clause-parts
returns-in-Ok-clause-parts c =
    let w = c.args.wanted in
    named_in w.version w.id w.rev c.args.bytes.now c.args.is_counted c.in-Ok.document c.document_parts-parts.result c.named.result c.in-Ok.ensures.answer c.in-Ok.ensures.small
    c.document_parts-parts.ensures.parts c.document_parts-parts.ensures.fit_shared c.named.ensures.ok
