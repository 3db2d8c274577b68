-- A page has few bytes.
use Rattle.std.proofs.Common.{rules, ◌≡◌, None}
use Rattle.entity_json.specs.Document.{unfit_of}
use Rattle.fetched_pages.proofs.Fit.{page_short}
use Rattle.fetched_pages.proofs.fetching.texts_in.Goals as goal

pub returns-in-Ok-map_document-clause-short : goal.returns-in-Ok-map_document-clause-short
returns-in-Ok-map_document-clause-short c =
    let fit : unfit_of c.args.wanted.id c.args.bytes.now ≡ None = search rules in
    page_short c.args.wanted.id c.args.bytes.now fit
