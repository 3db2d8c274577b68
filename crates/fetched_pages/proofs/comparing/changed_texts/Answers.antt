-- The parts that are gone and those that came balance.
use Rattle.fetched_pages.proofs.ChangedPages.{changes_told}
use Rattle.fetched_pages.proofs.comparing.changed_texts.Goals as goal

pub returns-in-Some : goal.returns-in-Some
returns-in-Some c = changes_told c.args.wanted.version c.args.wanted.id c.args.known c.args.wanted.rev c.args.bytes.now c.in-Some.changed c.texts_once.result c.in-Some.ensures.changes c.texts_once.ensures
