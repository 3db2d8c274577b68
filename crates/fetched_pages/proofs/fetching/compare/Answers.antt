-- By the document of the page that is held.
use Rattle.std.proofs.Common.{Option, subst}
use Rattle.std.specs.Prelude.{IfSome}
use Rattle.fetched_pages.specs.{declared.comparing.KnownPage.KnownPage, Compared.HasEntity, Compared.IsKnownPage}
use Rattle.fetched_pages.proofs.ChangedPages.{compared_changes, compared_fits}
use Rattle.fetched_pages.proofs.fetching.compare.Goals as goal

pub returns-clause-document : goal.returns-clause-document
returns-clause-document c =
    compared_fits c.args.wanted.version c.args.wanted.id c.args.wanted.rev c.in_ok-beside.field-0 c.args.bytes.now c.changed_texts.result
    (subst (λ (o : Option KnownPage). IfSome o (HasEntity c.args.wanted.id)) c.in_ok-beside.was c.requires) c.changed_texts.ensures

pub returns-clause-changes : goal.returns-clause-changes
returns-clause-changes c records by_two known =
    compared_changes c.args.wanted.version c.args.wanted.id c.args.wanted.rev c.in_ok-beside.field-0 c.args.bytes.now records by_two c.changed_texts.result
    (subst (λ (o : Option KnownPage). IfSome o (IsKnownPage records by_two c.args.wanted.version c.args.wanted.id)) c.in_ok-beside.was known) c.changed_texts.ensures
