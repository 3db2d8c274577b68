-- A page that is a document has few bytes.
use Rattle.std.proofs.Common.{sym, ◌∙◌}
use Rattle.std.specs.FinMap as map
use Rattle.lean_holdings.proofs.Short.{document_short}
use Rattle.lean_holdings.proofs.holdings.LeanHoldings.restore_page.Goals as goal

pub hold_with-held-requires-clause-short : goal.hold_with-held-requires-clause-short
hold_with-held-requires-clause-short c = document_short c.args.wanted.id c.args.page.now c.in-Ok.ensures.document

pub hold_with-held-requires-clause-come : goal.hold_with-held-requires-clause-come
hold_with-held-requires-clause-come c counted same =
    c.in-Ok.ensures.parts counted ((rw (← c.self.view_is) at same) ∙ sym (map.contains_key-keys c.self.inside.names c.args.wanted.id) ∙ sym c.is_counted-is_counted.ensures)
