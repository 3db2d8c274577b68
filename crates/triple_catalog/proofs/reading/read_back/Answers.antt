-- A canonical text reads back as its term.
use Rattle.std.proofs.Common.{◌≡◌, Some, ap, sym, ◌∙◌}
use Rattle.rdf_term.specs.Undo.{undo}
use Rattle.rdf_term.proofs.Texts.{undo-term_text}
use Rattle.triple_catalog.proofs.reading.read_back.Goals as goal

pub returns : goal.returns
returns c =
    let back = c.in_ok-term.ensures.back c.requires.term c.requires.fit.fit (c.in-Ok.ensures.cases.0 ∙ c.requires.is) in
    let one : Some c.in-Some.term ≡ Some c.requires.term = sym c.in-Some.is ∙ back in
    let same : c.in-Some.term ≡ c.requires.term = cc in
    same ∙ sym (ap undo c.requires.is ∙ undo-term_text c.requires.term)
