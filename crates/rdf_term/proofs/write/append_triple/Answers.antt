-- The three terms, and the end of the line.
use Rattle.std.proofs.Common.{Ok}
use Rattle.rdf_term.specs.Text.{spaced, triple_text}
use Rattle.rdf_term.proofs.Appending.{appends_on, refused_on, still_old}
use Rattle.rdf_term.proofs.write.append_triple.Goals as goal

pub returns-in_err-append_spaced-2-clause-text : goal.returns-in_err-append_spaced-2-clause-text
returns-in_err-append_spaced-2-clause-text c =
    refused_on c.args.out.now.items _ _ (spaced c.args.triple.now.subject) (triple_text c.args.triple.now) _ c.from_residual-in_err-append_spaced-2.ensures.0 c.in_ok-append_spaced.ensures.text c.in_err-append_spaced-2.ensures.text

pub returns-in_err-append_spaced-3-clause-text : goal.returns-in_err-append_spaced-3-clause-text
returns-in_err-append_spaced-3-clause-text c =
    refused_on c.args.out.now.items _ _ (spaced c.args.triple.now.subject) (triple_text c.args.triple.now) _ c.from_residual-in_err-append_spaced-3.ensures.0 c.in_ok-append_spaced.ensures.text (still_old c.append_spaced.new.out.items _ _ (spaced c.args.triple.now.predicate) c.in_ok-append_spaced-2.ensures.text c.in_err-append_spaced-3.ensures.text)

pub returns-clause-text : goal.returns-clause-text
returns-clause-text c =
    let two = appends_on _ _ _ _ _ (Ok tt) c.in_ok-append_spaced.ensures.text c.in_ok-append_spaced-2.ensures.text in
    let three = appends_on _ _ _ _ _ (Ok tt) two c.in_ok-append_spaced-3.ensures.text in
    appends_on _ _ _ _ _ _ three c.append_bytes.ensures
