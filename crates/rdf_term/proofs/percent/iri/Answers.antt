-- One character more, and the end.
use Rattle.std.proofs.Common.{◌∙◌, ap}
use Rattle.rdf_term.specs.declared.term.Term.TheVariants.{Iri}
use Rattle.rdf_term.proofs.FitTerms.{iri_of_fit}
use Rattle.rdf_term.proofs.IriChars.{encoded_more, encoded_whole}
use Rattle.rdf_term.proofs.percent.iri.Goals as goal

pub loop-c-preserved : goal.loop-c-preserved
loop-c-preserved c = encoded_more _ _ _ _ c.args.text.now _ c.in-Some.ensures.steps.0 c.loop-c.invariant c.in_ok-push_encoded.ensures

pub returns : goal.returns
returns c =
    let is = c.from_string.ensures ∙ encoded_whole _ _ c.args.text.now c.in_default.ensures.steps.0.0 c.loop-c.invariant in
    record { value = ap Iri is; fit = rw is (iri_of_fit c.args.text.now) }
