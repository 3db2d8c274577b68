-- The bracket, the IRI, the bracket.
use Rattle.std.proofs.Common.{[], ◌∷◌}
use Rattle.rdf_term.proofs.Appending.{appends_on, refused_on}
use Rattle.rdf_term.proofs.Utf8Texts.{iri_utf8}
use Rattle.rdf_term.proofs.write.append_iri.Goals as goal

pub returns-in_err-append_bytes-clause-utf8 : goal.returns-in_err-append_bytes-clause-utf8
returns-in_err-append_bytes-clause-utf8 c = iri_utf8 _ c.utf8.iri

pub returns-in_err-append_bytes-2 : goal.returns-in_err-append_bytes-2
returns-in_err-append_bytes-2 c = record {
  text = refused_on _ _ _ (60 ∷ []) _ _ c.from_residual-in_err-append_bytes-2.ensures.0 c.in_ok-append_bytes.ensures c.in_err-append_bytes-2.ensures;
  utf8 = iri_utf8 _ c.utf8.iri;
}

pub returns : goal.returns
returns c = record {
  text = rw (← c.as_bytes.ensures.value) (appends_on _ _ _ (60 ∷ []) _ _ c.in_ok-append_bytes.ensures (appends_on _ _ _ _ (62 ∷ []) _ c.in_ok-append_bytes-2.ensures c.append_bytes-3.ensures));
  utf8 = iri_utf8 _ c.utf8.iri;
}
