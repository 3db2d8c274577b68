-- The bracket, the IRI, the bracket.
use Rattle.std.proofs.Common.{[], ◌∷◌}
use Rattle.rdf_term.proofs.Appending.{appends_on, refused_on}
use Rattle.rdf_term.proofs.Utf8Texts.{iri_utf8}
use Rattle.triple_sink.proofs.term_ref.write_iri.Goals as goal

pub returns-in_err-append_byte-clause-utf8 : goal.returns-in_err-append_byte-clause-utf8
returns-in_err-append_byte-clause-utf8 c = iri_utf8 _ c.utf8.iri

pub returns-in_err-append : goal.returns-in_err-append
returns-in_err-append c = record {
  text = refused_on _ _ _ (60 ∷ []) _ _ c.from_residual-in_err-append.ensures.0 c.in_ok-append_byte.ensures c.in_err-append.ensures;
  utf8 = iri_utf8 _ c.utf8.iri;
}

pub returns : goal.returns
returns c = record {
  text = rw (← c.as_bytes.ensures.value) (appends_on _ _ _ (60 ∷ []) _ _ c.in_ok-append_byte.ensures (appends_on _ _ _ _ (62 ∷ []) _ c.in_ok-append.ensures c.append_byte-2.ensures));
  utf8 = iri_utf8 _ c.utf8.iri;
}
