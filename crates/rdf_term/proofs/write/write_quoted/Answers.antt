-- The quote, the text, the quote.
use Rattle.std.proofs.Common.{[], ◌∷◌}
use Rattle.rdf_term.proofs.Appending.{appends_on, refused_on}
use Rattle.rdf_term.proofs.Utf8Texts.{plain_utf8}
use Rattle.rdf_term.proofs.write.write_quoted.Goals as goal

pub returns-in_err-append_bytes-clause-utf8 : goal.returns-in_err-append_bytes-clause-utf8
returns-in_err-append_bytes-clause-utf8 c = plain_utf8 _ c.utf8.text

pub returns-in_err-append_escaped : goal.returns-in_err-append_escaped
returns-in_err-append_escaped c = record {
  text = refused_on _ _ _ (34 ∷ []) _ _ c.from_residual-in_err-append_escaped.ensures.0 c.in_ok-append_bytes.ensures c.in_err-append_escaped.ensures;
  utf8 = plain_utf8 _ c.utf8.text;
}

pub returns : goal.returns
returns c = record {
  text = rw (← c.as_bytes.ensures.value) (appends_on _ _ _ (34 ∷ []) _ _ c.in_ok-append_bytes.ensures (appends_on _ _ _ _ (34 ∷ []) _ c.in_ok-append_escaped.ensures c.append_bytes-2.ensures));
  utf8 = plain_utf8 _ c.utf8.text;
}
