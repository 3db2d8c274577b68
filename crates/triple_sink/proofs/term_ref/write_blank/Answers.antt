-- `_:`, and the label.
use Rattle.std.proofs.Common.{[], ◌∷◌}
use Rattle.rdf_term.proofs.Appending.{appends_on}
use Rattle.rdf_term.proofs.Utf8Texts.{blank_utf8}
use Rattle.triple_sink.proofs.term_ref.write_blank.Goals as goal

pub returns-in_err-append-clause-utf8 : goal.returns-in_err-append-clause-utf8
returns-in_err-append-clause-utf8 c = blank_utf8 _ c.utf8.label

pub returns : goal.returns
returns c = record {
  text = rw (← c.as_bytes.ensures.value) (appends_on _ _ _ (95 ∷ 58 ∷ []) _ _ c.in_ok-append.ensures c.append-2.ensures);
  utf8 = blank_utf8 _ c.utf8.label;
}
