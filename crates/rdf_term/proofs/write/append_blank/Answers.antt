-- What stands before a label, and the label.
use Rattle.std.proofs.Common.{[], ◌∷◌}
use Rattle.rdf_term.proofs.Appending.{appends_on}
use Rattle.rdf_term.proofs.Utf8Texts.{blank_utf8}
use Rattle.rdf_term.proofs.write.append_blank.Goals as goal

pub returns-in_err-append_bytes-clause-utf8 : goal.returns-in_err-append_bytes-clause-utf8
returns-in_err-append_bytes-clause-utf8 c = blank_utf8 _ c.utf8.label

pub returns : goal.returns
returns c = record {
  text = rw (← c.as_bytes.ensures.value) (appends_on _ _ _ (95 ∷ 58 ∷ []) _ _ c.in_ok-append_bytes.ensures c.append_bytes-2.ensures);
  utf8 = blank_utf8 _ c.utf8.label;
}
