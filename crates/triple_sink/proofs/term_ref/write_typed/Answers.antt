-- The text in its quotes, and the datatype behind them.
use Rattle.std.proofs.Common.{[], ◌∷◌}
use Rattle.rdf_term.specs.Text.{in_brackets, quoted}
use Rattle.rdf_term.proofs.Appending.{appends_on, behind_quoted, refused_on, still_old}
use Rattle.rdf_term.proofs.Utf8Texts.{typed_utf8}
use Rattle.triple_sink.proofs.term_ref.write_typed.Goals as goal

pub returns-in_err-write_quoted-clause-utf8 : goal.returns-in_err-write_quoted-clause-utf8
returns-in_err-write_quoted-clause-utf8 c = typed_utf8 _ _ c.utf8.text c.utf8.datatype

pub returns-in_err-append : goal.returns-in_err-append
returns-in_err-append c = record {
  text = refused_on c.args.out.now.items _ _ (quoted c.args.text.now []) (quoted c.args.text.now (94 ∷ 94 ∷ in_brackets c.args.datatype.now)) _ c.from_residual-in_err-append.ensures.0 c.in_ok-write_quoted.ensures.text c.in_err-append.ensures;
  utf8 = typed_utf8 _ _ c.utf8.text c.utf8.datatype;
}

pub returns-in_err-append-2 : goal.returns-in_err-append-2
returns-in_err-append-2 c = record {
  text = refused_on c.args.out.now.items _ _ (quoted c.args.text.now []) (quoted c.args.text.now (94 ∷ 94 ∷ in_brackets c.args.datatype.now)) _ c.from_residual-in_err-append-2.ensures.0 c.in_ok-write_quoted.ensures.text (still_old _ _ _ _ c.in_ok-append.ensures c.in_err-append-2.ensures);
  utf8 = typed_utf8 _ _ c.utf8.text c.utf8.datatype;
}

pub returns : goal.returns
returns c = record {
  text = rw (← c.as_bytes.ensures.value) (behind_quoted _ _ _ c.args.text.now _ _ c.in_ok-write_quoted.ensures.text (appends_on _ _ _ (94 ∷ 94 ∷ 60 ∷ []) _ _ c.in_ok-append.ensures (appends_on _ _ _ _ (62 ∷ []) _ c.in_ok-append-2.ensures c.append_byte.ensures)));
  utf8 = typed_utf8 _ _ c.utf8.text c.utf8.datatype;
}
