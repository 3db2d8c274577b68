-- The text in its quotes, and the tag behind them.
use Rattle.std.proofs.Common.{[], ◌∷◌}
use Rattle.rdf_term.specs.Text.{quoted}
use Rattle.rdf_term.proofs.Appending.{appends_on, behind_quoted, refused_on}
use Rattle.rdf_term.proofs.Utf8Texts.{lang_utf8}
use Rattle.triple_sink.proofs.term_ref.write_lang.Goals as goal

pub returns-in_err-write_quoted-clause-utf8 : goal.returns-in_err-write_quoted-clause-utf8
returns-in_err-write_quoted-clause-utf8 c = lang_utf8 _ _ c.utf8.text c.utf8.tag

pub returns-in_err-append_byte : goal.returns-in_err-append_byte
returns-in_err-append_byte c = record {
  text = refused_on c.args.out.now.items _ _ (quoted c.args.text.now []) (quoted c.args.text.now (64 ∷ c.args.tag.now)) _ c.from_residual-in_err-append_byte.ensures.0 c.in_ok-write_quoted.ensures.text c.in_err-append_byte.ensures;
  utf8 = lang_utf8 _ _ c.utf8.text c.utf8.tag;
}

pub returns : goal.returns
returns c = record {
  text = rw (← c.as_bytes.ensures.value) (behind_quoted _ _ _ c.args.text.now _ _ c.in_ok-write_quoted.ensures.text (appends_on _ _ _ (64 ∷ []) _ _ c.in_ok-append_byte.ensures c.append.ensures));
  utf8 = lang_utf8 _ _ c.utf8.text c.utf8.tag;
}
