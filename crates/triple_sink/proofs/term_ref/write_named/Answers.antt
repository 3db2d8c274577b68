-- The bracket, the namespace, the name, the bracket.
use Rattle.std.proofs.Common.{[], ◌∷◌, ◌++◌, append_assoc}
use Rattle.rdf_term.proofs.Appending.{appends_on, refused_on, still_old}
use Rattle.triple_sink.proofs.Written.{named_utf8}
use Rattle.triple_sink.proofs.term_ref.write_named.Goals as goal

pub returns-in_err-append_byte-clause-utf8 : goal.returns-in_err-append_byte-clause-utf8
returns-in_err-append_byte-clause-utf8 c = named_utf8 _ _ c.utf8.front c.utf8.name

pub returns-in_err-append : goal.returns-in_err-append
returns-in_err-append c = record {
  text = refused_on _ _ _ (60 ∷ []) _ _ c.from_residual-in_err-append.ensures.0 c.in_ok-append_byte.ensures c.in_err-append.ensures;
  utf8 = named_utf8 _ _ c.utf8.front c.utf8.name;
}

pub returns-in_err-append-2 : goal.returns-in_err-append-2
returns-in_err-append-2 c = record {
  text = refused_on _ _ _ (60 ∷ []) _ _ c.from_residual-in_err-append-2.ensures.0 c.in_ok-append_byte.ensures (still_old _ _ _ _ c.in_ok-append.ensures c.in_err-append-2.ensures);
  utf8 = named_utf8 _ _ c.utf8.front c.utf8.name;
}

pub returns : goal.returns
returns c =
    let front = c.as_bytes.result.now in
    let name = c.as_bytes-2.result.now in
    let end = c.append_byte-2.result in
    record {
      text = rw (← c.as_bytes.ensures.value, ← c.as_bytes-2.ensures.value, append_assoc)
          (appends_on _ _ _ (60 ∷ []) (front ++ (name ++ 62 ∷ [])) end c.in_ok-append_byte.ensures
          (appends_on _ _ _ front (name ++ 62 ∷ []) end c.in_ok-append.ensures
          (appends_on _ _ _ name (62 ∷ []) end c.in_ok-append-2.ensures c.append_byte-2.ensures)));
      utf8 = named_utf8 _ _ c.utf8.front c.utf8.name;
    }
