-- The first character in upper case, and the rest.
use Rattle.std.proofs.Common.{◌++◌, ap, sym, ◌∙◌, string_bytes, encode_utf8}
use Rattle.std.proofs.lemmas.List.{append_assoc}
use Rattle.page_rdf.specs.Property.{capitalized}
use Rattle.page_rdf.proofs.Capitals.{capital}
use Rattle.page_rdf.proofs.property.push_capitalized.Goals as goal

pub returns : goal.returns
returns c =
    let name = string_bytes c.args.name.now in
    let first = c.in-Some.first in
    let rest = c.in-Some.rest.now in
    let upper = ap (λ u. encode_utf8 u ++ rest) c.to_ascii_uppercase.ensures.value ∙ (capital first rest ∙ ap capitalized (sym c.in-Some.ensures)) in
    c.in_ok-push_str.ensures.bytes ∙ (ap (λ b. b ++ rest) c.in_ok-push.ensures.bytes ∙ (append_assoc name (encode_utf8 c.to_ascii_uppercase.result) rest ∙ ap (λ t. name ++ t) upper))
