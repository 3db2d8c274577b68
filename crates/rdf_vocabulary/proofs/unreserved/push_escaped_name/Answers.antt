use Rattle.std.proofs.Common.{◌++◌, ◌∙◌, ap, string_bytes}
use Rattle.rdf_vocabulary.proofs.Escapes.{percent_encode-reserved}
use Rattle.rdf_vocabulary.proofs.unreserved.push_escaped_name.Goals as goal

pub returns-clause-ok : goal.returns-clause-ok
returns-clause-ok c =
    c.in_ok-append_to.ensures.ok
    ∙ ap (λ t. string_bytes c.args.iri.now ++ t) (c.utf8_percent_encode.ensures.text ∙ percent_encode-reserved c.args.name.now)
