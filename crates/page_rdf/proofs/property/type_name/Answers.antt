-- The parts, capitalized one after the other.
use Rattle.std.proofs.Common.{◌≡◌, [], ◌∙◌, string_bytes}
use Rattle.page_rdf.specs.Property.{capitalized}
use Rattle.page_rdf.proofs.Capitals.{made_of_shown}
use Rattle.page_rdf.proofs.property.type_name.Goals as goal

pub returns : goal.returns
returns c =
    let start : string_bytes c.new-name.result ≡ [] = cc in
    c.in_ok-push_all_capitalized.ensures
    ∙ made_of_shown _ capitalized _ c.in_ok-parts.parts.items _ _ start c.as_slice.ensures.value c.in_ok-parts.ensures
