-- What is marked, only one of the parts says.
use Rattle.std.proofs.Common.{◌≡◌, Bool, ◌∙◌, subst}
use Rattle.std.specs.Prelude.{IfSome}
use Rattle.rdf_term.specs.declared.triple.Triple.{Triple}
use Rattle.page_parts.specs.{InOne.in_one, Marked.is_marked}
use Rattle.fetched_pages.specs.Differing.{IsDifference, part_list, stays_by}
use Rattle.fetched_pages.proofs.apart.difference_of.Goals as goal

pub returns : goal.returns
returns c =
    let version = c.args.setting.version in
    let x = c.args.id in
    let sides = c.args.sides in
    let gone = part_list version x sides.gone in
    let come = part_list version x sides.come in
    let each : (t : Triple) → is_marked c.in-Ok-of.marks t ≡ in_one gone come t = λ t. c.in-Ok-of.ensures t ∙ (λ i. in_one (c.in-Ok.ensures i) (c.in-Ok-counted_texts.ensures i) t) in
    let test : is_marked c.in-Ok-of.marks ≡ in_one gone come = λ i t. each t i in
    subst (λ (q : Triple → Bool). IfSome c.difference_by.result (IsDifference version x sides (stays_by version x c.args.document.now sides q))) test c.difference_by.ensures
