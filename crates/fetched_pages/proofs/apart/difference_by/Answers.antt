-- What is marked stays where the new page has it more often than the part that came.
use Rattle.std.proofs.Common.{◌≡◌, Bool, filter, ◌∙◌, subst}
use Rattle.std.specs.Prelude.{IfSome}
use Rattle.rdf_term.specs.declared.triple.Triple.{Triple}
use Rattle.page_parts.specs.{InOne.has_more, Marked.is_marked}
use Rattle.fetched_pages.specs.Differing.{IsDifference, kept_of, part_list, stays_by}
use Rattle.fetched_pages.proofs.apart.difference_by.Goals as goal

pub returns : goal.returns
returns c =
    let version = c.args.setting.version in
    let x = c.args.id in
    let sides = c.args.sides in
    let document = c.args.document.now in
    let all_are : c.found.result.now ≡ filter (is_marked c.args.marks.now) (kept_of version x sides.come.rev document) = c.found.ensures ∙ c.in-Ok-marked_in_page.ensures in
    let came_are : c.found-2.result.now ≡ filter (is_marked c.args.marks.now) (part_list version x sides.come) = c.found-2.ensures ∙ c.in-Ok.ensures in
    let each : (t : Triple) → is_marked c.in-Ok-of_more.staying t ≡ stays_by version x document sides (is_marked c.args.marks.now) t = λ t. c.in-Ok-of_more.ensures t ∙ (λ i. has_more (all_are i) (came_are i) t) in
    let test : is_marked c.in-Ok-of_more.staying ≡ stays_by version x document sides (is_marked c.args.marks.now) = λ i t. each t i in
    subst (λ (q : Triple → Bool). IfSome c.both_parts.result (IsDifference version x sides q)) test c.both_parts.ensures
