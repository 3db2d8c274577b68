-- By the entity of the held page, if that is a document.
use Rattle.std.proofs.Common.{◌≡◌, Option, Some, sym, ◌∙◌, ap, subst}
use Rattle.std.specs.Prelude.{IfSome}
use Rattle.entity_json.specs.Document.{document_of}
use Rattle.entity_model.specs.declared.document.Document.{Document}
use Rattle.entity_model.specs.declared.document.Document.TheVariants.{Entity as AnEntity}
use Rattle.entity_documents.specs.Changed.{IsEntityPage}
use Rattle.page_parts.specs.declared.difference.PageDifference.{PageDifference}
use Rattle.page_parts.specs.Apart.{AreApart}
use Rattle.fetched_pages.specs.Differing.{IsDifference, stays}
use Rattle.fetched_pages.specs.Meaning.{meaning}
use Rattle.fetched_pages.proofs.DifferingPages.{apart_if}
use Rattle.fetched_pages.proofs.apart.apart.Goals as goal
use Rattle.fetched_pages.proofs.apart.apart.Goals.{in-Some, in-None}

pub returns : goal.returns
returns c fit =
    let w = c.args.wanted in
    let held = c.args.held in
    let bytes = c.args.page.bytes.now in
    let changed = c.in_ok-changed.changed in
    let page : IsEntityPage w.id held.bytes.now = c.in_ok-changed.ensures.kind fit in
    let new_is : document_of w.id bytes ≡ Some (AnEntity c.in-Entity.entity) = c.requires.document ∙ ap Some c.in-Entity.is in
    elim c.match-sides_of.branch [
      | in-Some v ↦ subst (λ (o : Option PageDifference). IfSome o (AreApart w.id c.args.is_counted (meaning w.version w.id held.rev held.bytes.now) (meaning w.version w.id w.rev bytes))) (sym v.difference-is)
          (apart_if w.version w.id held.rev w.rev held.bytes.now bytes page.entity c.in-Entity.entity changed v.in-Some.sides c.args.is_counted v.difference_of-difference.result page.document new_is
          (c.in_ok-changed.ensures.changes page.entity page.document) v.in-Some.ensures.sides
          (subst (λ (document : Document). IfSome v.difference_of-difference.result (IsDifference w.version w.id v.in-Some.sides (stays w.version w.id document v.in-Some.sides))) c.in-Entity.is v.difference_of-difference.ensures) v.in-Some.ensures.counted)
      | in-None v ↦ subst (λ (o : Option PageDifference). IfSome o (AreApart w.id c.args.is_counted (meaning w.version w.id held.rev held.bytes.now) (meaning w.version w.id w.rev bytes))) (sym v.difference-is) tt
    ]
