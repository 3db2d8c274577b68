-- The document of a page is one of the page's entity.
use Rattle.std.proofs.Common.{◌≡◌, ℕ, List, true, Option, Some, None, is_some, refl, sym, ap, ◌∙◌, subst}
use Rattle.json_spell.specs.Tree.{Tree}
use Rattle.entity_model.specs.declared.id.IdKind.{IdKind}
use Rattle.entity_model.specs.declared.id.IdKind.TheVariants.{P, Q, L}
use Rattle.entity_model.specs.declared.id.EntityId.{EntityId}
use Rattle.entity_model.specs.declared.entity.Entity.{Entity}
use Rattle.entity_model.specs.declared.document.Document.{Document}
use Rattle.entity_model.specs.declared.document.Document.TheVariants.{Entity as AnEntity, Redirect, Lexeme as ALexeme}
use Rattle.entity_model.specs.Document.{HasPartsOf, IsDocumentOf}
use Rattle.entity_json.specs.Document.{document_of}
use Rattle.entity_json.specs.Pages.{HasDatatype, HasLinks, IsDocument}
use Rattle.entity_json.proofs.Fitness.{documents}

-- a property's datatype is there
has_some : (t : Tree) (o : Option (List ℕ)) → HasDatatype P t o → is_some o ≡ true
has_some t None h = absurd h
has_some t (Some datatype) h = refl

parts_of : (kind : IdKind) (t : Tree) (entity : Entity) → HasDatatype kind t entity.datatype → HasLinks kind t entity.links → HasPartsOf kind entity
parts_of P t entity datatype links = (has_some t entity.datatype datatype, links)
parts_of Q t entity datatype links = datatype
parts_of L t entity datatype links = datatype

-- what a tree is by the rules
own_document : (t : Tree) (x : EntityId) (document : Document) → IsDocument t x document → IsDocumentOf x document
own_document t x (AnEntity entity) h =
    record {
      id = sym h.2;
      parts = subst (λ (y : EntityId). HasPartsOf y.kind entity) (sym h.2) (parts_of entity.id.kind t entity h.1.datatype h.1.links);
    }
own_document t x (Redirect y) h = tt
own_document t x (ALexeme lexeme) h = record { id = sym h.2; letter = ap (λ (y : EntityId). y.kind) h.2 ∙ h.1.letter }

-- what bytes are
pub document_owned : (x : EntityId) (bytes : List ℕ) (document : Document) → document_of x bytes ≡ Some document → IsDocumentOf x document
document_owned x bytes document e =
    let h = (documents x bytes document).0 e in
    own_document h.is_page.page_tree x document h.is_page.holds
