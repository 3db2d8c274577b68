-- An entity is read where each of its parts is.
use Rattle.std.proofs.Common.{◌≡◌, List, ℕ, Option, Some, codes, refl}
use Rattle.json_spell.specs.Tree.{Tree}
use Rattle.entity_model.specs.declared.id.IdKind.{IdKind}
use Rattle.entity_model.specs.declared.id.EntityId.{EntityId}
use Rattle.entity_model.specs.declared.value.Tagged.{Tagged}
use Rattle.entity_model.specs.declared.statement.Statement.{Statement}
use Rattle.entity_model.specs.declared.entity.Link.{Link}
use Rattle.entity_json.specs.Leaves.{id_of_kind_at, optional_text_at}
use Rattle.entity_json.specs.Reading.Terms.{labels_at, aliases_at}
use Rattle.entity_json.specs.Reading.Statements.{statements_at}
use Rattle.entity_json.specs.Reading.Pages.{page_kind, datatype_by_kind, links_by_kind, entity_of}

pub entity-read : (t : Tree) (kind : IdKind) (id : EntityId) (datatype modified : Option (List ℕ)) (labels descriptions aliases : List Tagged) (statements : List Statement) (links : List Link)
    → page_kind t ≡ Some kind → id_of_kind_at kind (codes "id") t ≡ Some id → datatype_by_kind kind t ≡ Some datatype
    → optional_text_at (codes "modified") t ≡ Some modified → labels_at (codes "labels") t ≡ Some labels → labels_at (codes "descriptions") t ≡ Some descriptions
    → aliases_at (codes "aliases") t ≡ Some aliases → statements_at (codes "claims") t ≡ Some statements → links_by_kind kind t ≡ Some links
    → entity_of t ≡ Some (record { id = id; datatype = datatype; modified = modified; labels = labels; descriptions = descriptions; aliases = aliases; statements = statements; links = links })
unfolding entity_of
entity-read t kind id datatype modified labels descriptions aliases statements links is_kind is_id is_datatype is_modified are_labels are_descriptions are_aliases are_statements are_links =
    rw (is_kind, is_id, is_datatype, is_modified, are_labels, are_descriptions, are_aliases, are_statements, are_links) refl
