-- Ids of a kind, and lists of items: how they are read agrees with the rules.
use Rattle.std.proofs.Common.{◌≡◌, ℕ, List, Some, refl, sym, ap, ◌∙◌}
use Rattle.json_spell.specs.Tree.{Tree, member_of}
use Rattle.json_spell.proofs.Opened.{bind_some}
use Rattle.entity_model.specs.declared.id.IdKind.{IdKind}
use Rattle.entity_model.specs.declared.id.IdKind.TheVariants.{Q}
use Rattle.entity_model.specs.declared.id.EntityId.{EntityId}
use Rattle.entity_model.specs.EntityId.{id_text}
use Rattle.entity_json.specs.Items.{AreItemIds, HasItemId, IsItemId}
use Rattle.entity_json.specs.Leaves.{◌>>=◌, text_of, text_at, id_of_kind, id_of_kind_at}
use Rattle.entity_json.specs.Members.{HasId}
use Rattle.entity_json.specs.Reading.Items.{item_id_of, item_ids_at}
use Rattle.entity_json.proofs.Agree.{Agree, optional_list-sound, optional_list-complete}
use Rattle.entity_json.proofs.AgreeLeaves.{id_of_kind-sound, id_of_kind-complete}

-- an id of a kind under a name
pub id-sound : (name : List ℕ) (kind : IdKind) (t : Tree) (x : EntityId) → id_of_kind_at kind name t ≡ Some x → HasId name t x × (x.kind ≡ kind)
id-sound name kind t x e =
    let text = bind_some (text_at name t) (id_of_kind kind) e in
    let id = id_of_kind-sound kind text.0 x text.1.1 in
    (record { is_id = id.is_id; text = text.1.0 ∙ ap Some id.is }, id.letter)

pub id-complete : (name : List ℕ) (t : Tree) (x : EntityId) → HasId name t x → id_of_kind_at x.kind name t ≡ Some x
id-complete name t x h = ap (λ o. o >>= id_of_kind x.kind) h.text ∙ id_of_kind-complete x.kind (id_text x) x (record { is_id = h.is_id; letter = refl; is = refl })

-- an item under a name
pub has_item-sound : (name : List ℕ) (t : Tree) (x : EntityId) → id_of_kind_at Q name t ≡ Some x → HasItemId name t x
has_item-sound name t x e = let found = id-sound name Q t x e in record { id = found.0; letter = found.1 }

pub has_item-complete : (name : List ℕ) (t : Tree) (x : EntityId) → HasItemId name t x → id_of_kind_at Q name t ≡ Some x
has_item-complete name t x h = ap (λ k. id_of_kind_at k name t) (sym h.letter) ∙ id-complete name t x h.id

-- an item's id
item_id-sound : (t : Tree) (x : EntityId) → item_id_of t ≡ Some x → IsItemId t x
item_id-sound t x e =
    let text = bind_some (text_of t) (id_of_kind Q) e in
    let id = id_of_kind-sound Q text.0 x text.1.1 in
    record { text = text.1.0 ∙ ap Some id.is; is_id = id.is_id; letter = id.letter }

item_id-complete : (t : Tree) (x : EntityId) → IsItemId t x → item_id_of t ≡ Some x
item_id-complete t x h = ap (λ o. o >>= id_of_kind Q) h.text ∙ id_of_kind-complete Q (id_text x) x (record { is_id = h.is_id; letter = h.letter; is = refl })

item_id_agrees : Agree {X = ℕ × Tree} (λ item. item_id_of item.1) (λ item x. IsItemId item.1 x)
item_id_agrees = record { sound = λ i x. item_id-sound i.1 x; complete = λ i x. item_id-complete i.1 x }

-- a list of them
pub item_ids-sound : (name : List ℕ) (t : Tree) (xs : List EntityId) → item_ids_at name t ≡ Some xs → AreItemIds name t xs
unfolding item_ids_at
item_ids-sound name t xs e =
    optional_list-sound (λ item. item_id_of item.1) (λ item x. IsItemId item.1 x) item_id_agrees name t (member_of name t) refl xs e

pub item_ids-complete : (name : List ℕ) (t : Tree) (xs : List EntityId) → AreItemIds name t xs → item_ids_at name t ≡ Some xs
unfolding item_ids_at
item_ids-complete name t xs h =
    optional_list-complete (λ item. item_id_of item.1) (λ item x. IsItemId item.1 x) item_id_agrees name t (member_of name t) refl xs h
