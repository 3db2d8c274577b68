-- Snaks, and maps from properties to lists of them: how they are read agrees with the rule.
use Rattle.std.proofs.Common.{◌≡◌, ℕ, true, List, ◌++◌, Option, Some, None, option_map, ⊎_elim, refl, sym, ap, ◌∙◌}
use Rattle.std.specs.Prelude.{codes}
use Rattle.std.specs.Str.{bytes_eq}
use Rattle.json_spell.specs.Tree.{Tree, member_of}
use Rattle.json_spell.proofs.Opened.{some_is, bind_some, map_some, chosen, guarded}
use Rattle.entity_model.specs.declared.id.IdKind.TheVariants.{P}
use Rattle.entity_model.specs.declared.id.EntityId.{EntityId}
use Rattle.entity_model.specs.EntityId.{id_text}
use Rattle.entity_model.specs.declared.value.Value.{Value}
use Rattle.entity_model.specs.declared.snak.Content.{Content}
use Rattle.entity_model.specs.declared.snak.Content.TheVariants.{Value as AValue, NoValue, SomeValue}
use Rattle.entity_model.specs.declared.snak.Snak.{Snak}
use Rattle.entity_json.specs.Leaves.{◌>>=◌, text_at, list_of, id_of_kind}
use Rattle.entity_json.specs.Joined.{numbered}
use Rattle.entity_json.specs.Properties.{UnderProperty}
use Rattle.entity_json.specs.Snaks.{HasValue, IsContent, IsDatatype, IsSnak, AreSnaks, value_type}
use Rattle.entity_json.specs.Reading.Steps.{put, steps}
use Rattle.entity_json.specs.Reading.Values.{value_of}
use Rattle.entity_json.specs.Reading.Snaks.{text_or, datatype_of, content_named, snak_content, snak_of, snaks_step, snaks_at}
use Rattle.entity_json.proofs.Agree.{Agree, Grown, Walks, list-sound, list-complete, map-sound, map-complete}
use Rattle.entity_json.proofs.AgreeLeaves.{same-from_test, test-from_same, id_of_kind-sound, id_of_kind-complete}
use Rattle.entity_json.proofs.AgreeValues.{value-sound, value-complete}

-- the data value
has_value-sound : (t d : Tree) → member_of (codes "datavalue") t ≡ Some d → (x : Value) → value_of d ≡ Some x → HasValue t x
unfolding value_of
has_value-sound t d is x e =
    let type = bind_some (text_at (codes "type") d) _ e in
    let value = bind_some (member_of (codes "value") d) _ type.1.1 in
    record {
      datavalue = d;
      type = type.0;
      value = value.0;
      is_datavalue = is;
      is_type = type.1.0;
      is_value = value.1.0;
      holds = value-sound type.0 value.0 x value.1.1;
    }

value_of-complete : (t : Tree) (x : Value) (h : HasValue t x) → value_of h.datavalue ≡ Some x
unfolding value_of
value_of-complete t x h = rw (h.is_type, h.is_value) (value-complete h.type h.value x h.holds)

-- what is said
content_value-sound : (t : Tree) (x : Content) → text_at (codes "snaktype") t ≡ Some (codes "value")
    → (member_of (codes "datavalue") t >>= λ d. option_map AValue (value_of d)) ≡ Some x → IsContent t x
content_value-sound t x named e =
    let found = bind_some (member_of (codes "datavalue") t) _ e in
    let value = map_some AValue (value_of found.0) found.1.1 in
    rw (← value.1.1) (named, has_value-sound t found.0 found.1.0 value.0 value.1.0)

content_is : (t : Tree) (y x : Content) → IsContent t y → Some y ≡ Some x → IsContent t x
content_is t y x h e = let is : y ≡ x = some_is e in rw (← is) h

content-sound : (t : Tree) (x : Content) → snak_content t ≡ Some x → IsContent t x
unfolding snak_content
content-sound t x e =
    let type = bind_some (text_at (codes "snaktype") t) _ e in
    let named = λ (name : List ℕ) (h : bytes_eq type.0 name ≡ true). type.1.0 ∙ ap Some (same-from_test type.0 name h) in
    ⊎_elim (λ h. content_value-sound t x (named (codes "value") h.0) h.1)
    (λ n1. ⊎_elim (λ h. content_is t NoValue x (named (codes "novalue") h.0) h.1)
    (λ n2. let h = guarded (bytes_eq type.0 (codes "somevalue")) n2.1 in content_is t SomeValue x (named (codes "somevalue") h.0) h.1)
    (chosen (bytes_eq type.0 (codes "novalue")) n1.1))
    (chosen (bytes_eq type.0 (codes "value")) type.1.1)

content-complete : (t : Tree) (x : Content) → IsContent t x → snak_content t ≡ Some x
unfolding snak_content
content-complete t (AValue x) h =
    ap (λ o. o >>= λ type. content_named type t) h.0
    ∙ ap (λ o. o >>= λ d. option_map AValue (value_of d)) h.1.is_datavalue ∙ ap (option_map AValue) (value_of-complete t x h.1)
content-complete t NoValue h = ap (λ o. o >>= λ type. content_named type t) h
content-complete t SomeValue h = ap (λ o. o >>= λ type. content_named type t) h

-- the datatype
datatype-sound : (m : Option Tree) (t : Tree) (s : List ℕ) → text_or (value_type t) m ≡ Some s → IsDatatype m t s
datatype-sound None t s e = sym (some_is e)
datatype-sound (Some u) t s e = e

datatype-complete : (m : Option Tree) (t : Tree) (s : List ℕ) → IsDatatype m t s → text_or (value_type t) m ≡ Some s
datatype-complete None t s h = ap Some (sym h)
datatype-complete (Some u) t s h = h

datatype_of-sound : (t : Tree) (s : List ℕ) → datatype_of t ≡ Some s → IsDatatype (member_of (codes "datatype") t) t s
unfolding datatype_of
datatype_of-sound t s e = datatype-sound (member_of (codes "datatype") t) t s e

datatype_of-complete : (t : Tree) (s : List ℕ) → IsDatatype (member_of (codes "datatype") t) t s → datatype_of t ≡ Some s
unfolding datatype_of
datatype_of-complete t s h = datatype-complete (member_of (codes "datatype") t) t s h

-- a snak under the id of a property
pub snak-sound : (key : List ℕ) (p : EntityId) (n : ℕ) (t : Tree) (x : Snak) → key ≡ id_text p → snak_of key p n t ≡ Some x → IsSnak p n t x
unfolding snak_of
snak-sound key p n t x key_is e =
    let named = bind_some (text_at (codes "property") t) _ e in
    let test = guarded (bytes_eq named.0 key) named.1.1 in
    let datatype = bind_some (datatype_of t) _ test.1 in
    let content = bind_some (snak_content t) _ datatype.1.1 in
    let is = some_is content.1.1 in
    record {
      under_key = named.1.0 ∙ ap Some (same-from_test named.0 key test.0 ∙ key_is);
      property = ap (λ (r : Snak). r.property) (sym is);
      place = ap (λ (r : Snak). r.place) (sym is);
      content = content-sound t x.content (content.1.0 ∙ ap (λ (r : Snak). Some r.content) is);
      datatype = datatype_of-sound t x.datatype (datatype.1.0 ∙ ap (λ (r : Snak). Some r.datatype) is);
    }

pub snak-complete : (key : List ℕ) (p : EntityId) (n : ℕ) (t : Tree) (x : Snak) → key ≡ id_text p → IsSnak p n t x → snak_of key p n t ≡ Some x
unfolding snak_of
snak-complete key p n t x key_is h =
    let named : bytes_eq (id_text p) key ≡ true = test-from_same (id_text p) key (sym key_is) in
    let datatype = datatype_of-complete t x.datatype h.datatype in
    let content = content-complete t x.content h.content in
    rw (h.under_key, named, datatype, content, ← h.property, ← h.place) refl

-- the entries of a map from properties to lists
abbrev pub under : {A : Type 0} → (List ℕ → EntityId → ℕ × Tree → Option A) → List ℕ × Tree → List A → Option (List A)
under f member out = id_of_kind P member.0 >>= λ p. list_of member.1 >>= λ items. steps (λ x o. put o (f member.0 p x)) (numbered 0 items) out

under-sound : {A : Type 0} (f : List ℕ → EntityId → ℕ × Tree → Option A) (R : EntityId → ℕ × Tree → A → Type 0)
    → ((key : List ℕ) (p : EntityId) → key ≡ id_text p → Agree (f key p) (R p)) → (member : List ℕ × Tree) (out new : List A) → under f member out ≡ Some new → Grown (UnderProperty R member) out new
under-sound f R agree member out new e =
    let found = bind_some (id_of_kind P member.0) _ e in
    let id = id_of_kind-sound P member.0 found.0 found.1.0 in
    let grown = list-sound (f member.0 found.0) (R found.0) (agree member.0 found.0 id.is) (list_of member.1) out new found.1.1 in
    record {
      more = grown.more;
      holds = record { property = found.0; is_property = record { is_id = id.is_id; letter = id.letter; is = id.is }; parts = grown.holds };
      is = grown.is;
    }

under-complete : {A : Type 0} (f : List ℕ → EntityId → ℕ × Tree → Option A) (R : EntityId → ℕ × Tree → A → Type 0)
    → ((key : List ℕ) (p : EntityId) → key ≡ id_text p → Agree (f key p) (R p)) → (member : List ℕ × Tree) (out more : List A) → UnderProperty R member more → under f member out ≡ Some (out ++ more)
under-complete f R agree member out more h =
    let id = id_of_kind-complete P member.0 h.property (record { is_id = h.is_property.is_id; letter = h.is_property.letter; is = h.is_property.is }) in
    ap (λ o. o >>= λ p. list_of member.1 >>= λ items. steps (λ x o. put o (f member.0 p x)) (numbered 0 items) out) id
    ∙ list-complete (f member.0 h.property) (R h.property) (agree member.0 h.property h.is_property.is) (list_of member.1) out more h.parts

pub under_walks : {A : Type 0} (f : List ℕ → EntityId → ℕ × Tree → Option A) (R : EntityId → ℕ × Tree → A → Type 0)
    → ((key : List ℕ) (p : EntityId) → key ≡ id_text p → Agree (f key p) (R p)) → Walks (under f) (UnderProperty R)
under_walks f R agree = record { sound = under-sound f R agree; complete = under-complete f R agree }

-- a map to lists of snaks
abbrev snak_in : List ℕ → EntityId → ℕ × Tree → Option Snak
snak_in key p item = snak_of key p item.0 item.1

abbrev IsSnakIn : EntityId → ℕ × Tree → Snak → Type 0
IsSnakIn p value x = IsSnak p value.0 value.1 x

snak_agrees : (key : List ℕ) (p : EntityId) → key ≡ id_text p → Agree (snak_in key p) (IsSnakIn p)
snak_agrees key p is = record { sound = λ i x. snak-sound key p i.0 i.1 x is; complete = λ i x. snak-complete key p i.0 i.1 x is }

snaks_walk : Walks snaks_step (UnderProperty IsSnakIn)
unfolding snaks_step
snaks_walk = record { sound = under-sound snak_in IsSnakIn snak_agrees; complete = under-complete snak_in IsSnakIn snak_agrees }

pub snaks-sound : (name : List ℕ) (t : Tree) (xs : List Snak) → snaks_at name t ≡ Some xs → AreSnaks name t xs
unfolding snaks_at
snaks-sound name t xs e = map-sound snaks_step (UnderProperty IsSnakIn) snaks_walk name t xs e

pub snaks-complete : (name : List ℕ) (t : Tree) (xs : List Snak) → AreSnaks name t xs → snaks_at name t ≡ Some xs
unfolding snaks_at
snaks-complete name t xs h = map-complete snaks_step (UnderProperty IsSnakIn) snaks_walk name t xs h
