-- A drill brings no version of the mapping, and has no question.
use Rattle.std.proofs.Common.{◌≡◌, ◌∙◌, refl, sym, ap, ℕ, ◌-◌, ◌*◌, ◌%◌, ◌==◌, Bool, true, false, if◌then◌else◌, List, [], ◌∷◌, ◌++◌, append-nil, Option, None, filter_map, unwrap_or}
use Rattle.std.specs.List.{flat_map, last_or, range_with_len}
use Rattle.std.proofs.lemmas.List.Elements.{filter_map-append}
use Rattle.sorted_sets.proofs.Pushes.{first_empty}
use Rattle.delivery.specs.{declared.Delivery.Delivery, declared.Delivery.TheVariants.Watermark}
use Rattle.entity_model.specs.declared.event.Kind.TheVariants.{Delete, Edit}
use Rattle.entity_model.specs.declared.mapping.MappingVersion.TheVariants.{One}
use Rattle.replay_model.specs.{Acceptance.mapping_of, Acceptance.version_in_force, Transcript.pattern_of, Transcript.shapes_of}
use Rattle.drill_replay.specs.Drill.{item_deliveries, drill, edits, event, time_at}

-- the deliveries of an item, by whether it is a fifth and a tenth one
abbrev of_item : Bool → Bool → ℕ → List Delivery
of_item fifth tenth i =
    edits i ++ (if fifth then event Delete i (2 * i) (2 * i) ∷ [] else []) ++ (if tenth then Watermark (time_at (2 * i)) ∷ event Edit i (2 * i - 1) (2 * i - 3) ∷ [] else [])

-- what no item gives, no first part of a drill gives
module _ {A : Type 0} (f : Delivery → Option A) (none : (fifth tenth : Bool) (i : ℕ) → filter_map f (of_item fifth tenth i) ≡ []) where
  items_give_none : (items : List ℕ) → filter_map f (flat_map item_deliveries items) ≡ []
  items_give_none [] = refl
  items_give_none (i ∷ items) =
      filter_map-append f (item_deliveries i) (flat_map item_deliveries items)
      ∙ ap (λ found. found ++ filter_map f (flat_map item_deliveries items)) (none (i % 5 == 0) (i % 10 == 0) i)
      ∙ items_give_none items

  part_gives_none : (size : ℕ) (before after : List Delivery) → drill size ≡ before ++ after → filter_map f before ≡ []
  part_gives_none size before after is =
      first_empty (filter_map f before) (filter_map f after) (sym (filter_map-append f before after) ∙ ap (filter_map f) (sym is) ∙ items_give_none (range_with_len 1 size))

no_version : (fifth tenth : Bool) (i : ℕ) → filter_map mapping_of (of_item fifth tenth i) ≡ []
no_version true true i = refl
no_version true false i = refl
no_version false true i = refl
no_version false false i = refl

pub no_versions : (items : List ℕ) → filter_map mapping_of (flat_map item_deliveries items) ≡ []
no_versions = items_give_none mapping_of no_version

-- nor does a first part of one
pub part_brings_none : (size : ℕ) (before after : List Delivery) → drill size ≡ before ++ after → filter_map mapping_of before ≡ []
part_brings_none = part_gives_none mapping_of no_version

-- the first version is in force after each first part
pub part_by_first : (size : ℕ) (before after : List Delivery) → drill size ≡ before ++ after → version_in_force before ≡ One
part_by_first size before after is = ap (λ vs. unwrap_or (last_or None vs) One) (part_brings_none size before after is)

-- and after all deliveries
pub drill_by_first : (size : ℕ) → version_in_force (drill size) ≡ One
drill_by_first size = part_by_first size (drill size) [] (sym (append-nil (drill size)))

-- ---- questions

no_ask : (fifth tenth : Bool) (i : ℕ) → filter_map pattern_of (of_item fifth tenth i) ≡ []
no_ask true true i = refl
no_ask true false i = refl
no_ask false true i = refl
no_ask false false i = refl

no_match : (fifth tenth : Bool) (i : ℕ) → filter_map shapes_of (of_item fifth tenth i) ≡ []
no_match true true i = refl
no_match true false i = refl
no_match false true i = refl
no_match false false i = refl

-- a first part of a drill asks nothing
pub part_asks_none : (size : ℕ) (before after : List Delivery) → drill size ≡ before ++ after → filter_map pattern_of before ≡ []
part_asks_none = part_gives_none pattern_of no_ask

-- and has no match
pub part_matches_none : (size : ℕ) (before after : List Delivery) → drill size ≡ before ++ after → filter_map shapes_of before ≡ []
part_matches_none = part_gives_none shapes_of no_match
