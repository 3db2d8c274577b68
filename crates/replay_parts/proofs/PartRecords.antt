-- The records of the parts, put together, are those of the whole.
use Rattle.std.proofs.Common.{◌≡◌, ℕ, Bool, true, false, cond, ◌||◌, List, [], ◌∷◌, ◌++◌, Option, None, Some, flat_map, refl, sym, ◌∙◌, ap}
use Rattle.std.specs.FinMap as map
use Rattle.std.specs.FinMap.{find}
use Rattle.std.specs.FinMap.Entries.{where_key, find-where_key}
use Rattle.std.specs.List.{list_any}
use Rattle.std.specs.Option.{option_or}
use Rattle.std.specs.Ordering.{eq_by_cmp}
use Rattle.sorted_sets.specs.Rising.{Each}
use Rattle.delivery.specs.declared.Delivery.{Delivery}
use Rattle.entity_model.specs.declared.id.EntityId.{EntityId}
use Rattle.entity_model.specs.EntityId.{entity_cmp, entity_cmp_total, entity_cmp_same}
use Rattle.entity_state.specs.declared.record.Record.{Record}
use Rattle.replay_model.specs.Play.{Replies, Played, played}
use Rattle.replay_model.specs.Records.{Bytes}
use Rattle.replay_parts.specs.Parts.{AgreeOnPart, IsPartition, Part, records_together, routed}
use Rattle.replay_parts.proofs.PlayedParts.{played-routed}
use Rattle.replay_parts.proofs.UnionParts.{any_counted, entries-part}

-- ---- what holds of each part

pub each_from : {A : Type 0} (P Q : A → Type 0) → ((x : A) → P x → Q x) → (xs : List A) → Each P xs → Each Q xs
each_from P Q h [] all = tt
each_from P Q h (x ∷ xs) all = (h x all.0, each_from P Q h xs all.1)

pub gathered_same : {P A : Type 0} (f g : P → List A) (parts : List P) → Each (λ part. f part ≡ g part) parts → flat_map f parts ≡ flat_map g parts
gathered_same f g [] all = refl
gathered_same f g (part ∷ parts) all = λ i. all.0 i ++ gathered_same f g parts all.1 i

-- each entity is in some part
pub covered : (replies : Replies) (parts : List Part) → IsPartition replies parts → (x : EntityId) → list_any (λ (part : Part). part.contains x) parts ≡ true
covered replies parts are x = any_counted (λ (part : Part). part.contains x) parts (are.one_each x)

-- ---- the records

find-append : (q : EntityId) (xs ys : List (EntityId × Record Bytes)) → find entity_cmp q (xs ++ ys) ≡ option_or (find entity_cmp q xs) (find entity_cmp q ys)
find-append q [] ys = refl
find-append q (x ∷ xs) ys =
    elim (eq_by_cmp entity_cmp q x.0) as (λ b. cond b (Some x.1) (find entity_cmp q (xs ++ ys)) ≡ option_or (cond b (Some x.1) (find entity_cmp q xs)) (find entity_cmp q ys)) [
      | true ↦ refl
      | false ↦ find-append q xs ys
    ]

-- an entry that is in one of the parts is found in what they have together
find-gathered : (q : EntityId) (es : List (EntityId × Record Bytes)) (parts : List Part) → find entity_cmp q (flat_map (λ (part : Part). where_key entity_cmp part.contains es) parts) ≡ cond (list_any (λ (part : Part). part.contains q) parts) (find entity_cmp q es) None
find-gathered q es [] = refl
find-gathered q es (part ∷ parts) =
    find-append q (where_key entity_cmp part.contains es) (flat_map (λ (part : Part). where_key entity_cmp part.contains es) parts)
    ∙ (λ i. option_or (find-where_key entity_cmp part.contains q (λ y tie. ap part.contains (sym (entity_cmp_same q y tie))) es i) (find-gathered q es parts i))
    ∙ by (part.contains q) (list_any (λ (part : Part). part.contains q) parts) (find entity_cmp q es)
  where
    by : (a b : Bool) (o : Option (Record Bytes)) → option_or (cond a o None) (cond b o None) ≡ cond (a || b) o None
    by true true None = refl
    by true true (Some r) = refl
    by true false None = refl
    by true false (Some r) = refl
    by false b o = refl

module _ (replies : Replies) (parts : List Part) (are : IsPartition replies parts) (hz : Option ℕ) where
  pub records-together : (closed : Bool) (ds : List Delivery) → (played hz closed replies ds).records ≡ records_together hz closed parts ds
  records-together closed ds =
      let whole = (played hz closed replies ds).records in
      map.same_map entity_cmp_total entity_cmp_same _ _ (λ q.
      map.get-entries whole q
      ∙ sym (map.get-from_entries entity_cmp_total (flat_map (λ (part : Part). map.entries (played hz closed part.replies (routed part.contains ds)).records) parts) q
      ∙ ap (find entity_cmp q) (gathered_same (λ (part : Part). map.entries (played hz closed part.replies (routed part.contains ds)).records) (λ (part : Part). where_key entity_cmp part.contains (map.entries whole)) parts
      (each_from (λ (part : Part). AgreeOnPart part.contains part.replies replies) _ (λ part agree. ap (λ (p : Played). map.entries p.records) (played-routed part.contains part.replies replies agree hz closed ds) ∙ entries-part part.contains whole) parts are.agree))
      ∙ find-gathered q (map.entries whole) parts
      ∙ ap (λ b. cond b (find entity_cmp q (map.entries whole)) None) (covered replies parts are q)))
