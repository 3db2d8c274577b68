-- What the triples of slots of a store stand for.
use Rattle.std.proofs.Common.{◌≡◌, ℕ, ◌<◌, true, false, ◌||◌, List, [], ◌∷◌, Option, Some, None, is_some, unwrap_or, refl, sym, ◌∙◌, ap, subst, arith, true≢false}
use Rattle.std.specs.Prelude.{map as mapped}
use Rattle.std.specs.FinMap as map
use Rattle.std.specs.{Map.keys_of, Ordering.eq_by_cmp}
use Rattle.std.proofs.lemmas.Map.Made.{is_some-lookup}
use Rattle.sorted_sets.specs.Rising.{has}
use Rattle.sorted_sets.proofs.{Bools.equal, Bools.or_true, Rising.has_itself}
use Rattle.rdf_term.specs.{declared.triple.Triple.Triple, Order.triple_cmp, Order.triple_cmp-total, Undo.undo}
use Rattle.rdf_term.proofs.Texts.{undo-term_text, triple_cmp-IsAntisymmetric}
use Rattle.text_region.specs.Region.{Texts}
use Rattle.term_pool.specs.{declared.pool.Pool.Pool, Pool.LiesIn}
use Rattle.slot_keys.specs.{declared.key.Key.Key, Keys.key_cmp, Keys.key_cmp-total, Keys.key_cmp-IsAntisymmetric, Keys.same_key}
use Rattle.slot_index.specs.Counts.{KeyCounts}
use Rattle.triple_texts.specs.{declared.triple_text.TripleText.TripleText, Texts.IsTextOf}
use Rattle.triple_catalog.specs.{declared.catalog.Catalog.Catalog, Counts.Counts, Counts.HaveOwners, Counts.count_of}
use Rattle.triple_catalog.specs.Slots.{HasTexts, HasTriple, triple_at, triple_of}
use Rattle.triple_catalog.specs.Stored.{HasKey, IsStored, counts_in, image, is_key}
use Rattle.triple_catalog.proofs.Live.{AreLive, count_image, live_counted}
use Rattle.slot_index.proofs.Mapped.{got}

-- two triples of slots with the same texts are one
pub one_of_texts : (pool : Pool) (region : Texts) → LiesIn pool region → (a b : Key) (texts : TripleText) → HasTexts pool region a texts → HasTexts pool region b texts → a ≡ b
one_of_texts pool region lies a b texts ha hb =
    let first = lies.once a.first b.first _ ha.subject hb.subject in
    let second = lies.once a.second b.second _ ha.predicate hb.predicate in
    let third = lies.once a.third b.third _ ha.object hb.object in
    λ i. record { first = first i; second = second i; third = third i }

-- the triple of a triple's texts
pub triple_of_texts : (texts : TripleText) (triple : Triple) → IsTextOf texts triple → triple_of texts ≡ triple
triple_of_texts texts triple h =
    let subject = ap undo h.subject ∙ undo-term_text triple.subject in
    let predicate = ap undo h.predicate ∙ undo-term_text triple.predicate in
    let object = ap undo h.object ∙ undo-term_text triple.object in
    λ i. record { subject = subject i; predicate = predicate i; object = object i }

-- the slots with a triple's texts stand for it, and those that stand for it have its texts
pub texts_triple : (pool : Pool) (region : Texts) (key : Key) (texts : TripleText) (triple : Triple) → IsTextOf texts triple → HasTexts pool region key texts → HasTriple pool region key triple
texts_triple pool region key texts triple is h = record {
  subject = h.subject ∙ ap Some is.subject;
  predicate = h.predicate ∙ ap Some is.predicate;
  object = h.object ∙ ap Some is.object;
}

pub triple_texts : (pool : Pool) (region : Texts) (key : Key) (texts : TripleText) (triple : Triple) → IsTextOf texts triple → HasTriple pool region key triple → HasTexts pool region key texts
triple_texts pool region key texts triple is h = record {
  subject = h.subject ∙ ap Some (sym is.subject);
  predicate = h.predicate ∙ ap Some (sym is.predicate);
  object = h.object ∙ ap Some (sym is.object);
}

-- a stored triple of slots has the triple that it stands for
pub are_live : (store : Catalog) (texts : Texts) → IsStored store texts → AreLive store.pool texts store.index
are_live store texts h = live_counted store.pool texts store.index h.lies (λ slot. omega (arith, h.counted slot))

pub stored_key : (store : Catalog) (texts : Texts) → IsStored store texts → (key : Key) → is_key store key ≡ true → HasKey store texts key (triple_at store.pool texts key)
stored_key store texts h key is = record { stored = is; has = (are_live store texts h).live key is }

-- what triples of slots stand for, by a meaning
module _ (m : Key → Triple) where
  -- the triple of one that is there is there
  pub has-triples_at : (keys : List Key) (key : Key) → has key_cmp key keys ≡ true → has triple_cmp (m key) (mapped m keys) ≡ true
  has-triples_at [] key h = absurd (true≢false (sym h))
  has-triples_at (k ∷ keys) key h =
      elim (same_key key k) as (λ b. same_key key k ≡ b → (b || has key_cmp key keys) ≡ true → has triple_cmp (m key) (mapped m (k ∷ keys)) ≡ true) [
        | true ↦ λ e _. subst (λ (x : Key). has triple_cmp (m key) (m x ∷ mapped m keys) ≡ true) (key_cmp-IsAntisymmetric key k (equal _ e)) (has_itself triple_cmp-total (m key) (mapped m keys))
        | false ↦ λ _ rest. or_true (eq_by_cmp triple_cmp (m key) (m k)) _ (has-triples_at keys key rest)
      ] refl h

  -- and a triple that is there is that of one
  pub triples_at-has : (keys : List Key) (t : Triple) → has triple_cmp t (mapped m keys) ≡ true → (key : Key) × (has key_cmp key keys ≡ true) × (m key ≡ t)
  triples_at-has [] t h = absurd (true≢false (sym h))
  triples_at-has (k ∷ keys) t h =
      elim (eq_by_cmp triple_cmp t (m k)) as (λ b. eq_by_cmp triple_cmp t (m k) ≡ b → (b || has triple_cmp t (mapped m keys)) ≡ true → (key : Key) × (has key_cmp key (k ∷ keys) ≡ true) × (m key ≡ t)) [
        | true ↦ λ e _. (k, has_itself key_cmp-total k keys, sym (triple_cmp-IsAntisymmetric t (m k) (equal _ e)))
        | false ↦ λ _ rest. let one : (key : Key) × (has key_cmp key keys ≡ true) × (m key ≡ t) = triples_at-has keys t rest in (one.0, or_true (same_key one.0 k) _ one.1, one.2)
      ] refl h

  keys_triples : (es : List (Key × ℕ)) (t : Triple) → has triple_cmp t (keys_of (mapped (λ e. (m e.0, e.1)) es)) ≡ has triple_cmp t (mapped m (keys_of es))
  keys_triples [] t = refl
  keys_triples (e ∷ es) t = ap (λ b. eq_by_cmp triple_cmp t (m e.0) || b) (keys_triples es t)

  -- the triples that are stored are those of the triples of slots
  pub contains-image : (counts : KeyCounts) (t : Triple) → map.contains_key (image m counts) t ≡ has triple_cmp t (mapped m (map.keys counts))
  unfolding image
  contains-image counts t = ap is_some (got triple_cmp-total t (mapped (λ e. (m e.0, e.1)) (map.entries counts))) ∙ is_some-lookup (eq_by_cmp triple_cmp t) (mapped (λ e. (m e.0, e.1)) (map.entries counts)) ∙ keys_triples (map.entries counts) t

owned_stored : (v : Option ℕ) → 0 < unwrap_or v 0 → is_some v ≡ true
owned_stored None h = absurd (omega (arith, h))
owned_stored (Some n) h = refl

-- a triple with an owner is stored
pub stored_if : (counts : Counts) (t : Triple) → 0 < count_of counts t → map.contains_key counts t ≡ true
stored_if counts t some = owned_stored (map.get counts t) some

module _ (store : Catalog) (texts : Texts) (h : IsStored store texts) where
  -- the triple that a stored triple of slots stands for has an owner
  pub counted_key : (key : Key) (t : Triple) → HasKey store texts key t → 0 < count_of (counts_in store texts) t
  counted_key key t k = omega (arith, h.owned key k.stored, count_image store.pool texts store.index key t h.lies (are_live store texts h) k.has)

  -- and a stored triple is that of a triple of slots
  pub key_stored : (t : Triple) → map.contains_key (counts_in store texts) t ≡ true → (key : Key) × HasKey store texts key t
  key_stored t there =
      let m = triple_at store.pool texts in
      let one : (key : Key) × (has key_cmp key (map.keys store.index) ≡ true) × (m key ≡ t) = triples_at-has m (map.keys store.index) t (sym (contains-image m store.index t) ∙ there) in
      (one.0, subst (HasKey store texts one.0) one.2 (stored_key store texts h one.0 (map.contains_key-keys store.index one.0 ∙ one.1)))

  -- which has an owner
  pub owned : HaveOwners (counts_in store texts)
  owned t there = let one : (key : Key) × HasKey store texts key t = key_stored t there in counted_key one.0 t one.1
