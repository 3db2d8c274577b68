-- What the calls say that change no triple.
use Rattle.std.proofs.Common.{◌≡◌, true, false, ◌||◌, List, [], ◌∷◌, length, Ordering, refl, sym, ◌∙◌, ap, subst}
use Rattle.std.specs.Prelude.{map as mapped}
use Rattle.std.specs.FinMap as map
use Rattle.std.specs.{FinMap.IsAntisymmetric, Cmp.IsTotalOrder, Cmp.both_ways, Ordering.eq_by_cmp}
use Rattle.std.proofs.lemmas.List.{length-map}
use Rattle.sorted_sets.specs.Rising.{IsRising, has, sorted}
use Rattle.sorted_sets.proofs.Bools.{clash, equal, or_true}
use Rattle.sorted_sets.proofs.Rising.{has-above, has_itself, sorted_rising, sorted_same}
use Rattle.rdf_term.specs.Order.{triple_cmp, triple_cmp-total}
use Rattle.rdf_term.proofs.Texts.{triple_cmp-IsAntisymmetric}
use Rattle.text_region.specs.Region.{Texts}
use Rattle.term_pool.specs.declared.pool.Pool.{Pool}
use Rattle.slot_keys.specs.{declared.key.Key.Key, Keys.key_cmp, Keys.key_cmp-total, Keys.key_cmp-IsAntisymmetric}
use Rattle.slot_keys.proofs.{Imaged.keys-pushed, Imaged.pushed, Keyed.has_key, Keyed.keys_rising}
use Rattle.slot_index.specs.Counts.{KeyCounts}
use Rattle.triple_catalog.specs.{declared.catalog.Catalog.Catalog, Slots.HasTriple, Slots.triple_at}
use Rattle.triple_catalog.specs.Stored.{IsStored, counts_in, image}
use Rattle.triple_catalog.proofs.{Distinct.AreDistinct, Distinct.length-distinct, Live.key_same, Storing.live_stored}
use Rattle.slot_index.proofs.Mapped.{there}

-- ---- the stored triples

-- they are those that the keys stand for
pub keys_mean : (p : Pool) (r : Texts) (c : KeyCounts) → map.keys (image (triple_at p r) c) ≡ sorted triple_cmp (mapped (triple_at p r) (map.keys c))
unfolding image
keys_mean p r c =
    sym (sorted_rising triple_cmp-total triple_cmp-IsAntisymmetric _ (keys_rising (image (triple_at p r) c)))
    ∙ sorted_same triple_cmp-total triple_cmp-IsAntisymmetric _ _ (λ q.
    has_key (image (triple_at p r) c) q ∙ there triple_cmp-total q (pushed key_cmp triple_cmp (triple_at p r) (map.entries c))
    ∙ ap (has triple_cmp q) (keys-pushed key_cmp triple_cmp (triple_at p r) (map.entries c)))

module _ {K T : Type 0} {R : K → K → Ordering} {S : T → T → Ordering} (o : IsTotalOrder R) (apart : IsAntisymmetric R) (s : IsTotalOrder S) (distinct : IsAntisymmetric S) where
  pub mapped_has : (m : K → T) (t : T) (xs : List K) → has S t (mapped m xs) ≡ true → (x : K) × (has R x xs ≡ true) × (m x ≡ t)
  mapped_has m t [] h = clash h refl
  mapped_has m t (x ∷ xs) h =
      elim (eq_by_cmp S t (m x)) as (λ b. eq_by_cmp S t (m x) ≡ b → (b || has S t (mapped m xs)) ≡ true → (y : K) × (has R y (x ∷ xs) ≡ true) × (m y ≡ t)) [
        | true ↦ λ e _. (x, has_itself o x xs, sym (distinct t (m x) (equal _ e)))
        | false ↦ λ _ later. let y = mapped_has m t xs later in (y.0, or_true (eq_by_cmp R y.0 x) _ y.1, y.2)
      ] refl h

  -- where different ones stand for different ones, a rising list stands for as many
  pub mapped_distinct : (m : K → T) (xs : List K) → IsRising R xs → ((x y : K) → has R x xs ≡ true → has R y xs ≡ true → m x ≡ m y → x ≡ y) → AreDistinct {R = S} s distinct (mapped m xs)
  mapped_distinct m [] rises one = tt
  mapped_distinct m (x ∷ xs) rises one = (
    both_ways (has S (m x) (mapped m xs)) false
        (λ h. let y = mapped_has m (m x) xs h in
        let same = one y.0 x (or_true (eq_by_cmp R y.0 x) _ y.1) (has_itself o x xs) y.2 in
        sym (sym y.1 ∙ ap (λ z. has R z xs) same ∙ has-above R x xs rises.0))
        (λ e. clash e refl),
    mapped_distinct m xs rises.1 (λ a b ha hb e. one a b (or_true (eq_by_cmp R a x) _ ha) (or_true (eq_by_cmp R b x) _ hb) e),
  )

pub len_image : (st : Catalog) (r : Texts) → IsStored st r → map.len (counts_in st r) ≡ map.len st.index
len_image st r h =
    let m = triple_at st.pool r in
    let live = live_stored st r h in
    let has_it : (x : Key) → has key_cmp x (map.keys st.index) ≡ true → HasTriple st.pool r x (m x) = λ x e. live.live x (sym (has_key st.index x) ∙ e) in
    let apart = mapped_distinct key_cmp-total key_cmp-IsAntisymmetric triple_cmp-total triple_cmp-IsAntisymmetric m (map.keys st.index) (keys_rising st.index)
    (λ x y a b e. key_same st.pool r x y (m y) h.lies (subst (HasTriple st.pool r x) e (has_it x a)) (has_it y b)) in
    map.len-entries (counts_in st r) ∙ sym (length-map (map.entries (counts_in st r)) (λ e. e.0)) ∙ ap length (keys_mean st.pool r st.index)
    ∙ length-distinct triple_cmp-total triple_cmp-IsAntisymmetric (mapped m (map.keys st.index)) apart
    ∙ length-map (map.keys st.index) m ∙ length-map (map.entries st.index) (λ e. e.0) ∙ sym (map.len-entries st.index)
