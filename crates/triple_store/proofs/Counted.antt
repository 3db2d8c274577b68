-- How many times keys come, one key after another.
use Rattle.std.proofs.Common.{◌≡◌, ℕ, ◌<◌, true, cond, List, [], ◌∷◌, length, get_or, refl, sym, ◌∙◌, ap, arith}
use Rattle.std.specs.Ordering.{eq_by_cmp}
use Rattle.std.proofs.lemmas.List.Sums.{sum_by-cons}
use Rattle.sorted_sets.specs.Rising.{has}
use Rattle.sorted_sets.proofs.{Bools.or_true, Rising.has_itself}
use Rattle.rdf_term.specs.declared.triple.Triple.{Triple}
use Rattle.text_region.specs.Region.{Texts}
use Rattle.term_pool.specs.Pool.{one_if}
use Rattle.slot_keys.specs.{declared.key.Key.Key, KeyCounts.key_times, Keys.key_cmp, Keys.key_cmp-total, Keys.same_key}
use Rattle.slot_keys.proofs.Lists.{has_at}
use Rattle.triple_catalog.specs.{declared.catalog.Catalog.Catalog, Moves.triples_at, Slots.triple_at, Stored.IsStored, Stored.is_key}
use Rattle.triple_store.specs.Times.{times, triple_of_key}
use Rattle.triple_store.proofs.Becoming.{times-cons}
use Rattle.triple_catalog.proofs.{Live.same_tests, Standing.stored_key}

-- ---- a stored key comes as often as its triple

module _ (st : Catalog) (r : Texts) (stored : IsStored st r) where
  as_often : (key : Key) → is_key st key ≡ true → (met : List Key) → ((k : Key) → has key_cmp k met ≡ true → is_key st k ≡ true) → times (triple_at st.pool r key) (triples_at st r met) ≡ key_times key met
  as_often key there [] all = refl
  as_often key there (k ∷ met) all =
      let mine = stored_key st r stored key there in
      let its = stored_key st r stored k (all k (has_itself key_cmp-total k met)) in
      omega (
        arith,
        times-cons (triple_at st.pool r key) (triple_at st.pool r k) (triples_at st r met),
        sum_by-cons (λ v. cond (same_key key v) 1 0) k met,
        ap one_if (same_tests st.pool r key k (triple_at st.pool r key) (triple_at st.pool r k) stored.lies mine.has its.has),
        as_often key there met (λ x is. all x (or_true (eq_by_cmp key_cmp x k) _ is)),
      )

  module _ (keys met : List Key) (come : List Triple) (all : (key : Key) → has key_cmp key keys ≡ true → is_key st key ≡ true) (all_met : (key : Key) → has key_cmp key met ≡ true → is_key st key ≡ true) (along : triples_at st r met ≡ come) where
    pub key_often : (index : ℕ) (other : Key) → index < length keys → times (triple_of_key st r keys index other) come ≡ key_times (get_or keys index other) met
    key_often index other low =
        let key = get_or keys index other in
        ap (times (triple_at st.pool r key)) (sym along) ∙ as_often key (all key (has_at key_cmp-total keys index other low)) met all_met
