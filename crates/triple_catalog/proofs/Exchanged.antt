-- What counts say after the triples of some keys came or went, by the triples.
use Rattle.std.proofs.Common.{◌≡◌, Bool, true, false, not, List, [], ◌∷◌, refl, sym, ◌∙◌, ap, subst, arith}
use Rattle.std.specs.Prelude.{map as mapped}
use Rattle.sorted_sets.specs.Rising.{has, difference}
use Rattle.sorted_sets.proofs.{Bools.or_true, Filtering.filter_all, Rising.has_itself}
use Rattle.rdf_term.specs.{declared.triple.Triple.Triple, Order.triple_cmp}
use Rattle.text_region.specs.Region.{Texts}
use Rattle.term_pool.specs.Pool.{one_if}
use Rattle.slot_keys.specs.{declared.key.Key.Key, Keys.key_cmp, Keys.key_cmp-total}
use Rattle.triple_catalog.specs.{declared.catalog.Catalog.Catalog, Counts.Exchanges, Slots.triple_at}
use Rattle.triple_catalog.specs.{Stored.AreKeysOf, Stored.HasKey, Stored.counts_in, Moves.Removes, Moves.triples_at}
use Rattle.triple_catalog.proofs.{Live.tells, Standing.has-triples_at, Standing.triples_at-has}

-- tests that imply each other
pub same_test : (a b : Bool) → (a ≡ true → b ≡ true) → (b ≡ true → a ≡ true) → a ≡ b
same_test true b f g = sym (f refl)
same_test false true f g = g refl
same_test false false f g = refl

module _ (st : Catalog) (r : Texts) where
  -- the triples of which keys are those are the triples that they stand for
  pub same_gone : (old : List Key) (gone : List Triple) → AreKeysOf st r old gone → (t : Triple) → has triple_cmp t gone ≡ has triple_cmp t (triples_at st r old)
  same_gone old gone h t =
      let m = triple_at st.pool r in
      same_test (has triple_cmp t gone) (has triple_cmp t (triples_at st r old))
      (λ there.
      let one : (key : Key) × HasKey st r key t × (has key_cmp key old ≡ true) = h.all t there in
      subst (λ (u : Triple). has triple_cmp u (triples_at st r old) ≡ true) (tells st.pool r one.0 t one.1.has) (has-triples_at m old one.0 one.2))
      (λ there.
      let one : (key : Key) × (has key_cmp key old ≡ true) × (m key ≡ t) = triples_at-has m old t there in
      let its : (u : Triple) × HasKey st r one.0 u × (has triple_cmp u gone ≡ true) = h.each one.0 one.1 in
      subst (λ (u : Triple). has triple_cmp u gone ≡ true) (sym (tells st.pool r one.0 its.0 its.1.has) ∙ one.2) its.2)

  all_gone : (old : List Key) → difference key_cmp old [] ≡ old
  all_gone old = filter_all (λ x. not (has key_cmp x [])) old (λ x. refl)

  -- where all keys of an owner went
  pub released : (new : Catalog) (u : Texts) (old : List Key) → Removes st r new u (difference key_cmp old []) → (gone : List Triple) → AreKeysOf st r old gone → Exchanges (counts_in st r) (counts_in new u) gone []
  released new u old h gone keys = record {
    counts = λ t. omega (arith, h.counts t, ap one_if (same_gone old gone keys t ∙ ap (λ ks. has triple_cmp t (triples_at st r ks)) (sym (all_gone old))));
  }

pub mapped_alike : (f g : Key → Triple) (keys : List Key) → ((k : Key) → has key_cmp k keys ≡ true → f k ≡ g k) → mapped f keys ≡ mapped g keys
mapped_alike f g [] h = refl
mapped_alike f g (k ∷ keys) h = ap (λ t. t ∷ mapped f keys) (h k (has_itself key_cmp-total k keys)) ∙ ap (λ ts. g k ∷ ts) (mapped_alike f g keys (λ x there. h x (or_true _ _ there)))
