-- Keys whose triples stand one after another in a list.
use Rattle.std.proofs.Common.{◌≡◌, ℕ, ◌+◌, ◌<◌, true, List, [], ◌∷◌, ◌++◌, length, take, IfSome, sym, ◌∙◌, ap}
use Rattle.std.proofs.lemmas.List.{map-append}
use Rattle.std.specs.Prelude.{slice_get}
use Rattle.sorted_sets.specs.Rising.{has}
use Rattle.rdf_term.specs.{declared.triple.Triple.Triple, Order.triple_cmp}
use Rattle.triple_texts.specs.{declared.triple_text.TripleText.TripleText, Texts.IsTextOf}
use Rattle.text_region.specs.Region.{Texts}
use Rattle.slot_keys.specs.{declared.key.Key.Key, Keys.key_cmp}
use Rattle.triple_catalog.specs.{declared.catalog.Catalog.Catalog, Moves.Removes, Moves.TakesIn, Moves.triples_at}
use Rattle.triple_catalog.specs.{Slots.HasTexts, Slots.triple_at, Slots.triple_of, Stored.HasKey, Stored.is_key}
use Rattle.triple_catalog.proofs.{Again.left_again, Exchanged.mapped_alike, Listed.row, Live.tells, Standing.texts_triple}

-- one key more, whose triple is the next
along_push : (st : Catalog) (r : Texts) (keys : List Key) (key : Key) (done more : List Triple) (t : Triple) → triple_at st.pool r key ≡ t → triples_at st r keys ≡ done → more ≡ done ++ t ∷ [] → triples_at st r (keys ++ key ∷ []) ≡ more
along_push st r keys key done more t is along next =
    map-append (triple_at st.pool r) keys (key ∷ []) ∙ ap (λ ts. ts ++ triple_at st.pool r key ∷ []) along ∙ ap (λ u. done ++ u ∷ []) is ∙ sym next

-- which is at hand
pub along_held : (st : Catalog) (r : Texts) (keys : List Key) (triples : List Triple) (i : ℕ) (texts : TripleText) → i < length triples → IfSome (slice_get triples i) (IsTextOf texts) → (key : Key) → HasTexts st.pool r key texts
    → triples_at st r keys ≡ take i triples → triples_at st r (keys ++ key ∷ []) ≡ take (i + 1) triples
along_held st r keys triples i texts low at key is along =
    let one = row triples i texts low at in
    along_push st r keys key (take i triples) (take (i + 1) triples) (triple_of texts) (tells st.pool r key (triple_of texts) (texts_triple st.pool r key texts (triple_of texts) one.is is)) along one.more

-- keys that go on standing for their triples
module _ (st : Catalog) (r : Texts) (now : Catalog) (s : Texts) (had keys : List Key) (done : List Triple) (h : TakesIn st r now s had keys done) (new : Catalog) (u : Texts) where
  pub along_later : ((k : Key) (t : Triple) → HasKey now s k t → HasKey new u k t) → triples_at new u keys ≡ triples_at now s keys
  along_later later = mapped_alike (triple_at new.pool u) (triple_at now.pool s) keys (λ key there.
      let one : (t : Triple) × HasKey now s key t × (has triple_cmp t done ≡ true) = h.each key there in
      tells new.pool u key one.0 (later key one.0 one.1).has ∙ sym (tells now.pool s key one.0 one.1.has))

  -- where others went, and they are still stored
  pub along_left : (gone some : List Key) → Removes now s new u gone → ((key : Key) → has key_cmp key some ≡ true → has key_cmp key keys ≡ true) → ((key : Key) → has key_cmp key some ≡ true → is_key new key ≡ true) → triples_at new u some ≡ triples_at now s some
  along_left gone some less among there = mapped_alike (triple_at new.pool u) (triple_at now.pool s) some (λ key is.
      let one : (t : Triple) × HasKey now s key t × (has triple_cmp t done ≡ true) = h.each key (among key is) in
      tells new.pool u key one.0 (left_again now s new u gone h.stored less key one.0 one.1 (there key is)).has ∙ sym (tells now.pool s key one.0 one.1.has))

-- one triple more that was added
pub along_new : (st : Catalog) (r : Texts) (now : Catalog) (s : Texts) (had keys : List Key) (triples : List Triple) (i : ℕ) (texts : TripleText) → i < length triples → IfSome (slice_get triples i) (IsTextOf texts)
    → TakesIn st r now s had keys (take i triples) → (new : Catalog) (u : Texts) → ((k : Key) (t : Triple) → HasKey now s k t → HasKey new u k t) → (key : Key) → HasKey new u key (triple_of texts)
    → triples_at now s keys ≡ take i triples → triples_at new u (keys ++ key ∷ []) ≡ take (i + 1) triples
along_new st r now s had keys triples i texts low at h new u later key is along =
    along_push new u keys key (take i triples) (take (i + 1) triples) (triple_of texts) (tells new.pool u key (triple_of texts) is.has) (along_later st r now s had keys (take i triples) h new u later ∙ along) (row triples i texts low at).more
