-- The texts of one triple of a list.
use Rattle.std.proofs.Common.{◌≡◌, ℕ, zero, suc, ◌+◌, ◌<◌, true, false, List, [], ◌∷◌, ◌++◌, length, take, get_or, sym, ◌∙◌, ap, subst, arith}
use Rattle.std.specs.Prelude.{Option, slice_get, IfSome}
use Rattle.std.specs.List.{AllByRecursion}
use Rattle.std.proofs.{lemmas.List.take_more, lemmas.Option.slice_get-get_or}
use Rattle.sorted_sets.specs.Rising.{has}
use Rattle.rdf_term.specs.{declared.triple.Triple.Triple, Fit.HasFitAndShortTerms, Order.triple_cmp, Order.triple_cmp-total}
use Rattle.rdf_term.specs.declared.term.Term.{Term}
use Rattle.triple_texts.specs.{declared.triple_text.TripleText.TripleText, Texts.IsTextOf}
use Rattle.text_region.specs.{declared.piece.Piece.Piece, Region.Texts}
use Rattle.slot_keys.specs.{declared.key.Key.Key, Keys.key_cmp}
use Rattle.slot_keys.proofs.Lists.{has_at}
use Rattle.triple_catalog.specs.{declared.catalog.Catalog.Catalog, Counts.count_of, Counts.raised, Moves.TakesIn}
use Rattle.triple_catalog.specs.Room.{distinct, room_for, terms_of}
use Rattle.triple_catalog.specs.Slots.{HasCanonicalTexts, HasTermsIn, HasTexts, HasTriple, IsAllOf, triple_of}
use Rattle.triple_catalog.specs.Stored.{HasKey, IsStored, beside, counts_in, is_key, limit_of}
use Rattle.triple_catalog.proofs.{Rooming.no_room, Standing.texts_triple, Standing.triple_of_texts, Standing.triple_texts}
use Rattle.triple_catalog.proofs.Taking.{as_many, held_taken, new_taken}

-- the texts are those of the triple at a place
pub record IsRow (triples : List Triple) (i : ℕ) (texts : TripleText) : Type 0 where
  pub is : IsTextOf texts (triple_of texts)
  pub more : take (i + 1) triples ≡ take i triples ++ triple_of texts ∷ []
  pub among : has triple_cmp (triple_of texts) triples ≡ true

pub row : (triples : List Triple) (i : ℕ) (texts : TripleText) → i < length triples → IfSome (slice_get triples i) (IsTextOf texts) → IsRow triples i texts
row triples i texts low h =
    let d = triple_of texts in
    let at : IsTextOf texts (get_or triples i d) = subst (λ (o : Option Triple). IfSome o (IsTextOf texts)) (slice_get-get_or triples i d low) h in
    let same = triple_of_texts texts (get_or triples i d) at in
    record {
      is = subst (IsTextOf texts) (sym same) at;
      more = take_more triples i d low ∙ ap (λ t. take i triples ++ t ∷ []) (sym same);
      among = subst (λ (t : Triple). has triple_cmp t triples ≡ true) (sym same) (has_at triple_cmp-total triples i d low);
    }

fit_at : (triples : List Triple) (i : ℕ) (d : Triple) → i < length triples → AllByRecursion HasFitAndShortTerms triples → HasFitAndShortTerms (get_or triples i d)
fit_at [] i d low h = absurd (omega arith)
fit_at (t ∷ triples) zero d low h = h.0
fit_at (t ∷ triples) (suc i) d low h = fit_at triples i d (omega arith) h.1

-- and are canonical
pub row_canonical : (triples : List Triple) (i : ℕ) (texts : TripleText) → i < length triples → IfSome (slice_get triples i) (IsTextOf texts) → AllByRecursion HasFitAndShortTerms triples → HasCanonicalTexts texts
row_canonical triples i texts low h fit =
    let d = triple_of texts in
    let at : IsTextOf texts (get_or triples i d) = subst (λ (o : Option Triple). IfSome o (IsTextOf texts)) (slice_get-get_or triples i d low) h in
    let ok = fit_at triples i d low fit in
    record {
      subject = record { term = (get_or triples i d).subject; is = at.subject; fit = ok.subject };
      predicate = record { term = (get_or triples i d).predicate; is = at.predicate; fit = ok.predicate };
      object = record { term = (get_or triples i d).object; is = at.object; fit = ok.object };
    }

-- the next triple of a list, after those before it came
module _ (st : Catalog) (r : Texts) (now : Catalog) (s : Texts) (had keys added : List Key) (triples : List Triple) (i : ℕ) (texts : TripleText) (low : i < length triples) (at : IfSome (slice_get triples i) (IsTextOf texts)) (stored : IsStored st r) (all : (key : Key) → has key_cmp key had ≡ true → is_key st key ≡ true) (h : TakesIn st r now s had keys (take i triples)) (held : (key : Key) → has key_cmp key (had ++ added) ≡ has key_cmp key (had ++ keys)) where
  -- its key is at hand
  pub next_held : (key : Key) → HasTexts now.pool s key texts → has key_cmp key (had ++ added) ≡ true → TakesIn st r now s had (keys ++ key ∷ []) (take (i + 1) triples)
  next_held key is there =
      let one = row triples i texts low at in
      rw one.more (held_taken st r now s had keys (take i triples) stored all h key (triple_of texts) (sym (held key) ∙ there) (texts_triple now.pool s key texts (triple_of texts) one.is is))

  -- no key of it is at hand
  module _ (none : (key : Key) → HasTexts now.pool s key texts → has key_cmp key (had ++ added) ≡ false) where
    none_held : (key : Key) → HasTriple now.pool s key (triple_of texts) → has key_cmp key (had ++ keys) ≡ false
    none_held key is = sym (held key) ∙ none key (triple_texts now.pool s key texts (triple_of texts) (row triples i texts low at).is is)

    pub next_new : (new : Catalog) (u : Texts) (key : Key) → IsStored new u → counts_in new u ≡ raised (counts_in now s) (triple_of texts) → HasKey new u key (triple_of texts) → ((k : Key) (t : Triple) → HasKey now s k t → HasKey new u k t) → ((piece : Piece) → beside new u piece ≡ beside now s piece) → limit_of new ≡ limit_of now → TakesIn st r new u had (keys ++ key ∷ []) (take (i + 1) triples)
    next_new new u key after more one later others limit = rw (row triples i texts low at).more (new_taken st r now s had keys (take i triples) stored all h new u key (triple_of texts) none_held after more one later others limit)

    -- it may be counted once more
    pub next_fits : (limit : ℕ) → ((t : Triple) → has triple_cmp t triples ≡ true → count_of (counts_in st r) t < limit) → count_of (counts_in now s) (triple_of texts) < limit
    next_fits limit few = omega (arith, few (triple_of texts) (row triples i texts low at).among, as_many st r now s had keys (take i triples) stored all h (triple_of texts) none_held)

  -- there is no room for it
  pub next_full : ((terms : List Term) → HasTermsIn (counts_in now s) terms → IsAllOf (terms_of (triple_of texts)) terms → limit_of now < distinct terms) → limit_of st < room_for (counts_in st r) triples
  next_full full = no_room st r now s had keys triples i (triple_of texts) h (row triples i texts low at).among full
