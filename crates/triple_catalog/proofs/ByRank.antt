-- Ranks of terms are ordered as their texts are, so triples by ranks are ordered as the triples.
use Rattle.std.proofs.Common.{◌≡◌, ℕ, ◌+◌, ◌<◌, ◌≤◌, false, List, [], ◌∷◌, length, get_or, Some, Ordering, Less, Equal, Greater, is_lt, refl, sym, ◌∙◌, ap, subst, arith, lt-ltb, ⊎_elim}
use Rattle.std.specs.Prelude.{map as mapped, ◌==◌, cond, slice_get, true}
use Rattle.std.specs.{Cmp.nat_cmp_total, Cmp.Lexicographic.nat_list_cmp_total}
use Rattle.std.specs.{FinMap.nat_cmp-IsAntisymmetric, FinMap.slice_cmp-IsAntisymmetric, List.All}
use Rattle.std.specs.{List.Sorted.IsPermutation, List.Sorted.IsSorted, Option.option_map, Ordering.nat_cmp, Ordering.ordering_then}
use Rattle.std.proofs.{lemmas.Bool.cases_order, lemmas.Cmp.tied_itself, lemmas.List.get_or-map, lemmas.List.length-map}
use Rattle.std.proofs.lemmas.List.Elements.{All-get_or, All-map, All-tail}
use Rattle.std.proofs.lemmas.Option.{slice_get-get_or, slice_get-map}
use Rattle.std.proofs.lemmas.List.Sorted.{All-permutation, IsPermutation-map, ranks_by, sorted_far}
use Rattle.sorted_sets.proofs.Rising.{turned}
use Rattle.rdf_term.specs.{Order.bytes_cmp, Order.triple_cmp, Text.term_text, Undo.undo}
use Rattle.text_region.specs.Region.{Texts}
use Rattle.term_pool.specs.{declared.pool.Pool.Pool, Pool.IsCanonical, Pool.LiesIn, Pool.text_in_slot}
use Rattle.slot_keys.specs.{declared.key.Key.Key, Keys.key_cmp, declared.ranking.SlotText.SlotText}
use Rattle.slot_keys.specs.Ranks.{IsRankOf, IsRanked, rank_key, rank_of}
use Rattle.triple_catalog.specs.Ranks.{AreTextsOf, IsWithin, text_order, text_with, triple_with}
use Rattle.triple_catalog.specs.Slots.{term_in, triple_at, triple_of}
use Rattle.triple_catalog.proofs.{Matched.canonical_at, Storing.canonical_back}

-- a rank below another one is compared so
rank_less : (i j : ℕ) → i < j → nat_cmp i j ≡ Less
rank_less i j l = ap (λ b. cond b Less (cond (i == j) Equal Greater)) (lt-ltb i j l)

-- texts that aren't in the other order and aren't equal are in this one
texts_less : (a b : List ℕ) → is_lt (bytes_cmp b a) ≡ false → (a ≡ b → ⊥) → bytes_cmp a b ≡ Less
texts_less a b up apart = by (bytes_cmp a b) refl
  where
    by : (o : Ordering) → bytes_cmp a b ≡ o → bytes_cmp a b ≡ Less
    by Less e = e
    by Equal e = absurd (apart (slice_cmp-IsAntisymmetric nat_cmp-IsAntisymmetric a b e))
    by Greater e = absurd (let less : is_lt (bytes_cmp b a) ≡ true = ap is_lt (turned nat_list_cmp_total a b Greater e) in let no : true ≡ false = sym less ∙ up in cc)

module _ (p : Pool) (r : Texts) (terms : List SlotText) (ranks : List ℕ) (lies : LiesIn p r) (there : AreTextsOf p r terms) (sorted : IsSorted text_order terms) where
  -- the text with the rank of a slot is the slot's
  text_is : (xs : List SlotText) → AreTextsOf p r xs → (slot : ℕ) → rank_of ranks slot < length xs → ((d : SlotText) → (get_or xs (rank_of ranks slot) d).slot ≡ slot) → text_in_slot p r slot ≡ Some (text_with xs (rank_of ranks slot))
  text_is [] all slot within is = absurd (omega (arith, within))
  text_is (x ∷ xs) all slot within is =
      let term : SlotText = get_or (x ∷ xs) (rank_of ranks slot) x in
      ap (text_in_slot p r) (sym (is x))
      ∙ All-get_or (λ term. text_in_slot p r term.slot ≡ Some term.text.now) (x ∷ xs) (rank_of ranks slot) x within all
      ∙ ap Some (sym (get_or-map (λ term. term.text.now) (x ∷ xs) (rank_of ranks slot) x [] within))

  pub text_of : (slot : ℕ) → IsRankOf terms ranks slot → text_in_slot p r slot ≡ Some (text_with terms (rank_of ranks slot))
  text_of slot h = text_is terms there slot h.within h.is

  pub canonical_of : (slot : ℕ) → IsRankOf terms ranks slot → IsCanonical (text_with terms (rank_of ranks slot))
  canonical_of slot h = canonical_at p r slot (text_with terms (rank_of ranks slot)) lies (text_of slot h)

  -- the texts rise with their ranks
  far : (xs : List SlotText) → IsSorted text_order xs → (i j : ℕ) → i ≤ j → j < length xs → is_lt (bytes_cmp (text_with xs j) (text_with xs i)) ≡ false
  far [] up i j le l = absurd (omega (arith, l))
  far (x ∷ xs) up i j le l =
      let list = x ∷ xs in
      let here = get_or-map (λ term. term.text.now) list i x [] (omega (arith, le, l)) in
      let after = get_or-map (λ term. term.text.now) list j x [] l in
      (λ k. is_lt (bytes_cmp (after k) (here k))) ∙ sorted_far (λ a b. is_lt (text_order a b)) (ranks_by nat_list_cmp_total (λ (term : SlotText). term.text.now)) list up i j x le l

  below : (a b : ℕ) → IsRankOf terms ranks a → IsRankOf terms ranks b → rank_of ranks a < rank_of ranks b → bytes_cmp (text_with terms (rank_of ranks a)) (text_with terms (rank_of ranks b)) ≡ Less
  below a b h k l = texts_less _ _ (far terms sorted (rank_of ranks a) (rank_of ranks b) (omega (arith, l)) k.within)
      (λ same. let one : a ≡ b = lies.once a b _ (text_of a h) (text_of b k ∙ ap Some (sym same)) in omega (arith, l, ap (rank_of ranks) one))

  -- ranks are ordered as the texts of their slots are
  ordered : (a b : ℕ) → IsRankOf terms ranks a → IsRankOf terms ranks b → nat_cmp (rank_of ranks a) (rank_of ranks b) ≡ bytes_cmp (text_with terms (rank_of ranks a)) (text_with terms (rank_of ranks b))
  ordered a b h k = ⊎_elim
      (λ same. ap (nat_cmp (rank_of ranks a)) (sym same) ∙ tied_itself nat_cmp_total (rank_of ranks a) ∙ sym (tied_itself nat_list_cmp_total (text_with terms (rank_of ranks a))) ∙ ap (λ n. bytes_cmp (text_with terms (rank_of ranks a)) (text_with terms n)) same)
      (λ other. ⊎_elim
      (λ l. rank_less _ _ l ∙ sym (below a b h k l))
      (λ g. turned nat_cmp_total (rank_of ranks b) (rank_of ranks a) Less (rank_less _ _ g)
      ∙ sym (turned nat_list_cmp_total (text_with terms (rank_of ranks b)) (text_with terms (rank_of ranks a)) Less (below b a k h g)))
      other)
      (cases_order (rank_of ranks a) (rank_of ranks b))

  back : (slot : ℕ) → IsRankOf terms ranks slot → term_text (undo (text_with terms (rank_of ranks slot))) ≡ text_with terms (rank_of ranks slot)
  back slot h = canonical_back (text_with terms (rank_of ranks slot)) (canonical_of slot h)

  -- so are the triples
  triples_ordered : (a b : Key) → IsRanked terms ranks a → IsRanked terms ranks b → key_cmp (rank_key ranks a) (rank_key ranks b) ≡ triple_cmp (triple_with terms (rank_key ranks a)) (triple_with terms (rank_key ranks b))
  unfolding triple_with
  triples_ordered a b h k =
      (λ i. ordering_then (ordered a.first b.first h.first k.first i) (ordering_then (ordered a.second b.second h.second k.second i) (ordered a.third b.third h.third k.third i)))
      ∙ (λ i. ordering_then
      (bytes_cmp (sym (back a.first h.first) i) (sym (back b.first k.first) i))
      (ordering_then
      (bytes_cmp (sym (back a.second h.second) i) (sym (back b.second k.second) i))
      (bytes_cmp (sym (back a.third h.third) i) (sym (back b.third k.third) i))))

  -- the ranks of a key stand for its triple
  means : (key : Key) → IsRanked terms ranks key → triple_with terms (rank_key ranks key) ≡ triple_at p r key
  unfolding triple_with triple_at
  means key h = λ i. record {
    subject = sym (ap term_in (text_of key.first h.first)) i;
    predicate = sym (ap term_in (text_of key.second h.second)) i;
    object = sym (ap term_in (text_of key.third h.third)) i;
  }

  pub all_mean : (keys : List Key) → All (IsRanked terms ranks) keys → mapped (triple_with terms) (mapped (rank_key ranks) keys) ≡ mapped (triple_at p r) keys
  all_mean [] h = refl
  all_mean (key ∷ keys) h =
      let first : IsRanked terms ranks key = h 0 key (omega arith) in
      let rest = all_mean keys (All-tail (IsRanked terms ranks) key keys h) in
      λ i. means key first i ∷ rest i

  -- the ranks are those of a key
  abbrev pub Used : Key → Type 0
  Used k = (key : Key) × IsRanked terms ranks key × (k ≡ rank_key ranks key)

  pub all_used : (keys : List Key) → All (IsRanked terms ranks) keys → All Used (mapped (rank_key ranks) keys)
  all_used keys h = All-map Used (rank_key ranks) keys (λ k d l. (get_or keys k d, h k d l, refl))

  used_ordered : (a b : Key) → Used a → Used b → key_cmp a b ≡ triple_cmp (triple_with terms a) (triple_with terms b)
  used_ordered a b h k =
      (λ i. key_cmp (h.2 i) (k.2 i)) ∙ triples_ordered h.0 k.0 h.1 k.1 ∙ (λ i. triple_cmp (triple_with terms (sym h.2 i)) (triple_with terms (sym k.2 i)))

  -- in the order of the ranks the triples are in order
  pub triples_sorted : (ks : List Key) → All Used ks → IsSorted key_cmp ks → IsSorted triple_cmp (mapped (triple_with terms) ks)
  triples_sorted [] all s = λ k d low high. absurd (omega (arith, high))
  triples_sorted (x ∷ xs) all s = λ k d low high.
      let ks = x ∷ xs in
      let next : k + 1 < length ks = omega (arith, high, length-map ks (triple_with terms)) in
      let here : k < length ks = omega (arith, next) in
      let after = get_or-map (triple_with terms) ks (k + 1) x d next in
      let before = get_or-map (triple_with terms) ks k x d here in
      (λ i. is_lt (triple_cmp (after i) (before i)))
      ∙ ap is_lt (sym (used_ordered (get_or ks (k + 1) x) (get_or ks k x) (all (k + 1) x next) (all k x here)))
      ∙ s k x low next

  pub all_within : (ks : List Key) → All Used ks → All (IsWithin (length terms)) ks
  all_within ks all = λ k d l.
      let used = all k d l in
      subst (IsWithin (length terms)) (sym used.2) (record { first = used.1.first.within; second = used.1.second.within; third = used.1.third.within })

  -- the keys in the order of their ranks
  module _ (keys ks after : List Key) (is : ks ≡ mapped (rank_key ranks) keys) (ranked : All (IsRanked terms ranks) keys) (perm : IsPermutation ks after) where
    used : All Used after
    used = All-permutation Used ks after perm (subst (All Used) (sym is) (all_used keys ranked))

    pub by_ranks : IsPermutation (mapped (triple_at p r) keys) (mapped (triple_with terms) after)
    by_ranks = subst (λ l. IsPermutation l (mapped (triple_with terms) after)) (ap (mapped (triple_with terms)) is ∙ all_mean keys ranked) (IsPermutation-map (triple_with terms) ks after perm)

    pub ranks_rise : IsSorted key_cmp after → IsSorted triple_cmp (mapped (triple_with terms) after)
    ranks_rise s = triples_sorted after used s

    pub ranks_read : All (IsWithin (length terms)) after
    ranks_read = all_within after used

-- the texts are those of terms
pub texts_canonical : (p : Pool) (r : Texts) (terms : List SlotText) → LiesIn p r → AreTextsOf p r terms → All (λ term. IsCanonical term.text.now) terms
texts_canonical p r terms lies there = λ k d l. canonical_at p r (get_or terms k d).slot (get_or terms k d).text.now lies (there k d l)

-- the texts of the triple at an index
pub row_is : (terms : List SlotText) (keys : List Key) (index : ℕ) (key : Key) (s q o : SlotText) → index < length keys → key ≡ get_or keys index key → IsWithin (length terms) key
    → s ≡ get_or terms key.first s → q ≡ get_or terms key.second q → o ≡ get_or terms key.third o → slice_get (mapped (triple_with terms) keys) index ≡ Some (triple_of (record { subject = s.text; predicate = q.text; object = o.text }))
unfolding triple_with
row_is terms keys index key s q o l at w s_at q_at o_at =
    slice_get-map (triple_with terms) keys index ∙ ap (option_map (triple_with terms)) (slice_get-get_or keys index key l ∙ ap Some (sym at)) ∙ ap Some whole
  where
    text_at : (rank : ℕ) (term : SlotText) → rank < length terms → term ≡ get_or terms rank term → text_with terms rank ≡ term.text.now
    text_at rank term within is = get_or-map (λ (t : SlotText). t.text.now) terms rank term [] within ∙ ap (λ (t : SlotText). t.text.now) (sym is)

    whole : triple_with terms key ≡ triple_of (record { subject = s.text; predicate = q.text; object = o.text })
    whole = λ i. record {
      subject = undo (text_at key.first s w.first s_at i);
      predicate = undo (text_at key.second q w.second q_at i);
      object = undo (text_at key.third o w.third o_at i);
    }
