-- What came and what is gone are the triples of keys with one owner, while the triples of both are stored.
use Rattle.std.proofs.Common.{◌≡◌, ℕ, ◌+◌, ◌<◌, ◌==◌, true, not, List, [], ◌∷◌, ◌++◌, length, take, get_or, flat_map, Option, append-nil, sym, ◌∙◌, ap, subst}
use Rattle.std.specs.Prelude.{map as mapped, IfSome, slice_get}
use Rattle.std.specs.{List.All, List.Sorted.IsPermutation, List.Sorted.IsSorted}
use Rattle.std.proofs.{lemmas.List.take_more, lemmas.List.Concat.flat_map-append, lemmas.Option.slice_get-get_or}
use Rattle.std.proofs.lemmas.List.Sorted.{All-permutation, IsPermutation-map}
use Rattle.sorted_sets.specs.Rising.{has, IsRising, difference, sorted}
use Rattle.sorted_sets.proofs.{Bools.and_right, Filtering.has-difference, Filtering.has-filter, Filtering.IsRising-filter}
use Rattle.sorted_sets.proofs.Rising.{IsRising-sorted}
use Rattle.rdf_term.specs.{declared.triple.Triple.Triple, Order.triple_cmp, Order.triple_cmp-total, Text.triple_text}
use Rattle.rdf_term.specs.declared.term.Term.TheVariants.{Blank}
use Rattle.rdf_term.proofs.Texts.{triple_cmp-IsAntisymmetric}
use Rattle.text_region.specs.Region.{Texts}
use Rattle.slot_keys.specs.{declared.key.Key.Key, Keys.key_cmp, Keys.key_cmp-total, Keys.key_cmp-IsAntisymmetric}
use Rattle.slot_index.specs.Counts as keyed
use Rattle.triple_catalog.specs.{declared.catalog.Catalog.Catalog, Counts.count_of, Moves.triples_at}
use Rattle.triple_catalog.specs.{Slots.HasCanonicalTexts, Slots.HasTriple, Slots.triple_at, Slots.triple_of, Stored.IsStored, Stored.is_key}
use Rattle.triple_catalog.specs.{Rows.text_cmp, Lines.sole}
use Rattle.triple_texts.specs.declared.triple_text.TripleText.{TripleText}
use Rattle.triple_catalog.proofs.{Live.key_same, Ordered.distinct_sorted, Ordered.sorted_triples, Unchanged.mapped_distinct}
use Rattle.triple_catalog.proofs.Storing.{live_stored}

-- ---- rows and lines

-- keys that rise have each its own triple, so their triples in order are the rising list
module _ (st : Catalog) (r : Texts) (keys : List Key) (before after : List TripleText) (h : IsStored st r) (rises : IsRising key_cmp keys) (all : (k : Key) → has key_cmp k keys ≡ true → is_key st k ≡ true)
    (means : mapped triple_of before ≡ mapped (triple_at st.pool r) keys) (canonical : All HasCanonicalTexts before) (p : IsPermutation before after) (s : IsSorted text_cmp after) where
  pub rows_in_order : mapped triple_of after ≡ sorted triple_cmp (triples_at st r keys)
  rows_in_order =
      let m = triple_at st.pool r in
      let live = live_stored st r h in
      let has_it : (x : Key) → has key_cmp x keys ≡ true → HasTriple st.pool r x (m x) = λ x e. live.live x (all x e) in
      let apart = mapped_distinct key_cmp-total key_cmp-IsAntisymmetric triple_cmp-total triple_cmp-IsAntisymmetric m keys rises
      (λ x y a b e. key_same st.pool r x y (m y) h.lies (subst (HasTriple st.pool r x) e (has_it x a)) (has_it y b)) in
      let same : IsPermutation (mapped m keys) (mapped triple_of after) = subst (λ ts. IsPermutation ts (mapped triple_of after)) means (IsPermutation-map triple_of before after p) in
      distinct_sorted triple_cmp-total triple_cmp-IsAntisymmetric (mapped m keys) (mapped triple_of after) same apart
      (sorted_triples after (All-permutation HasCanonicalTexts before after p canonical) s)

  pub rows_rise : IsRising triple_cmp (mapped triple_of after)
  rows_rise = subst (IsRising triple_cmp) (sym rows_in_order) (IsRising-sorted triple_cmp-total (triples_at st r keys))

-- the keys with one owner rise, and are among the keys
pub sole_rises : (st : Catalog) (keys others : List Key) → IsRising key_cmp keys → IsRising key_cmp (sole st keys others)
sole_rises st keys others h = IsRising-filter key_cmp (λ k. keyed.count_of st.index k == 1) (difference key_cmp keys others) (IsRising-filter key_cmp (λ k. not (has key_cmp k others)) keys h)

pub sole_among : (st : Catalog) (keys others : List Key) (k : Key) → has key_cmp k (sole st keys others) ≡ true → has key_cmp k keys ≡ true
sole_among st keys others k h =
    let rest = difference key_cmp keys others in
    let among : has key_cmp k rest ≡ true = and_right (keyed.count_of st.index k == 1) (has key_cmp k rest) (sym (has-filter key_cmp key_cmp-IsAntisymmetric (λ k. keyed.count_of st.index k == 1) k rest) ∙ h) in
    and_right (not (has key_cmp k others)) (has key_cmp k keys) (sym (has-difference key_cmp-total k keys others) ∙ among)

-- one more line
pub more_lines : (rows : List Triple) (index : ℕ) (text front : List ℕ) → index < length rows → IfSome (slice_get rows index) (λ t. text ≡ front ++ triple_text t) → front ≡ flat_map triple_text (take index rows) → text ≡ flat_map triple_text (take (index + 1) rows)
more_lines rows index text front within h is =
    let d : Triple = record { subject = Blank []; predicate = Blank []; object = Blank [] } in
    let here : Triple = get_or rows index d in
    let end : text ≡ front ++ triple_text here = subst (λ (o : Option Triple). IfSome o (λ t. text ≡ front ++ triple_text t)) (slice_get-get_or rows index d within) h in
    end ∙ ap (λ l. l ++ triple_text here) is
    ∙ ap (λ l. flat_map triple_text (take index rows) ++ l) (sym (append-nil (triple_text here)))
    ∙ sym (flat_map-append triple_text (take index rows) (here ∷ []))
    ∙ sym (ap (flat_map triple_text) (take_more rows index d within))
