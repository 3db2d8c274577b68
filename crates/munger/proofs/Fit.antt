-- What is left of short triples is short, and of fit ones fit.
use Rattle.std.proofs.Common.{◌≡◌, ℕ, ◌≤◌, true, nat_le, List, [], ◌∷◌, ◌++◌, length, Ordering, Less, Equal, Greater, refl, arith, lit≤}
use Rattle.std.proofs.lemmas.Bool.Decides.{nat_tests}
use Rattle.std.proofs.lemmas.List.{length-append}
use Rattle.std.specs.BTreeSet.{insert_key}
use Rattle.std.specs.List.{AllByRecursion, flat_map}
use Rattle.std.specs.Ordering.{match_ordering}
use Rattle.sorted_sets.specs.Rising.{sorted}
use Rattle.rdf_term.specs.declared.term.Term.{Term}
use Rattle.rdf_term.specs.declared.term.Term.TheVariants.{Iri, Blank, Plain, Lang, Typed}
use Rattle.rdf_term.specs.declared.triple.Triple.{Triple}
use Rattle.rdf_term.specs.Fit.{IsFitAndShort, HasFitAndShortTerms}
use Rattle.rdf_term.specs.Grammar.{is_iri, is_label}
use Rattle.rdf_term.specs.Order.{triple_cmp}
use Rattle.entity_model.specs.declared.id.EntityId.{EntityId}
use Rattle.rdf_vocabulary.specs.declared.prefix.Prefix.TheVariants.{Wd, Genid}
use Rattle.rdf_vocabulary.specs.Prefix.{prefix_text, prefixed}
use Rattle.rdf_vocabulary.proofs.Fit.{prefixed_fit}
use Rattle.rdf_vocabulary.proofs.Ids.{id_term_fit}
use Rattle.rdf_vocabulary.proofs.NamesFit.{letters_iri}
use Rattle.rdf_vocabulary.proofs.Shared.{flat_map_each}
use Rattle.munger.specs.declared.verdict.Verdict.{Verdict}
use Rattle.munger.specs.declared.verdict.Verdict.TheVariants.{Moved, Dropped, Kept}
use Rattle.munger.specs.Munging.{left_by, munge, munged}
use Rattle.munger.specs.Naming.{named}
use Rattle.munger.specs.Short.{IsShort, HasShortTerms, has_short_label, HasShortLabels}
use Rattle.munger.specs.Verdict.{verdict}

module _ {A : Type 0} (P : A → Type 0) where
  insert_each : (R : A → A → Ordering) (xs : List A) (k : A) → P k → AllByRecursion P xs → AllByRecursion P (insert_key R xs k)
  insert_each R [] k p h = (p, tt)
  insert_each R (x ∷ xs) k p h =
      elim (R k x) as (λ r. AllByRecursion P (match_ordering r (k ∷ x ∷ xs) (x ∷ xs) (x ∷ insert_key R xs k))) [
        | Less ↦ (p, h)
        | Equal ↦ h
        | Greater ↦ (h.0, insert_each R xs k p h.1)
      ]

  -- what holds of each element of a list holds of each element of its set
  pub sorted_each : (R : A → A → Ordering) (xs : List A) → AllByRecursion P xs → AllByRecursion P (sorted R xs)
  sorted_each R [] h = tt
  sorted_each R (x ∷ xs) h = insert_each R (sorted R xs) x h.0 (sorted_each R xs h.1)

genid_short : length (prefix_text Genid) ≤ 100
unfolding prefix_text
genid_short = lit≤ tt

blank_short : (label : List ℕ) → nat_le (length label) 32 ≡ true → IsShort (prefixed Genid label)
blank_short label h =
    let small : length label ≤ 32 = grind (arith, nat_tests) in
    let iri = prefix_text Genid ++ label in
    record { text = omega (arith, genid_short, length-append (prefix_text Genid) label, length-append iri (62 ∷ [])) }

-- the IRI of a short blank node is short, and every other short term stays so
named_short : (term : Term) → IsShort term → has_short_label term ≡ true → IsShort (named term)
named_short (Blank label) s h = blank_short label h
named_short (Iri iri) s h = s
named_short (Plain text) s h = s
named_short (Lang text tag) s h = s
named_short (Typed text datatype) s h = s

left_short : (id : EntityId) (triple : Triple) (v : Verdict) → HasShortTerms triple → HasShortLabels triple → AllByRecursion HasShortTerms (left_by id triple v)
left_short id triple Moved s l = (
  record {
    subject = record { text = (id_term_fit Wd id).short };
    predicate = named_short triple.predicate s.predicate l.predicate;
    object = named_short triple.object s.object l.object;
  },
  tt,
)
left_short id triple Dropped s l = tt
left_short id triple Kept s l = (
  record {
    subject = named_short triple.subject s.subject l.subject;
    predicate = named_short triple.predicate s.predicate l.predicate;
    object = named_short triple.object s.object l.object;
  },
  tt,
)

both_each : (xs : List Triple) → AllByRecursion HasShortTerms xs → AllByRecursion HasShortLabels xs → AllByRecursion (λ x. HasShortTerms x × HasShortLabels x) xs
both_each [] s l = tt
both_each (x ∷ xs) s l = ((s.0, l.0), both_each xs s.1 l.1)

-- a set of short terms with short labels leaves short terms
pub munge_short : (id : EntityId) (triples : List Triple) → AllByRecursion HasShortTerms triples → AllByRecursion HasShortLabels triples → AllByRecursion HasShortTerms (munge id triples)
munge_short id triples s l =
    sorted_each HasShortTerms triple_cmp (flat_map (munged id) triples)
    (flat_map_each (λ x. HasShortTerms x × HasShortLabels x) HasShortTerms (munged id) (λ x h. left_short id x (verdict id x) h.0 h.1) triples (both_each triples s l))

label_iri : (label : List ℕ) → is_label label ≡ true → is_iri label ≡ true
label_iri [] h = refl
label_iri (c ∷ label) h = letters_iri (c ∷ label) h

blank_fit : (label : List ℕ) → is_label label ≡ true → nat_le (length label) 32 ≡ true → IsFitAndShort (prefixed Genid label)
blank_fit label f h =
    let small : length label ≤ 32 = grind (arith, nat_tests) in
    prefixed_fit Genid label (label_iri label f) (omega arith)

-- the IRI of a fit and short blank node is fit and short, and every other fit and short term stays so
named_fit : (term : Term) → IsFitAndShort term → has_short_label term ≡ true → IsFitAndShort (named term)
named_fit (Blank label) s h = blank_fit label s.fit h
named_fit (Iri iri) s h = s
named_fit (Plain text) s h = s
named_fit (Lang text tag) s h = s
named_fit (Typed text datatype) s h = s

left_fit : (id : EntityId) (triple : Triple) (v : Verdict) → HasFitAndShortTerms triple → HasShortLabels triple → AllByRecursion HasFitAndShortTerms (left_by id triple v)
left_fit id triple Moved s l = (
  record {
    subject = id_term_fit Wd id;
    predicate = named_fit triple.predicate s.predicate l.predicate;
    object = named_fit triple.object s.object l.object;
  },
  tt,
)
left_fit id triple Dropped s l = tt
left_fit id triple Kept s l = (
  record {
    subject = named_fit triple.subject s.subject l.subject;
    predicate = named_fit triple.predicate s.predicate l.predicate;
    object = named_fit triple.object s.object l.object;
  },
  tt,
)

both_fit : (xs : List Triple) → AllByRecursion HasFitAndShortTerms xs → AllByRecursion HasShortLabels xs → AllByRecursion (λ x. HasFitAndShortTerms x × HasShortLabels x) xs
both_fit [] s l = tt
both_fit (x ∷ xs) s l = ((s.0, l.0), both_fit xs s.1 l.1)

-- a set of fit and short terms with short labels leaves fit and short terms
pub munge_fit : (id : EntityId) (triples : List Triple) → AllByRecursion HasFitAndShortTerms triples → AllByRecursion HasShortLabels triples → AllByRecursion HasFitAndShortTerms (munge id triples)
munge_fit id triples s l =
    sorted_each HasFitAndShortTerms triple_cmp (flat_map (munged id) triples)
    (flat_map_each (λ x. HasFitAndShortTerms x × HasShortLabels x) HasFitAndShortTerms (munged id) (λ x h. left_fit id x (verdict id x) h.0 h.1) triples (both_fit triples s l))
