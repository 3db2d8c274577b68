-- The pages of a drill have no more terms than its world has room for.
use Rattle.std.proofs.Common.{◌≡◌, ◌∙◌, refl, ap, subst, inl, inr, ◌⊎◌, ⊎_elim, ℕ, zero, suc, ◌+◌, ◌-◌, ◌*◌, ◌/◌, ◌%◌, ◌<◌, ◌≤◌, ◌==◌, nat_le, ◌&&◌, Bool, true, false, cond, if◌then◌else◌, List, [], ◌∷◌, ◌++◌, filter, length, length-append, None, Some, unwrap_or, arith}
use Rattle.std.specs.{List.flat_map, List.range_with_len, Option.option_map}
use Rattle.std.proofs.{lemmas.List.Elements.filter_map-append, lemmas.Bool.Decides.nat_tests}
use Rattle.sorted_sets.specs.Rising.{In}
use Rattle.sorted_sets.proofs.Members.{has-member, member-has}
use Rattle.rdf_term.specs.{declared.term.Term.Term, declared.triple.Triple.Triple, Order.term_cmp-total}
use Rattle.rdf_term.proofs.Texts.{term_cmp-IsAntisymmetric}
use Rattle.rdf_term.specs.Limits.{default_max_terms}
use Rattle.delivery.specs.{declared.Delivery.Delivery, declared.Delivery.TheVariants.Watermark}
use Rattle.entity_model.specs.{declared.event.Event.Event, declared.event.Kind.TheVariants.Delete, declared.event.Kind.TheVariants.Edit}
use Rattle.entity_model.specs.{declared.id.EntityId.EntityId, declared.mapping.MappingVersion.TheVariants.One}
use Rattle.replay_model.specs.Acceptance.{event_of, events}
use Rattle.triple_store.specs.Room.{distinct, terms_of}
use Rattle.triple_store.proofs.Distinct.{fewer}
use Rattle.fetched_pages.specs.Meaning.{meaning}
use Rattle.drill_replay.specs.Told.{keeps_page, page_events, terms_by, terms_there, triples_there, versions_told}
use Rattle.drill_replay.proofs.Gathered.{giver_of, in_either, in_front, in_rest}
use Rattle.drill_replay.proofs.{Covered.Covered, Covered.distinct_few, Meant.earlier_few, Meant.later_few, Versions.no_versions}
use Rattle.drill_replay.specs.Drill.{IsSize, contents_of, deletion, item_deliveries, drill, earlier_page, edits, event, item, late_edit, later_page, page_of, time_at}

-- ---- events

-- the event is of the item with this number, at one of its two revisions
record IsOf (e : Event) (i : ℕ) : Type 0 where
  entity : e.entity ≡ item i
  rev : (e.rev ≡ 2 * i) ⊎ (e.rev ≡ 2 * i - 1)

later : (e : Event) (i : ℕ) → e.entity ≡ item i → e.rev ≡ 2 * i → IsOf e i
later e i entity rev = record { entity = entity; rev = inl rev }

earlier : (e : Event) (i : ℕ) → e.entity ≡ item i → e.rev ≡ 2 * i - 1 → IsOf e i
earlier e i entity rev = record { entity = entity; rev = inr rev }

entity_is : (e f : Event) → e ≡ f → e.entity ≡ f.entity
entity_is e f is = ap (λ (q : Event). q.entity) is

rev_is : (e f : Event) → e ≡ f → e.rev ≡ f.rev
rev_is e f is = ap (λ (q : Event). q.rev) is

of_edits : (i : ℕ) (e : Event) → In e (events (edits i)) → IsOf e i
of_edits i e (inl is) = later e i (entity_is e _ is) (rev_is e _ is)
of_edits i e (inr (inl is)) = earlier e i (entity_is e _ is) (rev_is e _ is)
of_edits i e (inr (inr (inl is))) = later e i (entity_is e _ is) (rev_is e _ is)
of_edits i e (inr (inr (inr never))) = absurd never

of_deletion : (fifth : Bool) (i : ℕ) (e : Event) → In e (events (if fifth then event Delete i (2 * i) (2 * i) ∷ [] else [])) → IsOf e i
of_deletion true i e (inl is) = later e i (entity_is e _ is) (rev_is e _ is)
of_deletion true i e (inr never) = absurd never
of_deletion false i e never = absurd never

of_late : (tenth : Bool) (i : ℕ) (e : Event) → In e (events (if tenth then Watermark (time_at (2 * i)) ∷ event Edit i (2 * i - 1) (2 * i - 3) ∷ [] else [])) → IsOf e i
of_late true i e (inl is) = earlier e i (entity_is e _ is) (rev_is e _ is)
of_late true i e (inr never) = absurd never
of_late false i e never = absurd never

either_events : (e : Event) (ds more : List Delivery) → In e (events (ds ++ more)) → In e (events ds) ⊎ In e (events more)
either_events e ds more there = in_either e (events ds) (events more) (subst (In e) (filter_map-append event_of ds more) there)

of_item : (i : ℕ) (e : Event) → In e (events (item_deliveries i)) → IsOf e i
of_item i e there = ⊎_elim
    (λ front. ⊎_elim (of_edits i e) (of_deletion (i % 5 == 0) i e) (either_events e (edits i) (deletion i) front))
    (of_late (i % 10 == 0) i e)
    (either_events e (edits i ++ deletion i) (late_edit i) there)

-- the number of the item whose event it is
record IsOfOne (a n : ℕ) (e : Event) : Type 0 where
  number : ℕ
  low : a ≤ number
  high : number < a + n
  is_of : IsOf e number

of_one : (a n : ℕ) (e : Event) → In e (events (flat_map item_deliveries (range_with_len a n))) → IsOfOne a n e
of_one a zero e there = absurd there
of_one a (suc n) e there = ⊎_elim
    (λ first. record { number = a; low = omega arith; high = omega arith; is_of = of_item a e first })
    (λ others.
    let one = of_one (a + 1) n e others in
    record { number = one.number; low = omega (arith, one.low); high = omega (arith, one.high); is_of = one.is_of })
    (either_events e (item_deliveries a) (flat_map item_deliveries (range_with_len (a + 1) n)) there)

-- ---- pages

page_later : (i : ℕ) → page_of (2 * i) ≡ later_page i
page_later i =
    let even : ((2 * i) % 2 == 0) ≡ true = grind arith in
    let half : 2 * i / 2 ≡ i = omega arith in
    ap (λ b. cond b (later_page (2 * i / 2)) (earlier_page ((2 * i + 1) / 2))) even ∙ ap later_page half

page_earlier : (i : ℕ) → 1 ≤ i → page_of (2 * i - 1) ≡ earlier_page i
page_earlier i low =
    let odd : ((2 * i - 1) % 2 == 0) ≡ false = grind arith in
    let half : (2 * i - 1 + 1) / 2 ≡ i = omega arith in
    ap (λ b. cond b (later_page ((2 * i - 1) / 2)) (earlier_page ((2 * i - 1 + 1) / 2))) odd ∙ ap earlier_page half

-- what is there at a revision is its page
is_page : (b : Bool) (x : EntityId) (rev : ℕ) (t : Triple) → In t (unwrap_or (option_map (meaning One x rev) (if b then Some (page_of rev) else None)) []) → In t (meaning One x rev (page_of rev))
is_page true x rev t there = there
is_page false x rev t there = absurd there

-- ---- terms

-- a list with the terms of the pages of the first items
record Gathers (n : ℕ) : Type 0 where
  terms : List Term
  few : length terms ≤ 100 * n
  of_later : (i : ℕ) → 1 ≤ i → i ≤ n → (t : Triple) (k : Term) → In t (meaning One (item i) (2 * i) (later_page i)) → In k (terms_of t) → In k terms
  of_earlier : (i : ℕ) → 1 ≤ i → i ≤ n → (t : Triple) (k : Term) → In t (meaning One (item i) (2 * i - 1) (earlier_page i)) → In k (terms_of t) → In k terms

-- the last item or one before it
last_or_before : (i n : ℕ) → i ≤ suc n → (i ≤ n) ⊎ (i ≡ suc n)
last_or_before i n most = by (nat_le i n) refl
  where
    by : (b : Bool) → nat_le i n ≡ b → (i ≤ n) ⊎ (i ≡ suc n)
    by true is = inl (grind (arith, nat_tests))
    by false is = inr (grind (arith, nat_tests))

covered : (ts : List Triple) (n : ℕ) (c : Covered [] n ts) (t : Triple) (k : Term) → In t ts → In k (terms_of t) → In k c.others
covered ts n c t k there is = ⊎_elim (λ never. absurd never) (λ other. other) (c.all t k there is)

one_more : (n : ℕ) → suc n ≤ 200_000 → Gathers n → Gathers (suc n)
one_more n most before = record {
  terms = l.others ++ e.others ++ before.terms;
  few = omega (arith, length-append (l.others ++ e.others) before.terms, length-append l.others e.others, l.few, e.few, before.few);
  of_later = λ i low high t k there is. ⊎_elim
      (λ fewer_ones. in_rest k (l.others ++ e.others) before.terms (before.of_later i low fewer_ones t k there is))
      (λ last. in_front k (l.others ++ e.others) before.terms (in_front k l.others e.others
      (covered _ 73 l t k (subst (λ j. In t (meaning One (item j) (2 * j) (later_page j))) last there) is)))
      (last_or_before i n high);
  of_earlier = λ i low high t k there is. ⊎_elim
      (λ fewer_ones. in_rest k (l.others ++ e.others) before.terms (before.of_earlier i low fewer_ones t k there is))
      (λ last. in_front k (l.others ++ e.others) before.terms (in_rest k l.others e.others
      (covered _ 27 e t k (subst (λ j. In t (meaning One (item j) (2 * j - 1) (earlier_page j))) last there) is)))
      (last_or_before i n high);
}
  where
    l : Covered [] 73 (meaning One (item (suc n)) (2 * suc n) (later_page (suc n)))
    l = later_few One (suc n) (2 * suc n) (suc n) (omega (arith, most))

    e : Covered [] 27 (meaning One (item (suc n)) (2 * suc n - 1) (earlier_page (suc n)))
    e = earlier_few One (suc n) (2 * suc n - 1) (suc n) (omega (arith, most))

gathers : (n : ℕ) → n ≤ 200_000 → Gathers n
gathers zero most = record { terms = []; few = omega arith; of_later = λ i low high. absurd (omega arith); of_earlier = λ i low high. absurd (omega arith) }
gathers (suc n) most = one_more n most (gathers n (omega (arith, most)))

-- what passes a test stands in the list
in_chosen : {A : Type 0} (b : Bool) (a x : A) (xs kept : List A) → (In a kept → In a xs) → In a (cond b (x ∷ kept) kept) → In a (x ∷ xs)
in_chosen true a x xs kept within (inl is) = inl is
in_chosen true a x xs kept within (inr more) = inr (within more)
in_chosen false a x xs kept within more = inr (within more)

in_filtered : {A : Type 0} (p : A → Bool) (a : A) (xs : List A) → In a (filter p xs) → In a xs
in_filtered p a [] there = absurd there
in_filtered p a (x ∷ xs) there = in_chosen (p x) a x xs (filter p xs) (in_filtered p a xs) there

module _ (n : ℕ) (size : IsSize n) where
  all : Gathers n
  all = gathers n size.1

  -- the terms of the page that an event of an item brings
  event_terms : (i : ℕ) (x : EntityId) (rev : ℕ) → 1 ≤ i → i ≤ n → x ≡ item i → (rev ≡ 2 * i) ⊎ (rev ≡ 2 * i - 1) → (t : Triple) (k : Term) → In t (meaning One x rev (page_of rev)) → In k (terms_of t) → In k all.terms
  event_terms i x rev low high of (inl at) t k there is =
      all.of_later i low high t k (subst (λ page. In t (meaning One (item i) (2 * i) page)) (page_later i)
      (subst (λ r. In t (meaning One (item i) r (page_of r))) at (subst (λ y. In t (meaning One y rev (page_of rev))) of there))) is
  event_terms i x rev low high of (inr at) t k there is =
      all.of_earlier i low high t k (subst (λ page. In t (meaning One (item i) (2 * i - 1) page)) (page_earlier i low)
      (subst (λ r. In t (meaning One (item i) r (page_of r))) at (subst (λ y. In t (meaning One y rev (page_of rev))) of there))) is

  page_terms : (k : Term) → In k (terms_by (contents_of n) (page_events (drill n)) One) → In k all.terms
  page_terms k there =
      let by_event = giver_of (λ (e : Event). flat_map terms_of (triples_there (meaning One) (contents_of n) e.entity e.rev)) k (page_events (drill n)) there in
      let e : Event = by_event.giver in
      let by_triple = giver_of terms_of k (triples_there (meaning One) (contents_of n) e.entity e.rev) by_event.gives in
      let one = of_one 1 n e (in_filtered (λ (q : Event). keeps_page q.kind) e (events (drill n)) by_event.there) in
      event_terms one.number e.entity e.rev one.low (omega (arith, one.high)) one.is_of.entity one.is_of.rev by_triple.giver k
      (is_page (nat_le 1 e.rev && nat_le e.rev (2 * n)) e.entity e.rev by_triple.giver by_triple.there) by_triple.gives

  told_terms : (k : Term) → In k (terms_there (contents_of n) (drill n)) → In k all.terms
  told_terms k there =
      let vs : versions_told (drill n) ≡ One ∷ [] = ap (λ vs. One ∷ vs) (no_versions (range_with_len 1 n)) in
      ⊎_elim (page_terms k) (λ never. absurd never)
      (in_either k (terms_by (contents_of n) (page_events (drill n)) One) [] (subst (λ vs. In k (flat_map (terms_by (contents_of n) (page_events (drill n))) vs)) vs there))

  pub roomy : distinct (terms_there (contents_of n) (drill n)) ≤ default_max_terms
  roomy =
      let within = fewer term_cmp-total term_cmp-IsAntisymmetric (terms_there (contents_of n) (drill n)) all.terms
      (λ k h. has-member term_cmp-total k all.terms (told_terms k (member-has term_cmp-IsAntisymmetric k (terms_there (contents_of n) (drill n)) h))) in
      omega (arith, within, distinct_few all.terms, all.few, size.1)
