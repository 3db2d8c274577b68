-- The triples that agree with a pattern are those whose keys agree with the pattern of slots.
use Rattle.std.proofs.Common.{◌≡◌, ℕ, ◌<◌, ◌≤◌, Bool, true, false, cond, ◌&&◌, List, [], ◌∷◌, filter, count_by, nat_lt, Some, is_eq, refl, sym, ◌∙◌, ap, subst, arith, lt-ltb, ltb-true}
use Rattle.std.specs.Prelude.{map as mapped}
use Rattle.std.specs.FinMap as map
use Rattle.std.specs.{Cmp.both_ways, Cmp.nat_cmp_total, FinMap.nat_cmp-IsAntisymmetric, Ordering.eq_by_cmp, Ordering.nat_cmp}
use Rattle.std.proofs.lemmas.Cmp.{tied_itself}
use Rattle.sorted_sets.specs.Rising.{has, sorted}
use Rattle.sorted_sets.proofs.{Bools.and_none, Bools.clash, Bools.equal, Bools.or_true, Filtering.IsRising-filter, Filtering.has-filter}
use Rattle.sorted_sets.proofs.Rising.{IsRising-sorted, has-sorted, has_itself, same_rising}
use Rattle.rdf_term.specs.{declared.triple.Triple.Triple, declared.pattern.Pattern.Pattern, declared.term.Term.Term}
use Rattle.rdf_term.specs.{Order.term_cmp, Order.term_cmp-total, Order.triple_cmp, Order.triple_cmp-total, Text.term_text}
use Rattle.rdf_term.specs.Pattern.{agrees, agrees_at}
use Rattle.rdf_term.proofs.Texts.{term_cmp-IsAntisymmetric, triple_cmp-IsAntisymmetric, undo-term_text}
use Rattle.text_region.specs.Region.{Texts}
use Rattle.term_pool.specs.{declared.pool.Pool.Pool, Pool.IsCanonical, Pool.IsNowhere, Pool.LiesIn, Pool.count_at, Pool.text_in_slot}
use Rattle.term_pool.proofs.Lying.{stands}
use Rattle.slot_keys.specs.{declared.key.Key.Key, Keys.key_cmp, Keys.key_cmp-total, Keys.key_cmp-IsAntisymmetric, Keys.same_key}
use Rattle.slot_index.specs.{declared.pattern.SlotPattern.SlotPattern, Patterns.slots_agree, Counts.KeyCounts}
use Rattle.slot_keys.proofs.Keyed.{has_key, keys_rising}
use Rattle.slot_index.proofs.Passing.{count-map, count_by-cons, has_counted, one_if}
use Rattle.triple_catalog.specs.{Slots.term_in, Slots.triple_at, Stored.image}
use Rattle.triple_catalog.proofs.{Live.live_slot, Owners.same_triple, Unchanged.keys_mean, Unchanged.mapped_has}

count_same : (f g : Key → Bool) (ks : List Key) → ((k : Key) → has key_cmp k ks ≡ true → f k ≡ g k) → count_by f ks ≡ count_by g ks
count_same f g [] same = refl
count_same f g (k ∷ ks) same =
    let first = ap one_if (same k (has_itself key_cmp-total k ks)) in
    let rest = count_same f g ks (λ x there. same x (or_true (same_key x k) _ there)) in
    omega (arith, count_by-cons f k ks, count_by-cons g k ks, first, rest)

count_never : (ks : List Key) → count_by (λ _. false) ks ≡ 0
count_never [] = refl
count_never (k ∷ ks) = omega (arith, count_by-cons (λ (_ : Key). false) k ks, count_never ks)

count_both : (b : Bool) (f : Key → Bool) (ks : List Key) → nat_lt 0 (count_by (λ k. b && f k) ks) ≡ (b && nat_lt 0 (count_by f ks))
count_both true f ks = refl
count_both false f ks = ap (nat_lt 0) (count_never ks)

pub count_fewer : (f g : Key → Bool) (ks : List Key) → count_by (λ k. f k && g k) ks ≤ count_by g ks
count_fewer f g [] = omega arith
count_fewer f g (k ∷ ks) = omega (arith, count_by-cons (λ x. f x && g x) k ks, count_by-cons g k ks, count_fewer f g ks, by (f k) (g k))
  where
    by : (a b : Bool) → one_if (a && b) ≤ one_if b
    by true b = omega arith
    by false true = omega arith
    by false false = omega arith

-- what is found is stored
pub found_stored : (c : KeyCounts) (w : SlotPattern) (found : List Key) → ((f : Key → Bool) → count_by f found ≡ count_by (λ k. slots_agree w k && f k) (map.keys c)) → (k : Key) → has key_cmp k found ≡ true → map.contains_key c k ≡ true
found_stored c w found is k there =
    let some : 0 < count_by (same_key k) found = ltb-true 0 _ (sym (has_counted key_cmp k found) ∙ there) in
    let all : 0 < count_by (same_key k) (map.keys c) = omega (arith, some, is (same_key k), count_fewer (slots_agree w) (same_key k) (map.keys c)) in
    sym (has_key c k) ∙ has_counted key_cmp k (map.keys c) ∙ lt-ltb 0 _ all

pub matched : (p : Pool) (r : Texts) (c : KeyCounts) (pattern : Pattern) (w : SlotPattern) (found : List Key)
    → ((k : Key) → map.contains_key c k ≡ true → agrees pattern (triple_at p r k) ≡ slots_agree w k)
    → ((f : Key → Bool) → count_by f found ≡ count_by (λ k. slots_agree w k && f k) (map.keys c))
    → sorted triple_cmp (mapped (triple_at p r) found) ≡ filter (agrees pattern) (map.keys (image (triple_at p r) c))
matched p r c pattern w found alike is =
    let m = triple_at p r in
    same_rising triple_cmp-total triple_cmp-IsAntisymmetric _ _ (IsRising-sorted triple_cmp-total (mapped m found)) (IsRising-filter triple_cmp (agrees pattern) _ (keys_rising (image m c)))
    (λ q.
    has-sorted triple_cmp-total q (mapped m found)
    ∙ has_counted triple_cmp q (mapped m found)
    ∙ ap (nat_lt 0) (count-map m (same_triple q) found ∙ is (λ k. same_triple q (m k))
    ∙ count_same (λ k. slots_agree w k && same_triple q (m k)) (λ k. agrees pattern q && same_triple q (m k)) (map.keys c) (λ k there. by k q (same_triple q (m k)) refl (sym (has_key c k) ∙ there)))
    ∙ count_both (agrees pattern q) (λ k. same_triple q (m k)) (map.keys c)
    ∙ ap (λ b. agrees pattern q && b) (ap (nat_lt 0) (sym (count-map m (same_triple q) (map.keys c))) ∙ sym (has_counted triple_cmp q (mapped m (map.keys c)))
    ∙ sym (has-sorted triple_cmp-total q (mapped m (map.keys c))) ∙ ap (has triple_cmp q) (sym (keys_mean p r c)))
    ∙ sym (has-filter triple_cmp triple_cmp-IsAntisymmetric (agrees pattern) q (map.keys (image m c))))
  where
    by : (k : Key) (q : Triple) (b : Bool) → same_triple q (triple_at p r k) ≡ b → map.contains_key c k ≡ true → (slots_agree w k && b) ≡ (agrees pattern q && b)
    by k q true e there = ap (λ b. b && true) (sym (alike k there) ∙ ap (agrees pattern) (sym (triple_cmp-IsAntisymmetric q _ (equal _ e))))
    by k q false e there = and_none (slots_agree w k) ∙ sym (and_none (agrees pattern q))

-- where a wanted term is in no slot, nothing agrees
pub none_matched : (p : Pool) (r : Texts) (c : KeyCounts) (pattern : Pattern) → ((k : Key) → map.contains_key c k ≡ true → agrees pattern (triple_at p r k) ≡ false) → [] ≡ filter (agrees pattern) (map.keys (image (triple_at p r) c))
none_matched p r c pattern none = sym (filter_none (map.keys (image (triple_at p r) c)) (λ t there.
    let x = mapped_has key_cmp-total key_cmp-IsAntisymmetric triple_cmp-total triple_cmp-IsAntisymmetric (triple_at p r) t (map.keys c)
    (sym (has-sorted triple_cmp-total t (mapped (triple_at p r) (map.keys c))) ∙ ap (has triple_cmp t) (sym (keys_mean p r c)) ∙ there) in
    ap (agrees pattern) (sym x.2) ∙ none x.0 (sym (has_key c x.0) ∙ x.1)))
  where
    filter_none : (ts : List Triple) → ((t : Triple) → has triple_cmp t ts ≡ true → agrees pattern t ≡ false) → filter (agrees pattern) ts ≡ []
    filter_none [] never = refl
    filter_none (t ∷ ts) never =
        ap (λ b. cond b (t ∷ filter (agrees pattern) ts) (filter (agrees pattern) ts)) (never t (has_itself triple_cmp-total t ts))
        ∙ filter_none ts (λ u there. never u (or_true (same_triple u t) _ there))

pub all_three : (a b c x y z : Bool) → a ≡ x → b ≡ y → c ≡ z → (a && (b && c)) ≡ (x && (y && z))
all_three a b c x y z e f g = ap (λ t. t && (b && c)) e ∙ ap (λ t. x && (t && c)) f ∙ ap (λ t. x && (y && t)) g

-- ---- the slots of terms

-- what is in a slot is canonical
pub canonical_at : (p : Pool) (r : Texts) (x : ℕ) (text : List ℕ) → LiesIn p r → text_in_slot p r x ≡ Some text → IsCanonical text
canonical_at p r x text lies h =
    let s = stands p r x text h in
    let t = lies.textual x s.entry s.there in
    let one : Some t.text ≡ Some text = sym t.is ∙ s.is in
    let same : t.text ≡ text = cc in
    subst IsCanonical same t.canonical

-- the slot of a term is the one that it agrees with
pub wants_slot : (p : Pool) (r : Texts) (t : Term) (n slot : ℕ) → LiesIn p r → text_in_slot p r n ≡ Some (term_text t) → 0 < count_at p slot → eq_by_cmp term_cmp t (term_in (text_in_slot p r slot)) ≡ eq_by_cmp nat_cmp n slot
wants_slot p r t n slot lies there some =
    both_ways (eq_by_cmp term_cmp t (term_in (text_in_slot p r slot))) (eq_by_cmp nat_cmp n slot)
    (λ e. let same = term_cmp-IsAntisymmetric t (term_in (text_in_slot p r slot)) (equal _ e) in
    let one = lies.once n slot (term_text t) there (live_slot p r slot lies some ∙ ap (λ u. Some (term_text u)) (sym same)) in
    ap (eq_by_cmp nat_cmp n) (sym one) ∙ ap is_eq (tied_itself nat_cmp_total n))
    (λ e. let one = nat_cmp-IsAntisymmetric n slot (equal _ e) in
    let back : term_in (text_in_slot p r slot) ≡ t = ap (λ x. term_in (text_in_slot p r x)) (sym one) ∙ ap term_in there ∙ undo-term_text t in
    ap (eq_by_cmp term_cmp t) back ∙ ap is_eq (tied_itself term_cmp-total t))

pub wants_none : (p : Pool) (r : Texts) (t : Term) (slot : ℕ) → LiesIn p r → IsNowhere p r (term_text t) → 0 < count_at p slot → eq_by_cmp term_cmp t (term_in (text_in_slot p r slot)) ≡ false
wants_none p r t slot lies nowhere some =
    both_ways (eq_by_cmp term_cmp t (term_in (text_in_slot p r slot))) false
    (λ e. let same = term_cmp-IsAntisymmetric t (term_in (text_in_slot p r slot)) (equal _ e) in
    absurd (nowhere.nowhere slot (live_slot p r slot lies some ∙ ap (λ u. Some (term_text u)) (sym same))))
    (λ e. clash e refl)

-- a triple doesn't agree where one of its slots doesn't
module _ (p : Pool) (r : Texts) (pattern : Pattern) (k : Key) where
  pub subject_fails : agrees_at pattern.subject (term_in (text_in_slot p r k.first)) ≡ false → agrees pattern (triple_at p r k) ≡ false
  unfolding triple_at
  subject_fails e = ap (λ t. t && (agrees_at pattern.predicate (term_in (text_in_slot p r k.second)) && agrees_at pattern.object (term_in (text_in_slot p r k.third)))) e

  pub predicate_fails : agrees_at pattern.predicate (term_in (text_in_slot p r k.second)) ≡ false → agrees pattern (triple_at p r k) ≡ false
  unfolding triple_at
  predicate_fails e =
      ap (λ t. agrees_at pattern.subject (term_in (text_in_slot p r k.first)) && (t && agrees_at pattern.object (term_in (text_in_slot p r k.third)))) e
      ∙ and_none (agrees_at pattern.subject (term_in (text_in_slot p r k.first)))

  pub object_fails : agrees_at pattern.object (term_in (text_in_slot p r k.third)) ≡ false → agrees pattern (triple_at p r k) ≡ false
  unfolding triple_at
  object_fails e =
      ap (λ t. agrees_at pattern.subject (term_in (text_in_slot p r k.first)) && (agrees_at pattern.predicate (term_in (text_in_slot p r k.second)) && t)) e
      ∙ ap (λ t. agrees_at pattern.subject (term_in (text_in_slot p r k.first)) && t) (and_none (agrees_at pattern.predicate (term_in (text_in_slot p r k.second))))
      ∙ and_none (agrees_at pattern.subject (term_in (text_in_slot p r k.first)))
