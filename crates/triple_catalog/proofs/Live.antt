-- The triples that stored triples of slots stand for.
use Rattle.std.proofs.Common.{◌≡◌, ◌≢◌, ℕ, zero, suc, ◌<◌, ◌≤◌, true, false, cond, ◌||◌, ◌∷◌, Some, None, is_eq, is_some, unwrap_or, refl, sym, ◌∙◌, ap, subst, arith, ⊎_elim, ◌⊎◌, inl, inr}
use Rattle.std.specs.FinMap as map
use Rattle.std.specs.Cmp.{both_ways}
use Rattle.std.proofs.lemmas.Cmp.{tied_itself}
use Rattle.sorted_sets.specs.Rising.{has}
use Rattle.sorted_sets.proofs.Bools.{clash, equal, or_true}
use Rattle.rdf_term.specs.{declared.triple.Triple.Triple, Order.triple_cmp, Order.triple_cmp-total, Text.term_text, Undo.undo}
use Rattle.rdf_term.proofs.Texts.{triple_cmp-IsAntisymmetric, undo-term_text}
use Rattle.text_region.specs.Region.{Texts}
use Rattle.term_pool.specs.{declared.pool.Pool.Pool, Pool.LiesIn, Pool.count_at, Pool.text_in_slot, Pool.live_text}
use Rattle.term_pool.proofs.Lying.{if_same, used}
use Rattle.slot_keys.specs.{declared.key.Key.Key, Keys.key_cmp, Keys.key_cmp-total, Keys.key_cmp-IsAntisymmetric, Keys.same_key}
use Rattle.slot_keys.proofs.{Imaged.among, Imaged.find-pushed, Imaged.find-pushed_none, Imaged.pushed_same, Keyed.has_key, Keyed.sum-has}
use Rattle.slot_index.specs.Counts.{KeyCounts}
use Rattle.slot_index.specs.Counts as keyed
use Rattle.triple_catalog.specs.{Counts.count_of, Counts.with_count, Slots.HasTriple, Slots.term_in, Slots.triple_at, Slots.uses}
use Rattle.triple_catalog.specs.Stored.{image}
use Rattle.triple_catalog.specs.Slots as slots
use Rattle.slot_index.proofs.Raising.{kept}
use Rattle.triple_catalog.proofs.Owners.{get-with_count, same_triple}

-- three slots with the texts of a triple stand for it
pub tells : (p : Pool) (r : Texts) (k : Key) (t : Triple) → HasTriple p r k t → triple_at p r k ≡ t
unfolding triple_at
tells p r k t h = λ i. record {
  subject = (ap term_in h.subject ∙ undo-term_text t.subject) i;
  predicate = (ap term_in h.predicate ∙ undo-term_text t.predicate) i;
  object = (ap term_in h.object ∙ undo-term_text t.object) i;
}

-- different slots stand for different terms, and so different keys for different triples
pub key_same : (p : Pool) (r : Texts) (k l : Key) (t : Triple) → LiesIn p r → HasTriple p r k t → HasTriple p r l t → k ≡ l
key_same p r k l t lies h g = λ i. record {
  first = lies.once k.first l.first (term_text t.subject) h.subject g.subject i;
  second = lies.once k.second l.second (term_text t.predicate) h.predicate g.predicate i;
  third = lies.once k.third l.third (term_text t.object) h.object g.object i;
}

-- a slot that is used has the text of its term
pub live_slot : (p : Pool) (r : Texts) (x : ℕ) → LiesIn p r → 0 < count_at p x → text_in_slot p r x ≡ Some (term_text (term_in (text_in_slot p r x)))
live_slot p r x lies some =
    let u = used p x some in
    let t = lies.textual x u.entry u.there in
    let is : text_in_slot p r x ≡ Some t.text = ap (live_text r) u.there ∙ t.is in
    let back : undo t.text ≡ t.canonical.term = ap undo t.canonical.is ∙ undo-term_text t.canonical.term in
    is ∙ ap Some (t.canonical.is ∙ ap term_text (sym back) ∙ ap (λ o. term_text (term_in o)) (sym is))

-- each key stands for the triple of its slots
pub record AreLive (p : Pool) (r : Texts) (c : KeyCounts) : Type 0 where
  pub live : (k : Key) → map.contains_key c k ≡ true → HasTriple p r k (triple_at p r k)

pub live_key : (p : Pool) (r : Texts) (k : Key) → LiesIn p r → 0 < count_at p k.first → 0 < count_at p k.second → 0 < count_at p k.third → HasTriple p r k (triple_at p r k)
unfolding triple_at
live_key p r k lies a b c = record { subject = live_slot p r k.first lies a; predicate = live_slot p r k.second lies b; object = live_slot p r k.third lies c }

-- a key of the map uses each of its slots
pub uses_first : (k : Key) → 0 < uses k.first k
uses_first k = omega (arith, if_same k.first k.first refl)

pub uses_second : (k : Key) → 0 < uses k.second k
uses_second k = omega (arith, if_same k.second k.second refl)

pub uses_third : (k : Key) → 0 < uses k.third k
uses_third k = omega (arith, if_same k.third k.third refl)

pub uses_there : (c : KeyCounts) (k : Key) (slot : ℕ) → map.contains_key c k ≡ true → uses slot k ≤ slots.used (map.keys c) slot
uses_there c k slot there = sum-has key_cmp-IsAntisymmetric (uses slot) k (map.keys c) (has_key c k ∙ there)

pub live_counted : (p : Pool) (r : Texts) (c : KeyCounts) → LiesIn p r → ((slot : ℕ) → slots.used (map.keys c) slot ≤ count_at p slot) → AreLive p r c
live_counted p r c lies enough = record {
  live = λ k there.
      live_key p r k lies
      (omega (arith, enough k.first, uses_there c k k.first there, uses_first k))
      (omega (arith, enough k.second, uses_there c k k.second there, uses_second k))
      (omega (arith, enough k.third, uses_there c k k.third there, uses_third k));
}

-- two triples of slots are equal where the triples that they stand for are
pub same_tests : (p : Pool) (r : Texts) (k l : Key) (t u : Triple) → LiesIn p r → HasTriple p r k t → HasTriple p r l u → same_triple t u ≡ same_key k l
same_tests p r k l t u lies h g =
    both_ways (same_triple t u) (same_key k l)
    (λ e. let same = triple_cmp-IsAntisymmetric t u (equal _ e) in
    ap (same_key k) (key_same p r l k u lies g (subst (HasTriple p r k) same h)) ∙ ap is_eq (tied_itself key_cmp-total k))
    (λ e. let same = key_cmp-IsAntisymmetric k l (equal _ e) in
    ap (same_triple t) (sym (tells p r l u g) ∙ ap (triple_at p r) (sym same) ∙ tells p r k t h) ∙ ap is_eq (tied_itself triple_cmp-total t))

module _ (p : Pool) (r : Texts) (c : KeyCounts) (lies : LiesIn p r) (live : AreLive p r c) where
  -- a triple has the count of its key
  pub get_image : (k : Key) (t : Triple) → HasTriple p r k t → map.get (image (triple_at p r) c) t ≡ map.get c k
  unfolding image
  get_image k t h =
      map.get-from_entries triple_cmp-total _ t
      ∙ find-pushed key_cmp triple_cmp key_cmp-total (triple_at p r) k t (map.entries c) (λ x there.
      same_tests p r k x t (triple_at p r x) lies h (live.live x (sym (has_key c x) ∙ there)))
      ∙ sym (map.get-entries c k)

  -- what no key stands for isn't stored
  pub image_none : (t : Triple) → ((k : Key) → map.contains_key c k ≡ true → triple_at p r k ≢ t) → map.get (image (triple_at p r) c) t ≡ None
  unfolding image
  image_none t none =
      map.get-from_entries triple_cmp-total _ t
      ∙ find-pushed_none key_cmp triple_cmp key_cmp-total (triple_at p r) t (map.entries c) (λ x there.
      both_ways (same_triple t (triple_at p r x)) false
      (λ e. absurd (none x (sym (has_key c x) ∙ there) (sym (triple_cmp-IsAntisymmetric t _ (equal _ e)))))
      (λ e. clash e refl))

  pub image_absent : (t : Triple) → ((k : Key) → HasTriple p r k t → ⊥) → map.get (image (triple_at p r) c) t ≡ None
  image_absent t none = image_none t (λ k there is. none k (subst (HasTriple p r k) is (live.live k there)))

pub get-counted : (c : KeyCounts) (k : Key) (n : ℕ) (q : Key) → map.get (keyed.with_count c k n) q ≡ cond (same_key q k) (kept n) (map.get c q)
get-counted c k zero q = map.get-remove key_cmp-total c k q
get-counted c k (suc n) q = map.get-insert key_cmp-total c k (suc n) q

-- a key of the map after another count is the one counted, or was there
counted_key : (c : KeyCounts) (k : Key) (n : ℕ) (q : Key) → map.contains_key (keyed.with_count c k n) q ≡ true → (q ≡ k) ⊎ (map.contains_key c q ≡ true)
counted_key c k n q there =
    elim (same_key q k) as (λ b. same_key q k ≡ b → is_some (cond b (kept n) (map.get c q)) ≡ true → (q ≡ k) ⊎ (map.contains_key c q ≡ true)) [
      | true ↦ λ e _. inl (key_cmp-IsAntisymmetric q k (equal _ e))
      | false ↦ λ e h. inr h
    ] refl (ap is_some (sym (get-counted c k n q)) ∙ there)

pub live-with_count : (p : Pool) (r : Texts) (c : KeyCounts) (k : Key) (t : Triple) (n : ℕ) → AreLive p r c → HasTriple p r k t → AreLive p r (keyed.with_count c k n)
live-with_count p r c k t n live h = record {
  live = λ q there. ⊎_elim
      (λ e. subst (λ x. HasTriple p r x (triple_at p r x)) (sym e) (subst (HasTriple p r k) (sym (tells p r k t h)) h))
      (λ was. live.live q was)
      (counted_key c k n q there);
}

-- another count of a key is another count of its triple
pub image-with_count : (p : Pool) (r : Texts) (c : KeyCounts) (k : Key) (t : Triple) (n : ℕ) → LiesIn p r → AreLive p r c → HasTriple p r k t
    → image (triple_at p r) (keyed.with_count c k n) ≡ with_count (image (triple_at p r) c) t n
image-with_count p r c k t n lies live h =
    let m = triple_at p r in
    let now = live-with_count p r c k t n live h in
    map.same_map triple_cmp-total triple_cmp-IsAntisymmetric _ _ (λ q. ⊎_elim
    (λ some.
    let has_l : HasTriple p r some.0 q = subst (HasTriple p r some.0) some.2
    (⊎_elim (λ e. subst (λ x. HasTriple p r x (triple_at p r x)) (sym e) (subst (HasTriple p r k) (sym (tells p r k t h)) h)) (λ was. live.live some.0 was)
    (in_front c k some.0 some.1)) in
    get_image p r (keyed.with_count c k n) lies now some.0 q has_l
    ∙ get-counted c k n some.0
    ∙ ap (λ b. cond b (kept n) (map.get c some.0)) (sym (same_tests p r some.0 k q t lies has_l h))
    ∙ ap (λ v. cond (same_triple q t) (kept n) v) (sym (get_image p r c lies live some.0 q has_l)))
    (λ none.
    let other : same_triple q t ≡ false = both_ways (same_triple q t) false
    (λ e. absurd (none k (ap (λ b. b || has key_cmp k (map.keys c)) (ap is_eq (tied_itself key_cmp-total k))) (tells p r k t h ∙ sym (triple_cmp-IsAntisymmetric q t (equal _ e)))))
    (λ e. clash e refl) in
    image_none p r (keyed.with_count c k n) lies now q (λ x there. none x (put_in_front c k x (counted_key c k n x there)))
    ∙ sym (ap (λ b. cond b (kept n) (map.get (image m c) q)) other
    ∙ image_none p r c lies live q (λ x there. none x (put_in_front c k x (inr there)))))
    (among key_cmp-total key_cmp-IsAntisymmetric triple_cmp-total triple_cmp-IsAntisymmetric m q (k ∷ map.keys c))
    ∙ sym (get-with_count (image m c) t n q))
  where
    in_front : (c : KeyCounts) (k x : Key) → has key_cmp x (k ∷ map.keys c) ≡ true → (x ≡ k) ⊎ (map.contains_key c x ≡ true)
    in_front c k x there =
        elim (same_key x k) as (λ b. same_key x k ≡ b → (b || has key_cmp x (map.keys c)) ≡ true → (x ≡ k) ⊎ (map.contains_key c x ≡ true)) [
          | true ↦ λ e _. inl (key_cmp-IsAntisymmetric x k (equal _ e))
          | false ↦ λ e rest. inr (sym (has_key c x) ∙ rest)
        ] refl there

    put_in_front : (c : KeyCounts) (k x : Key) → (x ≡ k) ⊎ (map.contains_key c x ≡ true) → has key_cmp x (k ∷ map.keys c) ≡ true
    put_in_front c k x (inl e) = ap (λ b. b || has key_cmp x (map.keys c)) (ap (λ y. same_key y k) e ∙ ap is_eq (tied_itself key_cmp-total k))
    put_in_front c k x (inr there) = or_true (same_key x k) _ (has_key c x ∙ there)

-- the count of a triple is that of its key
pub count_image : (p : Pool) (r : Texts) (c : KeyCounts) (k : Key) (t : Triple) → LiesIn p r → AreLive p r c → HasTriple p r k t → count_of (image (triple_at p r) c) t ≡ keyed.count_of c k
count_image p r c k t lies live h = ap (λ v. unwrap_or v 0) (get_image p r c lies live k t h)

-- a count that is changed by its own, of the key and of the triple
pub image_changed : (p : Pool) (r : Texts) (c : KeyCounts) (k : Key) (t : Triple) (g : ℕ → ℕ) → LiesIn p r → AreLive p r c → HasTriple p r k t
    → image (triple_at p r) (keyed.with_count c k (g (keyed.count_of c k))) ≡ with_count (image (triple_at p r) c) t (g (count_of (image (triple_at p r) c) t))
image_changed p r c k t g lies live h =
    image-with_count p r c k t (g (keyed.count_of c k)) lies live h
    ∙ ap (λ n. with_count (image (triple_at p r) c) t (g n)) (sym (count_image p r c k t lies live h))

-- where the keys stand for the same triples, the counts are the same
pub image_kept : (p q : Pool) (r s : Texts) (c : KeyCounts) → ((k : Key) → map.contains_key c k ≡ true → triple_at q s k ≡ triple_at p r k) → image (triple_at q s) c ≡ image (triple_at p r) c
unfolding image
image_kept p q r s c same = ap (λ es. map.from_entries {R = triple_cmp} es) (pushed_same key_cmp triple_cmp key_cmp-total (triple_at q s) (triple_at p r) (map.entries c) (λ k there. same k (sym (has_key c k) ∙ there)))
