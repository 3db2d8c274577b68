-- A store after one owner more or less of a triple.
use Rattle.std.proofs.Common.{◌≡◌, ℕ, suc, ◌+◌, ◌-◌, ◌<◌, [], ◌∷◌, Bool, true, false, List, Option, Some, None, is_eq, is_some, unwrap_or, refl, sym, ◌∙◌, ap, subst, arith, add-one, ⊎_elim}
use Rattle.std.specs.FinMap as map
use Rattle.std.proofs.{lemmas.Bool.cases_eq, lemmas.Bool.cases_lt, lemmas.List.Sums.sum_by-cons, lemmas.Cmp.tied_itself}
use Rattle.sorted_sets.specs.Rising.{has}
use Rattle.sorted_sets.proofs.{Bools.or_true, Rising.has_itself}
use Rattle.rdf_term.specs.{declared.triple.Triple.Triple, declared.term.Term.Term, Order.term_cmp, Text.term_text, Undo.undo}
use Rattle.rdf_term.proofs.Texts.{undo-term_text}
use Rattle.text_region.specs.Region.{Texts}
use Rattle.term_pool.specs.{declared.pool.Pool.Pool, Pool.IsCanonical, Pool.LiesIn, Pool.count_at, Pool.one_if, Pool.text_in_slot}
use Rattle.term_pool.proofs.Lying.{if_other, used_at}
use Rattle.slot_keys.specs.{declared.key.Key.Key, Keys.key_cmp, Keys.key_cmp-total, Keys.key_cmp-IsAntisymmetric, Keys.same_key}
use Rattle.slot_keys.proofs.Keyed.{gone, keys-insert, keys-insert_again, keys-remove, sum-insert_key, has_key}
use Rattle.slot_index.specs.Counts.{KeyCounts}
use Rattle.slot_index.specs.Counts as keyed
use Rattle.slot_index.proofs.Owners as keyed_owners
use Rattle.triple_texts.specs.declared.triple_text.TripleText.{TripleText}
use Rattle.triple_catalog.specs.{declared.catalog.Catalog.Catalog, Counts.count_of, Counts.lowered, Counts.raised}
use Rattle.triple_catalog.specs.Interning.{HasTermsOf, InternsTriple, KeepsTexts, ReleasesTriple}
use Rattle.triple_catalog.specs.Slots.{HasCanonicalTexts, HasTermsIn, HasTexts, HasTriple, term_in, triple_at, triple_of, uses}
use Rattle.triple_catalog.specs.Stored.{HasKey, IsStored, KeepsKeys, counts_in, image}
use Rattle.triple_catalog.specs.Slots as slots
use Rattle.triple_catalog.proofs.Held.{three}
use Rattle.triple_catalog.proofs.Live.{AreLive, count_image, get_image, image_changed, image_kept, live_counted, live-with_count, tells, uses_first, uses_second, uses_third, uses_there}

-- ---- counts of keys

-- a triple of slots is stored where it has an owner
pub stored_counted : (c : KeyCounts) (k : Key) → 0 < keyed.count_of c k → map.contains_key c k ≡ true
stored_counted c k some = by (map.get c k) some
  where
    by : (v : Option ℕ) → 0 < unwrap_or v 0 → is_some v ≡ true
    by None h = absurd (omega (arith, h))
    by (Some n) h = refl

pub absent_uncounted : (c : KeyCounts) (k : Key) → keyed.HaveOwners c → keyed.count_of c k ≡ 0 → map.contains_key c k ≡ false
absent_uncounted c k owned none = by (map.contains_key c k) refl
  where
    by : (b : Bool) → map.contains_key c k ≡ b → map.contains_key c k ≡ false
    by true e = absurd (omega (arith, owned k e, none))
    by false e = e

module _ (c : KeyCounts) (k : Key) (slot : ℕ) where
  uses_new : (n : ℕ) → map.contains_key c k ≡ false → slots.used (map.keys (keyed.with_count c k (suc n))) slot ≡ uses slot k + slots.used (map.keys c) slot
  uses_new n absent =
      ap (λ ks. slots.used ks slot) (keys-insert key_cmp-total key_cmp-IsAntisymmetric c k (suc n))
      ∙ sum-insert_key key_cmp (uses slot) k (map.keys c) (has_key c k ∙ absent)

  uses_again : (n : ℕ) → map.contains_key c k ≡ true → slots.used (map.keys (keyed.with_count c k (suc n))) slot ≡ slots.used (map.keys c) slot
  uses_again n there = ap (λ ks. slots.used ks slot) (keys-insert_again key_cmp-total key_cmp-IsAntisymmetric c k (suc n) there)

  pub used_new : keyed.HaveOwners c → keyed.count_of c k ≡ 0 → slots.used (map.keys (keyed.raised c k)) slot ≡ uses slot k + slots.used (map.keys c) slot
  used_new owned none = subst (λ n. slots.used (map.keys (keyed.with_count c k n)) slot ≡ uses slot k + slots.used (map.keys c) slot) (sym (add-one (keyed.count_of c k))) (uses_new (keyed.count_of c k) (absent_uncounted c k owned none))

  pub used_again : 0 < keyed.count_of c k → slots.used (map.keys (keyed.raised c k)) slot ≡ slots.used (map.keys c) slot
  used_again some = subst (λ n. slots.used (map.keys (keyed.with_count c k n)) slot ≡ slots.used (map.keys c) slot) (sym (add-one (keyed.count_of c k))) (uses_again (keyed.count_of c k) (stored_counted c k some))

  pub used_left : 1 < keyed.count_of c k → slots.used (map.keys (keyed.lowered c k)) slot ≡ slots.used (map.keys c) slot
  used_left more =
      let e : keyed.count_of c k - 1 ≡ suc (keyed.count_of c k - 2) = omega (arith, more) in
      subst (λ n. slots.used (map.keys (keyed.with_count c k n)) slot ≡ slots.used (map.keys c) slot) (sym e) (uses_again (keyed.count_of c k - 2) (stored_counted c k (omega (arith, more))))

  pub used_gone : keyed.count_of c k ≡ 1 → slots.used (map.keys (keyed.lowered c k)) slot + uses slot k ≡ slots.used (map.keys c) slot
  used_gone one =
      let e : keyed.count_of c k - 1 ≡ 0 = omega (arith, one) in
      let there = stored_counted c k (omega (arith, one)) in
      let all = sum-insert_key key_cmp (uses slot) k (map.keys (map.remove c k)) (gone key_cmp-total key_cmp-IsAntisymmetric c k) in
      let is : slots.used (map.keys (map.remove c k)) slot + uses slot k ≡ slots.used (map.keys c) slot =
      omega (arith, all, ap (λ ks. slots.used ks slot) (keys-remove key_cmp-total key_cmp-IsAntisymmetric c k there)) in
      subst (λ n. slots.used (map.keys (keyed.with_count c k n)) slot + uses slot k ≡ slots.used (map.keys c) slot) (sym e) is

-- ---- the triples of keys

pub live_stored : (st : Catalog) (r : Texts) → IsStored st r → AreLive st.pool r st.index
live_stored st r h = live_counted st.pool r st.index h.lies (λ slot. omega (arith, h.counted slot))

pub keeps_triple : (p q : Pool) (r s : Texts) (k : Key) (t : Triple) → KeepsTexts p r q s → HasTriple p r k t → HasTriple q s k t
keeps_triple p q r s k t keeps h = record {
  subject = keeps.kept k.first _ h.subject;
  predicate = keeps.kept k.second _ h.predicate;
  object = keeps.kept k.third _ h.object;
}

pub live_kept : (p q : Pool) (r s : Texts) (c : KeyCounts) → KeepsTexts p r q s → AreLive p r c → AreLive q s c
live_kept p q r s c keeps live = record {
  live = λ k there.
      let h = keeps_triple p q r s k _ keeps (live.live k there) in
      subst (HasTriple q s k) (sym (tells q s k _ h)) h;
}

-- the counts stay where the texts do
pub counts_kept : (p q : Pool) (r s : Texts) (c : KeyCounts) → KeepsTexts p r q s → AreLive p r c → image (triple_at q s) c ≡ image (triple_at p r) c
counts_kept p q r s c keeps live = image_kept p q r s c (λ k there. tells q s k _ (keeps_triple p q r s k _ keeps (live.live k there)))

pub counts_raised : (p q : Pool) (r s : Texts) (c : KeyCounts) (k : Key) (t : Triple) → LiesIn q s → KeepsTexts p r q s → AreLive p r c → HasTriple q s k t
    → image (triple_at q s) (keyed.raised c k) ≡ raised (image (triple_at p r) c) t
counts_raised p q r s c k t lies keeps live h =
    image_changed q s c k t (λ n. n + 1) lies (live_kept p q r s c keeps live) h
    ∙ ap (λ m. raised m t) (counts_kept p q r s c keeps live)

-- the text of a canonical text's term is the text
pub canonical_back : (text : List ℕ) → IsCanonical text → term_text (undo text) ≡ text
canonical_back text c = ap (λ l. term_text (undo l)) c.is ∙ ap term_text (undo-term_text c.term) ∙ sym c.is

pub has_triple : (p : Pool) (r : Texts) (k : Key) (of : TripleText) → HasCanonicalTexts of → HasTexts p r k of → HasTriple p r k (triple_of of)
has_triple p r k of c h = record {
  subject = h.subject ∙ ap Some (sym (canonical_back of.subject.now c.subject));
  predicate = h.predicate ∙ ap Some (sym (canonical_back of.predicate.now c.predicate));
  object = h.object ∙ ap Some (sym (canonical_back of.object.now c.object));
}

pub still_there : (c : KeyCounts) (k l : Key) → keyed.HaveOwners c → map.contains_key c l ≡ true → map.contains_key (keyed.raised c k) l ≡ true
still_there c k l owned there = stored_counted (keyed.raised c k) l (omega (arith, keyed_owners.count_of-raised c k l, owned l there))

pub now_there : (c : KeyCounts) (k : Key) → map.contains_key (keyed.raised c k) k ≡ true
now_there c k = stored_counted (keyed.raised c k) k (omega (arith, keyed_owners.count_of-raised c k k, ap one_if (ap is_eq (tied_itself key_cmp-total k))))

-- what held the terms lets go of them again
pub keeps_released : (p q u : Pool) (r s v : Texts) (k : Key) → LiesIn p r → KeepsTexts p r q s → ReleasesTriple q s u v k → ((x : ℕ) → count_at u x ≡ count_at p x) → KeepsTexts p r u v
keeps_released p q u r s v k lies keeps gone counts = record { kept = λ x t e. gone.texts x (omega (arith, used_at p r lies x t e, counts x)) ∙ keeps.kept x t e }

pub back : (p q u : Pool) (r s v : Texts) (k : Key) (of : TripleText) → InternsTriple p r q s k of → ReleasesTriple q s u v k → (x : ℕ) → count_at u x ≡ count_at p x
back p q u r s v k of held gone x = omega (arith, held.counts x, gone.counts x)

-- ---- the places of a slot

-- a slot that is used stands in a stored triple
record User (keys : List Key) (slot : ℕ) : Type 0 where
  key : Key
  there : has key_cmp key keys ≡ true
  some : 0 < uses slot key

user : (keys : List Key) (slot : ℕ) → 0 < slots.used keys slot → User keys slot
user [] slot some = absurd (omega (arith, some))
user (k ∷ ks) slot some = ⊎_elim
    (λ here. record { key = k; there = has_itself key_cmp-total k ks; some = here })
    (λ none. let u = user ks slot (omega (arith, some, none, sum_by-cons (uses slot) k ks)) in
    record { key = u.key; there = or_true (same_key u.key k) _ u.there; some = u.some })
    (cases_lt 0 (uses slot k))

-- the terms of a pool are those of its stored triples
pub terms_stored : (st : Catalog) (r : Texts) (ts : List Term) → IsStored st r → HasTermsIn (counts_in st r) ts → HasTermsOf st.pool r ts
unfolding triple_at
terms_stored st r ts h all = record {
  each = λ slot text e.
      let some : 0 < slots.used (map.keys st.index) slot = omega (arith, h.counted slot, used_at st.pool r h.lies slot text e) in
      let u = user (map.keys st.index) slot some in
      let there : map.contains_key st.index u.key ≡ true = sym (has_key st.index u.key) ∙ u.there in
      let live = live_stored st r h in
      let t = triple_at st.pool r u.key in
      let stored : map.contains_key (counts_in st r) t ≡ true = ap is_some (get_image st.pool r st.index h.lies live u.key t (live.live u.key there)) ∙ there in
      let three = three t ts (all.each t stored) in
      let at : (x : ℕ) → x ≡ slot → has term_cmp (term_in (text_in_slot st.pool r x)) ts ≡ true → has term_cmp (undo text) ts ≡ true =
      λ x same in_it. subst (λ y. has term_cmp y ts ≡ true) (ap (λ y. term_in (text_in_slot st.pool r y)) same ∙ ap term_in e) in_it in
      ⊎_elim (λ a. at u.key.first a three.subject)
      (λ a. ⊎_elim (λ b. at u.key.second b three.predicate)
      (λ b. ⊎_elim (λ d. at u.key.third d three.object)
      (λ d. absurd (omega (arith, u.some, if_other u.key.first slot a, if_other u.key.second slot b, if_other u.key.third slot d)))
      (cases_eq u.key.third slot)) (cases_eq u.key.second slot)) (cases_eq u.key.first slot);
}

-- ---- one owner more

module _ (st new : Catalog) (r s : Texts) (h : IsStored st r) where
  pub counts_unmoved : KeepsTexts st.pool r new.pool s → new.index ≡ st.index → counts_in new s ≡ counts_in st r
  counts_unmoved keeps e = ap (λ c. image (triple_at new.pool s) c) e ∙ counts_kept st.pool new.pool r s st.index keeps (live_stored st r h)

  pub keys_unmoved : KeepsTexts st.pool r new.pool s → new.index ≡ st.index → (l : Key) (t : Triple) → HasKey st r l t → HasKey new s l t
  keys_unmoved keeps e l t k = record { stored = ap (λ c. map.contains_key c l) e ∙ k.stored; has = keeps_triple st.pool new.pool r s l t keeps k.has }

  pub stored_same : new.index ≡ st.index → LiesIn new.pool s → ((x : ℕ) → count_at new.pool x ≡ count_at st.pool x) → IsStored new s
  stored_same e lies counts = record {
    lies = lies;
    counted = λ slot. counts slot ∙ h.counted slot ∙ ap (λ c. slots.used (map.keys c) slot) (sym e);
    owned = subst keyed.HaveOwners (sym e) h.owned;
  }

  module _ (k : Key) (t : Triple) (e : new.index ≡ keyed.raised st.index k) where
    pub counts_after : LiesIn new.pool s → KeepsTexts st.pool r new.pool s → HasTriple new.pool s k t → counts_in new s ≡ raised (counts_in st r) t
    counts_after lies keeps has_k = ap (λ c. image (triple_at new.pool s) c) e ∙ counts_raised st.pool new.pool r s st.index k t lies keeps (live_stored st r h) has_k

    pub key_after : HasTriple new.pool s k t → HasKey new s k t
    key_after has_k = record { stored = ap (λ c. map.contains_key c k) e ∙ now_there st.index k; has = has_k }

    pub keys_after : KeepsTexts st.pool r new.pool s → (l : Key) (u : Triple) → HasKey st r l u → HasKey new s l u
    keys_after keeps l u was = record { stored = ap (λ c. map.contains_key c l) e ∙ still_there st.index k l h.owned was.stored; has = keeps_triple st.pool new.pool r s l u keeps was.has }

  owned_after : (k : Key) (n : ℕ) → new.index ≡ keyed.with_count st.index k n → keyed.HaveOwners new.index
  owned_after k n e = subst keyed.HaveOwners (sym e) (keyed_owners.HaveOwners-with_count st.index k n h.owned)

  pub stored_new : (k : Key) (of : TripleText) → new.index ≡ keyed.raised st.index k → keyed.count_of st.index k ≡ 0 → LiesIn new.pool s → InternsTriple st.pool r new.pool s k of → IsStored new s
  stored_new k of e none lies held = record {
    lies = lies;
    counted = λ slot. omega (arith, held.counts slot, h.counted slot, used_new st.index k slot h.owned none, ap (λ c. slots.used (map.keys c) slot) e);
    owned = owned_after k _ e;
  }

  pub stored_again : (k : Key) → new.index ≡ keyed.raised st.index k → 0 < keyed.count_of st.index k → LiesIn new.pool s → ((x : ℕ) → count_at new.pool x ≡ count_at st.pool x) → IsStored new s
  stored_again k e some lies counts = record {
    lies = lies;
    counted = λ slot. omega (arith, counts slot, h.counted slot, used_again st.index k slot some, ap (λ c. slots.used (map.keys c) slot) e);
    owned = owned_after k _ e;
  }

-- slots that are still used have the triple that they had
pub triple_released : (p q : Pool) (r s : Texts) (k l : Key) (t : Triple) → ReleasesTriple p r q s k → HasTriple p r l t → 0 < count_at q l.first → 0 < count_at q l.second → 0 < count_at q l.third → HasTriple q s l t
triple_released p q r s k l t gone h a b c = record {
  subject = gone.texts l.first a ∙ h.subject;
  predicate = gone.texts l.second b ∙ h.predicate;
  object = gone.texts l.third c ∙ h.object;
}

pub used_slots : (q : Pool) (c : KeyCounts) (l : Key) → ((slot : ℕ) → count_at q slot ≡ slots.used (map.keys c) slot) → map.contains_key c l ≡ true → (0 < count_at q l.first) × (0 < count_at q l.second) × (0 < count_at q l.third)
used_slots q c l counted there = (
  omega (arith, counted l.first, uses_there c l l.first there, uses_first l),
  omega (arith, counted l.second, uses_there c l l.second there, uses_second l),
  omega (arith, counted l.third, uses_there c l l.third there, uses_third l),
)

-- a triple that was stored keeps its slots where the terms are held and let go of
pub again : (st : Catalog) (q u : Pool) (r s v : Texts) (k : Key) (of : TripleText) → IsStored st r → HasCanonicalTexts of → 0 < keyed.count_of st.index k → InternsTriple st.pool r q s k of → ReleasesTriple q s u v k → HasTriple u v k (triple_of of)
again st q u r s v k of h canonical some held gone =
    let counts = back st.pool q u r s v k of held gone in
    let used = used_slots u st.index k (λ slot. counts slot ∙ h.counted slot) (stored_counted st.index k some) in
    triple_released q u s v k k (triple_of of) gone (has_triple q s k of canonical held.has) used.0 used.1 used.2

-- ---- one owner less

module _ (st : Catalog) (r : Texts) (k : Key) (h : IsStored st r) (there : map.contains_key st.index k ≡ true) where
  its_triple : HasTriple st.pool r k (triple_at st.pool r k)
  its_triple = (live_stored st r h).live k there

  live_lowered : AreLive st.pool r (keyed.lowered st.index k)
  live_lowered = live-with_count st.pool r st.index k (triple_at st.pool r k) (keyed.count_of st.index k - 1) (live_stored st r h) its_triple

  lowered_image : image (triple_at st.pool r) (keyed.lowered st.index k) ≡ lowered (counts_in st r) (triple_at st.pool r k)
  lowered_image = image_changed st.pool r st.index k (triple_at st.pool r k) (λ n. n - 1) h.lies (live_stored st r h) its_triple

  still_counted : (l : Key) (t : Triple) → HasTriple st.pool r l t → 0 < count_of (image (triple_at st.pool r) (keyed.lowered st.index k)) t → map.contains_key (keyed.lowered st.index k) l ≡ true
  still_counted l t has_l some = stored_counted (keyed.lowered st.index k) l (omega (arith, some, count_image st.pool r (keyed.lowered st.index k) l t h.lies live_lowered has_l))

  module _ (d : KeyCounts) (e : d ≡ keyed.lowered st.index k) where
    pub stored_left : 1 < keyed.count_of st.index k → IsStored (record { alloc = st.alloc; pool = st.pool; index = d }) r
    stored_left more = record {
      lies = h.lies;
      counted = λ slot. omega (arith, h.counted slot, used_left st.index k slot more, ap (λ c. slots.used (map.keys c) slot) e);
      owned = subst keyed.HaveOwners (sym e) (keyed_owners.HaveOwners-with_count st.index k (keyed.count_of st.index k - 1) h.owned);
    }

    pub counts_left : counts_in (record { alloc = st.alloc; pool = st.pool; index = d }) r ≡ lowered (counts_in st r) (triple_at st.pool r k)
    counts_left = ap (λ c. image (triple_at st.pool r) c) e ∙ lowered_image

    pub keeps_left : KeepsKeys st r (record { alloc = st.alloc; pool = st.pool; index = d }) r
    keeps_left = record {
      kept = λ l t was some. record {
        stored = ap (λ c. map.contains_key c l) e ∙ still_counted l t was.has (subst (λ c. 0 < count_of (image (triple_at st.pool r) c) t) e some);
        has = was.has;
      };
    }

  module _ (new : Catalog) (s : Texts) (e : new.index ≡ keyed.lowered st.index k) (one : keyed.count_of st.index k ≡ 1) (gone_k : ReleasesTriple st.pool r new.pool s k) where
    counted_gone : (slot : ℕ) → count_at new.pool slot ≡ slots.used (map.keys (keyed.lowered st.index k)) slot
    counted_gone slot = omega (arith, gone_k.counts slot, h.counted slot, used_gone st.index k slot one)

    pub stored_gone : LiesIn new.pool s → IsStored new s
    stored_gone lies = record {
      lies = lies;
      counted = λ slot. counted_gone slot ∙ ap (λ c. slots.used (map.keys c) slot) (sym e);
      owned = subst keyed.HaveOwners (sym e) (keyed_owners.HaveOwners-with_count st.index k (keyed.count_of st.index k - 1) h.owned);
    }

    left_triple : (l : Key) (t : Triple) → map.contains_key (keyed.lowered st.index k) l ≡ true → HasTriple st.pool r l t → HasTriple new.pool s l t
    left_triple l t in_it has_l =
        let used = used_slots new.pool (keyed.lowered st.index k) l counted_gone in_it in
        triple_released st.pool new.pool r s k l t gone_k has_l used.0 used.1 used.2

    same_image : counts_in new s ≡ image (triple_at st.pool r) (keyed.lowered st.index k)
    same_image =
        ap (λ c. image (triple_at new.pool s) c) e
        ∙ image_kept st.pool new.pool r s (keyed.lowered st.index k) (λ l in_it. tells new.pool s l _ (left_triple l _ in_it (live_lowered.live l in_it)))

    pub counts_gone : counts_in new s ≡ lowered (counts_in st r) (triple_at st.pool r k)
    counts_gone = same_image ∙ lowered_image

    pub keeps_gone : KeepsKeys st r new s
    keeps_gone = record {
      kept = λ l t was some.
          let in_it = still_counted l t was.has (subst (λ c. 0 < count_of c t) same_image some) in
          record { stored = ap (λ c. map.contains_key c l) e ∙ in_it; has = left_triple l t in_it was.has };
    }
