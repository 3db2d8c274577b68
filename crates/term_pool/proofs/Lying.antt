-- The texts of a pool lie in its region after each step.
use Rattle.std.proofs.Common.{◌≡◌, ◌≢◌, ℕ, ◌+◌, ◌<◌, ◌≤◌, ◌==◌, inl, inr, List, Option, Some, None, arith, refl, sym, ap, subst, ◌∙◌, ⊎_elim}
use Rattle.std.specs.List.{Contains}
use Rattle.std.specs.HashMap.{get as map_get}
use Rattle.std.proofs.lemmas.Bool.{cases_eq}
use Rattle.slab.specs.Slab.{get, slab_len}
pub use Rattle.sorted_sets.proofs.Counting.{if_other, if_same}
use Rattle.text_region.specs.declared.piece.Piece.{Piece}
use Rattle.text_region.specs.Region.{Texts, bytes_of}
use Rattle.term_pool.specs.declared.slots.Entry.{Entry}
use Rattle.term_pool.specs.declared.pool.Pool.{Pool}
use Rattle.std.specs.Prelude.{vec_items}
use Rattle.term_pool.specs.Index.{Forgets, IsIndexed, Points, hash_of}
use Rattle.term_pool.specs.Pool.{LiesIn, IsCanonical, IsNowhere, IsTextual, Interned, Released, count_at, count_of, one_if, terms, text_in_slot, live_text}
use Rattle.term_pool.specs.Counting.{Recounts}
use Rattle.term_pool.specs.Making.{HasSame}
use Rattle.term_pool.proofs.Indexed.{index_added, index_removed, index_same}

-- a slot with a text has an entry
pub record Stands (pool : Pool) (texts : Texts) (slot : ℕ) (text : List ℕ) : Type 0 where
  pub entry : Entry
  pub there : get pool.slots slot ≡ Some entry
  pub is : bytes_of texts entry.piece ≡ Some text

standing : (texts : Texts) (o : Option Entry) (text : List ℕ) → live_text texts o ≡ Some text → (entry : Entry) × (o ≡ Some entry) × (bytes_of texts entry.piece ≡ Some text)
standing texts None text h = cc
standing texts (Some entry) text h = (entry, refl, h)

pub stands : (pool : Pool) (texts : Texts) (slot : ℕ) (text : List ℕ) → text_in_slot pool texts slot ≡ Some text → Stands pool texts slot text
stands pool texts slot text h = let s = standing texts (get pool.slots slot) text h in record { entry = s.0; there = s.1; is = s.2 }

-- a slot that is used has an entry
pub record Used (pool : Pool) (slot : ℕ) : Type 0 where
  pub entry : Entry
  pub there : get pool.slots slot ≡ Some entry

using : (o : Option Entry) → 0 < count_of o → (entry : Entry) × (o ≡ Some entry)
using None h = absurd (omega (arith, h))
using (Some entry) h = (entry, refl)

pub used : (pool : Pool) (slot : ℕ) → 0 < count_at pool slot → Used pool slot
used pool slot h = let s = using (get pool.slots slot) h in record { entry = s.0; there = s.1 }

-- the entry of a slot has a text
pub text_there : (pool : Pool) (texts : Texts) → LiesIn pool texts → (slot : ℕ) (entry : Entry) → get pool.slots slot ≡ Some entry → (text : List ℕ) × (text_in_slot pool texts slot ≡ Some text)
text_there pool texts lies slot entry h = let t = lies.textual slot entry h in (t.text, ap (live_text texts) h ∙ t.is)

-- a slot with a text is used
pub used_at : (pool : Pool) (texts : Texts) → LiesIn pool texts → (slot : ℕ) (text : List ℕ) → text_in_slot pool texts slot ≡ Some text → 0 < count_at pool slot
used_at pool texts lies slot text h =
    let s = stands pool texts slot text h in
    let t = lies.textual slot s.entry s.there in
    omega (arith, t.counted, ap count_of s.there)

-- a slot without a text is empty
pub empty : (pool : Pool) (texts : Texts) → LiesIn pool texts → (slot : ℕ) → text_in_slot pool texts slot ≡ None → get pool.slots slot ≡ None
empty pool texts lies slot h = at (get pool.slots slot) refl
  where
    at : (o : Option Entry) → get pool.slots slot ≡ o → get pool.slots slot ≡ None
    at None e = e
    at (Some entry) e = absurd (let t = text_there pool texts lies slot entry e in let none : None ≡ Some t.0 = sym h ∙ t.1 in cc)

module _ (p q : Pool) (r s : Texts) (slot : ℕ) (others : (x : ℕ) → x ≢ slot → get q.slots x ≡ get p.slots x) where
  -- a piece that is another's keeps the text of the slot
  kept_text : LiesIn p r → (mine : Piece) → ((x : ℕ) (e : Entry) → x ≢ slot → get p.slots x ≡ Some e → e.piece ≢ mine) → ((y : Piece) → y ≢ mine → bytes_of s y ≡ bytes_of r y)
      → (x : ℕ) → x ≢ slot → text_in_slot q s x ≡ text_in_slot p r x
  kept_text lies mine another bytes x ne = ap (live_text s) (others x ne) ∙ at (get p.slots x) refl
    where
      at : (o : Option Entry) → get p.slots x ≡ o → live_text s o ≡ live_text r o
      at None e = refl
      at (Some entry) e = bytes entry.piece (another x entry ne e)

  module _ (lies : LiesIn p r) (entry : Entry) (text : List ℕ) (bytes : (y : Piece) → y ≢ entry.piece → bytes_of s y ≡ bytes_of r y) where
    -- ---- a term comes

    pub texts_added : bytes_of r entry.piece ≡ None → (x : ℕ) → x ≢ slot → text_in_slot q s x ≡ text_in_slot p r x
    texts_added dead = kept_text lies entry.piece (λ x e ne h same.
        let t = lies.textual x e h in let none : None ≡ Some t.text = sym dead ∙ ap (bytes_of r) (sym same) ∙ t.is in cc) bytes

    pub lies_added : bytes_of r entry.piece ≡ None → get p.slots slot ≡ None → get q.slots slot ≡ Some entry → bytes_of s entry.piece ≡ Some text → 0 < entry.count → IsCanonical text → IsNowhere p r text
        → Points (map_get ◌==◌ p.by_hash) (map_get ◌==◌ q.by_hash) p.more.items q.more.items (hash_of p.keys text) slot → q.keys ≡ p.keys → terms q ≤ q.limit → LiesIn q s
    lies_added dead vacant there is counted canonical nowhere points keys few =
        let same = texts_added dead in
        let at : text_in_slot q s slot ≡ Some text = ap (live_text s) there ∙ is in
        record {
          textual = λ x e h. ⊎_elim
              (λ eq. let one : Some entry ≡ Some e = sym there ∙ ap (get q.slots) (sym eq) ∙ h in let this : entry ≡ e = cc in
              subst (IsTextual s) this (record { text = text; is = is; canonical = canonical; counted = counted }))
              (λ ne. let t = lies.textual x e (sym (others x ne) ∙ h) in
              record { text = t.text; is = ap (live_text s) (sym h) ∙ same x ne ∙ ap (live_text r) (sym (others x ne) ∙ h) ∙ t.is; canonical = t.canonical; counted = t.counted })
              (cases_eq x slot);
          once = λ x y t a b. ⊎_elim
              (λ e. ⊎_elim (λ f. e ∙ sym f)
              (λ f. absurd (let one : Some text ≡ Some t = sym at ∙ ap (text_in_slot q s) (sym e) ∙ a in let eq : text ≡ t = cc in nowhere.nowhere y (sym (same y f) ∙ b ∙ ap Some (sym eq))))
              (cases_eq y slot))
              (λ e. ⊎_elim
              (λ f. absurd (let one : Some text ≡ Some t = sym at ∙ ap (text_in_slot q s) (sym f) ∙ b in let eq : text ≡ t = cc in nowhere.nowhere x (sym (same x e) ∙ a ∙ ap Some (sym eq))))
              (λ f. lies.once x y t (sym (same x e) ∙ a) (sym (same y f) ∙ b))
              (cases_eq y slot))
              (cases_eq x slot);
          indexed = subst (λ k. IsIndexed k (text_in_slot q s) (map_get ◌==◌ q.by_hash) q.more.items) (sym keys) (index_added p.keys (text_in_slot p r) (text_in_slot q s) (map_get ◌==◌ p.by_hash) (map_get ◌==◌ q.by_hash) p.more.items slot text same q.more.items lies.indexed (ap (live_text r) vacant) at points);
          few = few;
        }

    pub interned_added : bytes_of r entry.piece ≡ None → get p.slots slot ≡ None → get q.slots slot ≡ Some entry → bytes_of s entry.piece ≡ Some text → entry.count ≡ 1 → IsNowhere p r text → Interned p r q s slot text
    interned_added dead vacant there is one nowhere = record {
      there = ap (live_text s) there ∙ is;
      was = inr (ap (live_text r) vacant, nowhere);
      others = texts_added dead;
      counts = λ x. ⊎_elim
          (λ e. let now : count_at q x ≡ 1 = ap (count_at q) e ∙ ap count_of there ∙ one in
          let was : count_at p x ≡ 0 = ap (count_at p) e ∙ ap count_of vacant in
          omega (arith, now, was, if_same slot x (sym e)))
          (λ ne. omega (arith, ap count_of (others x ne), if_other slot x (λ e. ne (sym e))))
          (cases_eq x slot);
    }

    -- ---- a term goes

    pub texts_removed : get p.slots slot ≡ Some entry → (x : ℕ) → x ≢ slot → text_in_slot q s x ≡ text_in_slot p r x
    texts_removed there = kept_text lies entry.piece (λ x e ne h same.
        let t = lies.textual x e h in
        ne (lies.once x slot t.text (ap (live_text r) h ∙ t.is) (ap (live_text r) there ∙ ap (bytes_of r) (sym same) ∙ t.is))) bytes

    pub released_removed : get p.slots slot ≡ Some entry → entry.count ≡ 1 → get q.slots slot ≡ None → Released p r q s slot
    released_removed there one gone = record {
      counts = λ x. ⊎_elim
          (λ e. let was : count_at p x ≡ 1 = ap (count_at p) e ∙ ap count_of there ∙ one in
          let now : count_at q x ≡ 0 = ap (count_at q) e ∙ ap count_of gone in
          omega (arith, now, was, if_same slot x (sym e)))
          (λ ne. omega (arith, ap count_of (others x ne), if_other slot x (λ e. ne (sym e))))
          (cases_eq x slot);
      texts = λ x h. texts_removed there x (λ e. let now : count_at q x ≡ 0 = ap (count_at q) e ∙ ap count_of gone in omega (arith, now, h));
    }

    pub lies_removed : get p.slots slot ≡ Some entry → bytes_of r entry.piece ≡ Some text → get q.slots slot ≡ None
        → Forgets (map_get ◌==◌ p.by_hash) (map_get ◌==◌ q.by_hash) (hash_of p.keys text) slot
        → ((x : ℕ) → Contains q.more.items x → Contains p.more.items x × (x ≢ slot)) → ((x : ℕ) → Contains p.more.items x → x ≢ slot → Contains q.more.items x)
        → q.keys ≡ p.keys → terms q ≤ q.limit → LiesIn q s
    lies_removed there is gone forgets fewer kept keys few =
        let same = texts_removed there in
        record {
          textual = λ x e h.
              let ne : x ≢ slot = λ eq. let none : None ≡ Some e = sym gone ∙ ap (get q.slots) (sym eq) ∙ h in cc in
              let t = lies.textual x e (sym (others x ne) ∙ h) in
              record { text = t.text; is = ap (live_text s) (sym h) ∙ same x ne ∙ ap (live_text r) (sym (others x ne) ∙ h) ∙ t.is; canonical = t.canonical; counted = t.counted };
          once = λ x y t a b.
              let left : x ≢ slot = λ eq. let none : None ≡ Some t = sym (ap (live_text s) gone) ∙ ap (text_in_slot q s) (sym eq) ∙ a in cc in
              let right : y ≢ slot = λ eq. let none : None ≡ Some t = sym (ap (live_text s) gone) ∙ ap (text_in_slot q s) (sym eq) ∙ b in cc in
              lies.once x y t (sym (same x left) ∙ a) (sym (same y right) ∙ b);
          indexed = subst (λ k. IsIndexed k (text_in_slot q s) (map_get ◌==◌ q.by_hash) q.more.items) (sym keys) (index_removed p.keys (text_in_slot p r) (text_in_slot q s) (map_get ◌==◌ p.by_hash) (map_get ◌==◌ q.by_hash) p.more.items slot text same q.more.items lies.indexed (ap (live_text r) there ∙ is) forgets fewer kept (ap (live_text s) gone));
          few = few;
        }

-- the same slots and the same index
pub lies_same : (p q : Pool) (r : Texts) → LiesIn p r → HasSame p q → LiesIn q r
lies_same p q r lies h =
    let slots : (x : ℕ) → get q.slots x ≡ get p.slots x = λ x. ap (λ l. get l x) h.slots in
    let texts : (x : ℕ) → text_in_slot q r x ≡ text_in_slot p r x = λ x. ap (live_text r) (slots x) in
    record {
      textual = λ x e g. lies.textual x e (sym (slots x) ∙ g);
      once = λ x y t a b. lies.once x y t (sym (texts x) ∙ a) (sym (texts y) ∙ b);
      indexed = subst (λ k. IsIndexed k (text_in_slot q r) (map_get ◌==◌ q.by_hash) q.more.items) (sym h.keys) (subst (λ l. IsIndexed p.keys (text_in_slot q r) (map_get ◌==◌ q.by_hash) l) (sym h.more)
          (index_same p.keys (text_in_slot p r) (text_in_slot q r) (map_get ◌==◌ p.by_hash) (map_get ◌==◌ q.by_hash) p.more.items lies.indexed texts h.by_hash));
      few = omega (arith, lies.few, ap (λ l. slab_len l) h.slots, h.limit);
    }

-- the same slots have the same texts and counts
pub same_texts : (p q : Pool) (r : Texts) → HasSame p q → (x : ℕ) → text_in_slot q r x ≡ text_in_slot p r x
same_texts p q r h x = ap (λ l. live_text r (get l x)) h.slots

pub same_counts : (p q : Pool) → HasSame p q → (x : ℕ) → count_at q x ≡ count_at p x
same_counts p q h x = ap (λ l. count_of (get l x)) h.slots

pub nowhere_same : (p q : Pool) (r : Texts) (text : List ℕ) → HasSame p q → IsNowhere p r text → IsNowhere q r text
nowhere_same p q r text h n = record { nowhere = λ x e. n.nowhere x (sym (same_texts p q r h x) ∙ e) }

pub interned_from : (p m q : Pool) (r s : Texts) (slot : ℕ) (text : List ℕ) → HasSame p m → Interned m r q s slot text → Interned p r q s slot text
interned_from p m q r s slot text h i = record {
  there = i.there;
  was = ⊎_elim (λ a. inl (sym (same_texts p m r h slot) ∙ a)) (λ b. inr (sym (same_texts p m r h slot) ∙ b.0, record { nowhere = λ x e. b.1.nowhere x (same_texts p m r h x ∙ e) })) i.was;
  others = λ x ne. i.others x ne ∙ same_texts p m r h x;
  counts = λ x. i.counts x ∙ ap (λ n. n + one_if (slot == x)) (same_counts p m h x);
}

-- another count in a slot
module _ (p q : Pool) (r : Texts) (slot count : ℕ) (h : Recounts p.slots q.slots slot count) where
  pub texts_recounted : (x : ℕ) → text_in_slot q r x ≡ text_in_slot p r x
  texts_recounted x = ⊎_elim
      (λ e. ap (text_in_slot q r) e ∙ ap (live_text r) h.is ∙ ap (live_text r) (sym h.there) ∙ ap (text_in_slot p r) (sym e))
      (λ ne. ap (live_text r) (h.others x ne)) (cases_eq x slot)

  pub interned_recounted : (text : List ℕ) → count ≡ count_at p slot + 1 → text_in_slot p r slot ≡ Some text → Interned p r q r slot text
  interned_recounted text more is = record {
    there = texts_recounted slot ∙ is;
    was = inl is;
    others = λ x ne. texts_recounted x;
    counts = λ x. ⊎_elim
        (λ e. let now : count_at q x ≡ count = ap (count_at q) e ∙ ap count_of h.is in
        omega (arith, now, more, ap (count_at p) e, if_same slot x (sym e)))
        (λ ne. omega (arith, ap count_of (h.others x ne), if_other slot x (λ e. ne (sym e))))
        (cases_eq x slot);
  }

  pub released_recounted : count + 1 ≡ count_at p slot → Released p r q r slot
  released_recounted less = record {
    counts = λ x. ⊎_elim
        (λ e. let now : count_at q x ≡ count = ap (count_at q) e ∙ ap count_of h.is in
        omega (arith, now, less, ap (count_at p) e, if_same slot x (sym e)))
        (λ ne. omega (arith, ap count_of (h.others x ne), if_other slot x (λ e. ne (sym e))))
        (cases_eq x slot);
    texts = λ x used. texts_recounted x;
  }

  pub lies_recounted : LiesIn p r → 0 < count → q.by_hash ≡ p.by_hash → q.more ≡ p.more → q.keys ≡ p.keys → q.limit ≡ p.limit → LiesIn q r
  lies_recounted lies positive by_hash more keys limit = record {
    textual = λ x e g. ⊎_elim
        (λ eq. let was = lies.textual slot h.was h.there in
        let one : Some (record { piece = h.was.piece; count = count }) ≡ Some e = sym h.is ∙ ap (get q.slots) (sym eq) ∙ g in
        let this : record { piece = h.was.piece; count = count } ≡ e = cc in
        subst (IsTextual r) this (record { text = was.text; is = was.is; canonical = was.canonical; counted = positive }))
        (λ ne. lies.textual x e (sym (h.others x ne) ∙ g)) (cases_eq x slot);
    once = λ x y t a b. lies.once x y t (sym (texts_recounted x) ∙ a) (sym (texts_recounted y) ∙ b);
    indexed = subst (λ k. IsIndexed k (text_in_slot q r) (map_get ◌==◌ q.by_hash) q.more.items) (sym keys) (subst (λ l. IsIndexed p.keys (text_in_slot q r) (map_get ◌==◌ q.by_hash) l) (ap (λ m. vec_items m) (sym more))
        (index_same p.keys (text_in_slot p r) (text_in_slot q r) (map_get ◌==◌ p.by_hash) (map_get ◌==◌ q.by_hash) p.more.items lies.indexed texts_recounted (λ hash. ap (λ m. map_get ◌==◌ m hash) by_hash)));
    few = omega (arith, lies.few, h.as_many, limit);
  }
