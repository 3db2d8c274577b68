-- The terms of a triple, used once more and once less.
use Rattle.std.proofs.Common.{◌≡◌, ℕ, ◌<◌, ◌≤◌, true, List, [], ◌∷◌, Option, Some, None, refl, sym, ◌∙◌, ap, subst, arith, ⊎_elim}
use Rattle.std.specs.Ordering.{eq_by_cmp}
use Rattle.std.proofs.lemmas.Bool.{cases_eq, cases_lt}
use Rattle.sorted_sets.specs.Rising.{has}
use Rattle.sorted_sets.proofs.{Bools.or_true, Rising.has_itself}
use Rattle.rdf_term.specs.{declared.term.Term.Term, declared.triple.Triple.Triple, Order.term_cmp, Order.term_cmp-total, Undo.undo}
use Rattle.slab.specs.Slab.{get}
use Rattle.text_region.specs.Region.{Texts}
use Rattle.term_pool.specs.{declared.slots.Entry.Entry, declared.pool.Pool.Pool}
use Rattle.term_pool.specs.Pool.{IsCanonical, IsNowhere, Interned, LiesIn, Released, SameSlots, count_at, count_of, terms, text_in_slot, live_text}
use Rattle.term_pool.proofs.Lying.{if_same, text_there, used, used_at}
use Rattle.slot_keys.specs.declared.key.Key.{Key}
use Rattle.triple_texts.specs.declared.triple_text.TripleText.{TripleText}
use Rattle.triple_catalog.specs.Interning.{HasTermsOf, InternsTriple, KeepsTexts, ReleasesTriple}
use Rattle.triple_catalog.specs.{Room.distinct, Room.terms_of, Slots.IsAllOf, Slots.uses}
use Rattle.triple_catalog.proofs.Distinct.{one_more}

-- a slot that isn't used has no text
pub unused : (p : Pool) (r : Texts) (x : ℕ) → LiesIn p r → count_at p x ≡ 0 → text_in_slot p r x ≡ None
unused p r x lies none = at (get p.slots x) refl
  where
    at : (o : Option Entry) → get p.slots x ≡ o → text_in_slot p r x ≡ None
    at None e = ap (live_text r) e
    at (Some entry) e = let t = lies.textual x entry e in absurd (omega (arith, t.counted, ap count_of e))

-- the terms are those that were there where the counts are
pub same_slots : (p q : Pool) (r s : Texts) → LiesIn p r → LiesIn q s → KeepsTexts p r q s → ((x : ℕ) → count_at q x ≡ count_at p x) → SameSlots p r q s
same_slots p q r s before after keeps counts = record {
  texts = λ x. ⊎_elim
      (λ some. let u = used p x some in let t = text_there p r before x u.entry u.there in keeps.kept x t.0 t.1 ∙ sym t.1)
      (λ none. unused q s x after (omega (arith, none, counts x)) ∙ sym (unused p r x before (omega (arith, none))))
      (cases_lt 0 (count_at p x));
  counts = counts;
}

pub keeps_interned : (p q : Pool) (r s : Texts) (slot : ℕ) (text : List ℕ) → Interned p r q s slot text → KeepsTexts p r q s
keeps_interned p q r s slot text i = record {
  kept = λ x t e. ⊎_elim
      (λ same. ⊎_elim
      (λ a. let one : Some t ≡ Some text = sym e ∙ ap (text_in_slot p r) same ∙ a in ap (text_in_slot q s) same ∙ i.there ∙ sym one)
      (λ b. let none : None ≡ Some t = sym b.0 ∙ ap (text_in_slot p r) (sym same) ∙ e in absurd cc)
      i.was)
      (λ ne. i.others x ne ∙ e)
      (cases_eq x slot);
}

pub keeps_released : (p q u : Pool) (r s v : Texts) (slot : ℕ) → LiesIn p r → KeepsTexts p r q s → Released q s u v slot → ((x : ℕ) → count_at p x ≤ count_at u x) → KeepsTexts p r u v
keeps_released p q u r s v slot lies keeps released most = record {
  kept = λ x t e.
      released.texts x (omega (arith, used_at p r lies x t e, most x)) ∙ keeps.kept x t e;
}

keeps_same : (p q u : Pool) (r s v : Texts) → KeepsTexts p r q s → SameSlots q s u v → KeepsTexts p r u v
keeps_same p q u r s v keeps same = record { kept = λ x t e. same.texts x ∙ keeps.kept x t e }

-- a use that is taken back
pub undone : (p q m u : Pool) (r s n v : Texts) (slot : ℕ) (text : List ℕ) → LiesIn p r → LiesIn u v → Interned p r q s slot text → SameSlots q s m n → Released m n u v slot → SameSlots p r u v
undone p q m u r s n v slot text before after i same released =
    let counts : (x : ℕ) → count_at u x ≡ count_at p x = λ x. omega (arith, released.counts x, same.counts x, i.counts x) in
    same_slots p u r v before after (keeps_released p m u r n v slot before (keeps_same p q m r s n (keeps_interned p q r s slot text i) same) released (λ x. omega (arith, counts x))) counts

-- a slot that was used once more is used, also where all is as it was then
pub used_then : (p q m : Pool) (r s n : Texts) (slot : ℕ) (text : List ℕ) → LiesIn q s → Interned p r q s slot text → SameSlots q s m n → 0 < count_at m slot
used_then p q m r s n slot text lies i same = omega (arith, used_at q s lies slot text i.there, same.counts slot)

pub held : (p a b q : Pool) (r s t v : Texts) (key : Key) (of : TripleText) → Interned p r a s key.first of.subject.now → Interned a s b t key.second of.predicate.now → Interned b t q v key.third of.object.now → InternsTriple p r q v key of
held p a b q r s t v key of i j k =
    let first = keeps_interned p a r s key.first of.subject.now i in
    let second = keeps_interned a b s t key.second of.predicate.now j in
    let third = keeps_interned b q t v key.third of.object.now k in
    record {
      has = record {
        subject = third.kept key.first of.subject.now (second.kept key.first of.subject.now i.there);
        predicate = third.kept key.second of.predicate.now j.there;
        object = k.there;
      };
      kept = record { kept = λ x text e. third.kept x text (second.kept x text (first.kept x text e)) };
      counts = λ x. omega (arith, i.counts x, j.counts x, k.counts x);
    }

-- each use of a triple's slots can be taken back, the third first
pub second_used : (p a : Pool) (r s : Texts) (key : Key) → ((slot : ℕ) → uses slot key ≤ count_at p slot) → Released p r a s key.third → 0 < count_at a key.second
second_used p a r s key enough third = omega (arith, enough key.second, third.counts key.second, if_same key.second key.second refl)

pub first_used : (p a b : Pool) (r s t : Texts) (key : Key) → ((slot : ℕ) → uses slot key ≤ count_at p slot) → Released p r a s key.third → Released a s b t key.second → 0 < count_at b key.first
first_used p a b r s t key enough third second = omega (arith, enough key.first, third.counts key.first, second.counts key.first, if_same key.first key.first refl)

pub taken_back : (p a b q : Pool) (r s t v : Texts) (key : Key) → Released p r a s key.third → Released a s b t key.second → Released b t q v key.first → ReleasesTriple p r q v key
taken_back p a b q r s t v key third second first = record {
  counts = λ x. omega (arith, third.counts x, second.counts x, first.counts x);
  texts = λ x some. first.texts x some ∙ (second.texts x (omega (arith, some, first.counts x)) ∙ third.texts x (omega (arith, some, first.counts x, second.counts x)));
}

-- a list that has a pool's terms has them after one that it has comes
pub terms_interned : (p q : Pool) (r s : Texts) (slot : ℕ) (text : List ℕ) (ts : List Term) → Interned p r q s slot text → HasTermsOf p r ts → has term_cmp (undo text) ts ≡ true → HasTermsOf q s ts
terms_interned p q r s slot text ts i h there = record {
  each = λ x t e. ⊎_elim
      (λ same. let one : Some text ≡ Some t = sym i.there ∙ ap (text_in_slot q s) (sym same) ∙ e in let eq : text ≡ t = cc in subst (λ y. has term_cmp (undo y) ts ≡ true) eq there)
      (λ ne. h.each x t (sym (i.others x ne) ∙ e))
      (cases_eq x slot);
}

-- each of the three terms of a triple is in a list that has all
pub record HasThree (t : Triple) (ts : List Term) : Type 0 where
  pub subject : has term_cmp t.subject ts ≡ true
  pub predicate : has term_cmp t.predicate ts ≡ true
  pub object : has term_cmp t.object ts ≡ true

pub three : (t : Triple) (ts : List Term) → IsAllOf (terms_of t) ts → HasThree t ts
three t ts h = record {
  subject = h.each t.subject (has_itself term_cmp-total t.subject (t.predicate ∷ t.object ∷ []));
  predicate = h.each t.predicate (or_true (eq_by_cmp term_cmp t.predicate t.subject) _ (has_itself term_cmp-total t.predicate (t.object ∷ [])));
  object = h.each t.object (or_true (eq_by_cmp term_cmp t.object t.subject) _ (or_true (eq_by_cmp term_cmp t.object t.predicate) _ (has_itself term_cmp-total t.object [])));
}

-- a full pool takes no term that a list has which has all of the pool's
pub too_many : (p : Pool) (r : Texts) (text : List ℕ) (limit : ℕ) (ts : List Term) → LiesIn p r → IsCanonical text → IsNowhere p r text × (limit ≤ terms p) → HasTermsOf p r ts → has term_cmp (undo text) ts ≡ true → limit < distinct ts
too_many p r text limit ts lies canonical full h there = omega (arith, full.1, one_more p r ts text lies canonical full.0 h there)
