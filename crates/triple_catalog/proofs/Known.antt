-- Slots of a triple's terms that are known without a look at their texts.
use Rattle.std.proofs.Common.{◌≡◌, ℕ, ◌+◌, ◌-◌, ◌<◌, Option, Some, None, List, length, IfSome, sym, ◌∙◌, ap, subst, arith}
use Rattle.std.specs.Prelude.{slice_get}
use Rattle.std.proofs.lemmas.Option.{slice_get-get_or}
use Rattle.rdf_term.specs.{declared.triple.Triple.Triple, Text.term_text}
use Rattle.text_region.specs.Region.{Texts}
use Rattle.term_pool.specs.{declared.pool.Pool.Pool, Pool.Interned, Pool.text_in_slot}
use Rattle.slot_keys.specs.declared.key.Key.{Key}
use Rattle.triple_texts.specs.{declared.triple_text.TripleText.TripleText, Texts.IsTextOf, Texts.RepeatsSubject}
use Rattle.triple_catalog.specs.{Interning.IsOfSubject, Interning.IsOfTripleBefore, Slots.HasTexts, Slots.HasTriple, Slots.triple_of}
use Rattle.triple_catalog.proofs.{Held.keeps_interned, Standing.triple_of_texts}

-- a slot that is known stays so when a term is used once more
pub known_later : (p q : Pool) (r s : Texts) (slot : ℕ) (text : List ℕ) (known : Option ℕ) (other : List ℕ) → Interned p r q s slot text → IfSome known (λ n. text_in_slot p r n ≡ Some other) → IfSome known (λ n. text_in_slot q s n ≡ Some other)
known_later p q r s slot text None other i h = tt
known_later p q r s slot text (Some n) other i h = (keeps_interned p q r s slot text i).kept n other h

module _ (pool : Pool) (region : Texts) (triples : List Triple) (index : ℕ) where
  -- the triple before has the subject
  pub repeated : (key : Key) → RepeatsSubject triples index → IsOfTripleBefore pool region key triples index → IsOfSubject pool region (Some key.first) triples index
  repeated key again before = λ triple at.
      let same : again.this ≡ triple = one again.this triple (sym again.is_this ∙ at) in
      before.has again.before again.later again.is_before ∙ ap (λ t. Some (term_text t)) (sym again.same) ∙ ap (λ (t : Triple). Some (term_text t.subject)) same
    where
      one : (a b : Triple) → Some a ≡ Some b → a ≡ b
      one a b e = cc

  module _ (of : TripleText) (low : index < length triples) (at : IfSome (slice_get triples index) (IsTextOf of)) where
    there : (triple : Triple) → slice_get triples index ≡ Some triple → IsTextOf of triple
    there triple is = subst (λ (o : Option Triple). IfSome o (IsTextOf of)) is at

    -- the slot that is known has the triple's text
    pub known_text : (known : Option ℕ) → IsOfSubject pool region known triples index → IfSome known (λ slot. text_in_slot pool region slot ≡ Some of.subject.now)
    known_text known is =
        let d = triple_of of in
        let some = slice_get-get_or triples index d low in
        by known (subst (λ (o : Option Triple). IfSome o (IsTextOf of)) some at).subject (is _ some)
      where
        by : (known : Option ℕ) {text : List ℕ} → of.subject.now ≡ text → IfSome known (λ slot. text_in_slot pool region slot ≡ Some text) → IfSome known (λ slot. text_in_slot pool region slot ≡ Some of.subject.now)
        by None is h = tt
        by (Some slot) is h = h ∙ ap Some (sym is)

    -- after a triple its key is that of the triple before
    pub last_found : (key : Key) → HasTexts pool region key of → IsOfTripleBefore pool region key triples (index + 1)
    last_found key has = record {
      has = λ triple later is.
          let here : index + 1 - 1 ≡ index = omega arith in
          has.subject ∙ ap Some (there triple (ap (slice_get triples) (sym here) ∙ is)).subject;
    }

    pub last_added : (p : Pool) (r : Texts) (key : Key) → HasTriple p r key (triple_of of) → IsOfTripleBefore p r key triples (index + 1)
    last_added p r key has = record {
      has = λ triple later is.
          let here : index + 1 - 1 ≡ index = omega arith in
          has.subject ∙ ap (λ (t : Triple). Some (term_text t.subject)) (triple_of_texts of triple (there triple (ap (slice_get triples) (sym here) ∙ is)));
    }
