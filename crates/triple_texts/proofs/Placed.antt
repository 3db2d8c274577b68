-- What is appended to a buffer leaves the triples before it, and makes one more.
use Rattle.std.proofs.Common.{◌≡◌, ℕ, zero, suc, ◌-◌, ◌<◌, ◌≤◌, List, [], ◌∷◌, ◌++◌, length, take, drop, map, get_or, refl, sym, ap, subst, ◌∙◌, arith}
use Rattle.std.specs.Prelude.{option_map}
use Rattle.std.proofs.lemmas.Option.{slice_get-map, slice_get_read}
use Rattle.std.specs.List.{All, AllByRecursion}
use Rattle.std.proofs.lemmas.List.Elements.{All-weaker}
use Rattle.std.proofs.Math.Seq.{drop-append_seam, take-append_seam}
use Rattle.std.proofs.lemmas.List.{append-nil, take-append-drop, take-append-le, drop-append-le, length-drop, length-append, length-map}
use Rattle.rdf_term.specs.declared.term.Term.{Term}
use Rattle.rdf_term.specs.declared.triple.Triple.{Triple}
use Rattle.rdf_term.specs.Text.{term_text}
use Rattle.rdf_term.specs.Undo.{undo}
use Rattle.rdf_term.proofs.Texts.{undo-term_text}
use Rattle.triple_sink.specs.Subject.{HasSubject}
use Rattle.triple_texts.specs.declared.buffer.PlacedWord.{PlacedWord}
use Rattle.triple_texts.specs.declared.span.Span.{Span}
use Rattle.triple_texts.specs.declared.triple_spans.TripleSpans.{TripleSpans}
use Rattle.triple_texts.specs.Spans.{AreSpansOf, IsSpanOf, LieIn, span_end, text_in, triple_in}
use Rattle.triple_texts.specs.Texts.{RepeatsSubject}
use Rattle.triple_texts.specs.Words.{IsPlaced, word_term}

-- a buffer that begins with another is that one with more
longer : (before after : List ℕ) → take (length before) after ≡ before → after ≡ before ++ drop (length before) after
longer before after kept = sym (take-append-drop (length before) after) ∙ ap (λ bytes. bytes ++ drop (length before) after) kept

module _ (bytes more : List ℕ) where
  -- a text that lies in the buffer is there when more is appended
  text_kept : (span : Span) → span_end span ≤ length bytes → text_in (bytes ++ more) span ≡ text_in bytes span
  text_kept span h =
      ap (take span.len) (drop-append-le span.start bytes more (omega arith))
      ∙ take-append-le span.len (drop span.start bytes) more (omega (arith, length-drop span.start bytes))

  within_more : (span : Span) → span_end span ≤ length bytes → span_end span ≤ length (bytes ++ more)
  within_more span h = omega (arith, h, length-append bytes more)

  triple_kept : (spans : TripleSpans) → LieIn bytes spans → triple_in (bytes ++ more) spans ≡ triple_in bytes spans
  triple_kept spans lies =
      let subject = text_kept spans.subject lies.subject_within in
      let predicate = text_kept spans.predicate lies.predicate_within in
      let object = text_kept spans.object lies.object_within in
      λ i. record { subject = undo (subject i); predicate = undo (predicate i); object = undo (object i) }

  lies_kept : (spans : TripleSpans) → LieIn bytes spans → LieIn (bytes ++ more) spans
  lies_kept spans lies = record {
    subject_within = within_more spans.subject lies.subject_within;
    predicate_within = within_more spans.predicate lies.predicate_within;
    object_within = within_more spans.object lies.object_within;
    subject = rw (text_kept spans.subject lies.subject_within) lies.subject;
    predicate = rw (text_kept spans.predicate lies.predicate_within) lies.predicate;
    object = rw (text_kept spans.object lies.object_within) lies.object;
  }

  triples_more : (all_spans : List TripleSpans) (spans : TripleSpans) → AllByRecursion (LieIn bytes) all_spans → map (triple_in (bytes ++ more)) (all_spans ++ spans ∷ []) ≡ map (triple_in bytes) all_spans ++ triple_in (bytes ++ more) spans ∷ []
  triples_more [] spans all = refl
  triples_more (x ∷ all_spans) spans all =
      ap (λ t. t ∷ map (triple_in (bytes ++ more)) (all_spans ++ spans ∷ [])) (triple_kept x all.0)
      ∙ ap (λ l. triple_in bytes x ∷ l) (triples_more all_spans spans all.1)

  lie_more : (all_spans : List TripleSpans) (spans : TripleSpans) → AllByRecursion (LieIn bytes) all_spans → LieIn (bytes ++ more) spans → AllByRecursion (LieIn (bytes ++ more)) (all_spans ++ spans ∷ [])
  lie_more [] spans all lies = (lies, tt)
  lie_more (x ∷ all_spans) spans all lies = (lies_kept x all.0, lie_more all_spans spans all.1 lies)

  triples_same : (all_spans : List TripleSpans) → AllByRecursion (LieIn bytes) all_spans → map (triple_in (bytes ++ more)) all_spans ≡ map (triple_in bytes) all_spans
  triples_same [] all = refl
  triples_same (x ∷ all_spans) all =
      ap (λ t. t ∷ map (triple_in (bytes ++ more)) all_spans) (triple_kept x all.0)
      ∙ ap (λ l. triple_in bytes x ∷ l) (triples_same all_spans all.1)

  lie_same : (all_spans : List TripleSpans) → AllByRecursion (LieIn bytes) all_spans → AllByRecursion (LieIn (bytes ++ more)) all_spans
  lie_same [] all = tt
  lie_same (x ∷ all_spans) all = (lies_kept x all.0, lie_same all_spans all.1)

-- so is the span of a term's text, in a buffer that begins with this one
pub span_kept : (before after : List ℕ) (term : Term) (span : Span) → take (length before) after ≡ before → IsSpanOf before term span → IsSpanOf after term span
span_kept before after term span kept its =
    let more = drop (length before) after in
    rw (longer before after kept) (record {
      within = within_more before more span its.within;
      is = text_kept before more span its.within ∙ its.is;
    })

-- and one that begins with a second, which begins with a first, begins with the first
pub kept_twice : (first second third : List ℕ) → take (length first) second ≡ first → take (length second) third ≡ second → take (length first) third ≡ first
kept_twice first second third one two =
    let within : length first ≤ length second = omega (arith, ap length (longer first second one), length-append first (drop (length first) second)) in
    ap (take (length first)) (longer second third two) ∙ take-append-le (length first) second (drop (length second) third) within ∙ one

-- a text that is appended
pub appended : (before after text : List ℕ) → after ≡ before ++ text → take (length before) after ≡ before
appended before after text is = ap (take (length before)) is ∙ take-append_seam before text

pub appended_there : (before after : List ℕ) (term : Term) (span : Span) → after ≡ before ++ term_text term → span.start ≡ length before → span.len ≡ length (term_text term) → IsSpanOf after term span
appended_there before after term span is start len = rw is (record {
  within = omega (arith, start, len, length-append before (term_text term));
  is = rw (start, len) (ap (take (length (term_text term))) (drop-append_seam before (term_text term)) ∙ ap (take (length (term_text term))) (sym (append-nil (term_text term))) ∙ take-append_seam (term_text term) []);
})

-- the text of a term is canonical
canonical : (text : List ℕ) (term : Term) → text ≡ term_text term → term_text (undo text) ≡ text
canonical text term e = ap (λ t. term_text (undo t)) e ∙ ap term_text (undo-term_text term) ∙ sym e

module _ (bytes : List ℕ) (triple : Triple) (spans : TripleSpans) (its : AreSpansOf bytes triple spans) where
  triple_there : triple_in bytes spans ≡ triple
  triple_there =
      let subject = ap undo its.subject.is ∙ undo-term_text triple.subject in
      let predicate = ap undo its.predicate.is ∙ undo-term_text triple.predicate in
      let object = ap undo its.object.is ∙ undo-term_text triple.object in
      λ i. record { subject = subject i; predicate = predicate i; object = object i }

  lies_there : LieIn bytes spans
  lies_there = record {
    subject_within = its.subject.within;
    predicate_within = its.predicate.within;
    object_within = its.object.within;
    subject = canonical (text_in bytes spans.subject) triple.subject its.subject.is;
    predicate = canonical (text_in bytes spans.predicate) triple.predicate its.predicate.is;
    object = canonical (text_in bytes spans.object) triple.object its.object.is;
  }

-- the triples with one more, in a buffer that begins with the one before
module _ (before after : List ℕ) (triple : Triple) (spans : TripleSpans) (kept : take (length before) after ≡ before) (its : AreSpansOf after triple spans) (all_spans more : List TripleSpans) (pushed : more ≡ all_spans ++ spans ∷ []) (all : AllByRecursion (LieIn before) all_spans) where
  pub one_more : map (triple_in after) more ≡ map (triple_in before) all_spans ++ triple ∷ []
  one_more =
      let rest = drop (length before) after in
      ap (map (triple_in after)) pushed
      ∙ ap (λ bytes. map (triple_in bytes) (all_spans ++ spans ∷ [])) (longer before after kept)
      ∙ triples_more before rest all_spans spans all
      ∙ ap (λ bytes. map (triple_in before) all_spans ++ triple_in bytes spans ∷ []) (sym (longer before after kept))
      ∙ ap (λ t. map (triple_in before) all_spans ++ t ∷ []) (triple_there after triple spans its)

  pub all_lie : AllByRecursion (LieIn after) more
  all_lie =
      let rest = drop (length before) after in
      let is = longer before after kept in
      let there = subst (λ (bytes : List ℕ). LieIn bytes spans) is (lies_there after triple spans its) in
      rw pushed (subst (λ (bytes : List ℕ). AllByRecursion (LieIn bytes) (all_spans ++ spans ∷ [])) (sym is) (lie_more before rest all_spans spans all there))

-- two triples whose subjects lie at one place have one subject
pub repeats : (bytes : List ℕ) (all_spans : List TripleSpans) (index before : ℕ) (this that : TripleSpans) → index < length (map (triple_in bytes) all_spans) → (1 ≤ index) × (before ≡ index - 1) → this ≡ get_or all_spans index this → that ≡ get_or all_spans before that → this.subject ≡ that.subject → RepeatsSubject (map (triple_in bytes) all_spans) index
repeats bytes all_spans index before this that low prior is_this is_that same =
    let within : index < length all_spans = omega (arith, length-map all_spans (triple_in bytes)) in
    record {
      later = omega arith;
      before = triple_in bytes that;
      this = triple_in bytes this;
      is_before = slice_get-map (triple_in bytes) all_spans (index - 1) ∙ ap (option_map (triple_in bytes)) (slice_get_read all_spans (length all_spans) (index - 1) that refl (omega arith) (is_that ∙ ap (λ n. get_or all_spans n that) prior.1));
      is_this = slice_get-map (triple_in bytes) all_spans index ∙ ap (option_map (triple_in bytes)) (slice_get_read all_spans (length all_spans) index this refl within is_this);
      same = ap (λ span. undo (text_in bytes span)) same;
    }

-- the triples as they were, in a buffer that begins with the one before
module _ (before after : List ℕ) (kept : take (length before) after ≡ before) (all_spans : List TripleSpans) (all : AllByRecursion (LieIn before) all_spans) where
  pub all_kept : map (triple_in after) all_spans ≡ map (triple_in before) all_spans
  all_kept =
      ap (λ bytes. map (triple_in bytes) all_spans) (longer before after kept)
      ∙ triples_same before (drop (length before) after) all_spans all

  pub still_lie : AllByRecursion (LieIn after) all_spans
  still_lie = subst (λ (bytes : List ℕ). AllByRecursion (LieIn bytes) all_spans) (sym (longer before after kept)) (lie_same before (drop (length before) after) all_spans all)

-- the words of a buffer are placed in a buffer that begins with it
pub words_kept : (before after : List ℕ) (words : List PlacedWord) → take (length before) after ≡ before → All (IsPlaced before) words → All (IsPlaced after) words
words_kept before after words kept all = All-weaker (IsPlaced before) (IsPlaced after) (λ placed its. span_kept before after (word_term placed.word) placed.span kept its) words all

-- where triples begin with some and one more, the text of its subject lies behind theirs
place_behind : (bytes : List ℕ) (all_spans : List TripleSpans) (before : List Triple) (this : Triple) (d : TripleSpans) → AllByRecursion (LieIn bytes) all_spans → take (length (before ++ this ∷ [])) (map (triple_in bytes) all_spans) ≡ before ++ this ∷ [] → (length before < length all_spans) × IsSpanOf bytes this.subject (get_or all_spans (length before) d).subject
place_behind bytes [] [] this d all h =
    let none : length {A = Triple} [] ≡ length (this ∷ []) = ap length h in
    absurd (omega (arith, none))
place_behind bytes [] (b ∷ before) this d all h =
    let none : length {A = Triple} [] ≡ length (b ∷ before ++ this ∷ []) = ap length h in
    absurd (omega (arith, none))
place_behind bytes (x ∷ all_spans) [] this d all h =
    let same : triple_in bytes x ≡ this = cc in
    (omega arith, record { within = all.0.subject_within; is = sym all.0.subject ∙ ap (λ t. term_text t.subject) same })
place_behind bytes (x ∷ all_spans) (b ∷ before) this d all h =
    let tail : take (length (before ++ this ∷ [])) (map (triple_in bytes) all_spans) ≡ before ++ this ∷ [] = cc in
    let rest = place_behind bytes all_spans before this d all.1 tail in
    (omega (arith, rest.0), rest.1)

-- where a triple is known to have a subject, the text of it lies where the triple's does
pub place_known : (bytes : List ℕ) (all_spans : List TripleSpans) (term : Term) (index : ℕ) (d : TripleSpans) → AllByRecursion (LieIn bytes) all_spans → HasSubject (map (triple_in bytes) all_spans) term index → (index < length all_spans) × IsSpanOf bytes term (get_or all_spans index d).subject
place_known bytes all_spans term index d all has =
    let its = place_behind bytes all_spans has.before has.this d all has.begins in
    let there = subst (λ (t : Term). IsSpanOf bytes t (get_or all_spans (length has.before) d).subject) has.same its.1 in
    subst (λ (n : ℕ). (n < length all_spans) × IsSpanOf bytes term (get_or all_spans n d).subject) has.place (its.0, there)

-- where the text of a subject lies where a triple's does, the triple has it
pub has_subject : (bytes : List ℕ) (all_spans : List TripleSpans) (index : ℕ) (term : Term) (this : TripleSpans) → index < length all_spans → this ≡ get_or all_spans index this → IsSpanOf bytes term this.subject → HasSubject (map (triple_in bytes) all_spans) term index
has_subject bytes [] index term this low is its = absurd (omega arith)
has_subject bytes (x ∷ all_spans) zero term this low is its = record {
  before = [];
  this = triple_in bytes x;
  begins = refl;
  place = refl;
  same = ap (λ (spans : TripleSpans). undo (text_in bytes spans.subject)) (sym is) ∙ (ap undo its.is ∙ undo-term_text term);
}
has_subject bytes (x ∷ all_spans) (suc index) term this low is its =
    let rest = has_subject bytes all_spans index term this (omega arith) is its in
    record {
      before = triple_in bytes x ∷ rest.before;
      this = rest.this;
      begins = ap (λ l. triple_in bytes x ∷ l) rest.begins;
      place = ap suc rest.place;
      same = rest.same;
    }

-- where a triple is known to have the subject of a new one, and the new one's lies where that triple's does, its three texts are there
pub known_spans : (before after : List ℕ) (all_spans reserved : List TripleSpans) (subject predicate object : Term) (index : ℕ) (d spans : TripleSpans) → AllByRecursion (LieIn before) all_spans → HasSubject (map (triple_in before) all_spans) subject index → reserved ≡ all_spans → d ≡ get_or reserved index d → take (length before) after ≡ before → spans.subject ≡ d.subject → IsSpanOf after predicate spans.predicate → IsSpanOf after object spans.object → AreSpansOf after (record { subject = subject; predicate = predicate; object = object }) spans
known_spans before after all_spans reserved subject predicate object index d spans all has is there kept same its_predicate its_object =
    let known = place_known before all_spans subject index d all has in
    let place : get_or all_spans index d ≡ d = sym (there ∙ ap (λ l. get_or l index d) is) in
    let its = subst (λ (s : TripleSpans). IsSpanOf before subject s.subject) place known.1 in
    record {
      subject = subst (λ (s : Span). IsSpanOf after subject s) (sym same) (span_kept before after subject d.subject kept its);
      predicate = its_predicate;
      object = its_object;
    }
