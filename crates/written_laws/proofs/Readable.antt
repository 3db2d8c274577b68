-- The records of a stream can be read.
use Rattle.std.proofs.Common.{◌≡◌, refl, sym, ◌∙◌, ℕ, ◌+◌, ◌<◌, ◌≤◌, ◌^◌, ◌==◌, Bool, true, false, not, ◌&&◌, cond, is_some, List, [], ◌∷◌, ◌++◌, length, filter, Some, inl, inr, arith, true≢false}
use Rattle.std.proofs.lemmas.Bool.Decides.{nat_tests}
use Rattle.std.specs.List.{AllByRecursion}
use Rattle.sorted_sets.specs.Rising.{Each, In, difference, has}
use Rattle.sorted_sets.proofs.Filtering.{IsRising-filter, has-difference}
use Rattle.rdf_term.specs.{declared.triple.Triple.Triple, Fit.HasFitAndShortTerms, Order.triple_cmp, Order.triple_cmp-total}
use Rattle.meaning_texts.specs.Terms.{HasUtf8Terms}
use Rattle.replica.specs.{declared.record.PatchRecord.PatchRecord, Laws.HasShortNumbers, Replica.numbered, TripleLine.HasReadableTerms}
use Rattle.replica.proofs.LineFeeds.{splits_into_lines}
use Rattle.written_laws.specs.Laws.{AreOfStream, BeginsAt, CanBeRead, IsChain}
use Rattle.patch_stream.specs.Stream.{Step, is_change, numbered_from, record_of_step, stream}
use Rattle.written_laws.proofs.{Bounds.filter_few, Streamed.chain_of_changes}

-- the numbers of the triples that are stored before and after a step fit 64 bits
pub record HasFewTriples (s : Step) : Type 0 where
  pub before : length s.before < 2 ^ 64
  pub after : length s.after < 2 ^ 64

-- ---- triples

readable : (triples : List Triple) → AllByRecursion HasFitAndShortTerms triples → AllByRecursion HasUtf8Terms triples → AllByRecursion HasReadableTerms triples
readable [] fit utf8 = tt
readable (t ∷ ts) fit utf8 = (
  record {
    subject = record { canonical = fit.0.subject; utf8 = utf8.0.subject };
    predicate = record { canonical = fit.0.predicate; utf8 = utf8.0.predicate };
    object = record { canonical = fit.0.object; utf8 = utf8.0.object };
  },
  readable ts fit.1 utf8.1,
)

filter_all : (P : Triple → Type 0) (p : Triple → Bool) (ts : List Triple) → AllByRecursion P ts → AllByRecursion P (filter p ts)
filter_all P p [] all = tt
filter_all P p (t ∷ ts) all = by (p t) (filter_all P p ts all.1)
  where
    by : (b : Bool) → AllByRecursion P (filter p ts) → AllByRecursion P (cond b (t ∷ filter p ts) (filter p ts))
    by true rest = (all.0, rest)
    by false rest = rest

append_all : (P : Triple → Type 0) (xs ys : List Triple) → AllByRecursion P xs → AllByRecursion P ys → AllByRecursion P (xs ++ ys)
append_all P [] ys first second = second
append_all P (x ∷ xs) ys first second = (first.0, append_all P xs ys first.1 second)

apart : (a b : Bool) → (not a && b) ≡ true → (not b && a) ≡ false
apart true b there = absurd (true≢false (sym there))
apart false true there = refl
apart false false there = refl

-- ---- the record of a step

step_sound : (stored : List Triple) (number : ℕ) (s : Step) → 0 < number → number < 2 ^ 64 → BeginsAt stored s → HasFewTriples s → HasShortNumbers (record_of_step number s)
step_sound stored number s low high begins sides = record {
  sound = record {
    numbered = low;
    adds = IsRising-filter triple_cmp (λ t. not (has triple_cmp t s.before)) s.after begins.rises_after;
    removes = IsRising-filter triple_cmp (λ t. not (has triple_cmp t s.after)) s.before begins.rises;
    readable = append_all HasReadableTerms (difference triple_cmp s.after s.before) (difference triple_cmp s.before s.after)
        (filter_all HasReadableTerms (λ t. not (has triple_cmp t s.before)) s.after (readable s.after begins.fit_after begins.utf8_after))
        (filter_all HasReadableTerms (λ t. not (has triple_cmp t s.after)) s.before (readable s.before begins.fit begins.utf8));
    apart = λ t there. has-difference triple_cmp-total t s.before s.after ∙ apart (has triple_cmp t s.before) (has triple_cmp t s.after) (sym (has-difference triple_cmp-total t s.after s.before) ∙ there);
  };
  number = high;
  adds = let few = filter_few (λ t. not (has triple_cmp t s.before)) s.after in omega (arith, few, sides.after);
  removes = let few = filter_few (λ t. not (has triple_cmp t s.after)) s.before in omega (arith, few, sides.before);
}

-- ---- a stream

records_sound : (told : ℕ) (first last : List Triple) (steps : List Step) → told + length steps < 2 ^ 64 → IsChain first steps last → Each HasFewTriples steps → AllByRecursion HasShortNumbers (numbered_from (told + 1) steps)
records_sound told first last [] few chain sides = tt
records_sound told first last (s ∷ steps) few chain sides = (
  step_sound first (told + 1) s (omega arith) (omega (arith, few)) chain.0 sides.0,
  records_sound (told + 1) s.after last steps (omega (arith, few)) chain.1 sides.1,
)

filter_each : (P : Step → Type 0) (p : Step → Bool) (steps : List Step) → Each P steps → Each P (filter p steps)
filter_each P p [] all = tt
filter_each P p (s ∷ steps) all = by (p s) (filter_each P p steps all.1)
  where
    by : (b : Bool) → Each P (filter p steps) → Each P (cond b (s ∷ filter p steps) (filter p steps))
    by true rest = (all.0, rest)
    by false rest = rest

module _ (last : List Triple) (steps : List Step) (chain : IsChain [] steps last) (sides : Each HasFewTriples steps) (few : length steps < 2 ^ 64) where
  stream_sound : AllByRecursion HasShortNumbers (stream steps)
  stream_sound =
      let fewer = filter_few is_change steps in
      records_sound 0 [] last (filter is_change steps) (omega (arith, few, fewer)) (chain_of_changes [] last steps chain) (filter_each HasFewTriples is_change steps sides)

  pub can_be_read : CanBeRead steps
  can_be_read = record { sound = stream_sound; are_lines = splits_into_lines (stream steps) stream_sound }

-- ---- all records of a stream are records of it

each_in : (all items : List PatchRecord) → ((item : PatchRecord) → In item items → In item all) → Each (λ item. In item all) items
each_in all [] gives = tt
each_in all (x ∷ xs) gives = (gives x (inl refl), each_in all xs (λ item there. gives item (inr there)))

above : (m k : ℕ) → k ≤ m → (m == k) ≡ false → k < m
above m k low other = grind (arith, nat_tests)

every_number : (told : ℕ) (steps : List Step) (n : ℕ) → told < n → n ≤ told + length steps → is_some (numbered n (numbered_from (told + 1) steps)) ≡ true
every_number told [] n low high = absurd (omega (arith, low, high))
every_number told (s ∷ steps) n low high = by (n == told + 1) refl (λ further. every_number (told + 1) steps n further (omega (arith, high)))
  where
    by : (b : Bool) → (n == told + 1) ≡ b → (told + 1 < n → is_some (numbered n (numbered_from (told + 1 + 1) steps)) ≡ true) → is_some (cond b (Some (record_of_step (told + 1) s)) (numbered n (numbered_from (told + 1 + 1) steps))) ≡ true
    by true is rest = refl
    by false is rest = rest (above n (told + 1) (omega (arith, low)) is)

pub all_of_stream : (steps : List Step) → AreOfStream steps (stream steps)
all_of_stream steps = record {
  each = each_in (stream steps) (stream steps) (λ item there. there);
  every = λ n low high. every_number 0 (filter is_change steps) n low (omega (arith, high));
}
