-- The records of a stream are those of a producer, and lead to what is stored at its end.
use Rattle.std.proofs.Common.{◌≡◌, refl, sym, subst, ◌∙◌, ap, ℕ, zero, suc, ◌+◌, ◌-◌, ◌≤◌, ◌==◌, ⊎_elim, Bool, true, false, cond, is_some, List, [], ◌∷◌, length, filter, Some, arith}
use Rattle.std.proofs.lemmas.Bool.Decides.{nat_tests}
use Rattle.std.specs.List.{AllByRecursion}
use Rattle.sorted_sets.specs.Rising.{Each, In, IsRising, difference}
use Rattle.rdf_term.specs.{declared.triple.Triple.Triple, Order.triple_cmp}
use Rattle.replica.specs.{declared.record.PatchRecord.PatchRecord, Laws.IsGreatest, Laws.IsProducer, Laws.IsRecordOf}
use Rattle.replica.specs.Replica.{Follows, ReplicaState, after, numbered}
use Rattle.replica.proofs.Producers.{after_is, follows_its_producer}
use Rattle.written_laws.specs.Laws.{AreOfStream, IsChain}
use Rattle.patch_stream.specs.Stream.{Step, changes, is_change, numbered_from, record_of_step, stream}
use Rattle.patch_stream.proofs.Texts.{differs}

-- ---- the steps that change something

-- the steps that change something: each begins where the last one ended
pub chain_of_changes : (first last : List Triple) (steps : List Step) → IsChain first steps last → IsChain first (filter is_change steps) last
chain_of_changes first last [] chain = chain
chain_of_changes first last (s ∷ steps) chain = by (is_change s) refl (chain_of_changes s.after last steps chain.1)
  where
    by : (b : Bool) → is_change s ≡ b → IsChain s.after (filter is_change steps) last → IsChain first (cond b (s ∷ filter is_change steps) (filter is_change steps)) last
    by true is later = (chain.0, later)
    by false is later =
        let same : s.after ≡ first = (differs s.before s.after chain.0.rises chain.0.rises_after).0 is ∙ chain.0.begins in
        subst (λ t. IsChain t (filter is_change steps) last) same later

-- what is stored after so many of the steps, and after all where there are fewer
stored_after : List Triple → List Step → ℕ → List Triple
stored_after first [] n = first
stored_after first (s ∷ steps) zero = first
stored_after first (s ∷ steps) (suc n) = stored_after s.after steps n

at_start : (first : List Triple) (steps : List Step) → stored_after first steps 0 ≡ first
unfolding stored_after
at_start first [] = refl
at_start first (s ∷ steps) = refl

one_further : (first : List Triple) (s : Step) (steps : List Step) (n : ℕ) → stored_after first (s ∷ steps) (suc n) ≡ stored_after s.after steps n
unfolding stored_after
one_further first s steps n = refl

at_end : (first last : List Triple) (steps : List Step) → IsChain first steps last → stored_after first steps (length steps) ≡ last
unfolding stored_after
at_end first last [] chain = chain
at_end first last (s ∷ steps) chain = at_end s.after last steps chain.1

rises_along : (first last : List Triple) (steps : List Step) → IsRising triple_cmp first → IsChain first steps last → (n : ℕ) → IsRising triple_cmp (stored_after first steps n)
unfolding stored_after
rises_along first last [] rises chain n = rises
rises_along first last (s ∷ steps) rises chain zero = rises
rises_along first last (s ∷ steps) rises chain (suc n) = rises_along s.after last steps chain.0.rises_after chain.1 n

-- ---- their records

-- each says what changed from the step before
are_records : (producer : ℕ → List Triple) (told : ℕ) (first last : List Triple) (steps : List Step) → ((n : ℕ) → producer (told + n) ≡ stored_after first steps n) → IsChain first steps last →
    (item : PatchRecord) → In item (numbered_from (told + 1) steps) → IsRecordOf producer item
are_records producer told first last [] agrees chain item there = absurd there
are_records producer told first last (s ∷ steps) agrees chain item there = ⊎_elim here
    (λ later. are_records producer (told + 1) s.after last steps (λ n. shifted n) chain.1 item later)
    there
  where
    next : producer (told + 1) ≡ s.after
    next = agrees 1 ∙ one_further first s steps 0 ∙ at_start s.after steps

    start : told + 0 ≡ told
    start = omega arith

    at : producer told ≡ s.before
    at = ap producer (sym start) ∙ agrees 0 ∙ at_start first (s ∷ steps) ∙ sym chain.0.begins

    shifted : (n : ℕ) → producer ((told + 1) + n) ≡ stored_after s.after steps n
    shifted n =
        let same : (told + 1) + n ≡ told + suc n = omega arith in
        ap producer same ∙ agrees (suc n) ∙ one_further first s steps n

    before : (told + 1) - 1 ≡ told
    before = omega arith

    here : item ≡ record_of_step (told + 1) s → IsRecordOf producer item
    here is = subst (IsRecordOf producer) (sym is) (record {
      adds = λ i. difference triple_cmp (sym next i) (sym (ap producer before ∙ at) i);
      removes = λ i. difference triple_cmp (sym (ap producer before ∙ at) i) (sym next i);
    })

-- their numbers are no greater than how many there are
pub are_few : (told : ℕ) (steps : List Step) (item : PatchRecord) → In item (numbered_from (told + 1) steps) → item.number ≤ told + length steps
are_few told [] item there = absurd there
are_few told (s ∷ steps) item there = ⊎_elim
    (λ is. let same : item.number ≡ told + 1 = ap (λ (r : PatchRecord). r.number) is in omega (arith, same))
    (λ later. let few = are_few (told + 1) steps item later in omega (arith, few))
    there

greater : (m n : ℕ) → m ≤ n → (n + 1 == m) ≡ false
greater m n h = grind (arith, nat_tests)

none_greater : (n : ℕ) (items : List PatchRecord) → Each (λ (item : PatchRecord). item.number ≤ n) items → is_some (numbered (n + 1) items) ≡ false
none_greater n [] all = refl
none_greater n (x ∷ xs) all = ap (λ b. is_some (cond b (Some x) (numbered (n + 1) xs))) (greater x.number n all.0) ∙ none_greater n xs all.1

all_of : (P Q : PatchRecord → Type 0) → ((item : PatchRecord) → P item → Q item) → (items : List PatchRecord) → Each P items → Each Q items
all_of P Q gives [] all = tt
all_of P Q gives (x ∷ xs) all = (gives x all.0, all_of P Q gives xs all.1)

by_recursion : (P : PatchRecord → Type 0) (items : List PatchRecord) → Each P items → AllByRecursion P items
by_recursion P [] all = tt
by_recursion P (x ∷ xs) all = (all.0, by_recursion P xs all.1)

-- ---- a replica

module _ (last : List Triple) (steps : List Step) (items : List PatchRecord) (chain : IsChain [] steps last) (are : AreOfStream steps items) where
  producer : ℕ → List Triple
  producer n = stored_after [] (filter is_change steps) n

  changes_chain : IsChain [] (filter is_change steps) last
  changes_chain = chain_of_changes [] last steps chain

  is_producer : IsProducer producer
  unfolding producer
  is_producer = record { starts = at_start [] (filter is_change steps); rises = rises_along [] last (filter is_change steps) tt changes_chain }

  of_producer : AllByRecursion (IsRecordOf producer) items
  unfolding producer
  of_producer = by_recursion (IsRecordOf producer) items
      (all_of (λ item. In item (stream steps)) (IsRecordOf producer) (λ item there. are_records producer 0 [] last (filter is_change steps) (λ n. let same : 0 + n ≡ n = omega arith in ap producer same) changes_chain item there) items are.each)

  ends_there : producer (changes steps) ≡ last
  unfolding producer
  ends_there = at_end [] last (filter is_change steps) changes_chain

  -- all records of the stream are there, and no other number is
  pub all_there : IsGreatest items (changes steps)
  all_there = record {
    received = are.every;
    missing = none_greater (changes steps) items
        (all_of (λ item. In item (stream steps)) (λ (item : PatchRecord). item.number ≤ changes steps) (λ item there. let few = are_few 0 (filter is_change steps) item there in omega (arith, few)) items are.each);
  }

  -- the triples after them are those that are stored at the end
  pub after_stream : after items (changes steps) ≡ last
  after_stream = after_is producer items is_producer of_producer (changes steps) are.every ∙ ends_there

  -- so are those of a replica that received them, and for which none is due
  pub replica_has : (state : ReplicaState) → Follows items state → is_some (numbered (state.applied + 1) items) ≡ false → state.triples ≡ last
  replica_has state follows rests = follows_its_producer producer items state (changes steps) is_producer of_producer follows rests all_there ∙ ends_there
