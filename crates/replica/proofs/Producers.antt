-- A replica has what its producer had.
use Rattle.std.proofs.Common.{◌≡◌, ℕ, zero, suc, ◌+◌, ◌-◌, ◌==◌, Bool, true, false, not, cond, ◌&&◌, ◌||◌, is_some, List, [], ◌∷◌, ◌++◌, Option, Some, refl, sym, ◌∙◌, ap, arith, ⊎_elim, true≢false}
use Rattle.std.specs.List.{AllByRecursion}
use Rattle.std.proofs.{lemmas.Bool.cases_lt, lemmas.Bool.Decides.nat_tests}
use Rattle.sorted_sets.specs.Rising.{IsRising, difference, has, sorted}
use Rattle.sorted_sets.proofs.{Filtering.has-difference, Rising.IsRising-sorted, Rising.has-append, Rising.has-sorted, Rising.same_rising}
use Rattle.rdf_term.specs.{declared.triple.Triple.Triple, Order.triple_cmp, Order.triple_cmp-total}
use Rattle.rdf_term.proofs.Texts.{triple_cmp-IsAntisymmetric}
use Rattle.replica.specs.declared.record.PatchRecord.{PatchRecord}
use Rattle.replica.specs.Laws.{FollowsItsProducer, IsGreatest, IsRecordOf, LeadsToItsProducer}
use Rattle.replica.specs.Replica.{numbered, patched, patched_if}

-- what is before and what changed give what is then
both_ways : (a b : Bool) → ((not (not b && a) && a) || (not a && b)) ≡ b
both_ways true true = refl
both_ways true false = refl
both_ways false true = refl
both_ways false false = refl

-- a triple is in the set then as it is in the set before with the change
has_changed : (before now : List Triple) (t : Triple) → has triple_cmp t (difference triple_cmp before (difference triple_cmp before now) ++ difference triple_cmp now before) ≡ has triple_cmp t now
has_changed before now t =
    has-append triple_cmp t (difference triple_cmp before (difference triple_cmp before now)) (difference triple_cmp now before)
    ∙ ap (λ b. b || has triple_cmp t (difference triple_cmp now before)) (has-difference triple_cmp-total t before (difference triple_cmp before now) ∙ ap (λ b. not b && has triple_cmp t before) (has-difference triple_cmp-total t before now))
    ∙ ap (λ b. (not (not (has triple_cmp t now) && has triple_cmp t before) && has triple_cmp t before) || b) (has-difference triple_cmp-total t now before)
    ∙ both_ways (has triple_cmp t before) (has triple_cmp t now)

changed : (before now : List Triple) (item : PatchRecord) → IsRising triple_cmp now → item.adds ≡ difference triple_cmp now before → item.removes ≡ difference triple_cmp before now → patched before item ≡ now
unfolding patched
changed before now item rises adds removes =
    ap (λ rs. sorted triple_cmp (difference triple_cmp before rs ++ item.adds)) removes
    ∙ ap (λ came. sorted triple_cmp (difference triple_cmp before (difference triple_cmp before now) ++ came)) adds
    ∙ same_rising triple_cmp-total triple_cmp-IsAntisymmetric (sorted triple_cmp (difference triple_cmp before (difference triple_cmp before now) ++ difference triple_cmp now before)) now
    (IsRising-sorted triple_cmp-total (difference triple_cmp before (difference triple_cmp before now) ++ difference triple_cmp now before)) rises
    (λ t. has-sorted triple_cmp-total t (difference triple_cmp before (difference triple_cmp before now) ++ difference triple_cmp now before) ∙ has_changed before now t)

equal_numbers : (m n : ℕ) → (m == n) ≡ true → m ≡ n
equal_numbers m n h = grind (arith, nat_tests)

-- a record that was received, by its number
record Found (P : PatchRecord → Type 0) (n : ℕ) (found : Option PatchRecord) : Type 0 where
  item : PatchRecord
  is : found ≡ Some item
  number : n ≡ item.number
  holds : P item

found_of : (P : PatchRecord → Type 0) (n : ℕ) (items : List PatchRecord) → AllByRecursion P items → is_some (numbered n items) ≡ true → Found P n (numbered n items)
found_of P n [] all there = absurd (true≢false (sym there))
found_of P n (x ∷ xs) all there = by (n == x.number) refl (found_of P n xs all.1) there
  where
    by : (b : Bool) → (n == x.number) ≡ b → (is_some (numbered n xs) ≡ true → Found P n (numbered n xs)) → is_some (cond b (Some x) (numbered n xs)) ≡ true → Found P n (cond b (Some x) (numbered n xs))
    by true is rest h = record { item = x; is = refl; number = equal_numbers n x.number is; holds = all.0 }
    by false is rest h = rest h

-- the triples after the records 1 to n are the producer's, where all of these were received
pub after_is : LeadsToItsProducer
after_is producer items made of zero received = sym made.starts
after_is producer items made of (suc n) received =
    let one = found_of (IsRecordOf producer) (suc n) items of (received (suc n) (omega arith) (omega arith)) in
    let before = after_is producer items made of n (λ k low high. received k low (omega arith)) in
    let last : one.item.number - 1 ≡ n = omega (arith, one.number) in
    let adds = one.holds.adds ∙ ap (λ k. difference triple_cmp (producer k) (producer (one.item.number - 1))) (sym one.number) ∙ ap (λ k. difference triple_cmp (producer (suc n)) (producer k)) last in
    let removes = one.holds.removes ∙ ap (λ k. difference triple_cmp (producer (one.item.number - 1)) (producer k)) (sym one.number) ∙ ap (λ k. difference triple_cmp (producer k) (producer (suc n))) last in
    ap (λ ts. patched_if ts (numbered (suc n) items)) before ∙ ap (patched_if (producer n)) one.is ∙ changed (producer n) (producer (suc n)) one.item (made.rises (suc n)) adds removes

-- there is one such number
pub one_greatest : (items : List PatchRecord) (m n : ℕ) → IsGreatest items m → IsGreatest items n → m ≡ n
one_greatest items m n one other = ⊎_elim
    (λ less. absurd (true≢false (sym (other.received (m + 1) (omega arith) (omega arith)) ∙ one.missing)))
    (λ rest. ⊎_elim
    (λ more. absurd (true≢false (sym (one.received (n + 1) (omega arith) (omega arith)) ∙ other.missing)))
    (λ same. omega arith)
    (cases_lt n m))
    (cases_lt m n)

pub follows_its_producer : FollowsItsProducer
follows_its_producer producer items state n made of follows none is =
    let same = one_greatest items state.applied n (record { received = follows.received; missing = none }) is in
    follows.triples ∙ after_is producer items made of state.applied follows.received ∙ ap producer same
