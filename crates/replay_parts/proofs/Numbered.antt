-- A set of entities and all others are a partition, and so are the parts that numbers give.
use Rattle.std.proofs.Common.{◌≡◌, ℕ, ◌+◌, ◌<◌, ◌≤◌, zero, suc, Bool, true, false, not, cond, ◌%◌, ◌==◌, List, [], ◌∷◌, Option, count_by, refl, sym, ◌∙◌, ap, arith, eqb-true}
use Rattle.std.specs.Prelude.{◌↔◌, map as mapped}
use Rattle.std.specs.List.{range_with_len}
use Rattle.std.proofs.lemmas.Bool.{eqb-false, ne_eqb}
use Rattle.std.proofs.lemmas.List.Sums.{sum_by-cons}
use Rattle.std.proofs.lemmas.Nat.{mod_below}
use Rattle.rdf_term.specs.declared.triple.Triple.{Triple}
use Rattle.rdf_term.specs.Order.{triple_cmp, triple_cmp-total}
use Rattle.sorted_sets.specs.Rising.{Each, has}
use Rattle.entity_model.specs.declared.id.EntityId.{EntityId}
use Rattle.delivery.specs.declared.Delivery.{Delivery}
use Rattle.entity_model.specs.declared.mapping.MappingVersion.{MappingVersion}
use Rattle.replay_model.specs.Acceptance.{version_in_force}
use Rattle.replay_model.specs.Play.{Replies, played}
use Rattle.replay_model.specs.Union.{Meaning, union}
use Rattle.replay_parts.specs.Parts.{routed, part_of_records, AgreeOnPart, Part, IsPartition, is_in_part, replies_of_parts, numbered_parts, parts_modulo, union_played}
use Rattle.replay_parts.proofs.PlayedParts.{played-routed}
use Rattle.replay_parts.proofs.Routed.{version-routed}
use Rattle.replay_parts.proofs.UnionParts.{has-numbered}

pub two-partition : (replies : Replies) (contains : EntityId → Bool) → IsPartition replies (record { contains = contains; replies = replies } ∷ record { contains = λ x. not (contains x); replies = replies } ∷ [])
two-partition replies contains = record { one_each = λ x. once (contains x); agree = ((λ e r is. refl), ((λ e r is. refl), tt)) }
  where
    once : (b : Bool) → (0 + cond b 1 0) + cond (not b) 1 0 ≡ 1
    once true = refl
    once false = refl

-- of parts with numbers from a on, none contains an entity with a lesser number, and one contains an entity with one of their numbers
count_below : (x a n : ℕ) → x < a → (f : ℕ → Part) → (y : EntityId) → ((k : ℕ) → (f k).contains y ≡ (x == k)) → count_by (λ (part : Part). part.contains y) (mapped f (range_with_len a n)) ≡ 0
count_below x a zero low f y is = refl
count_below x a (suc n) low f y is =
    sum_by-cons (λ (part : Part). cond (part.contains y) 1 0) (f a) (mapped f (range_with_len (a + 1) n))
    ∙ (λ i. cond ((is a ∙ ne_eqb x a (λ e. absurd (omega arith))) i) 1 0 + count_below x (a + 1) n (omega arith) f y is i)

count_within : (x a n : ℕ) → a ≤ x → x < a + n → (f : ℕ → Part) → (y : EntityId) → ((k : ℕ) → (f k).contains y ≡ (x == k)) → count_by (λ (part : Part). part.contains y) (mapped f (range_with_len a n)) ≡ 1
count_within x a zero low high f y is = absurd (omega arith)
count_within x a (suc n) low high f y is =
    sum_by-cons (λ (part : Part). cond (part.contains y) 1 0) (f a) (mapped f (range_with_len (a + 1) n))
    ∙ ap (λ b. cond b 1 0 + count_by (λ (part : Part). part.contains y) (mapped f (range_with_len (a + 1) n))) (is a)
    ∙ by (x == a) refl (λ later. count_within x (a + 1) n later (omega arith) f y is)
  where
    by : (b : Bool) → (x == a) ≡ b → ((a + 1) ≤ x → count_by (λ (part : Part). part.contains y) (mapped f (range_with_len (a + 1) n)) ≡ 1) → cond b 1 0 + count_by (λ (part : Part). part.contains y) (mapped f (range_with_len (a + 1) n)) ≡ 1
    by true here rest =
        let same : x ≡ a = eqb-true x a here in
        ap (λ m. 1 + m) (count_below x (a + 1) n (omega arith) f y is)
    by false past rest =
        let differ = eqb-false x a past in
        ap (λ m. 0 + m) (rest (above (λ e. differ e)))
      where
        above : (x ≡ a → ⊥) → (a + 1) ≤ x
        above differ = omega arith

-- to the events of a part's entities the whole is replied to as the part
agree_numbered : (number : EntityId → ℕ) (replies_to : ℕ → Replies) (k : ℕ) → AgreeOnPart (is_in_part number k) (replies_to k) (replies_of_parts number replies_to)
agree_numbered number replies_to k e r is = ap (λ j. replies_to j e r) (sym (eqb-true (number e.entity) k is))

each_numbered : (number : EntityId → ℕ) (replies_to : ℕ → Replies) (ks : List ℕ) → Each (λ (part : Part). AgreeOnPart part.contains part.replies (replies_of_parts number replies_to)) (mapped (λ k. record { contains = is_in_part number k; replies = replies_to k }) ks)
each_numbered number replies_to [] = tt
each_numbered number replies_to (k ∷ ks) = (agree_numbered number replies_to k, each_numbered number replies_to ks)

pub numbered-partition : (number : EntityId → ℕ) (replies_to : ℕ → Replies) (count : ℕ) → ((x : EntityId) → number x < count) → IsPartition (replies_of_parts number replies_to) (numbered_parts number replies_to count)
numbered-partition number replies_to count below = record {
  one_each = λ x. count_within (number x) 0 count (omega arith) (omega (arith, below x)) (λ k. record { contains = is_in_part number k; replies = replies_to k }) x (λ k. refl);
  agree = each_numbered number replies_to (range_with_len 0 count);
}

pub modulo-partition : (replies : Replies) (count : ℕ) → 0 < count → IsPartition replies (parts_modulo count replies)
modulo-partition replies count some = numbered-partition (λ (x : EntityId). x.number % count) (λ k. replies) count (λ x. mod_below x.number count some)

-- a triple is in the union of the whole exactly where it is in the union of some numbered part
pub has_triple-numbered : (meaning : MappingVersion → Meaning Triple) (number : EntityId → ℕ) (replies_to : ℕ → Replies) (hz : Option ℕ) (closed : Bool) (ds : List Delivery) (t : Triple)
    → (has triple_cmp t (union_played meaning hz closed (replies_of_parts number replies_to) ds) ≡ true)
    ↔ ((k : ℕ) × (has triple_cmp t (union_played meaning hz closed (replies_to k) (routed (is_in_part number k) ds)) ≡ true))
has_triple-numbered meaning number replies_to hz closed ds t =
    let whole = has-numbered triple_cmp-total (meaning (version_in_force ds)) (played hz closed (replies_of_parts number replies_to) ds).records number t in (
      (λ there. let found = whole.0 there in (found.0, part found.0 ∙ found.1)),
      (λ found. whole.1 (found.0, sym (part found.0) ∙ found.1)),
    )
  where
    part : (k : ℕ) → has triple_cmp t (union_played meaning hz closed (replies_to k) (routed (is_in_part number k) ds))
        ≡ has triple_cmp t (union triple_cmp (meaning (version_in_force ds)) (part_of_records (is_in_part number k) (played hz closed (replies_of_parts number replies_to) ds).records))
    part k = λ i. has triple_cmp t (union triple_cmp (meaning (version-routed (is_in_part number k) ds i)) (played-routed (is_in_part number k) (replies_to k) (replies_of_parts number replies_to) (agree_numbered number replies_to k) hz closed ds i).records)
