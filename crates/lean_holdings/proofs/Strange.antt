-- What a page that comes or goes may name.
use Rattle.std.proofs.Common.{◌≡◌, ℕ, ◌+◌, ◌<◌, ◌≤◌, true, false, cond, ◌||◌, List, [], ◌∷◌, Option, Some, None, refl, sym, ◌∙◌, ap, ⊎_elim, arith}
use Rattle.std.specs.FinMap as map
use Rattle.std.proofs.lemmas.List.Sums.{count_by-le-length}
use Rattle.sorted_sets.specs.{Counting.one_if, Rising.has}
use Rattle.sorted_sets.proofs.{Bools.or_false, Rising.has-append}
use Rattle.rdf_term.specs.declared.triple.Triple.{Triple}
use Rattle.entity_model.specs.{declared.id.EntityId.EntityId, EntityId.entity_cmp}
use Rattle.entity_state.specs.Record.{blank}
use Rattle.text_region.specs.{Region.Texts, Region.bytes_of}
use Rattle.triple_store.specs.StoreState.{StoreState}
use Rattle.replay_model.specs.{Records.Records, Records.record_of, Union.Meaning, Union.owners, Union.triples_at, Union.triples_held}
use Rattle.shared_triples.specs.{Home.home_of, Lean.stranger, Lean.strangers, Lean.triples_of}
use Rattle.shared_triples.proofs.Holding.{id_tells}
use Rattle.entity_counts.specs.Naming.{Naming, pages_naming}
use Rattle.lean_holdings.specs.{Holding.IsKept, Holding.strangers_on}
use Rattle.lean_holdings.specs.Kept.{KeptRecords, record_with, seen}
use Rattle.holders.proofs.Values.{values_len}
use Rattle.lean_holdings.proofs.Naming.{moved, named_held}

no_stranger : (x : EntityId) (home : Option EntityId) → has entity_cmp x (stranger x home) ≡ false
no_stranger x None = refl
no_stranger x (Some y) = ⊎_elim
    (λ own. ap (λ b. has entity_cmp x (cond b [] (y ∷ []))) own.0)
    (λ other. ap (λ b. has entity_cmp x (cond b [] (y ∷ []))) other.0 ∙ ⊎_elim (λ own. absurd (other.1 (sym own.1))) (λ no. ap (λ b. b || false) no.0) (id_tells x y))
    (id_tells y x)

-- an entity is no stranger on its own page
pub not_itself : (x : EntityId) (ts : List Triple) → has entity_cmp x (strangers x ts) ≡ false
not_itself x [] = refl
not_itself x (t ∷ ts) = has-append entity_cmp x (stranger x (home_of t)) (strangers x ts) ∙ or_false _ _ (no_stranger x (home_of t)) (not_itself x ts)

-- a page names what it names
pub some_named : (m : Meaning Triple) (names : Naming) (records : Records) → ((y : EntityId) → pages_naming names y ≡ owners entity_cmp (strangers_on m) records y)
    → (x y : EntityId) → has entity_cmp y (strangers x (triples_of m records x)) ≡ true → 0 < pages_naming names y
some_named m names records named x y there =
    let here : has entity_cmp y (triples_held (strangers_on m) x (record_of records x).held) ≡ true = ap (has entity_cmp y) (named_held m x (record_of records x).held) ∙ there in
    let gone : owners entity_cmp (strangers_on m) (map.insert records x blank) y + one_if (has entity_cmp y (triples_held (strangers_on m) x (record_of records x).held)) ≡ owners entity_cmp (strangers_on m) records y + 0 = moved (strangers_on m) records x blank y in
    let one : one_if (has entity_cmp y (triples_held (strangers_on m) x (record_of records x).held)) ≡ 1 = ap one_if here in
    let count : pages_naming names y ≡ owners entity_cmp (strangers_on m) records y = named y in
    omega arith

module _ (m : Meaning Triple) (s : StoreState) (pages : Texts) (names : Naming) (kept : KeptRecords) (h : IsKept m s pages names kept) where
  -- no more pages name an entity than there are
  pub few_name : (n : ℕ) → map.len kept < n → (y : EntityId) → pages_naming names y < n
  few_name n few y =
      let records : Records = seen pages kept in
      let as_many : map.len records ≡ map.len kept = values_len (record_with (bytes_of pages)) kept in
      let owned : owners entity_cmp (strangers_on m) records y ≤ map.len records =
      omega (arith, count_by-le-length (λ entry. has entity_cmp y (triples_at (strangers_on m) entry)) (map.entries records), map.len-entries records) in
      let count : pages_naming names y ≡ owners entity_cmp (strangers_on m) records y = h.named y in
      omega arith

  -- the same where all is in step
  pub some_names : (x y : EntityId) → has entity_cmp y (strangers x (triples_of m (seen pages kept) x)) ≡ true → 0 < pages_naming names y
  some_names x y there = some_named m names (seen pages kept) h.named x y there
