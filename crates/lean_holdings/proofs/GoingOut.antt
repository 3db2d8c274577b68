-- An entity is counted no longer, and all stays in step.
use Rattle.std.proofs.Common.{◌≡◌, ◌≢◌, ℕ, ◌+◌, ◌<◌, Bool, true, false, not, cond, ◌&&◌, List, Option, None, filter, is_some, unwrap_or, refl, sym, ◌∙◌, ap, subst, ⊎_elim, arith}
use Rattle.std.specs.FinMap as map
use Rattle.std.specs.{Cmp.eq_by_cmp_equiv, Ordering.eq_by_cmp}
use Rattle.sorted_sets.specs.{Counting.one_if, Rising.has}
use Rattle.sorted_sets.proofs.Bools.{and_none, equal}
use Rattle.rdf_term.specs.{declared.triple.Triple.Triple, Order.triple_cmp}
use Rattle.entity_model.specs.{declared.id.EntityId.EntityId, EntityId.entity_cmp, EntityId.entity_cmp_same, EntityId.entity_cmp_total}
use Rattle.text_region.specs.Region.{Texts, bytes_of}
use Rattle.slot_keys.specs.declared.keys.Keys.{Keys}
use Rattle.triple_catalog.specs.Counts.{Exchanges, count_of}
use Rattle.triple_store.specs.StoreState.{AreKeysOf, IsSound, KeepsKeys, StoreState, counts_in}
use Rattle.replay_model.specs.{Records.Records, Records.record_of, Union.Meaning, Union.owners}
use Rattle.shared_triples.specs.{Home.home_of, Lean.IsLean, Lean.count_in, Lean.is_entity, Lean.is_own, Lean.own_of, Lean.stored_of, Lean.strangers, Lean.triples_of}
use Rattle.shared_triples.proofs.{Holding.id_tells, Keeping.counted_out-kept, Parting.has-own, Parting.has-stored}
use Rattle.entity_state.specs.declared.record.Record.{Record}
use Rattle.entity_counts.specs.Naming.{Naming, is_counted, pages_naming}
use Rattle.lean_holdings.specs.declared.kept.LeanPage.{LeanPage}
use Rattle.lean_holdings.specs.{Going.CountsOut, Holding.IsKept, Holding.counted_by, Holding.strangers_on}
use Rattle.lean_holdings.specs.Kept.{KeptRecords, kept_of, keys_held, piece_at, seen, with_keys}
use Rattle.holders.proofs.{Pieced.held_again, Keyed.keys_same, Records.record_elsewhere}
use Rattle.lean_holdings.proofs.{CountedIn.nothing_meant, Going.others_keyed, Going.shares}
use Rattle.lean_holdings.proofs.{Staying.keys_unseen, Staying.own_keys, Staying.pieces_still, Strange.some_names}

-- without an entity the others are counted that were
pub fewer : (names : Naming) (x y : EntityId) → has entity_cmp y (counted_by (map.remove names x)) ≡ (not (eq_by_cmp entity_cmp y x) && has entity_cmp y (counted_by names))
fewer names x y =
    sym (map.contains_key-keys (map.remove names x) y) ∙ ap is_some (map.get-remove entity_cmp_total names x y) ∙ by (eq_by_cmp entity_cmp y x) (map.get names y)
    ∙ ap (λ b. not (eq_by_cmp entity_cmp y x) && b) (map.contains_key-keys names y)
  where
    by : (b : Bool) (found : Option ℕ) → is_some (cond b None found) ≡ (not b && is_some found)
    by true found = refl
    by false found = refl

-- and as many pages name each entity, where none names this one
pub same_named : (names : Naming) (x y : EntityId) → pages_naming names x ≡ 0 → pages_naming (map.remove names x) y ≡ pages_naming names y
same_named names x y none = ap (λ found. unwrap_or found 0) (map.get-remove entity_cmp_total names x y) ∙ by (eq_by_cmp entity_cmp y x) refl
  where
    by : (b : Bool) → eq_by_cmp entity_cmp y x ≡ b → unwrap_or (cond b None (map.get names y)) 0 ≡ pages_naming names y
    by true is = sym (ap (pages_naming names) (entity_cmp_same y x (equal _ is)) ∙ none)
    by false is = refl

module _ (m : Meaning Triple) (x : EntityId) (s s2 : StoreState) (pages : Texts) (names : Naming) (kept kept2 : KeptRecords) (h : IsKept m s pages names kept)
    (c : CountsOut m x s s2 pages names kept kept2) where
  abbrev counted : List EntityId
  counted = counted_by names

  abbrev counted_after : List EntityId
  counted_after = counted_by (map.remove names x)

  abbrev records : Records
  records = seen pages kept

  unnamed : (y : EntityId) → has entity_cmp x (strangers y (triples_of m records y)) ≡ false
  unnamed y = by (has entity_cmp x (strangers y (triples_of m records y))) refl
    where
      by : (b : Bool) → has entity_cmp x (strangers y (triples_of m records y)) ≡ b → b ≡ false
      by true there =
          let some : 0 < pages_naming names x = some_names m s pages names kept h y x there in
          let none : pages_naming names x ≡ 0 = c.unnamed in
          absurd (omega arith)
      by false there = refl

  -- the triples of its page that stand there alone have one owner less
  own_less : (t : Triple) → count_in (counts_in s2) t + one_if (has triple_cmp t (triples_of (own_of counted_after m) records x)) ≡ count_in (counts_in s) t
  own_less t =
      let a : Bool = has triple_cmp t (triples_of m records x) in
      let o : Bool = is_own counted_after x t in
      let moves : count_of (counts_in s2) t + one_if (has triple_cmp t (triples_of (stored_of counted m) records x)) ≡ count_of (counts_in s) t + one_if (has triple_cmp t (triples_of (stored_of counted_after m) records x)) = c.moves.counts t in
      let none : is_own counted x t ≡ false = ap (λ b. is_entity x (home_of t) && not b) c.counted ∙ and_none (is_entity x (home_of t)) in
      let old : one_if (has triple_cmp t (triples_of (stored_of counted m) records x)) ≡ one_if a = ap one_if (has-stored counted m x (record_of records x).held t ∙ ap (λ b. not b && a) none) in
      let new : one_if (has triple_cmp t (triples_of (stored_of counted_after m) records x)) ≡ one_if (not o && a) = ap one_if (has-stored counted_after m x (record_of records x).held t) in
      let own : one_if (has triple_cmp t (triples_of (own_of counted_after m) records x)) ≡ one_if (o && a) = ap one_if (has-own counted_after m x (record_of records x).held t) in
      let both : one_if a ≡ one_if (not o && a) + one_if (o && a) = shares o a in
      omega arith

  lean : IsLean m counted_after (count_in (counts_in s2)) records
  lean = counted_out-kept m counted counted_after x c.counted (fewer names x) (count_in (counts_in s)) (count_in (counts_in s2)) records h.lean unnamed own_less

  -- of the others is stored what was
  others_same : (y : EntityId) → y ≢ x → triples_of (stored_of counted_after m) records y ≡ triples_of (stored_of counted m) records y
  others_same y other =
      let same : has entity_cmp y counted_after ≡ has entity_cmp y counted =
      ⊎_elim (λ own. absurd (other own.1)) (λ no. fewer names x y ∙ ap (λ b. not b && has entity_cmp y counted) no.0) (id_tells y x) in
      λ i. triples_of (λ z rev bytes. filter (λ t. not (is_entity z (home_of t) && not (same i))) (m z rev bytes)) records y

  keyed : (y : EntityId) → AreKeysOf s2 (keys_held (kept_of kept2 y).held) (triples_of (stored_of counted_after m) records y)
  keyed y = ⊎_elim
      (λ own. subst (λ z. AreKeysOf s2 (keys_held (kept_of kept2 z).held) (triples_of (stored_of counted_after m) records z)) (sym own.1) c.keyed)
      (λ other. subst (λ keys. AreKeysOf s2 keys (triples_of (stored_of counted_after m) records y)) (sym (c.others y other.1))
      (others_keyed (stored_of counted m) (stored_of counted_after m) s s2 records records y (keys_held (kept_of kept y).held) lean.counts c.keeps (others_same y other.1) (h.keyed y)))
      (id_tells y x)

  pub goes_out : IsKept m s2 pages (map.remove names x) kept2
  goes_out = record {
    sound = c.sound;
    lean = subst (λ (r : Records). IsLean m counted_after (count_in (counts_in s2)) r) (sym c.alike) lean;
    named = λ y. same_named names x y c.unnamed ∙ h.named y ∙ ap (λ (r : Records). owners entity_cmp (strangers_on m) r y) (sym c.alike);
    pieces = held_again (bytes_of pages) (bytes_of pages) (piece_at kept) (piece_at kept2) h.pieces (λ p. refl) c.pieces;
    keyed = λ y. subst (λ (r : Records). AreKeysOf s2 (keys_held (kept_of kept2 y).held) (triples_of (stored_of counted_after m) r y)) (sym c.alike) (keyed y);
  }

-- ---- other keys

module _ (kept : KeptRecords) (x : EntityId) (keys : Keys) (there : is_some (kept_of kept x).held ≡ true)
    (m : Meaning Triple) (s s2 : StoreState) (pages : Texts) (names : Naming) (ts : List Triple) (h : IsKept m s pages names kept)
    (named_in : is_counted names x ≡ true) (unnamed : pages_naming names x ≡ 0)
    (meant : (t : Triple) → has triple_cmp t ts ≡ has triple_cmp t (triples_of (stored_of (counted_by (map.remove names x)) m) (seen pages kept) x))
    (moved : (triples : List Triple) → AreKeysOf s (keys_held (kept_of kept x).held) triples → Exchanges (counts_in s) (counts_in s2) triples ts)
    (sound : IsSound s2) (keeps : KeepsKeys s s2) (keyed : AreKeysOf s2 keys.rising.items ts) where
  abbrev anew : Record LeanPage
  anew = with_keys (kept_of kept x) keys

  stored_less : CountsOut m x s s2 pages names kept (map.insert kept x anew)
  stored_less = record {
    counted = sym (map.contains_key-keys names x) ∙ named_in;
    unnamed = unnamed;
    alike = keys_unseen kept x keys there pages;
    pieces = pieces_still kept x keys there;
    others = λ y other. ap (λ (was : Record LeanPage). keys_held was.held) (record_elsewhere kept x anew y other);
    sound = sound;
    moves = record { counts = λ t. (moved (triples_of (stored_of (counted_by names) m) (seen pages kept) x) (h.keyed x)).counts t ∙ ap (λ b. count_of (counts_in s) t + one_if b) (meant t) };
    keeps = keeps;
    keyed = subst (λ ks. AreKeysOf s2 ks (triples_of (stored_of (counted_by (map.remove names x)) m) (seen pages kept) x)) (sym (own_keys kept x keys there))
        (keys_same s2 keys.rising.items ts (triples_of (stored_of (counted_by (map.remove names x)) m) (seen pages kept) x) meant keyed);
  }

  -- the entity is counted no longer
  pub goes_less : IsKept m s2 pages (map.remove names x) (map.insert kept x anew)
  goes_less = goes_out m x s s2 pages names kept (map.insert kept x anew) h stored_less

-- ---- no page

-- an entity that holds no page is counted no longer
pub goes_bare : (m : Meaning Triple) (x : EntityId) (s : StoreState) (pages : Texts) (names : Naming) (kept : KeptRecords) → (kept_of kept x).held ≡ None
    → is_counted names x ≡ true → pages_naming names x ≡ 0 → IsKept m s pages names kept → IsKept m s pages (map.remove names x) kept
goes_bare m x s pages names kept none named_in unnamed h =
    let same : triples_of (stored_of (counted_by names) m) (seen pages kept) x ≡ triples_of (stored_of (counted_by (map.remove names x)) m) (seen pages kept) x =
    nothing_meant m x s pages names kept none (stored_of (counted_by names) m) ∙ sym (nothing_meant m x s pages names kept none (stored_of (counted_by (map.remove names x)) m)) in
    goes_out m x s s pages names kept kept h (record {
      counted = sym (map.contains_key-keys names x) ∙ named_in;
      unnamed = unnamed;
      alike = refl;
      pieces = λ y. refl;
      others = λ y other. refl;
      sound = h.sound;
      moves = record { counts = λ t. ap (λ (ts : List Triple). count_of (counts_in s) t + one_if (has triple_cmp t ts)) same };
      keeps = record { kept = λ key t is _. is };
      keyed = subst (AreKeysOf s (keys_held (kept_of kept x).held)) same (h.keyed x);
    })

-- it isn't counted then
pub gone_from : (names : Naming) (x : EntityId) → has entity_cmp x (counted_by (map.remove names x)) ≡ false
gone_from names x =
    sym (map.contains_key-keys (map.remove names x) x) ∙ ap is_some (map.get-remove entity_cmp_total names x x)
    ∙ ap (λ b. is_some (cond b None (map.get names x))) ((eq_by_cmp_equiv entity_cmp_total).refl x)
