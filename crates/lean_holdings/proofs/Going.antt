-- What is held stays in step where an entity is counted in, and where a record is put in.
use Rattle.std.proofs.Common.{◌≡◌, ◌≢◌, ℕ, ◌+◌, ◌<◌, Bool, true, false, not, ◌&&◌, ◌||◌, List, filter, refl, sym, ◌∙◌, ap, subst, ⊎_elim, arith}
use Rattle.std.specs.FinMap as map
use Rattle.std.specs.{Cmp.eq_by_cmp_equiv, Ordering.eq_by_cmp}
use Rattle.sorted_sets.specs.{Counting.one_if, Rising.has}
use Rattle.sorted_sets.proofs.Bools.{and_none}
use Rattle.rdf_term.specs.{declared.triple.Triple.Triple, Order.triple_cmp}
use Rattle.entity_model.specs.{declared.id.EntityId.EntityId, EntityId.entity_cmp, EntityId.entity_cmp_total}
use Rattle.entity_state.specs.declared.record.Record.{Record}
use Rattle.text_region.specs.Region.{Texts, bytes_of}
use Rattle.slot_keys.specs.declared.key.Key.{Key}
use Rattle.triple_catalog.specs.Counts.{count_of}
use Rattle.triple_store.specs.StoreState.{AreKeysOf, KeepsKeys, StoreState, counts_in}
use Rattle.replay_model.specs.{Records.Bytes, Records.Records, Records.record_of, Union.Meaning, Union.owners, Union.triples_held}
use Rattle.shared_triples.specs.Home.{home_of}
use Rattle.shared_triples.specs.Lean.{IsLean, count_in, is_entity, is_own, own_of, stored_of, strangers, triples_of}
use Rattle.shared_triples.proofs.{Holding.has_owner, Holding.id_tells, Keeping.counted_in-kept, Keeping.put_in-alike, Keeping.put_in-kept}
use Rattle.shared_triples.proofs.Parting.{has-own, has-stored, left_true}
use Rattle.entity_counts.specs.Naming.{Naming, counted_in, pages_naming}
use Rattle.lean_holdings.specs.declared.kept.LeanPage.{LeanPage}
use Rattle.lean_holdings.specs.{Going.CountsIn, Going.PutsIn, Holding.IsKept, Holding.counted_by, Holding.strangers_on}
use Rattle.lean_holdings.specs.Kept.{KeptRecords, kept_of, keys_held, piece_at, record_with, seen}
use Rattle.lean_holdings.proofs.Naming.{counted_more, named_alike, named_held, names_follow}
use Rattle.holders.proofs.{Pieced.held_again, Keyed.keys_same, Keyed.keys_stay, Records.record_elsewhere, Records.record_here}
use Rattle.lean_holdings.proofs.Seen.{seen_moved}

-- the keys of what an entity holds stay where what is stored of it does
pub others_keyed : (before after : Meaning Triple) (s s2 : StoreState) (records records2 : Records) (y : EntityId) (keys : List Key)
    → ((t : Triple) → count_in (counts_in s2) t ≡ owners triple_cmp after records2 t) → KeepsKeys s s2
    → triples_of after records2 y ≡ triples_of before records y → AreKeysOf s keys (triples_of before records y) → AreKeysOf s2 keys (triples_of after records2 y)
others_keyed before after s s2 records records2 y keys counts keeps same h =
    subst (AreKeysOf s2 keys) (sym same)
    (keys_stay s s2 keys (triples_of before records y) h keeps (λ t there.
    let some : 0 < owners triple_cmp after records2 t = has_owner after records2 y t (ap (has triple_cmp t) same ∙ there) in
    let count : count_of (counts_in s2) t ≡ owners triple_cmp after records2 t = counts t in
    omega arith))

-- ---- an entity is counted in

pub shares : (s a : Bool) → one_if a ≡ one_if (not s && a) + one_if (s && a)
shares true true = refl
shares true false = refl
shares false true = refl
shares false false = refl

module _ (m : Meaning Triple) (x : EntityId) (s s2 : StoreState) (pages : Texts) (names : Naming) (kept kept2 : KeptRecords) (h : IsKept m s pages names kept)
    (c : CountsIn m x s s2 pages names kept kept2) where
  abbrev counted : List EntityId
  counted = counted_by names

  abbrev counted_after : List EntityId
  counted_after = counted_by (counted_in names x)

  abbrev records : Records
  records = seen pages kept

  -- the triples of its page that stood there alone have one owner more
  own_more : (t : Triple) → count_in (counts_in s2) t ≡ count_in (counts_in s) t + one_if (has triple_cmp t (triples_of (own_of counted m) records x))
  own_more t =
      let a : Bool = has triple_cmp t (triples_of m records x) in
      let o : Bool = is_own counted x t in
      let moves : count_of (counts_in s2) t + one_if (has triple_cmp t (triples_of (stored_of counted m) records x)) ≡ count_of (counts_in s) t + one_if a = c.moves.counts t in
      let stored : one_if (has triple_cmp t (triples_of (stored_of counted m) records x)) ≡ one_if (not o && a) = ap one_if (has-stored counted m x (record_of records x).held t) in
      let own : one_if (has triple_cmp t (triples_of (own_of counted m) records x)) ≡ one_if (o && a) = ap one_if (has-own counted m x (record_of records x).held t) in
      let both : one_if a ≡ one_if (not o && a) + one_if (o && a) = shares o a in
      omega arith

  lean : IsLean m counted_after (count_in (counts_in s2)) records
  lean = counted_in-kept m counted counted_after x (counted_more names x) (count_in (counts_in s)) (count_in (counts_in s2)) records h.lean own_more

  counted_now : has entity_cmp x counted_after ≡ true
  counted_now = counted_more names x x ∙ left_true (eq_by_cmp entity_cmp x x) _ ((eq_by_cmp_equiv entity_cmp_total).refl x)

  -- all of its page is stored
  all_stored : (t : Triple) → has triple_cmp t (triples_of m records x) ≡ has triple_cmp t (triples_of (stored_of counted_after m) records x)
  all_stored t = sym (has-stored counted_after m x (record_of records x).held t
      ∙ ap (λ b. not (is_entity x (home_of t) && not b) && has triple_cmp t (triples_of m records x)) counted_now
      ∙ ap (λ b. not b && has triple_cmp t (triples_of m records x)) (and_none (is_entity x (home_of t))))

  -- and of the others what was
  others_stored : (y : EntityId) → y ≢ x → triples_of (stored_of counted_after m) records y ≡ triples_of (stored_of counted m) records y
  others_stored y other =
      let same : has entity_cmp y counted_after ≡ has entity_cmp y counted =
      ⊎_elim (λ own. absurd (other own.1)) (λ no. counted_more names x y ∙ ap (λ b. b || has entity_cmp y counted) no.0) (id_tells y x) in
      λ i. triples_of (λ z rev bytes. filter (λ t. not (is_entity z (home_of t) && not (same i))) (m z rev bytes)) records y

  keyed : (y : EntityId) → AreKeysOf s2 (keys_held (kept_of kept2 y).held) (triples_of (stored_of counted_after m) records y)
  keyed y = ⊎_elim
      (λ own. subst (λ z. AreKeysOf s2 (keys_held (kept_of kept2 z).held) (triples_of (stored_of counted_after m) records z)) (sym own.1)
      (keys_same s2 (keys_held (kept_of kept2 x).held) (triples_of m records x) (triples_of (stored_of counted_after m) records x) all_stored c.keyed))
      (λ other. subst (λ keys. AreKeysOf s2 keys (triples_of (stored_of counted_after m) records y)) (sym (c.others y other.1))
      (others_keyed (stored_of counted m) (stored_of counted_after m) s s2 records records y (keys_held (kept_of kept y).held) lean.counts c.keeps (others_stored y other.1) (h.keyed y)))
      (id_tells y x)

  pub goes_counted : IsKept m s2 pages (counted_in names x) kept2
  goes_counted = record {
    sound = c.sound;
    lean = subst (λ (r : Records). IsLean m counted_after (count_in (counts_in s2)) r) (sym c.alike) lean;
    named = λ y. named_alike names x y ∙ h.named y ∙ ap (λ (r : Records). owners entity_cmp (strangers_on m) r y) (sym c.alike);
    pieces = held_again (bytes_of pages) (bytes_of pages) (piece_at kept) (piece_at kept2) h.pieces (λ p. refl) c.pieces;
    keyed = λ y. subst (λ (r : Records). AreKeysOf s2 (keys_held (kept_of kept2 y).held) (triples_of (stored_of counted_after m) r y)) (sym c.alike) (keyed y);
  }

-- ---- a record is put in

module _ (m n : Meaning Triple) (x : EntityId) (s s2 : StoreState) (pages pages2 : Texts) (names names2 : Naming) (kept : KeptRecords) (r : Record LeanPage) (h : IsKept m s pages names kept)
    (p : PutsIn m n x s s2 pages pages2 names names2 kept r) where
  abbrev was : Records
  was = seen pages kept

  abbrev now : Record Bytes
  now = record_with (bytes_of pages2) r

  abbrev after : Records
  after = map.insert was x now

  abbrev known : List EntityId
  known = counted_by names

  seen_put : seen pages2 (map.insert kept x r) ≡ after
  seen_put = seen_moved (bytes_of pages) (bytes_of pages2) kept x r p.texts

  put_lean : IsLean n known (count_in (counts_in s2)) after
  put_lean = put_in-kept m n x p.agree was now known (count_in (counts_in s)) (count_in (counts_in s2)) h.lean p.known (record { counts = p.moves.counts })

  -- what is stored of the others
  stored_agree : (y : EntityId) → y ≢ x → (rev : ℕ) (bytes : Bytes) → stored_of known n y rev bytes ≡ stored_of known m y rev bytes
  stored_agree y other rev bytes = ap (filter (λ t. not (is_own known y t))) (p.agree y other rev bytes)

  named_agree : (y : EntityId) → y ≢ x → (rev : ℕ) (bytes : Bytes) → strangers_on n y rev bytes ≡ strangers_on m y rev bytes
  named_agree y other rev bytes = ap (strangers y) (p.agree y other rev bytes)

  put_named : (y : EntityId) → pages_naming names2 y ≡ owners entity_cmp (strangers_on n) after y
  put_named y =
      let follow : owners entity_cmp (strangers_on n) after y + one_if (has entity_cmp y (triples_held (strangers_on m) x (record_of was x).held)) ≡ owners entity_cmp (strangers_on m) was y + one_if (has entity_cmp y (triples_held (strangers_on n) x now.held)) =
      names_follow (strangers_on m) (strangers_on n) x named_agree was now y in
      let old : one_if (has entity_cmp y (triples_held (strangers_on m) x (record_of was x).held)) ≡ one_if (has entity_cmp y (strangers x (triples_of m was x))) = ap (λ ids. one_if (has entity_cmp y ids)) (named_held m x (record_of was x).held) in
      let new : one_if (has entity_cmp y (triples_held (strangers_on n) x now.held)) ≡ one_if (has entity_cmp y (strangers x (triples_held n x now.held))) = ap (λ ids. one_if (has entity_cmp y ids)) (named_held n x now.held) in
      let told : pages_naming names2 y + one_if (has entity_cmp y (strangers x (triples_of m was x))) ≡ pages_naming names y + one_if (has entity_cmp y (strangers x (triples_held n x now.held))) = p.named y in
      let before : pages_naming names y ≡ owners entity_cmp (strangers_on m) was y = h.named y in
      omega arith

  put_keyed : (y : EntityId) → AreKeysOf s2 (keys_held (kept_of (map.insert kept x r) y).held) (triples_of (stored_of known n) after y)
  put_keyed y = ⊎_elim
      (λ own. subst (λ z. AreKeysOf s2 (keys_held (kept_of (map.insert kept x r) z).held) (triples_of (stored_of known n) after z)) (sym own.1)
      (subst (λ (q : Record LeanPage). AreKeysOf s2 (keys_held q.held) (triples_of (stored_of known n) after x)) (sym (record_here kept x r))
      (subst (λ (q : Record Bytes). AreKeysOf s2 (keys_held r.held) (triples_held (stored_of known n) x q.held)) (sym (record_here was x now)) p.keyed)))
      (λ other. subst (λ (q : Record LeanPage). AreKeysOf s2 (keys_held q.held) (triples_of (stored_of known n) after y)) (sym (record_elsewhere kept x r y other.1))
      (others_keyed (stored_of known m) (stored_of known n) s s2 was after y (keys_held (kept_of kept y).held) put_lean.counts p.keeps
      (put_in-alike (stored_of known m) (stored_of known n) x stored_agree was now y other.1) (h.keyed y)))
      (id_tells y x)

  pub goes_in : IsKept n s2 pages2 names2 (map.insert kept x r)
  goes_in =
      let same : known ≡ counted_by names2 = sym p.counted in
      record {
        sound = p.sound;
        lean = subst (λ (ids : List EntityId). IsLean n ids (count_in (counts_in s2)) (seen pages2 (map.insert kept x r))) same
            (subst (λ (q : Records). IsLean n known (count_in (counts_in s2)) q) (sym seen_put) put_lean);
        named = λ y. put_named y ∙ ap (λ (q : Records). owners entity_cmp (strangers_on n) q y) (sym seen_put);
        pieces = p.pieces;
        keyed = λ y. subst (λ (ids : List EntityId). AreKeysOf s2 (keys_held (kept_of (map.insert kept x r) y).held) (triples_of (stored_of ids n) (seen pages2 (map.insert kept x r)) y)) same
            (subst (λ (q : Records). AreKeysOf s2 (keys_held (kept_of (map.insert kept x r) y).held) (triples_of (stored_of known n) q y)) (sym seen_put) (put_keyed y));
      }
