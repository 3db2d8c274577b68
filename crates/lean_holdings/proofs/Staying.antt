-- The record of an entity that holds what it held, or holds it with other keys.
use Rattle.std.proofs.Common.{◌≡◌, ◌≢◌, ℕ, ◌+◌, ◌||◌, List, Bool, true, false, cond, Option, Some, None, is_some, nat_lt, unwrap_or, refl}
use Rattle.std.proofs.Common.{sym, ◌∙◌, ap, subst, true≢false, ⊎_elim, arith}
use Rattle.std.specs.FinMap as map
use Rattle.std.specs.{Cmp.eq_by_cmp_equiv, List.list_any, Ordering.eq_by_cmp}
use Rattle.sorted_sets.specs.{Counting.one_if, Rising.has, Rising.sorted}
use Rattle.sorted_sets.proofs.Rising.{has-sorted, same_rising}
use Rattle.rdf_term.specs.{declared.triple.Triple.Triple, Order.triple_cmp, Order.triple_cmp-total}
use Rattle.rdf_term.proofs.Texts.{triple_cmp-IsAntisymmetric}
use Rattle.entity_model.specs.{declared.id.EntityId.EntityId, EntityId.entity_cmp, EntityId.entity_cmp_same, EntityId.entity_cmp_total}
use Rattle.entity_state.specs.{declared.record.Held.Held, declared.record.Record.Record, Record.blank, Table.after_putting, Table.has_room}
use Rattle.entity_state.specs.Tabled.{Tabled}
use Rattle.text_region.specs.{Region.Texts, Region.bytes_of}
use Rattle.slot_keys.specs.declared.keys.Keys.{Keys}
use Rattle.triple_store.specs.StoreState.{AreKeysOf, IsSound, KeepsKeys, StoreState, counts_in}
use Rattle.triple_catalog.specs.Counts.{Exchanges, count_of}
use Rattle.replay_model.specs.{Records.Bytes, Records.Records, Records.record_of, Union.Meaning, Union.owners, Union.triples_held}
use Rattle.replay_model.specs.{Union.union}
use Rattle.replay_model.proofs.Owners.{has-union, union-rises}
use Rattle.shared_triples.specs.Lean.{AreCounted, stored_of, strangers, triples_of}
use Rattle.shared_triples.proofs.Holding.{id_tells, owners_moved}
use Rattle.entity_counts.specs.Naming.{Naming, counted_in, pages_naming}
use Rattle.lean_holdings.specs.declared.kept.LeanPage.{LeanPage}
use Rattle.lean_holdings.specs.{Going.CountsIn, Going.PutsIn, Holding.IsKept, Holding.counted_by}
use Rattle.holders.specs.Pieces.{PieceTexts}
use Rattle.lean_holdings.specs.Kept.{KeptRecords, held_keys, held_with, kept_of, keys_held, piece_at, piece_held, record_with, seen, with_keys}
use Rattle.holders.proofs.{Pieced.held_again, Keyed.keys_same, Records.record_elsewhere, Records.record_here}
use Rattle.lean_holdings.proofs.{Going.goes_counted, Going.goes_in, Seen.held_is, Seen.seen_moved, Seen.seen_of}

-- ---- the same page

module _ (m : Meaning Triple) (s : StoreState) (pages : Texts) (names : Naming) (kept : KeptRecords) (x : EntityId) (r : Record LeanPage) (same : r.held ≡ (kept_of kept x).held) where
  held_same : held_with (bytes_of pages) r.held ≡ (record_of (seen pages kept) x).held
  held_same = ap (held_with (bytes_of pages)) same ∙ sym (held_is (bytes_of pages) kept x)

  pieces_same : (y : EntityId) → piece_at (map.insert kept x r) y ≡ piece_at kept y
  pieces_same y = ⊎_elim
      (λ own. ap (λ z. piece_at (map.insert kept x r) z) own.1 ∙ ap (λ (was : Record LeanPage). piece_held was.held) (record_here kept x r) ∙ ap piece_held same ∙ ap (piece_at kept) (sym own.1))
      (λ other. ap (λ (was : Record LeanPage). piece_held was.held) (record_elsewhere kept x r y other.1))
      (id_tells y x)

  stays_in : IsKept m s pages names kept → PutsIn m m x s s pages pages names names kept r
  stays_in h = record {
    agree = λ y other rev bytes. refl;
    texts = λ y p other is. refl;
    pieces = held_again (bytes_of pages) (bytes_of pages) (piece_at kept) (piece_at (map.insert kept x r)) h.pieces (λ p. refl) pieces_same;
    counted = refl;
    named = λ y. ap (λ (held : Option (Held Bytes)). pages_naming names y + one_if (has entity_cmp y (strangers x (triples_held m x held)))) (sym held_same);
    known = subst (λ (held : Option (Held Bytes)). AreCounted (counted_by names) (strangers x (triples_held m x held))) (sym held_same) (h.lean.strangers x);
    sound = h.sound;
    moves = record { counts = λ t. ap (λ (held : Option (Held Bytes)). count_of (counts_in s) t + one_if (has triple_cmp t (triples_held (stored_of (counted_by names) m) x held))) (sym held_same) };
    keeps = record { kept = λ key t is _. is };
    keyed = subst (λ (held : Option (Held LeanPage)). AreKeysOf s (keys_held held) (triples_held (stored_of (counted_by names) m) x (held_with (bytes_of pages) r.held))) (sym same)
        (subst (λ (held : Option (Held Bytes)). AreKeysOf s (keys_held (kept_of kept x).held) (triples_held (stored_of (counted_by names) m) x held)) (sym held_same) (h.keyed x));
  }

  -- all stays in step where the record holds what it held
  pub stays : IsKept m s pages names kept → IsKept m s pages names (map.insert kept x r)
  stays h = goes_in m m x s s pages pages names names kept r h (stays_in h)

  -- and so it is seen
  pub stayed_seen : seen pages (map.insert kept x r) ≡ map.insert (seen pages kept) x (record { state = r.state; held = (record_of (seen pages kept) x).held; reconciled = r.reconciled })
  stayed_seen =
      seen_moved (bytes_of pages) (bytes_of pages) kept x r (λ y p other is. refl)
      ∙ ap (λ (held : Option (Held Bytes)). map.insert (seen pages kept) x (record { state = r.state; held = held; reconciled = r.reconciled })) held_same

-- where the record of an entity holds what it held all pages mean what they meant
pub union_stays : (m : Meaning Triple) (records : Records) (x : EntityId) (r : Record Bytes) → r.held ≡ (record_of records x).held
    → union triple_cmp m (map.insert records x r) ≡ union triple_cmp m records
union_stays m records x r same =
    same_rising triple_cmp-total triple_cmp-IsAntisymmetric (union triple_cmp m (map.insert records x r)) (union triple_cmp m records)
    (union-rises triple_cmp-total m (map.insert records x r)) (union-rises triple_cmp-total m records) (λ t.
    let moved : owners triple_cmp m (map.insert records x r) t + one_if (has triple_cmp t (triples_held m x (record_of records x).held)) ≡
    owners triple_cmp m records t + one_if (has triple_cmp t (triples_held m x r.held)) =
    owners_moved m records x r t in
    let alike : one_if (has triple_cmp t (triples_held m x r.held)) ≡ one_if
    (has triple_cmp t (triples_held m x (record_of records x).held)) =
    ap (λ (held : Option (Held Bytes)). one_if (has triple_cmp t (triples_held m x held))) same in
    let as_many : owners triple_cmp m (map.insert records x r) t ≡ owners triple_cmp m records t = omega arith in
    has-union triple_cmp-total m (map.insert records x r) t ∙ ap (nat_lt 0) as_many ∙ sym (has-union triple_cmp-total m records t))

-- ---- other keys

piece_still : (h : Option (Held LeanPage)) (keys : Keys) → piece_held (held_keys h keys) ≡ piece_held h
piece_still None keys = refl
piece_still (Some h) keys = refl

keys_are : (h : Option (Held LeanPage)) (keys : Keys) → is_some h ≡ true → keys_held (held_keys h keys) ≡ keys.rising.items
keys_are None keys is = absurd (true≢false (sym is))
keys_are (Some h) keys is = refl

text_still : (f : PieceTexts) (h : Option (Held LeanPage)) (keys : Keys) → held_with f (held_keys h keys) ≡ held_with f h
text_still f None keys = refl
text_still f (Some h) keys = refl

pub some_seen : (f : PieceTexts) (h : Option (Held LeanPage)) → is_some (held_with f h) ≡ is_some h
some_seen f None = refl
some_seen f (Some h) = refl

-- a record that is there is put in
pub put_same : (records : Records) (x : EntityId) → is_some (record_of records x).held ≡ true → map.insert records x (record_of records x) ≡ records
put_same records x there = by (map.get records x) refl
  where
    by : (found : Option (Record Bytes)) → map.get records x ≡ found → map.insert records x (record_of records x) ≡ records
    by None e = absurd (true≢false (sym there ∙ ap (λ o. is_some (unwrap_or o blank).held) e))
    by (Some r) e = map.same_map entity_cmp_total entity_cmp_same _ _ (λ y.
        map.get-insert entity_cmp_total records x (record_of records x) y ∙ ⊎_elim
        (λ own. ap (λ b. cond b (Some (record_of records x)) (map.get records y)) own.0 ∙ ap (λ o. Some (unwrap_or o blank)) e ∙ sym e ∙ ap (map.get records) (sym own.1))
        (λ other. ap (λ b. cond b (Some (record_of records x)) (map.get records y)) other.0)
        (id_tells y x))

-- a record that is there gets other keys
pub keys_set : (kept : KeptRecords) (x : EntityId) (b : Record LeanPage) (h : Held LeanPage) (keys : Keys) (gone n : Record LeanPage) (one two : KeptRecords)
    → map.get kept x ≡ Some b → b.held ≡ Some h
    → one ≡ map.insert kept x gone → two ≡ map.insert one x n
    → n ≡ record { state = b.state; held = Some (record { revision = h.revision; content = record { piece = h.content.piece; keys = keys } }); reconciled = b.reconciled }
    → two ≡ map.insert kept x (with_keys (kept_of kept x) keys)
keys_set kept x b h keys gone n one two was held put_one put_two is =
    let there : kept_of kept x ≡ b = ap (λ o. unwrap_or o blank) was in
    let with_held : with_keys (kept_of kept x) keys ≡ n =
    ap (λ (r : Record LeanPage). with_keys r keys) there
    ∙ ap (λ (o : Option (Held LeanPage)). record { state = b.state; held = held_keys o keys; reconciled = b.reconciled }) held
    ∙ sym is in
    put_two ∙ ap (λ (records : KeptRecords). map.insert records x n) put_one ∙ put_twice ∙ ap (map.insert kept x) (sym with_held)
  where
    put_twice : map.insert (map.insert kept x gone) x n ≡ map.insert kept x n
    put_twice = map.same_map entity_cmp_total entity_cmp_same _ _ (λ y.
        map.get-insert entity_cmp_total (map.insert kept x gone) x n y
        ∙ ap (cond (eq_by_cmp entity_cmp y x) (Some n)) (map.get-insert entity_cmp_total kept x gone y)
        ∙ by (eq_by_cmp entity_cmp y x) (map.get kept y) ∙ sym (map.get-insert entity_cmp_total kept x n y))
      where
        by : (b : Bool) (o : Option (Record LeanPage)) → cond b (Some n) (cond b (Some gone) o) ≡ cond b (Some n) o
        by true o = refl
        by false o = refl

-- an id that was put in has room
pub room_after : (t t2 : Tabled LeanPage) (id : EntityId) (r : Record LeanPage) → t2 ≡ after_putting t id r → has_room t2 id ≡ true
room_after t t2 id r is =
    ap (λ (u : Tabled LeanPage). has_room u id) is
    ∙ ap (λ (o : Option (Record LeanPage)). is_some o || list_any (eq_by_cmp entity_cmp id) (after_putting t id r).room)
    (map.get-insert entity_cmp_total t.records id r id ∙ ap (λ b. cond b (Some r) (map.get t.records id)) ((eq_by_cmp_equiv entity_cmp_total).refl id))

module _ (kept : KeptRecords) (x : EntityId) (keys : Keys) (there : is_some (kept_of kept x).held ≡ true) where
  abbrev anew : Record LeanPage
  anew = with_keys (kept_of kept x) keys

  -- what is seen doesn't tell it
  pub keys_unseen : (pages : Texts) → seen pages (map.insert kept x anew) ≡ seen pages kept
  keys_unseen pages =
      let f : PieceTexts = bytes_of pages in
      let same : record_with f anew ≡ record_of (seen pages kept) x =
      ap (λ (held : Option (Held Bytes)). record { state = anew.state; held = held; reconciled = anew.reconciled }) (text_still f (kept_of kept x).held keys) ∙ sym (seen_of f kept x) in
      let held : is_some (record_of (seen pages kept) x).held ≡ true = ap is_some (held_is f kept x) ∙ some_seen f (kept_of kept x).held ∙ there in
      seen_moved f f kept x anew (λ y p other is. refl) ∙ ap (map.insert (seen pages kept) x) same ∙ put_same (seen pages kept) x held

  pub pieces_still : (y : EntityId) → piece_at (map.insert kept x anew) y ≡ piece_at kept y
  pieces_still y = ⊎_elim
      (λ own. ap (λ z. piece_at (map.insert kept x anew) z) own.1 ∙ ap (λ (was : Record LeanPage). piece_held was.held) (record_here kept x anew)
      ∙ piece_still (kept_of kept x).held keys ∙ ap (piece_at kept) (sym own.1))
      (λ other. ap (λ (was : Record LeanPage). piece_held was.held) (record_elsewhere kept x anew y other.1))
      (id_tells y x)

  pub own_keys : keys_held (kept_of (map.insert kept x anew) x).held ≡ keys.rising.items
  own_keys = ap (λ (was : Record LeanPage). keys_held was.held) (record_here kept x anew) ∙ keys_are (kept_of kept x).held keys there

  module _ (m : Meaning Triple) (s s2 : StoreState) (pages : Texts) (names : Naming) (ts : List Triple) (h : IsKept m s pages names kept)
      (meant : (t : Triple) → has triple_cmp t ts ≡ has triple_cmp t (triples_of m (seen pages kept) x))
      (moved : (triples : List Triple) → AreKeysOf s (keys_held (kept_of kept x).held) triples → Exchanges (counts_in s) (counts_in s2) triples ts)
      (sound : IsSound s2) (keeps : KeepsKeys s s2) (keyed : AreKeysOf s2 keys.rising.items ts) where
    stored_whole : CountsIn m x s s2 pages names kept (map.insert kept x anew)
    stored_whole = record {
      alike = keys_unseen pages;
      pieces = pieces_still;
      others = λ y other. ap (λ (was : Record LeanPage). keys_held was.held) (record_elsewhere kept x anew y other);
      sound = sound;
      moves = record { counts = λ t. (moved (triples_of (stored_of (counted_by names) m) (seen pages kept) x) (h.keyed x)).counts t ∙ ap (λ b. count_of (counts_in s) t + one_if b) (meant t) };
      keeps = keeps;
      keyed = subst (λ ks. AreKeysOf s2 ks (triples_of m (seen pages kept) x)) (sym own_keys) (keys_same s2 keys.rising.items ts (triples_of m (seen pages kept) x) meant keyed);
    }

    -- the entity is counted in
    pub goes_whole : IsKept m s2 pages (counted_in names x) (map.insert kept x anew)
    goes_whole = goes_counted m x s s2 pages names kept (map.insert kept x anew) h stored_whole

  -- ---- the same page means something else

  module _ (m n : Meaning Triple) (agree : (y : EntityId) → y ≢ x → (rev : ℕ) (bytes : Bytes) → n y rev bytes ≡ m y rev bytes)
      (s s2 : StoreState) (pages : Texts) (names names2 : Naming) (gone come : List EntityId) (shared : List Triple)
      (h : IsKept m s pages names kept)
      (counted : counted_by names2 ≡ counted_by names)
      (named : (y : EntityId) → pages_naming names2 y + one_if (has entity_cmp y gone) ≡ pages_naming names y + one_if (has entity_cmp y come))
      (gone_are : (y : EntityId) → has entity_cmp y gone ≡ has entity_cmp y (strangers x (triples_of m (seen pages kept) x)))
      (come_are : (y : EntityId) → has entity_cmp y come ≡ has entity_cmp y (strangers x (triples_of n (seen pages kept) x)))
      (known : AreCounted (counted_by names) come)
      (sound : IsSound s2) (keeps : KeepsKeys s s2)
      (counts : (triples : List Triple) → AreKeysOf s (keys_held (kept_of kept x).held) triples → Exchanges (counts_in s) (counts_in s2) triples shared)
      (keyed : AreKeysOf s2 keys.rising.items shared)
      (stored : sorted triple_cmp shared ≡ triples_of (stored_of (counted_by names) n) (seen pages kept) x) where
    again_held : held_with (bytes_of pages) anew.held ≡ (record_of (seen pages kept) x).held
    again_held = text_still (bytes_of pages) (kept_of kept x).held keys ∙ sym (held_is (bytes_of pages) kept x)

    again_meant : (t : Triple) → has triple_cmp t shared ≡ has triple_cmp t (triples_of (stored_of (counted_by names) n) (seen pages kept) x)
    again_meant t = sym (has-sorted triple_cmp-total t shared) ∙ ap (has triple_cmp t) stored

    puts_again : PutsIn m n x s s2 pages pages names names2 kept anew
    puts_again = record {
      agree = agree;
      texts = λ y p other is. refl;
      pieces = held_again (bytes_of pages) (bytes_of pages) (piece_at kept) (piece_at (map.insert kept x anew)) h.pieces (λ p. refl) pieces_still;
      counted = counted;
      named = λ y.
          ap (λ b. pages_naming names2 y + one_if b) (sym (gone_are y)) ∙ named y
          ∙ ap (λ b. pages_naming names y + one_if b) (come_are y ∙ ap (λ (held : Option (Held Bytes)). has entity_cmp y (strangers x (triples_held n x held))) (sym again_held));
      known = subst (λ (held : Option (Held Bytes)). AreCounted (counted_by names) (strangers x (triples_held n x held))) (sym again_held) (λ y is. known y (come_are y ∙ is));
      sound = sound;
      moves = subst (λ (held : Option (Held Bytes)). Exchanges (counts_in s) (counts_in s2) (triples_of (stored_of (counted_by names) m) (seen pages kept) x) (triples_held (stored_of (counted_by names) n) x held)) (sym again_held)
          (record { counts = λ t. (counts (triples_of (stored_of (counted_by names) m) (seen pages kept) x) (h.keyed x)).counts t ∙ ap (λ b. count_of (counts_in s) t + one_if b) (again_meant t) });
      keeps = keeps;
      keyed = subst (λ (held : Option (Held Bytes)). AreKeysOf s2 (keys_held anew.held) (triples_held (stored_of (counted_by names) n) x held)) (sym again_held)
          (subst (λ ks. AreKeysOf s2 ks (triples_of (stored_of (counted_by names) n) (seen pages kept) x)) (sym (keys_are (kept_of kept x).held keys there))
          (keys_same s2 keys.rising.items shared (triples_of (stored_of (counted_by names) n) (seen pages kept) x) again_meant keyed));
    }

    pub page_again : IsKept n s2 pages names2 (map.insert kept x anew)
    page_again = goes_in m n x s s2 pages pages names names2 kept anew h puts_again
