-- Keys of a rising list whose triples lose an owner, one by one.
use Rattle.std.proofs.Common.{◌≡◌, ℕ, ◌+◌, ◌-◌, ◌<◌, Bool, true, false, not, ◌||◌, ◌&&◌, List, [], ◌∷◌, ◌++◌, length, take, get_or, refl, sym, ◌∙◌, ap, subst, arith}
use Rattle.std.specs.Prelude.{map as mapped}
use Rattle.sorted_sets.specs.Rising.{has, IsRising, difference}
use Rattle.sorted_sets.proofs.Bools.{and_none, and_right, clash, equal, or_none, or_assoc}
use Rattle.sorted_sets.proofs.Filtering.{has-difference}
use Rattle.rdf_term.specs.{declared.triple.Triple.Triple, Order.triple_cmp}
use Rattle.rdf_term.proofs.Texts.{triple_cmp-IsAntisymmetric}
use Rattle.text_region.specs.{declared.piece.Piece.Piece, Region.Texts}
use Rattle.term_pool.specs.Pool.{one_if}
use Rattle.slot_keys.specs.{declared.key.Key.Key, Keys.key_cmp, Keys.key_cmp-total}
use Rattle.slot_keys.proofs.Lists.{difference_more, difference_same, fresh, has_at, in_take}
use Rattle.triple_catalog.specs.{declared.catalog.Catalog.Catalog, Counts.count_of, Counts.lowered, Slots.triple_at}
use Rattle.triple_catalog.specs.Stored.{HasKey, IsStored, KeepsKeys, beside, counts_in, is_key, limit_of}
use Rattle.triple_catalog.specs.Moves.{Removes, triples_at}
use Rattle.triple_catalog.proofs.{Owners.same_triple, Owners.count_of-lowered, Live.key_same, Live.tells}
use Rattle.triple_catalog.proofs.Standing.{counted_key, triples_at-has, stored_key}

-- what one more key finds, which isn't among those that are gone
record IsNext (st : Catalog) (r : Texts) (now : Catalog) (s : Texts) (keys : List Key) (key : Key) (t : Triple) : Type 0 where
  pub out : has triple_cmp t (triples_at st r keys) ≡ false
  pub there : HasKey now s key t

-- a key that isn't among others stands for a triple that theirs don't
pub apart : (st : Catalog) (r : Texts) → IsStored st r → (keys : List Key) (key : Key) → is_key st key ≡ true → ((k : Key) → has key_cmp k keys ≡ true → is_key st k ≡ true) → has key_cmp key keys ≡ false → has triple_cmp (triple_at st.pool r key) (triples_at st r keys) ≡ false
apart st r stored keys key is all new =
    let m = triple_at st.pool r in
    elim (has triple_cmp (m key) (triples_at st r keys)) as (λ b. has triple_cmp (m key) (triples_at st r keys) ≡ b → b ≡ false) [
      | true ↦ λ e.
          let one : (k : Key) × (has key_cmp k keys ≡ true) × (m k ≡ m key) = triples_at-has m keys (m key) e in
          let its = subst (HasKey st r one.0) one.2 (stored_key st r stored one.0 (all one.0 one.1)) in
          let same = key_same st.pool r one.0 key (m key) stored.lies its.has (stored_key st r stored key is).has in
          clash (subst (λ (k : Key). has key_cmp k keys ≡ true) same one.1) new
      | false ↦ λ _. refl
    ] refl

next : (st : Catalog) (r : Texts) (now : Catalog) (s : Texts) (keys : List Key) (key : Key) → IsStored st r → Removes st r now s keys → is_key st key ≡ true → ((k : Key) → has key_cmp k keys ≡ true → is_key st k ≡ true) → has key_cmp key keys ≡ false → IsNext st r now s keys key (triple_at st.pool r key)
next st r now s keys key stored h is all new =
    let was = stored_key st r stored key is in
    let out = apart st r stored keys key is all new in
    record { out = out; there = h.keeps.kept key (triple_at st.pool r key) was (omega (arith, h.counts (triple_at st.pool r key), ap one_if out, counted_key st r stored key (triple_at st.pool r key) was)) }

-- it is still stored
pub still : (st : Catalog) (r : Texts) (now : Catalog) (s : Texts) (keys : List Key) (key : Key) → IsStored st r → Removes st r now s keys → is_key st key ≡ true → ((k : Key) → has key_cmp k keys ≡ true → is_key st k ≡ true) → has key_cmp key keys ≡ false → is_key now key ≡ true
still st r now s keys key stored h is all new = (next st r now s keys key stored h is all new).there.stored

has-triples_more : (m : Key → Triple) (keys : List Key) (key : Key) (q : Triple) → has triple_cmp q (mapped m (keys ++ key ∷ [])) ≡ (has triple_cmp q (mapped m keys) || same_triple q (m key))
has-triples_more m [] key q = or_none (same_triple q (m key))
has-triples_more m (k ∷ keys) key q = ap (λ b. same_triple q (m k) || b) (has-triples_more m keys key q) ∙ sym (or_assoc (same_triple q (m k)) (has triple_cmp q (mapped m keys)) (same_triple q (m key)))

-- one owner less of a triple that wasn't among those that have one less
pub one_less : (now before after : ℕ) (gone same : Bool) → (same ≡ true → (gone ≡ false) × (0 < now)) → now + one_if gone ≡ before → after ≡ now - one_if same → after + one_if (gone || same) ≡ before
one_less now before after gone true h e f = let k : (gone ≡ false) × (0 < now) = h refl in omega (arith, ap one_if k.0, ap (λ b. one_if (b || true)) k.0, k.1, e, f)
one_less now before after true false h e f = omega (arith, e, f)
one_less now before after false false h e f = omega (arith, e, f)

pub one_removed : (st : Catalog) (r : Texts) (now : Catalog) (s : Texts) (new : Catalog) (u : Texts) (keys : List Key) (key : Key) → IsStored st r → Removes st r now s keys → is_key st key ≡ true → ((k : Key) → has key_cmp k keys ≡ true → is_key st k ≡ true) → has key_cmp key keys ≡ false → IsStored new u → counts_in new u ≡ lowered (counts_in now s) (triple_at now.pool s key) → KeepsKeys now s new u → ((piece : Piece) → beside new u piece ≡ beside now s piece) → limit_of new ≡ limit_of now → Removes st r new u (keys ++ key ∷ [])
one_removed st r now s new u keys key stored h is all fresh after low keeps others limit =
    let m = triple_at st.pool r in
    let t = m key in
    let one = next st r now s keys key stored h is all fresh in
    let some = counted_key now s h.stored key t one.there in
    let same : triple_at now.pool s key ≡ t = tells now.pool s key t one.there.has in
    let less : (q : Triple) → count_of (counts_in new u) q ≡ count_of (counts_in now s) q - one_if (same_triple q t) = λ q.
    ap (λ c. count_of c q) (low ∙ ap (lowered (counts_in now s)) same) ∙ count_of-lowered (counts_in now s) t q in
    let is_it : (q : Triple) → same_triple q t ≡ true → (has triple_cmp q (triples_at st r keys) ≡ false) × (0 < count_of (counts_in now s) q) = λ q e.
    subst (λ (x : Triple). (has triple_cmp x (triples_at st r keys) ≡ false) × (0 < count_of (counts_in now s) x)) (sym (triple_cmp-IsAntisymmetric q t (equal _ e))) (one.out, some) in
    record {
      stored = after;
      counts = λ q. ap (λ b. count_of (counts_in new u) q + one_if b) (has-triples_more m keys key q) ∙ one_less (count_of (counts_in now s) q) _ _ _ (same_triple q t) (is_it q) (h.counts q) (less q);
      keeps = record { kept = λ k q was some. keeps.kept k q (h.keeps.kept k q was (omega (arith, some, less q))) some };
      beside = λ piece. others piece ∙ h.beside piece;
      limit = limit ∙ h.limit;
    }

-- the next key of a list, after those before it went, but for those of another list
module _ (st : Catalog) (r : Texts) (stored : IsStored st r) (keys others : List Key) (rises : IsRising key_cmp keys) (all : (k : Key) → has key_cmp k keys ≡ true → is_key st k ≡ true) (i : ℕ) (d : Key) (low : i < length keys) where
  abbrev before : List Key
  before = difference key_cmp (take i keys) others

  of_them : (k : Key) → has key_cmp k before ≡ true → is_key st k ≡ true
  of_them k h = all k (in_take key_cmp-total k i keys (and_right _ _ (sym (has-difference key_cmp-total k (take i keys) others) ∙ h)))

  not_yet : has key_cmp (get_or keys i d) before ≡ false
  not_yet = has-difference key_cmp-total (get_or keys i d) (take i keys) others ∙ ap (λ b. not (has key_cmp (get_or keys i d) others) && b) (fresh key_cmp-total keys i d low rises) ∙ and_none _

  pub next_there : (now : Catalog) (s : Texts) → Removes st r now s before → is_key now (get_or keys i d) ≡ true
  next_there now s h = still st r now s before (get_or keys i d) stored h (all (get_or keys i d) (has_at key_cmp-total keys i d low)) of_them not_yet

  pub next_removed : (now : Catalog) (s : Texts) (new : Catalog) (u : Texts) → Removes st r now s before → has key_cmp (get_or keys i d) others ≡ false → IsStored new u → counts_in new u ≡ lowered (counts_in now s) (triple_at now.pool s (get_or keys i d)) → KeepsKeys now s new u → ((piece : Piece) → beside new u piece ≡ beside now s piece) → limit_of new ≡ limit_of now → Removes st r new u (difference key_cmp (take (i + 1) keys) others)
  next_removed now s new u h out after low_ keeps rest limit =
      subst (Removes st r new u) (sym (difference_more key_cmp-total keys others i d low out))
      (one_removed st r now s new u before (get_or keys i d) stored h (all (get_or keys i d) (has_at key_cmp-total keys i d low)) of_them not_yet after low_ keeps rest limit)

  pub next_stays : (now : Catalog) (s : Texts) → Removes st r now s before → has key_cmp (get_or keys i d) others ≡ true → Removes st r now s (difference key_cmp (take (i + 1) keys) others)
  next_stays now s h there = subst (Removes st r now s) (sym (difference_same key_cmp-total keys others i d low there)) h
