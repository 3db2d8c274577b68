-- Triples of a rising list that lose an owner, one by one.
use Rattle.std.proofs.Common.{◌≡◌, ℕ, ◌+◌, ◌-◌, ◌<◌, true, false, ◌||◌, List, [], ◌∷◌, length, take, get_or, refl, sym, ◌∙◌, ap, subst, arith}
use Rattle.std.proofs.lemmas.List.{take_more}
use Rattle.sorted_sets.specs.Rising.{IsRising, has}
use Rattle.sorted_sets.proofs.{Bools.equal, Bools.or_none, Rising.has-append}
use Rattle.rdf_term.specs.{declared.triple.Triple.Triple, Order.triple_cmp, Order.triple_cmp-total}
use Rattle.rdf_term.proofs.Texts.{triple_cmp-IsAntisymmetric}
use Rattle.text_region.specs.{declared.piece.Piece.Piece, Region.Texts}
use Rattle.term_pool.specs.Pool.{one_if}
use Rattle.slot_keys.specs.declared.key.Key.{Key}
use Rattle.slot_keys.proofs.Lists.{fresh, has_at}
use Rattle.triple_catalog.specs.{declared.catalog.Catalog.Catalog, Counts.count_of, Counts.lowered, Moves.Loses}
use Rattle.triple_catalog.specs.Slots.{HasTriple, triple_at}
use Rattle.triple_catalog.specs.Stored.{HasKey, IsStored, KeepsKeys, beside, counts_in, is_key, limit_of}
use Rattle.triple_catalog.proofs.{Live.key_same, Live.tells, Owners.count_of-lowered, Owners.same_triple, Removing.one_less}
use Rattle.triple_catalog.proofs.Standing.{key_stored, stored_if}

-- a triple that has an owner is stored under its key
pub key_of_stored : (st : Catalog) (r : Texts) (key : Key) (t : Triple) → IsStored st r → 0 < count_of (counts_in st r) t → HasTriple st.pool r key t → is_key st key ≡ true
key_of_stored st r key t stored some h =
    let one : (k : Key) × HasKey st r k t = key_stored st r stored t (stored_if (counts_in st r) t some) in
    subst (λ (k : Key). is_key st k ≡ true) (key_same st.pool r one.0 key t stored.lies one.1.has h) one.1.stored

-- and has one
pub some_key : (st : Catalog) (r : Texts) (t : Triple) → IsStored st r → 0 < count_of (counts_in st r) t → (key : Key) × HasTriple st.pool r key t
some_key st r t stored some =
    let one : (k : Key) × HasKey st r k t = key_stored st r stored t (stored_if (counts_in st r) t some) in
    (one.0, one.1.has)

module _ (st : Catalog) (r : Texts) (triples : List Triple) (rises : IsRising triple_cmp triples) (owned : (t : Triple) → has triple_cmp t triples ≡ true → 0 < count_of (counts_in st r) t) (i : ℕ) (d : Triple) (low : i < length triples) (now : Catalog) (s : Texts) (h : Loses st r now s (take i triples)) where
  -- the next one still has an owner
  pub next_owned : 0 < count_of (counts_in now s) (get_or triples i d)
  next_owned =
      let out = fresh triple_cmp-total triples i d low rises in
      omega (arith, h.counts (get_or triples i d), ap one_if out, owned (get_or triples i d) (has_at triple_cmp-total triples i d low))

  has_more : (q : Triple) → has triple_cmp q (take (i + 1) triples) ≡ (has triple_cmp q (take i triples) || same_triple q (get_or triples i d))
  has_more q =
      ap (has triple_cmp q) (take_more triples i d low)
      ∙ has-append triple_cmp q (take i triples) (get_or triples i d ∷ [])
      ∙ ap (λ b. has triple_cmp q (take i triples) || b) (or_none (same_triple q (get_or triples i d)))

  -- then it has one less
  pub next_lost : (key : Key) (new : Catalog) (u : Texts) → HasTriple now.pool s key (get_or triples i d) → IsStored new u → counts_in new u ≡ lowered (counts_in now s) (triple_at now.pool s key)
      → KeepsKeys now s new u → ((piece : Piece) → beside new u piece ≡ beside now s piece) → limit_of new ≡ limit_of now → Loses st r new u (take (i + 1) triples)
  next_lost key new u has_it after less keeps others limit =
      let t = get_or triples i d in
      let out = fresh triple_cmp-total triples i d low rises in
      let fewer : (q : Triple) → count_of (counts_in new u) q ≡ count_of (counts_in now s) q - one_if (same_triple q t) = λ q.
      ap (λ c. count_of c q) (less ∙ ap (lowered (counts_in now s)) (tells now.pool s key t has_it)) ∙ count_of-lowered (counts_in now s) t q in
      let is_it : (q : Triple) → same_triple q t ≡ true → (has triple_cmp q (take i triples) ≡ false) × (0 < count_of (counts_in now s) q) = λ q e.
      subst (λ (x : Triple). (has triple_cmp x (take i triples) ≡ false) × (0 < count_of (counts_in now s) x)) (sym (triple_cmp-IsAntisymmetric q t (equal _ e))) (out, next_owned) in
      record {
        stored = after;
        counts = λ q. ap (λ b. count_of (counts_in new u) q + one_if b) (has_more q) ∙ one_less (count_of (counts_in now s) q) _ _ _ (same_triple q t) (is_it q) (h.counts q) (fewer q);
        keeps = record { kept = λ k q was some. keeps.kept k q (h.keeps.kept k q was (omega (arith, fewer q, some))) some };
        beside = λ piece. others piece ∙ h.beside piece;
        limit = limit ∙ h.limit;
      }
