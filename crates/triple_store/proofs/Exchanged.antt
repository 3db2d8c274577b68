-- What counts say after the triples of some keys came or went, by the triples.
use Rattle.std.proofs.Common.{◌≡◌, ℕ, ◌+◌, ◌<◌, Bool, true, false, not, ◌&&◌, List, refl, sym, ◌∙◌, ap, subst, arith, true≢false}
use Rattle.sorted_sets.specs.Rising.{has, difference, sorted}
use Rattle.sorted_sets.proofs.{Bools.and_left, Bools.and_right, Bools.clash, Filtering.has-difference}
use Rattle.sorted_sets.proofs.Rising.{IsRising-sorted, has-sorted}
use Rattle.rdf_term.specs.{declared.triple.Triple.Triple, Order.triple_cmp, Order.triple_cmp-total}
use Rattle.text_region.specs.Region.{Texts}
use Rattle.term_pool.specs.Pool.{one_if}
use Rattle.slot_keys.specs.{declared.key.Key.Key, Keys.key_cmp, Keys.key_cmp-total}
use Rattle.slot_keys.proofs.Lists.{never}
use Rattle.triple_catalog.specs.{declared.catalog.Catalog.Catalog, Counts.Exchanges, Counts.count_of, Counts.Counts, Counts.HaveOwners}
use Rattle.triple_catalog.specs.Slots.{triple_at}
use Rattle.triple_catalog.specs.Stored.{AreKeysOf, HasKey, IsStored, KeepsKeys, counts_in, is_key}
use Rattle.triple_catalog.specs.Moves.{Removes, TakesIn, triples_at}
use Rattle.triple_catalog.proofs.{Removing.apart, Live.tells}
use Rattle.triple_catalog.proofs.{Standing.counted_key, Standing.has-triples_at, Standing.triples_at-has, Standing.owned, Taking.had_key}
use Rattle.triple_catalog.proofs.Exchanged.{same_gone, mapped_alike}
pub use Rattle.triple_catalog.proofs.Exchanged.{same_test}
use Rattle.rdf_term.proofs.Texts.{triple_cmp-IsAntisymmetric}
use Rattle.slot_index.proofs.Raising as raising

pub same_counts : (m n : Counts) → HaveOwners m → HaveOwners n → ((q : Triple) → count_of m q ≡ count_of n q) → m ≡ n
same_counts = raising.same_counts triple_cmp-total triple_cmp-IsAntisymmetric

not_so : (b : Bool) → not b ≡ true → b ≡ false
not_so true e = sym e
not_so false e = refl

both_pass : (a b : Bool) → a ≡ true → b ≡ true → (a && b) ≡ true
both_pass true b e f = f
both_pass false b e f = absurd (true≢false (sym e))

-- which triples keys stand for, of which those of others are left out
module _ (st : Catalog) (r : Texts) (stored : IsStored st r) where
  pub triples_at-difference : (xs ys : List Key) → ((k : Key) → has key_cmp k xs ≡ true → is_key st k ≡ true) → ((k : Key) → has key_cmp k ys ≡ true → is_key st k ≡ true) → (t : Triple) → has triple_cmp t (triples_at st r (difference key_cmp xs ys)) ≡ (not (has triple_cmp t (triples_at st r ys)) && has triple_cmp t (triples_at st r xs))
  triples_at-difference xs ys there others t =
      let m = triple_at st.pool r in
      same_test (has triple_cmp t (triples_at st r (difference key_cmp xs ys))) (not (has triple_cmp t (triples_at st r ys)) && has triple_cmp t (triples_at st r xs))
      (λ h.
      let one : (key : Key) × (has key_cmp key (difference key_cmp xs ys) ≡ true) × (m key ≡ t) = triples_at-has m (difference key_cmp xs ys) t h in
      let both : (not (has key_cmp one.0 ys) && has key_cmp one.0 xs) ≡ true = sym (has-difference key_cmp-total one.0 xs ys) ∙ one.1 in
      let of_xs : has key_cmp one.0 xs ≡ true = and_right (not (has key_cmp one.0 ys)) (has key_cmp one.0 xs) both in
      let out : has key_cmp one.0 ys ≡ false = not_so (has key_cmp one.0 ys) (and_left (not (has key_cmp one.0 ys)) (has key_cmp one.0 xs) both) in
      subst (λ (u : Triple). (not (has triple_cmp u (triples_at st r ys)) && has triple_cmp u (triples_at st r xs)) ≡ true) one.2
      (both_pass _ _ (ap not (apart st r stored ys one.0 (there one.0 of_xs) others out)) (has-triples_at m xs one.0 of_xs)))
      (λ h.
      let of_xs : has triple_cmp t (triples_at st r xs) ≡ true = and_right (not (has triple_cmp t (triples_at st r ys))) (has triple_cmp t (triples_at st r xs)) h in
      let out : has triple_cmp t (triples_at st r ys) ≡ false = not_so (has triple_cmp t (triples_at st r ys)) (and_left (not (has triple_cmp t (triples_at st r ys))) (has triple_cmp t (triples_at st r xs)) h) in
      let one : (key : Key) × (has key_cmp key xs ≡ true) × (m key ≡ t) = triples_at-has m xs t of_xs in
      let apart_ : has key_cmp one.0 ys ≡ false = never (has key_cmp one.0 ys) (λ e. clash (subst (λ (u : Triple). has triple_cmp u (triples_at st r ys) ≡ true) one.2 (has-triples_at m ys one.0 e)) out) in
      subst (λ (u : Triple). has triple_cmp u (triples_at st r (difference key_cmp xs ys)) ≡ true) one.2
      (has-triples_at m (difference key_cmp xs ys) one.0 (has-difference key_cmp-total one.0 xs ys ∙ both_pass _ _ (ap not apart_) one.1)))

-- one owner less of what is gone alone, after one more of what came alone
balanced : (old now new : ℕ) (came gone out : Bool) → out ≡ (not came && gone) → now ≡ old + one_if (came && not gone) → new + one_if out ≡ now → new + one_if gone ≡ old + one_if came
balanced old now new true true out is e f = omega (arith, e, f, ap one_if is)
balanced old now new true false out is e f = omega (arith, e, f, ap one_if is)
balanced old now new false true out is e f = omega (arith, e, f, ap one_if is)
balanced old now new false false out is e f = omega (arith, e, f, ap one_if is)

undone : (old now new : ℕ) (came gone out : Bool) → out ≡ (not gone && came) → now ≡ old + one_if (came && not gone) → new + one_if out ≡ now → new ≡ old
undone old now new true true out is e f = omega (arith, e, f, ap one_if is)
undone old now new true false out is e f = omega (arith, e, f, ap one_if is)
undone old now new false true out is e f = omega (arith, e, f, ap one_if is)
undone old now new false false out is e f = omega (arith, e, f, ap one_if is)

lost_none : (now new : ℕ) (came gone out : Bool) → out ≡ (not came && gone) → came ≡ true → new + one_if out ≡ now → 0 < now → 0 < new
lost_none now new true gone out is e f some = omega (arith, f, ap one_if is, some)
lost_none now new false gone out is e f some = absurd (true≢false (sym e))

-- after triples came, and before others go
module _ (st : Catalog) (r : Texts) (now : Catalog) (s : Texts) (had keys : List Key) (done : List Triple) (stored : IsStored st r) (all : (key : Key) → has key_cmp key had ≡ true → is_key st key ≡ true) (h : TakesIn st r now s had keys done) where
  abbrev pub in_order : List Key
  in_order = sorted key_cmp keys

  of_keys : (key : Key) → has key_cmp key in_order ≡ true → has key_cmp key keys ≡ true
  of_keys key there = sym (has-sorted key_cmp-total key keys) ∙ there

  pub had_there : (key : Key) → has key_cmp key had ≡ true → is_key now key ≡ true
  had_there key there = (had_key st r now s had keys done stored all h key there).stored

  pub keys_there : (key : Key) → has key_cmp key in_order ≡ true → is_key now key ≡ true
  keys_there key there = let one : (t : Triple) × HasKey now s key t × (has triple_cmp t done ≡ true) = h.each key (of_keys key there) in one.1.stored

  -- the owner's keys stand for what they stood for
  pub had_triples : triples_at now s had ≡ triples_at st r had
  had_triples = mapped_alike (triple_at now.pool s) (triple_at st.pool r) had (λ k there. tells now.pool s k (triple_at st.pool r k) (had_key st r now s had keys done stored all h k there).has)

  -- and those that came for the triples that are done
  pub keys_triples : (t : Triple) → has triple_cmp t (triples_at now s in_order) ≡ has triple_cmp t done
  keys_triples t =
      let m = triple_at now.pool s in
      same_test (has triple_cmp t (triples_at now s in_order)) (has triple_cmp t done)
      (λ there.
      let one : (key : Key) × (has key_cmp key in_order ≡ true) × (m key ≡ t) = triples_at-has m in_order t there in
      let its : (u : Triple) × HasKey now s one.0 u × (has triple_cmp u done ≡ true) = h.each one.0 (of_keys one.0 one.1) in
      subst (λ (u : Triple). has triple_cmp u done ≡ true) (sym (tells now.pool s one.0 its.0 its.1.has) ∙ one.2) its.2)
      (λ there.
      let one : (key : Key) × HasKey now s key t × (has key_cmp key keys ≡ true) = h.all t there in
      subst (λ (u : Triple). has triple_cmp u (triples_at now s in_order) ≡ true) (tells now.pool s one.0 t one.1.has) (has-triples_at m in_order one.0 (has-sorted key_cmp-total one.0 keys ∙ one.2)))

  module _ (new : Catalog) (u : Texts) where
    -- what keeps its owners keeps its key
    pub keeps : (gone : List Key) → Removes now s new u gone → KeepsKeys st r new u
    keeps gone less = record { kept = λ key t was some. less.keeps.kept key t (h.kept key t was) some }

    -- the old ones that didn't come again are gone
    module _ (less : Removes now s new u (difference key_cmp had in_order)) where
      pub gone_then : (t : Triple) → has triple_cmp t (triples_at now s (difference key_cmp had in_order)) ≡ (not (has triple_cmp t done) && has triple_cmp t (triples_at st r had))
      gone_then t =
          triples_at-difference now s h.stored had in_order had_there keys_there t
          ∙ ap (λ b. not b && has triple_cmp t (triples_at now s had)) (keys_triples t)
          ∙ ap (λ ts. not (has triple_cmp t done) && has triple_cmp t ts) had_triples

      pub exchanged : (gone : List Triple) → AreKeysOf st r had gone → Exchanges (counts_in st r) (counts_in new u) gone done
      exchanged gone its = record {
        counts = λ t. ap (λ b. count_of (counts_in new u) t + one_if b) (same_gone st r had gone its t)
            ∙ balanced (count_of (counts_in st r) t) (count_of (counts_in now s) t) (count_of (counts_in new u) t) (has triple_cmp t done) (has triple_cmp t (triples_at st r had)) (has triple_cmp t (triples_at now s (difference key_cmp had in_order))) (gone_then t) (h.counts t) (less.counts t);
      }

      stands : (key : Key) (t : Triple) → HasKey now s key t → has triple_cmp t done ≡ true → HasKey new u key t
      stands key t is there = less.keeps.kept key t is (lost_none (count_of (counts_in now s) t) (count_of (counts_in new u) t) (has triple_cmp t done) (has triple_cmp t (triples_at st r had)) (has triple_cmp t (triples_at now s (difference key_cmp had in_order))) (gone_then t) there (less.counts t) (counted_key now s h.stored key t is))

      pub are_keys : AreKeysOf new u in_order done
      are_keys = record {
        rising = IsRising-sorted key_cmp-total keys;
        each = λ key there.
            let one : (t : Triple) × HasKey now s key t × (has triple_cmp t done ≡ true) = h.each key (of_keys key there) in
            (one.0, stands key one.0 one.1 one.2, one.2);
        all = λ t there.
            let one : (key : Key) × HasKey now s key t × (has key_cmp key keys ≡ true) = h.all t there in
            (one.0, stands one.0 t one.1 there, has-sorted key_cmp-total one.0 keys ∙ one.2);
      }

    -- those that were added are gone again
    module _ (less : Removes now s new u (difference key_cmp in_order had)) where
      pub undone_counts : counts_in new u ≡ counts_in st r
      undone_counts = same_counts (counts_in new u) (counts_in st r) (owned new u less.stored) (owned st r stored) (λ t.
          undone (count_of (counts_in st r) t) (count_of (counts_in now s) t) (count_of (counts_in new u) t) (has triple_cmp t done) (has triple_cmp t (triples_at st r had)) (has triple_cmp t (triples_at now s (difference key_cmp in_order had)))
          (triples_at-difference now s h.stored in_order had keys_there had_there t ∙ ap (λ b. not (has triple_cmp t (triples_at now s had)) && b) (keys_triples t) ∙ ap (λ ts. not (has triple_cmp t ts) && has triple_cmp t done) had_triples)
          (h.counts t) (less.counts t))
