-- What came and what is gone are the triples of keys with one owner, while the triples of both are stored.
use Rattle.std.proofs.Common.{◌≡◌, ℕ, ◌+◌, ◌==◌, Bool, true, false, not, ◌&&◌, List, [], nat_lt, sym, ◌∙◌, ap, subst, arith, lt-ltb, ltb-true, true≢false, refl}
use Rattle.std.specs.FinMap as map
use Rattle.std.proofs.lemmas.Bool.Decides.{nat_tests}
use Rattle.sorted_sets.specs.Rising.{has, difference, sorted}
use Rattle.sorted_sets.proofs.{Bools.and_left, Bools.and_right, Filtering.has-difference, Filtering.has-filter, Filtering.IsRising-filter}
use Rattle.sorted_sets.proofs.Rising.{IsRising-sorted, has-sorted, same_rising}
use Rattle.rdf_term.specs.{declared.triple.Triple.Triple, Order.triple_cmp, Order.triple_cmp-total}
use Rattle.rdf_term.proofs.Texts.{triple_cmp-IsAntisymmetric}
use Rattle.text_region.specs.Region.{Texts}
use Rattle.term_pool.specs.Pool.{one_if}
use Rattle.slot_keys.specs.{declared.key.Key.Key, Keys.key_cmp, Keys.key_cmp-total, Keys.key_cmp-IsAntisymmetric}
use Rattle.slot_keys.proofs.Keyed.{has_key, keys_rising}
use Rattle.slot_index.specs.Counts as keyed
use Rattle.triple_catalog.specs.{declared.catalog.Catalog.Catalog, Counts.Counts, Counts.HaveOwners, Counts.count_of}
use Rattle.triple_catalog.specs.{Moves.Removes, Moves.TakesIn, Moves.triples_at, Slots.triple_at}
use Rattle.triple_catalog.specs.{Stored.IsStored, Stored.counts_in, Stored.is_key, Lines.AreLinesOf, Lines.sole}
use Rattle.triple_store.specs.{Telling.IsChange, Telling.LinesIf, Telling.TellsIf, Telling.is_some_change, declared.telling.Change.Change, declared.telling.Told.Told}
use Rattle.triple_store.specs.declared.telling.Telling.{Telling}
use Rattle.triple_store.specs.declared.telling.Telling.TheVariants.{Nothing, Whether, Change as TheChange}
use Rattle.triple_store.specs.declared.telling.Told.TheVariants.{Nothing as NothingTold, Whether as ToldWhether, Change as ToldChange}
use Rattle.triple_store.proofs.Exchanged.{gone_then, had_triples, had_there, keys_triples, keys_there, triples_at-difference}
use Rattle.triple_catalog.proofs.{Exchanged.same_test, Live.count_image}
use Rattle.triple_catalog.proofs.Standing.{has-triples_at, triples_at-has, owned, stored_if, stored_key}
use Rattle.triple_catalog.proofs.Storing.{live_stored}

-- no triple is taken yet
pub none_taken : (st : Catalog) (r : Texts) (had : List Key) → IsStored st r → TakesIn st r st r had [] []
none_taken st r had stored = record {
  stored = stored;
  each = λ key h. absurd (true≢false (sym h));
  all = λ t h. absurd (true≢false (sym h));
  counts = λ t. omega arith;
  kept = λ key t h. h;
  beside = λ piece. refl;
  limit = refl;
}

-- ---- one triple

-- a triple is stored where it has an owner
stored_test : (counts : Counts) (t : Triple) → HaveOwners counts → has triple_cmp t (map.keys counts) ≡ nat_lt 0 (count_of counts t)
stored_test counts t own = has_key counts t ∙ same_test (map.contains_key counts t) (nat_lt 0 (count_of counts t)) (λ there. lt-ltb 0 (count_of counts t) (own t there)) (λ some. stored_if counts t (ltb-true 0 (count_of counts t) some))

both_hold : (a b : Bool) → a ≡ true → b ≡ true → (a && b) ≡ true
both_hold true b e f = f
both_hold false b e f = absurd (true≢false (sym e))

first_owner : (n : ℕ) → (n + 1 == 1) ≡ (not (nat_lt 0 n) && nat_lt 0 (n + 1))
first_owner n = grind (arith, nat_tests)

same_twice : (n : ℕ) → false ≡ (not (nat_lt 0 n) && nat_lt 0 n)
same_twice n = grind (arith, nat_tests)

less_yet : (n : ℕ) → false ≡ (not (nat_lt 0 (n + 1)) && nat_lt 0 n)
less_yet n = grind (arith, nat_tests)

-- what came has one owner once it came
came_test : (old now new : ℕ) (came gone out : Bool) → out ≡ (not came && gone) → now ≡ old + one_if (came && not gone) → new + one_if out ≡ now → ((not gone && came) && (now == 1)) ≡ (not (nat_lt 0 old) && nat_lt 0 new)
came_test old now new true true out is e f =
    let k : new ≡ old = omega (arith, e, f, ap one_if is) in
    same_twice old ∙ ap (λ n. not (nat_lt 0 old) && nat_lt 0 n) (sym k)
came_test old now new true false out is e f =
    let k : now ≡ old + 1 = omega (arith, e) in
    let l : new ≡ old + 1 = omega (arith, e, f, ap one_if is) in
    ap (λ n. n == 1) k ∙ first_owner old ∙ ap (λ n. not (nat_lt 0 old) && nat_lt 0 n) (sym l)
came_test old now new false true out is e f =
    let k : old ≡ new + 1 = omega (arith, e, f, ap one_if is) in
    less_yet new ∙ ap (λ n. not (nat_lt 0 n) && nat_lt 0 new) (sym k)
came_test old now new false false out is e f =
    let k : new ≡ old = omega (arith, e, f, ap one_if is) in
    same_twice old ∙ ap (λ n. not (nat_lt 0 old) && nat_lt 0 n) (sym k)

-- and what will be gone has one owner still
gone_test : (old now new : ℕ) (came gone out : Bool) → out ≡ (not came && gone) → now ≡ old + one_if (came && not gone) → new + one_if out ≡ now → ((not came && gone) && (now == 1)) ≡ (not (nat_lt 0 new) && nat_lt 0 old)
gone_test old now new true true out is e f =
    let k : new ≡ old = omega (arith, e, f, ap one_if is) in
    same_twice old ∙ ap (λ n. not (nat_lt 0 n) && nat_lt 0 old) (sym k)
gone_test old now new true false out is e f =
    let k : new ≡ old + 1 = omega (arith, e, f, ap one_if is) in
    less_yet old ∙ ap (λ n. not (nat_lt 0 n) && nat_lt 0 old) (sym k)
gone_test old now new false true out is e f =
    let k : now ≡ new + 1 = omega (arith, e, f, ap one_if is) in
    let l : old ≡ new + 1 = omega (arith, e, f, ap one_if is) in
    ap (λ n. n == 1) k ∙ first_owner new ∙ ap (λ n. not (nat_lt 0 new) && nat_lt 0 n) (sym l)
gone_test old now new false false out is e f =
    let k : new ≡ old = omega (arith, e, f, ap one_if is) in
    same_twice old ∙ ap (λ n. not (nat_lt 0 n) && nat_lt 0 old) (sym k)

-- ---- the triples of keys with one owner

module _ (st : Catalog) (r : Texts) (stored : IsStored st r) (keys others : List Key) (all : (k : Key) → has key_cmp k keys ≡ true → is_key st k ≡ true) where
  its_count : (k : Key) → is_key st k ≡ true → count_of (counts_in st r) (triple_at st.pool r k) ≡ keyed.count_of st.index k
  its_count k there = count_image st.pool r st.index k (triple_at st.pool r k) stored.lies (live_stored st r stored) (stored_key st r stored k there).has

  of_keys : (k : Key) → has key_cmp k (difference key_cmp keys others) ≡ true → is_key st k ≡ true
  of_keys k there = all k (and_right (not (has key_cmp k others)) (has key_cmp k keys) (sym (has-difference key_cmp-total k keys others) ∙ there))

  has_one : Key → Bool
  has_one k = keyed.count_of st.index k == 1

  pub has-sole : (t : Triple) → has triple_cmp t (sorted triple_cmp (triples_at st r (sole st keys others))) ≡ (has triple_cmp t (triples_at st r (difference key_cmp keys others)) && (count_of (counts_in st r) t == 1))
  has-sole t =
      let m = triple_at st.pool r in
      let rest = difference key_cmp keys others in
      has-sorted triple_cmp-total t (triples_at st r (sole st keys others))
      ∙ same_test (has triple_cmp t (triples_at st r (sole st keys others))) (has triple_cmp t (triples_at st r rest) && (count_of (counts_in st r) t == 1))
      (λ h.
      let one : (k : Key) × (has key_cmp k (sole st keys others) ≡ true) × (m k ≡ t) = triples_at-has m (sole st keys others) t h in
      let both : ((keyed.count_of st.index one.0 == 1) && has key_cmp one.0 rest) ≡ true = sym (has-filter key_cmp key_cmp-IsAntisymmetric (λ k. keyed.count_of st.index k == 1) one.0 rest) ∙ one.1 in
      let there = and_right (keyed.count_of st.index one.0 == 1) (has key_cmp one.0 rest) both in
      let sole_one = and_left (keyed.count_of st.index one.0 == 1) (has key_cmp one.0 rest) both in
      subst (λ (u : Triple). (has triple_cmp u (triples_at st r rest) && (count_of (counts_in st r) u == 1)) ≡ true) one.2
      (both_hold _ _ (has-triples_at m rest one.0 there) (ap (λ n. n == 1) (its_count one.0 (of_keys one.0 there)) ∙ sole_one)))
      (λ h.
      let here = and_left (has triple_cmp t (triples_at st r rest)) (count_of (counts_in st r) t == 1) h in
      let single = and_right (has triple_cmp t (triples_at st r rest)) (count_of (counts_in st r) t == 1) h in
      let one : (k : Key) × (has key_cmp k rest ≡ true) × (m k ≡ t) = triples_at-has m rest t here in
      let count : (keyed.count_of st.index one.0 == 1) ≡ true = ap (λ n. n == 1) (sym (its_count one.0 (of_keys one.0 one.1)) ∙ ap (count_of (counts_in st r)) one.2) ∙ single in
      subst (λ (u : Triple). has triple_cmp u (triples_at st r (sole st keys others)) ≡ true) one.2
      (has-triples_at m (sole st keys others) one.0 (has-filter key_cmp key_cmp-IsAntisymmetric (λ k. keyed.count_of st.index k == 1) one.0 rest ∙ both_hold _ _ count one.1)))

-- ---- what came and what is gone

module _ (st : Catalog) (r : Texts) (now : Catalog) (s : Texts) (had keys : List Key) (done : List Triple) (stored : IsStored st r) (all : (key : Key) → has key_cmp key had ≡ true → is_key st key ≡ true) (h : TakesIn st r now s had keys done) (new : Catalog) (u : Texts) (less : Removes now s new u (difference key_cmp had (sorted key_cmp keys))) where
  before : Counts
  before = counts_in st r

  -- the keys in order
  abbrev these : List Key
  these = sorted key_cmp keys

  there_had : (key : Key) → has key_cmp key had ≡ true → is_key now key ≡ true
  there_had = had_there st r now s had keys done stored all h

  there_these : (key : Key) → has key_cmp key these ≡ true → is_key now key ≡ true
  there_these = keys_there st r now s had keys done stored all h

  out : Triple → Bool
  out t = has triple_cmp t (triples_at now s (difference key_cmp had these))

  pub came_list : sorted triple_cmp (triples_at now s (sole now these had)) ≡ difference triple_cmp (map.keys (counts_in new u)) (map.keys (counts_in st r))
  came_list = same_rising triple_cmp-total triple_cmp-IsAntisymmetric _ _ (IsRising-sorted triple_cmp-total (triples_at now s (sole now these had))) (IsRising-filter triple_cmp (λ x. not (has triple_cmp x (map.keys (counts_in st r)))) _ (keys_rising (counts_in new u)))
      (λ t.
      has-sole now s h.stored these had there_these t
      ∙ ap (λ b. b && (count_of (counts_in now s) t == 1)) (triples_at-difference now s h.stored these had there_these there_had t ∙ ap (λ b. not (has triple_cmp t (triples_at now s had)) && b) (keys_triples st r now s had keys done stored all h t) ∙ ap (λ ts. not (has triple_cmp t ts) && has triple_cmp t done) (had_triples st r now s had keys done stored all h))
      ∙ came_test (count_of (counts_in st r) t) (count_of (counts_in now s) t) (count_of (counts_in new u) t) (has triple_cmp t done) (has triple_cmp t (triples_at st r had)) (has triple_cmp t (triples_at now s (difference key_cmp had these))) (gone_then st r now s had keys done stored all h new u less t) (h.counts t) (less.counts t)
      ∙ ap (λ b. not b && nat_lt 0 (count_of (counts_in new u) t)) (sym (stored_test (counts_in st r) t (owned st r stored)))
      ∙ ap (λ b. not (has triple_cmp t (map.keys (counts_in st r))) && b) (sym (stored_test (counts_in new u) t (owned new u less.stored)))
      ∙ sym (has-difference triple_cmp-total t (map.keys (counts_in new u)) (map.keys (counts_in st r))))

  pub gone_list : sorted triple_cmp (triples_at now s (sole now had these)) ≡ difference triple_cmp (map.keys (counts_in st r)) (map.keys (counts_in new u))
  gone_list = same_rising triple_cmp-total triple_cmp-IsAntisymmetric _ _ (IsRising-sorted triple_cmp-total (triples_at now s (sole now had these))) (IsRising-filter triple_cmp (λ x. not (has triple_cmp x (map.keys (counts_in new u)))) _ (keys_rising (counts_in st r)))
      (λ t.
      has-sole now s h.stored had these there_had t
      ∙ ap (λ b. b && (count_of (counts_in now s) t == 1)) (gone_then st r now s had keys done stored all h new u less t)
      ∙ gone_test (count_of (counts_in st r) t) (count_of (counts_in now s) t) (count_of (counts_in new u) t) (has triple_cmp t done) (has triple_cmp t (triples_at st r had)) (has triple_cmp t (triples_at now s (difference key_cmp had these))) (gone_then st r now s had keys done stored all h new u less t) (h.counts t) (less.counts t)
      ∙ ap (λ b. not b && nat_lt 0 (count_of (counts_in st r) t)) (sym (stored_test (counts_in new u) t (owned new u less.stored)))
      ∙ ap (λ b. not (has triple_cmp t (map.keys (counts_in new u))) && b) (sym (stored_test (counts_in st r) t (owned st r stored)))
      ∙ sym (has-difference triple_cmp-total t (map.keys (counts_in st r)) (map.keys (counts_in new u))))

  -- so lines of these tell the change
  pub is_change : (change : Change) → AreLinesOf change.came (sorted triple_cmp (triples_at now s (sole now these had))) → AreLinesOf change.gone (sorted triple_cmp (triples_at now s (sole now had these))) → IsChange (counts_in st r) (counts_in new u) change
  is_change change came gone = record { came = subst (AreLinesOf change.came) came_list came; gone = subst (AreLinesOf change.gone) gone_list gone }

  pub tells_if : (telling : Telling) (told : Told) → LinesIf telling (sorted triple_cmp (triples_at now s (sole now these had))) (sorted triple_cmp (triples_at now s (sole now had these))) told → TellsIf telling (counts_in st r) (counts_in new u) told
  tells_if TheChange (ToldChange change) lines = is_change change lines.0 lines.1
  tells_if TheChange (ToldWhether changed) lines = lines
  tells_if TheChange NothingTold lines = lines
  tells_if Whether (ToldChange change) lines = lines
  tells_if Whether (ToldWhether changed) lines = lines ∙ (λ i. is_some_change (came_list i) (gone_list i))
  tells_if Whether NothingTold lines = lines
  tells_if Nothing (ToldChange change) lines = lines
  tells_if Nothing (ToldWhether changed) lines = lines
  tells_if Nothing NothingTold lines = lines

-- where an owner's triples all go, none came
pub is_released : (st : Catalog) (r : Texts) (old : List Key) (new : Catalog) (u : Texts) → IsStored st r → ((key : Key) → has key_cmp key old ≡ true → is_key st key ≡ true) → Removes st r new u (difference key_cmp old []) → (telling : Telling) (told : Told) → LinesIf telling (sorted triple_cmp (triples_at st r (sole st [] old))) (sorted triple_cmp (triples_at st r (sole st old []))) told → TellsIf telling (counts_in st r) (counts_in new u) told
is_released st r old new u stored all less = tells_if st r st r old [] [] stored all (none_taken st r old stored) new u less
