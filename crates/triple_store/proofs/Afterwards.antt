-- What an owner has after others came to what is left of its triples.
use Rattle.std.proofs.Common.{◌≡◌, ℕ, ◌+◌, ◌<◌, ◌≤◌, true, false, ⊎_elim, List, [], ◌∷◌, ◌++◌, length, get_or, refl, sym, ◌∙◌, ap, subst, arith, true≢false, take}
use Rattle.std.specs.List.{flat_map}
use Rattle.std.specs.FinMap as map
use Rattle.term_pool.specs.Pool.{one_if}
use Rattle.sorted_sets.specs.Rising.{IsRising, difference, has, sorted}
use Rattle.sorted_sets.proofs.{Rising.has-append, Rising.sorted_same, Rising.has-sorted, Bools.or_true}
use Rattle.rdf_term.specs.{declared.term.Term.Term, declared.triple.Triple.Triple, Order.term_cmp, Order.term_cmp-total, Order.triple_cmp}
use Rattle.rdf_term.proofs.Texts.{term_cmp-IsAntisymmetric}
use Rattle.text_region.specs.Region.{Texts}
use Rattle.slot_keys.specs.{declared.key.Key.Key, KeyCounts.MovesKeys, KeyCounts.count_beside, KeyCounts.counted_keys}
use Rattle.slot_keys.specs.Keys.{key_cmp, key_cmp-total}
use Rattle.slot_keys.proofs.{Lists.has_at, Lists.never, Lists.one_of, Lists.or_left, Searching.beside_at, Searching.beside_none}
use Rattle.triple_catalog.specs.{declared.catalog.Catalog.Catalog, Counts.Counts, Counts.Exchanges, Counts.count_of, Lines.sole}
use Rattle.triple_catalog.specs.{Moves.Removes, Moves.TakesIn, Moves.triples_at, Room.room_for, Room.terms_of, Slots.triple_at}
use Rattle.triple_catalog.specs.Stored.{AreKeysOf, HasKey, IsStored, KeepsKeys, counts_in, is_key, limit_of}
use Rattle.triple_store.specs.{declared.updates.Exchange.Exchange, declared.telling.Telling.Telling}
use Rattle.triple_store.specs.{Updates.HasExchanged, Updates.KeepsRest, Parts.StandFor, Telling.LinesIf, Telling.TellsIf}
use Rattle.triple_store.specs.Times.{AreTimesOf, ComesTo, times, triple_of_key}
use Rattle.triple_store.proofs.{Becoming.at_index, Becoming.becomes, Becoming.counted-has, Becoming.either, Counted.key_often}
use Rattle.triple_store.proofs.{Parts.room_same, Parts.stand_themselves, Parts.taken_with, Patched.no_keys}
use Rattle.triple_store.proofs.{Stocked.room_within, Stocked.term_of, Differing.tells_if}
use Rattle.triple_store.proofs.Exchanged.{are_keys, exchanged, keeps}
use Rattle.triple_catalog.proofs.{Exchanged.same_test, Live.key_same, Live.tells, Rooming.terms_among, Standing.counted_key}
use Rattle.triple_catalog.proofs.{Again.left_again, Along.along_left}
use Rattle.std.proofs.Math.Seq.{take-length}

-- keys that were met before others that stay, all of them stored in the end
pub met_stored : (new : Catalog) (u : Texts) (met stays : List Key) (all : List Triple) → AreKeysOf new u (sorted key_cmp (met ++ stays)) all → (key : Key) → has key_cmp key met ≡ true → is_key new key ≡ true
met_stored new u met stays all are key is =
    let one : (t : Triple) × HasKey new u key t × (has triple_cmp t all ≡ true) = are.each key (has-sorted key_cmp-total key (met ++ stays) ∙ (has-append key_cmp key met stays ∙ or_left _ _ is)) in
    one.1.stored

pub along_then : (st : Catalog) (r : Texts) (now : Catalog) (s : Texts) (had met stays : List Key) (done all : List Triple) → TakesIn st r now s had (met ++ stays) all → (new : Catalog) (u : Texts) (gone : List Key) → Removes now s new u gone → AreKeysOf new u (sorted key_cmp (met ++ stays)) all
    → triples_at now s met ≡ done → triples_at new u met ≡ done
along_then st r now s had met stays done all h new u gone less are along =
    along_left st r now s had (met ++ stays) all h new u gone met less (λ key is. has-append key_cmp key met stays ∙ or_left _ _ is) (met_stored new u met stays all are) ∙ along

-- where triples came before
pub again : (st : Catalog) (r : Texts) (now : Catalog) (s : Texts) (had keys : List Key) (done : List Triple) → TakesIn st r now s had keys done → (new : Catalog) (u : Texts) (gone : List Key) → Removes now s new u gone → (key : Key) (t : Triple) → HasKey st r key t → is_key new key ≡ true → HasKey new u key t
again st r now s had keys done h new u gone less key t was is = left_again now s new u gone h.stored less key t (h.kept key t was) is

-- where as many keys came as there are triples, all are done
pub whole_taken : (st : Catalog) (r : Texts) (now : Catalog) (s : Texts) (had keys : List Key) (triples : List Triple) (n : ℕ) → n ≡ length triples → TakesIn st r now s had keys (take n triples) → TakesIn st r now s had keys triples
whole_taken st r now s had keys triples n e h = subst (TakesIn st r now s had keys) (ap (λ k. take k triples) e ∙ take-length triples) h

-- ---- lists of the same triples

pub keys_stored : (st : Catalog) (r : Texts) (keys : List Key) (ts : List Triple) → AreKeysOf st r keys ts → (key : Key) → has key_cmp key keys ≡ true → is_key st key ≡ true
keys_stored st r keys ts h key there = let one : (t : Triple) × HasKey st r key t × (has triple_cmp t ts ≡ true) = h.each key there in one.1.stored

pub keys_alike : (st : Catalog) (r : Texts) (keys : List Key) (xs ys : List Triple) → ((t : Triple) → has triple_cmp t xs ≡ has triple_cmp t ys) → AreKeysOf st r keys xs → AreKeysOf st r keys ys
keys_alike st r keys xs ys same h = record {
  rising = h.rising;
  each = λ key there. let one : (t : Triple) × HasKey st r key t × (has triple_cmp t xs ≡ true) = h.each key there in (one.0, one.1, sym (same one.0) ∙ one.2);
  all = λ t there. h.all t (same t ∙ there);
}

pub exchanges_alike : (old new : Counts) (gone xs ys : List Triple) → ((t : Triple) → has triple_cmp t xs ≡ has triple_cmp t ys) → Exchanges old new gone xs → Exchanges old new gone ys
exchanges_alike old new gone xs ys same h = record { counts = λ t. h.counts t ∙ ap (λ b. count_of old t + one_if b) (same t) }

-- one list has the terms of another
terms_in : (xs ys : List Triple) → ((t : Triple) → has triple_cmp t xs ≡ true → has triple_cmp t ys ≡ true) → (x : Term) → has term_cmp x (flat_map terms_of xs) ≡ true → has term_cmp x (flat_map terms_of ys) ≡ true
terms_in xs ys into x there =
    let one : (t : Triple) × (has triple_cmp t xs ≡ true) × (has term_cmp x (terms_of t) ≡ true) = term_of xs x there in
    (terms_among ys one.0 (into one.0 one.1)).each x one.2

beside_all : (all xs ys : List Triple) → ((t : Triple) → has triple_cmp t xs ≡ has triple_cmp t ys) → (t : Triple) → has triple_cmp t (all ++ xs) ≡ true → has triple_cmp t (all ++ ys) ≡ true
beside_all all xs ys same t there = has-append triple_cmp t all ys ∙ ⊎_elim
    (λ was. or_left _ _ was)
    (λ came. or_true (has triple_cmp t all) _ (sym (same t) ∙ came))
    (one_of (has triple_cmp t all) (has triple_cmp t xs) (sym (has-append triple_cmp t all xs) ∙ there))

pub room_alike : (counts : Counts) (xs ys : List Triple) → ((t : Triple) → has triple_cmp t xs ≡ has triple_cmp t ys) → room_for counts xs ≡ room_for counts ys
room_alike counts xs ys same =
    let all = map.keys counts in
    ap length (sorted_same term_cmp-total term_cmp-IsAntisymmetric (flat_map terms_of (all ++ xs)) (flat_map terms_of (all ++ ys)) (λ x.
    same_test _ _ (terms_in (all ++ xs) (all ++ ys) (beside_all all xs ys same) x) (terms_in (all ++ ys) (all ++ xs) (beside_all all ys xs (λ t. sym (same t))) x)))

-- ---- the keys that stay

-- are among those that the owner had
pub stays_among : (keys : List Key) (counts : List ℕ) (key : Key) → has key_cmp key (counted_keys keys counts) ≡ true → has key_cmp key keys ≡ true
stays_among keys counts key h =
    let at = counted-has keys counts key h in
    subst (λ (k : Key). has key_cmp k keys ≡ true) (at.is key) (has_at key_cmp-total keys at.index key at.low)

-- and stand for their triples
pub stays_stand : (st : Catalog) (r : Texts) (keys : List Key) (counts : List ℕ) → IsStored st r → ((key : Key) → has key_cmp key keys ≡ true → is_key st key ≡ true) → StandFor st r (counted_keys keys counts) (triples_at st r (counted_keys keys counts))
stays_stand st r keys counts stored there = stand_themselves st r stored (counted_keys keys counts) (λ key is. there key (stays_among keys counts key is))

-- ---- the times

-- what is left of a key: nothing where there are no counts
left_at : (keys : List Key) (left : List ℕ) (index : ℕ) (key : Key) → IsRising key_cmp keys → (0 < length left → length left ≡ length keys) → index < length keys → ((other : Key) → get_or keys index other ≡ key) → count_beside keys left key ≡ get_or left index 0
left_at keys [] index key rises long low is = none keys
  where
    none : (ks : List Key) → count_beside ks [] key ≡ 0
    none [] = refl
    none (k ∷ ks) = refl
left_at keys (n ∷ left) index key rises long low is = beside_at keys (n ∷ left) index key rises (long (omega arith)) low is

module _ (st : Catalog) (r : Texts) (had : List Key) (left : List ℕ) (come : List Triple)
    (stored : IsStored st r) (there : (key : Key) → has key_cmp key had ≡ true → is_key st key ≡ true) (long : 0 < length left → length left ≡ length had) where
  abbrev pub kept : List Triple
  kept = triples_at st r (counted_keys had left)

  stand : StandFor st r (counted_keys had left) kept
  stand = stays_stand st r had left stored there

  module _ (new : Catalog) (u : Texts) (keys : List Key) (stored_new : IsStored new u) (keeps : KeepsKeys st r new u)
      (again : (key : Key) (t : Triple) → HasKey st r key t → is_key new key ≡ true → HasKey new u key t) where
    -- a triple that has a key now comes as many times as it is left of its key, and came
    new_beside : (before after : List Triple) → ComesTo st r had left come before after → (key : Key) (t : Triple) → HasKey new u key t → times t after ≡ count_beside had left key + times t come
    new_beside before after h key t now = ⊎_elim
        (λ old.
        let at = at_index had key old in
        let one : (t0 : Triple) × HasKey st r key t0 × (has triple_cmp t0 before ≡ true) = h.keys_of.each key old in
        let then : HasKey new u key one.0 = again key one.0 one.1 now.stored in
        let same : triple_of_key st r had at.index key ≡ t =
        ap (triple_at st.pool r) (at.is key) ∙ tells st.pool r key one.0 one.1.has ∙ sym (tells new.pool u key one.0 then.has) ∙ tells new.pool u key t now.has in
        omega (arith, left_at had left at.index key h.keys_of.rising long at.low at.is, h.counted at.index key at.low, ap (λ v. times v come) same, ap (λ v. times v after) same))
        (λ none.
        let other : has triple_cmp t before ≡ false = never (has triple_cmp t before) (λ was.
        let one : (k : Key) × HasKey st r k t × (has key_cmp k had ≡ true) = h.keys_of.all t was in
        let then : HasKey new u one.0 t = keeps.kept one.0 t one.1 (counted_key new u stored_new key t now) in
        let same : one.0 ≡ key = key_same new.pool u one.0 key t stored_new.lies then.has now.has in
        let there : has key_cmp key had ≡ true = subst (λ (k : Key). has key_cmp k had ≡ true) same one.2 in
        true≢false (sym there ∙ none)) in
        omega (arith, beside_none had left key none, h.others t other))
        (either (has key_cmp key had))

    -- so each key has the times of its triple
    times_after : (before after : List Triple) → ComesTo st r had left come before after → AreKeysOf new u keys after
        → (added : List ℕ) (met : List Key) → MovesKeys had left keys added met → ((key : Key) → has key_cmp key met ≡ true → is_key new key ≡ true) → triples_at new u met ≡ come → AreTimesOf new u keys added after
    times_after before after h are added met more all_met along = record {
      keys_of = are;
      as_many = more.as_many;
      counted = λ index other low.
          let key = get_or keys index other in
          let one : (t : Triple) × HasKey new u key t × (has triple_cmp t after ≡ true) = are.each key (has_at key_cmp-total keys index other low) in
          let same : triple_of_key new u keys index other ≡ one.0 = tells new.pool u key one.0 one.1.has in
          omega (
            arith,
            more.counted index other low,
            key_often new u stored_new keys met come (keys_stored new u keys after are) all_met along index other low,
            new_beside before after h key one.0 one.1,
            ap (λ v. times v come) same,
            ap (λ v. times v after) same,
          );
    }

  abbrev pub all_keys : List Key → List Key
  all_keys met = sorted key_cmp (met ++ counted_keys had left)

  module _ (now : Catalog) (s : Texts) (met : List Key) (takes : TakesIn st r now s had met come) where
    -- what came and what stays are taken in together
    pub taken : TakesIn st r now s had (met ++ counted_keys had left) (kept ++ come)
    taken = taken_with st r now s had met (counted_keys had left) kept come stored (stays_among had left) stand takes

    pub exchange_done : (new : Catalog) (u : Texts) → Removes now s new u (difference key_cmp had (all_keys met)) → (telling : Telling) (done : Exchange) → done.keys.rising.items ≡ all_keys met
        → LinesIf telling (sorted triple_cmp (triples_at now s (sole now (all_keys met) had))) (sorted triple_cmp (triples_at now s (sole now had (all_keys met)))) done.change
        → (0 < length done.times.items → MovesKeys had left done.keys.rising.items done.times.items met)
        → triples_at now s met ≡ come
        → (before after : List Triple) → ComesTo st r had left come before after → HasExchanged telling (record { catalog = st; texts = r }) (record { catalog = new; texts = u }) before after done
    exchange_done new u less telling done keys lines moves along before after h =
        let beside = met ++ counted_keys had left in
        let same : (t : Triple) → has triple_cmp t (kept ++ come) ≡ has triple_cmp t after = becomes st r had left come before after h in
        let all : AreKeysOf new u (all_keys met) (kept ++ come) = are_keys st r now s had beside (kept ++ come) stored there taken new u less in
        let are : AreKeysOf new u done.keys.rising.items after = keys_alike new u done.keys.rising.items (kept ++ come) after same (subst (λ (ks : List Key). AreKeysOf new u ks (kept ++ come)) (sym keys) all) in
        record {
          counts = exchanges_alike (counts_in st r) (counts_in new u) before (kept ++ come) after same (exchanged st r now s had beside (kept ++ come) stored there taken new u less before h.keys_of);
          told = tells_if st r now s had beside (kept ++ come) stored there taken new u less telling done.change lines;
          keys = are;
          times = λ some. times_after new u done.keys.rising.items less.stored (keeps st r now s had beside (kept ++ come) stored there taken new u _ less) (again st r now s had beside (kept ++ come) taken new u _ less) before after h are done.times.items met (moves some)
              (met_stored new u met (counted_keys had left) (kept ++ come) all) (along_then st r now s had met (counted_keys had left) come (kept ++ come) taken new u _ less all along);
          within = subst (λ (n : ℕ). n ≤ limit_of st) (sym (room_same st r (counted_keys had left) kept come stored stand) ∙ room_alike (counts_in st r) (kept ++ come) after same) (room_within st r now s had met come stored takes);
        }

  -- or there is no room for what the owner would have
  pub exchange_full : limit_of st < room_for (counts_in st r) come → (before after : List Triple) → ComesTo st r had left come before after → limit_of st < room_for (counts_in st r) after
  exchange_full full before after h =
      subst (λ (n : ℕ). limit_of st < n) (sym (room_same st r (counted_keys had left) kept come stored stand) ∙ room_alike (counts_in st r) (kept ++ come) after (becomes st r had left come before after h)) full

-- what came before something went, or was taken back, leaves the rest
pub rest_after : (st : Catalog) (r : Texts) (now : Catalog) (s : Texts) (had keys : List Key) (done : List Triple) → IsStored st r → ((key : Key) → has key_cmp key had ≡ true → is_key st key ≡ true) → TakesIn st r now s had keys done
    → (new : Catalog) (u : Texts) (gone : List Key) → Removes now s new u gone → KeepsRest (record { catalog = st; texts = r }) (record { catalog = new; texts = u })
rest_after st r now s had keys done stored there takes new u gone less = record {
  keeps = keeps st r now s had keys done stored there takes new u gone less;
  beside = λ piece. less.beside piece ∙ takes.beside piece;
  limit = less.limit ∙ takes.limit;
  sound = less.stored;
}

-- ---- nothing is left, and nothing comes

none_counted : (keys : List Key) → counted_keys keys [] ≡ []
none_counted [] = refl
none_counted (k ∷ keys) = refl

nothing_after : (st : Catalog) (r : Texts) (keys : List Key) (before after : List Triple) → ComesTo st r keys [] [] before after → (t : Triple) → has triple_cmp t [] ≡ has triple_cmp t after
nothing_after st r keys before after h t = ap (λ (ks : List Key). has triple_cmp t (triples_at st r ks ++ [])) (sym (none_counted keys)) ∙ becomes st r keys [] [] before after h t

pub none_done : (st : Catalog) (r : Texts) (new : Catalog) (u : Texts) (had : List Key) (telling : Telling) (done : Exchange)
    → ((old : List Triple) → AreKeysOf st r had old → Exchanges (counts_in st r) (counts_in new u) old [])
    → TellsIf telling (counts_in st r) (counts_in new u) done.change
    → done.keys.rising.items ≡ []
    → done.times.items ≡ []
    → room_for (counts_in st r) [] ≤ limit_of st
    → (before after : List Triple) → ComesTo st r had [] [] before after → HasExchanged telling (record { catalog = st; texts = r }) (record { catalog = new; texts = u }) before after done
none_done st r new u had telling done ok told none_keys none_times within before after h =
    let same = nothing_after st r had before after h in
    let none : AreKeysOf new u [] [] = no_keys new u in
    record {
      counts = exchanges_alike (counts_in st r) (counts_in new u) before [] after same (ok before h.keys_of);
      told = told;
      keys = keys_alike new u done.keys.rising.items [] after same (subst (λ (ks : List Key). AreKeysOf new u ks []) (sym none_keys) none);
      times = λ some. absurd (omega (arith, some, ap length none_times));
      within = subst (λ (n : ℕ). n ≤ limit_of st) (room_alike (counts_in st r) [] after same) within;
    }
