-- The store of a graph stays in step where the keys of an entity are set or taken out.
use Rattle.std.proofs.Common.{◌≡◌, ◌⊎◌, inl, inr, ◌+◌, ◌<◌, Bool, true, false, cond, List, [], ◌∷◌, Option, None, Some, option_map, refl, sym, ◌∙◌, ap, subst, true≢false, ⊎_elim, arith}
use Rattle.std.specs.Prelude.{map as mapped}
use Rattle.std.specs.FinMap as map
use Rattle.std.specs.{FinMap.find, Cmp.eq_by_cmp_equiv, Ordering.eq_by_cmp}
use Rattle.sorted_sets.specs.{Counting.one_if, Rising.has, Rising.sorted}
use Rattle.sorted_sets.proofs.Rising.{IsRising-sorted, has-sorted, sorted_rising, sorted_same}
use Rattle.rdf_term.specs.{declared.triple.Triple.Triple, Order.triple_cmp, Order.triple_cmp-total}
use Rattle.rdf_term.proofs.Texts.{triple_cmp-IsAntisymmetric}
use Rattle.entity_model.specs.{declared.id.EntityId.EntityId, EntityId.entity_cmp, EntityId.entity_cmp_total, EntityId.entity_cmp_same}
use Rattle.slot_keys.specs.{declared.key.Key.Key, Keys.key_cmp, declared.keys.Keys.Keys}
use Rattle.triple_store.specs.{Counts.Counts, Counts.Exchanges, Counts.count_of, Moves.triples_at, Slots.triple_at}
use Rattle.triple_store.specs.StoreState.{AreKeysOf, HasKey, IsSound, KeepsKeys, StoreState, counts_in}
use Rattle.triple_store.specs.Updates.{AreStored}
use Rattle.triple_store.proofs.{Live.tells, Standing.has-triples_at, Standing.triples_at-has}
use Rattle.subgraph.specs.{Entries.Sets, Entries.owners_of, Graph.IsInStep, Graph.keys_at, Graph.meant, Graph.rising_keys, Graph.sets_in}
use Rattle.subgraph.proofs.Owning.{alike, has_owner, id_tells, owners-insert, owners-remove, part}

-- ---- the sets of entities by their keys

module _ (s : StoreState) where
  changed : (b : Bool) (keys : Keys) (o : Option Keys) → cond b (Some (meant s keys)) (option_map (meant s) o) ≡ option_map (meant s) (cond b (Some keys) o)
  changed true keys o = refl
  changed false keys o = refl

  find_set : (owned : List (EntityId × Keys)) (x : EntityId) → find entity_cmp x (mapped (λ e. (e.0, meant s e.1)) owned) ≡ option_map (meant s) (keys_at owned x)
  find_set [] x = refl
  find_set (e ∷ es) x = ap (cond (eq_by_cmp entity_cmp x e.0) (Some (meant s e.1))) (find_set es x) ∙ changed (eq_by_cmp entity_cmp x e.0) e.1 (keys_at es x)

  -- the set of an entity is what its keys stand for
  pub get_set : (owned : List (EntityId × Keys)) (x : EntityId) → map.get (sets_in s owned) x ≡ option_map (meant s) (keys_at owned x)
  get_set owned x = map.get-from_entries entity_cmp_total (mapped (λ e. (e.0, meant s e.1)) owned) x ∙ find_set owned x

  -- keys that are those of triples stand for them
  pub keys_mean : (keys : Keys) (ts : List Triple) → AreKeysOf s keys.rising.items ts → meant s keys ≡ sorted triple_cmp ts
  keys_mean keys ts h =
      let m : Key → Triple = triple_at s.catalog.pool s.texts in
      sorted_same triple_cmp-total triple_cmp-IsAntisymmetric (triples_at s.catalog s.texts keys.rising.items) ts (λ t. alike _ _
      (λ there.
      let one : (key : Key) × (has key_cmp key keys.rising.items ≡ true) × (m key ≡ t) = triples_at-has m keys.rising.items t there in
      let two : (u : Triple) × HasKey s one.0 u × (has triple_cmp u ts ≡ true) = h.each one.0 one.1 in
      let same : two.0 ≡ t = sym (tells s.catalog.pool s.texts one.0 two.0 two.1.has) ∙ one.2 in
      subst (λ (u : Triple). has triple_cmp u ts ≡ true) same two.2)
      (λ there.
      let one : (key : Key) × HasKey s key t × (has key_cmp key keys.rising.items ≡ true) = h.all t there in
      let same : m one.0 ≡ t = tells s.catalog.pool s.texts one.0 t one.1.has in
      subst (λ (u : Triple). has triple_cmp u (mapped m keys.rising.items) ≡ true) same (has-triples_at m keys.rising.items one.0 one.2)))

  -- no keys are those of no triples
  no_keys : AreKeysOf s [] []
  no_keys = record { rising = tt; each = λ key there. absurd (true≢false (sym there)); all = λ t there. absurd (true≢false (sym there)) }

  -- the triples of an entity with these keys, if it has some
  abbrev pub had : Option Keys → List Triple
  had None = []
  had (Some keys) = meant s keys

  pub had_keys : (owned : List (EntityId × Keys)) (x : EntityId) → IsInStep s owned → AreKeysOf s (rising_keys (keys_at owned x)) (had (keys_at owned x))
  had_keys owned x h = by (keys_at owned x) refl
    where
      by : (o : Option Keys) → keys_at owned x ≡ o → AreKeysOf s (rising_keys o) (had o)
      by None is = no_keys
      by (Some keys) is = h.keyed x keys is

  had_part : (x : EntityId) (o : Option Keys) (t : Triple) → part (λ (e : EntityId × List Triple). e.1) t x (option_map (meant s) o) ≡ one_if (has triple_cmp t (had o))
  had_part x None t = refl
  had_part x (Some keys) t = refl

  -- what the set of an entity adds to the owners of a triple
  pub set_part : (owned : List (EntityId × Keys)) (x : EntityId) (t : Triple) → part (λ (e : EntityId × List Triple). e.1) t x (map.get (sets_in s owned) x) ≡ one_if (has triple_cmp t (had (keys_at owned x)))
  set_part owned x t = ap (part (λ (e : EntityId × List Triple). e.1) t x) (get_set owned x) ∙ had_part x (keys_at owned x) t

  -- the keys of an entity are those of stored triples
  pub are_stored : (owned : List (EntityId × Keys)) (x : EntityId) (keys : List Key) → IsInStep s owned → keys ≡ rising_keys (keys_at owned x) → AreStored s keys
  are_stored owned x keys h is = subst (AreStored s) (sym is) (record {
    rising = (had_keys owned x h).rising;
    there = λ key there.
        let one : (t : Triple) × HasKey s key t × (has triple_cmp t (had (keys_at owned x)) ≡ true) = (had_keys owned x h).each key there in
        one.1.stored;
  })

-- ---- other sets, by other keys in another store

module _ (s s2 : StoreState) (owned owned2 : List (EntityId × Keys)) (sets : Sets) where
  -- an entity has the keys that it had, and its set
  pub record Stayed (y : EntityId) : Type 0 where
    pub keys_are : keys_at owned2 y ≡ keys_at owned y
    pub set_is : map.get sets y ≡ map.get (sets_in s owned) y

  -- the set of an entity is that of its keys in the other store
  pub record Came (y : EntityId) : Type 0 where
    pub set_is : map.get sets y ≡ option_map (meant s2) (keys_at owned2 y)
    pub keyed : (keys : Keys) → keys_at owned2 y ≡ Some keys → AreKeysOf s2 keys.rising.items (meant s2 keys)

module _ (s s2 : StoreState) (owned owned2 : List (EntityId × Keys)) (sets : Sets) (h : IsInStep s owned) (sound : IsSound s2) (keeps : KeepsKeys s s2)
    (counted : (t : Triple) → count_of (counts_in s2) t ≡ owners_of sets t) (each : (y : EntityId) → Stayed s s2 owned owned2 sets y ⊎ Came s s2 owned owned2 sets y) where
  set_stays : (y : EntityId) (keys : Keys) → Stayed s s2 owned owned2 sets y → keys_at owned y ≡ Some keys → AreKeysOf s2 keys.rising.items (meant s keys)
  set_stays y keys stayed is =
      let was : AreKeysOf s keys.rising.items (meant s keys) = h.keyed y keys is in
      let set : map.get sets y ≡ Some (meant s keys) = stayed.set_is ∙ get_set s owned y ∙ ap (option_map (meant s)) is in
      let stored : (t : Triple) → has triple_cmp t (meant s keys) ≡ true → 0 < count_of (counts_in s2) t =
      λ t there. subst (λ n. 0 < n) (sym (counted t)) (has_owner (λ (e : EntityId × List Triple). e.1) sets y (meant s keys) t set there) in
      record {
        rising = was.rising;
        each = λ key there.
            let one : (t : Triple) × HasKey s key t × (has triple_cmp t (meant s keys) ≡ true) = was.each key there in
            (one.0, keeps.kept key one.0 one.1 (stored one.0 one.2), one.2);
        all = λ t there.
            let one : (key : Key) × HasKey s key t × (has key_cmp key keys.rising.items ≡ true) = was.all t there in
            (one.0, keeps.kept one.0 t one.1 (stored t there), one.2);
      }

  meant_still : (y : EntityId) (keys : Keys) → Stayed s s2 owned owned2 sets y → keys_at owned y ≡ Some keys → meant s2 keys ≡ meant s keys
  meant_still y keys stayed is =
      keys_mean s2 keys (meant s keys) (set_stays y keys stayed is)
      ∙ sorted_rising triple_cmp-total triple_cmp-IsAntisymmetric (meant s keys) (IsRising-sorted triple_cmp-total (triples_at s.catalog s.texts keys.rising.items))

  still : (y : EntityId) (o : Option Keys) → Stayed s s2 owned owned2 sets y → keys_at owned y ≡ o → option_map (meant s2) o ≡ option_map (meant s) o
  still y None stayed is = refl
  still y (Some keys) stayed is = ap (λ ts. Some ts) (meant_still y keys stayed is)

  -- the sets in the other store are these
  pub sets_are : sets_in s2 owned2 ≡ sets
  sets_are = map.same_map entity_cmp_total entity_cmp_same _ _ (λ y. get_set s2 owned2 y ∙ ⊎_elim
      (λ stayed. ap (option_map (meant s2)) stayed.keys_are ∙ still y (keys_at owned y) stayed refl ∙ sym (get_set s owned y) ∙ sym stayed.set_is)
      (λ came. sym came.set_is)
      (each y))

  pub in_step : IsInStep s2 owned2
  in_step = record {
    sound = sound;
    counted = λ t. counted t ∙ ap (λ (m : Sets). owners_of m t) (sym sets_are);
    keyed = λ y keys is. ⊎_elim
        (λ stayed.
        let was : keys_at owned y ≡ Some keys = sym stayed.keys_are ∙ is in
        subst (λ (ts : List Triple). AreKeysOf s2 keys.rising.items ts) (sym (meant_still y keys stayed was)) (set_stays y keys stayed was))
        (λ came. came.keyed keys is)
        (each y);
  }

-- ---- keys are set

alike_other : (x y : EntityId) → eq_by_cmp entity_cmp x y ≡ eq_by_cmp entity_cmp y x
alike_other x y = (eq_by_cmp_equiv entity_cmp_total).symm x y

module _ (s s2 : StoreState) (owned owned2 : List (EntityId × Keys)) (x : EntityId) (keys : Keys) (ts : List Triple) (gone : List Key) (h : IsInStep s owned)
    (updates : (y : EntityId) → keys_at owned2 y ≡ cond (eq_by_cmp entity_cmp x y) (Some keys) (keys_at owned y))
    (gone_is : gone ≡ rising_keys (keys_at owned x))
    (exchanged : (triples : List Triple) → AreKeysOf s gone triples → Exchanges (counts_in s) (counts_in s2) triples ts)
    (now_keyed : AreKeysOf s2 keys.rising.items ts) (sound : IsSound s2) (keeps : KeepsKeys s s2) where
  abbrev set_sets : Sets
  set_sets = map.insert (sets_in s owned) x (sorted triple_cmp ts)

  set_counted : (t : Triple) → count_of (counts_in s2) t ≡ owners_of (map.insert (sets_in s owned) x (sorted triple_cmp ts)) t
  set_counted t =
      let keyed : AreKeysOf s gone (had s (keys_at owned x)) = subst (λ (ks : List Key). AreKeysOf s ks (had s (keys_at owned x))) (sym gone_is) (had_keys s owned x h) in
      let moved : count_of (counts_in s2) t + one_if (has triple_cmp t (had s (keys_at owned x))) ≡ count_of (counts_in s) t + one_if (has triple_cmp t ts) = (exchanged (had s (keys_at owned x)) keyed).counts t in
      let put : owners_of (map.insert (sets_in s owned) x (sorted triple_cmp ts)) t + part (λ (e : EntityId × List Triple). e.1) t x (map.get (sets_in s owned) x) ≡ owners_of (sets_in s owned) t + one_if (has triple_cmp t (sorted triple_cmp ts)) =
      owners-insert (λ (e : EntityId × List Triple). e.1) (sets_in s owned) x (sorted triple_cmp ts) t in
      let before : part (λ (e : EntityId × List Triple). e.1) t x (map.get (sets_in s owned) x) ≡ one_if (has triple_cmp t (had s (keys_at owned x))) = set_part s owned x t in
      let new : one_if (has triple_cmp t (sorted triple_cmp ts)) ≡ one_if (has triple_cmp t ts) = ap one_if (has-sorted triple_cmp-total t ts) in
      let counts : count_of (counts_in s) t ≡ owners_of (sets_in s owned) t = h.counted t in
      omega (arith, moved, put, before, new, counts)

  set_each : (y : EntityId) → Stayed s s2 owned owned2 set_sets y ⊎ Came s s2 owned owned2 set_sets y
  set_each y = ⊎_elim
      (λ own. inr (record {
        set_is =
            map.get-insert entity_cmp_total (sets_in s owned) x (sorted triple_cmp ts) y
            ∙ ap (λ b. cond b (Some (sorted triple_cmp ts)) (map.get (sets_in s owned) y)) own.0
            ∙ ap (λ us. Some us) (sym (keys_mean s2 keys ts now_keyed))
            ∙ ap (option_map (meant s2)) (sym (own_keys y own.0));
        keyed = λ ks is.
            let same : ks ≡ keys = inside (sym is ∙ own_keys y own.0) in
            subst (λ (k : Keys). AreKeysOf s2 k.rising.items (meant s2 k)) (sym same)
            (subst (λ (us : List Triple). AreKeysOf s2 keys.rising.items us) (sym (keys_mean s2 keys ts now_keyed)) sorted_keyed);
      }))
      (λ other. inl (record {
        keys_are = updates y ∙ ap (λ b. cond b (Some keys) (keys_at owned y)) (alike_other x y ∙ other.0);
        set_is =
            map.get-insert entity_cmp_total (sets_in s owned) x (sorted triple_cmp ts) y
            ∙ ap (λ b. cond b (Some (sorted triple_cmp ts)) (map.get (sets_in s owned) y)) other.0;
      }))
      (id_tells y x)
    where
      inside : {a b : Keys} → Some a ≡ Some b → a ≡ b
      inside e = cc

      own_keys : (y : EntityId) → eq_by_cmp entity_cmp y x ≡ true → keys_at owned2 y ≡ Some keys
      own_keys y own = updates y ∙ ap (λ b. cond b (Some keys) (keys_at owned y)) (alike_other x y ∙ own)

      sorted_keyed : AreKeysOf s2 keys.rising.items (sorted triple_cmp ts)
      sorted_keyed = record {
        rising = now_keyed.rising;
        each = λ key there.
            let one : (t : Triple) × HasKey s2 key t × (has triple_cmp t ts ≡ true) = now_keyed.each key there in
            (one.0, one.1, has-sorted triple_cmp-total one.0 ts ∙ one.2);
        all = λ t there. now_keyed.all t (sym (has-sorted triple_cmp-total t ts) ∙ there);
      }

  pub sets_set : sets_in s2 owned2 ≡ map.insert (sets_in s owned) x (sorted triple_cmp ts)
  sets_set = sets_are s s2 owned owned2 set_sets h sound keeps set_counted set_each

  pub step_set : IsInStep s2 owned2
  step_set = in_step s s2 owned owned2 set_sets h sound keeps set_counted set_each

-- ---- keys are taken out

module _ (s s2 : StoreState) (owned owned2 : List (EntityId × Keys)) (x : EntityId) (h : IsInStep s owned)
    (updates : (y : EntityId) → keys_at owned2 y ≡ cond (eq_by_cmp entity_cmp x y) None (keys_at owned y)) (sound : IsSound s2) (keeps : KeepsKeys s s2)
    (counted : (t : Triple) → count_of (counts_in s2) t ≡ owners_of (map.remove (sets_in s owned) x) t) where
  abbrev left_sets : Sets
  left_sets = map.remove (sets_in s owned) x

  left_each : (y : EntityId) → Stayed s s2 owned owned2 left_sets y ⊎ Came s s2 owned owned2 left_sets y
  left_each y = ⊎_elim
      (λ own.
      let none : keys_at owned2 y ≡ None = updates y ∙ ap (λ b. cond b None (keys_at owned y)) (alike_other x y ∙ own.0) in
      inr (record {
        set_is =
            map.get-remove entity_cmp_total (sets_in s owned) x y
            ∙ ap (λ b. cond b None (map.get (sets_in s owned) y)) own.0
            ∙ ap (option_map (meant s2)) (sym none);
        keyed = λ ks is. absurd (nothing ks (sym none ∙ is));
      }))
      (λ other. inl (record {
        keys_are = updates y ∙ ap (λ b. cond b None (keys_at owned y)) (alike_other x y ∙ other.0);
        set_is =
            map.get-remove entity_cmp_total (sets_in s owned) x y
            ∙ ap (λ b. cond b None (map.get (sets_in s owned) y)) other.0;
      }))
      (id_tells y x)
    where
      nothing : (ks : Keys) → ◌≡◌ {A = Option Keys} None (Some ks) → ⊥
      nothing ks e = cc

  pub sets_left : sets_in s2 owned2 ≡ map.remove (sets_in s owned) x
  sets_left = sets_are s s2 owned owned2 left_sets h sound keeps counted left_each

  pub step_left : IsInStep s2 owned2
  step_left = in_step s s2 owned owned2 left_sets h sound keeps counted left_each

-- a release of an entity's keys
pub left_counted : (s s2 : StoreState) (owned : List (EntityId × Keys)) (x : EntityId) (keys : Keys) → IsInStep s owned → keys_at owned x ≡ Some keys
    → ((triples : List Triple) → AreKeysOf s keys.rising.items triples → Exchanges (counts_in s) (counts_in s2) triples [])
    → (t : Triple) → count_of (counts_in s2) t ≡ owners_of (map.remove (sets_in s owned) x) t
left_counted s s2 owned x keys h is released t =
    let moved : count_of (counts_in s2) t + one_if (has triple_cmp t (meant s keys)) ≡ count_of (counts_in s) t + 0 = (released (meant s keys) (h.keyed x keys is)).counts t in
    let set : map.get (sets_in s owned) x ≡ Some (meant s keys) = get_set s owned x ∙ ap (option_map (meant s)) is in
    let left : owners_of (map.remove (sets_in s owned) x) t + one_if (has triple_cmp t (meant s keys)) ≡ owners_of (sets_in s owned) t =
    owners-remove (λ (e : EntityId × List Triple). e.1) (sets_in s owned) x (meant s keys) t set in
    let counts : count_of (counts_in s) t ≡ owners_of (sets_in s owned) t = h.counted t in
    omega (arith, moved, left, counts)

-- an entity without keys
pub none_counted : (s : StoreState) (owned : List (EntityId × Keys)) (x : EntityId) → IsInStep s owned → keys_at owned x ≡ None
    → (t : Triple) → count_of (counts_in s) t ≡ owners_of (map.remove (sets_in s owned) x) t
none_counted s owned x h none t = h.counted t ∙ ap (λ (m : Sets). owners_of m t) same
  where
    set : map.get (sets_in s owned) x ≡ None
    set = get_set s owned x ∙ ap (option_map (meant s)) none

    same : sets_in s owned ≡ map.remove (sets_in s owned) x
    same = map.same_map entity_cmp_total entity_cmp_same _ _ (λ y. sym (map.get-remove entity_cmp_total (sets_in s owned) x y ∙ ⊎_elim
        (λ own. ap (λ b. cond b None (map.get (sets_in s owned) y)) own.0 ∙ sym (ap (map.get (sets_in s owned)) own.1 ∙ set))
        (λ other. ap (λ b. cond b None (map.get (sets_in s owned) y)) other.0)
        (id_tells y x)))

-- ---- a fault changes nothing

module _ (s s2 : StoreState) (owned : List (EntityId × Keys)) (h : IsInStep s owned) (sound : IsSound s2) (keeps : KeepsKeys s s2) (same : counts_in s2 ≡ counts_in s) where
  same_counted : (t : Triple) → count_of (counts_in s2) t ≡ owners_of (sets_in s owned) t
  same_counted t = ap (λ (c : Counts). count_of c t) same ∙ h.counted t

  same_each : (y : EntityId) → Stayed s s2 owned owned (sets_in s owned) y ⊎ Came s s2 owned owned (sets_in s owned) y
  same_each y = inl (record { keys_are = refl; set_is = refl })

  pub sets_same : sets_in s2 owned ≡ sets_in s owned
  sets_same = sets_are s s2 owned owned (sets_in s owned) h sound keeps same_counted same_each

  pub step_same : IsInStep s2 owned
  step_same = in_step s s2 owned owned (sets_in s owned) h sound keeps same_counted same_each
