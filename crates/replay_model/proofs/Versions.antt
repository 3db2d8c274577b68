-- What is held means what the version that it is mapped by says, and nothing else counts.
use Rattle.std.proofs.Common.{◌≡◌, ◌+◌, Bool, true, false, not, cond, ◌&&◌, ◌||◌, T, List, [], ◌∷◌, ◌++◌, Option, Some, None, Ordering, is_eq, is_some, count_by, flat_map, unwrap_or, refl, sym, ◌∙◌, ap, true≢false}
use Rattle.std.specs.BTreeSet.{insert_key}
use Rattle.std.specs.FinMap as map
use Rattle.std.specs.FinMap.{find}
use Rattle.std.specs.FinMap.Entries.{below_all, is_sorted}
use Rattle.std.specs.Cmp.{eq_by_cmp_equiv}
use Rattle.std.specs.Ordering.{eq_by_cmp}
use Rattle.std.specs.Set.{remove_key}
use Rattle.std.proofs.lemmas.List.Sums.{sum_by-cons}
use Rattle.sorted_sets.specs.Rising.{Each, IsRising, has, sorted}
use Rattle.sorted_sets.proofs.Bools.{equal}
use Rattle.sorted_sets.proofs.Filtering.{IsRising-filter, has-filter}
use Rattle.sorted_sets.proofs.FirstPassing.{IsRising-remove_key}
use Rattle.sorted_sets.proofs.Keys.{and_first, and_second, less, rising_keys}
use Rattle.sorted_sets.proofs.Rising.{IsRising-insert_key, has-above, has-insert_key, same_rising}
use Rattle.entity_model.specs.declared.id.EntityId.{EntityId}
use Rattle.entity_model.specs.declared.mapping.MappingVersion.{MappingVersion}
use Rattle.entity_model.specs.declared.mapping.MappingVersion.TheVariants.{One, Two}
use Rattle.entity_model.specs.EntityId.{entity_cmp, entity_cmp_same, entity_cmp_total}
use Rattle.entity_state.specs.declared.record.Held.{Held}
use Rattle.entity_state.specs.declared.record.Record.{Record}
use Rattle.entity_state.specs.Record.{blank}
use Rattle.replay_model.specs.Records.{Bytes, Records, record_of}
use Rattle.replay_model.specs.Union.{Meaning, owners, triples_at, triples_held, union}
use Rattle.replay_model.specs.Versions.{all_by, holders, is_holder, meaning_by, version_at, with_version}

-- a key below those of all entries isn't found
not_found : {X : Type 0} (k : EntityId) (es : List (EntityId × X)) → T (below_all entity_cmp k es) → find entity_cmp k es ≡ None
not_found k [] h = refl
not_found k (e ∷ es) h =
    ap (λ r. cond (is_eq r) (Some e.1) (find entity_cmp k es)) (less _ (and_first _ _ h)) ∙ not_found k es (and_second _ _ h)

-- the record among entries, blank where there is none
abbrev entry_of : List (EntityId × Record Bytes) → EntityId → Record Bytes
entry_of es x = unwrap_or (find entity_cmp x es) blank

module _ {Triple : Type 0} (m n : Meaning Triple) where
  -- what is held means the same
  abbrev AgreeIn : List (EntityId × Record Bytes) → Type 0
  AgreeIn es = (x : EntityId) → triples_held n x (entry_of es x).held ≡ triples_held m x (entry_of es x).held

  agree_later : (e : EntityId × Record Bytes) (es : List (EntityId × Record Bytes)) → T (below_all entity_cmp e.0 es) → AgreeIn (e ∷ es) → AgreeIn es
  agree_later e es below h x = by (eq_by_cmp entity_cmp x e.0) refl
    where
      by : (b : Bool) → eq_by_cmp entity_cmp x e.0 ≡ b → triples_held n x (entry_of es x).held ≡ triples_held m x (entry_of es x).held
      by true is =
          let none : entry_of es x ≡ blank = ap (λ y. entry_of es y) (entity_cmp_same x e.0 (equal _ is)) ∙ ap (λ o. unwrap_or o blank) (not_found e.0 es below) in
          ap (λ (r : Record Bytes). triples_held n x r.held) none ∙ sym (ap (λ (r : Record Bytes). triples_held m x r.held) none)
      by false isnt =
          let same : entry_of (e ∷ es) x ≡ entry_of es x = ap (λ b. unwrap_or (cond b (Some e.1) (find entity_cmp x es)) blank) isnt in
          sym (ap (λ (r : Record Bytes). triples_held n x r.held) same) ∙ h x ∙ ap (λ (r : Record Bytes). triples_held m x r.held) same

  agree_here : (e : EntityId × Record Bytes) (es : List (EntityId × Record Bytes)) → AgreeIn (e ∷ es) → triples_at n e ≡ triples_at m e
  agree_here e es h =
      let same : entry_of (e ∷ es) e.0 ≡ e.1 = ap (λ b. unwrap_or (cond b (Some e.1) (find entity_cmp e.0 es)) blank) ((eq_by_cmp_equiv entity_cmp_total).refl e.0) in
      sym (ap (λ (r : Record Bytes). triples_held n e.0 r.held) same) ∙ h e.0 ∙ ap (λ (r : Record Bytes). triples_held m e.0 r.held) same

  agree_each : (es : List (EntityId × Record Bytes)) → T (is_sorted entity_cmp es) → AgreeIn es → Each (λ e. triples_at n e ≡ triples_at m e) es
  agree_each [] sorted h = tt
  agree_each (e ∷ es) sorted h = (agree_here e es h, agree_each es (and_second _ _ sorted) (agree_later e es (and_first _ _ sorted) h))

module _ {A B : Type 0} (f g : A → List B) where
  gathered_same : (es : List A) → Each (λ e. g e ≡ f e) es → flat_map g es ≡ flat_map f es
  gathered_same [] h = refl
  gathered_same (e ∷ es) h = ap (λ xs. xs ++ flat_map g es) h.0 ∙ ap (λ xs. f e ++ xs) (gathered_same es h.1)

  counted_same : (p : List B → Bool) (es : List A) → Each (λ e. g e ≡ f e) es → count_by (λ e. p (g e)) es ≡ count_by (λ e. p (f e)) es
  counted_same p [] h = refl
  counted_same p (e ∷ es) h =
      sum_by-cons (λ e. cond (p (g e)) 1 0) e es
      ∙ ap (λ xs. cond (p xs) 1 0 + count_by (λ e. p (g e)) es) h.0
      ∙ ap (λ k. cond (p (f e)) 1 0 + k) (counted_same p es h.1)
      ∙ sym (sum_by-cons (λ e. cond (p (f e)) 1 0) e es)

module _ {Triple : Type 0} (order : Triple → Triple → Ordering) (m n : Meaning Triple) (records : Records)
    (agree : (x : EntityId) → triples_held n x (record_of records x).held ≡ triples_held m x (record_of records x).held) where
  agree_all : Each (λ e. triples_at n e ≡ triples_at m e) (map.entries records)
  agree_all = agree_each m n (map.entries records) (map.entries_sorted records) (λ x.
      let same : record_of records x ≡ entry_of (map.entries records) x = ap (λ o. unwrap_or o blank) (map.get-entries records x) in
      sym (ap (λ (r : Record Bytes). triples_held n x r.held) same) ∙ agree x ∙ ap (λ (r : Record Bytes). triples_held m x r.held) same)

  -- the union depends on what the held pages mean alone
  pub union-agree : union order n records ≡ union order m records
  union-agree = ap (sorted order) (gathered_same (triples_at m) (triples_at n) (map.entries records) agree_all)

  -- and so do the owners
  pub owners-agree : (t : Triple) → owners order n records t ≡ owners order m records t
  owners-agree t = counted_same (triples_at m) (triples_at n) (has order t) (map.entries records) agree_all

holder_there : (found : Option (Record Bytes)) → (is_some (unwrap_or found blank).held && is_some found) ≡ is_some (unwrap_or found blank).held
holder_there None = refl
holder_there (Some r) = by r.held
  where
    by : (h : Option (Held Bytes)) → (is_some h && true) ≡ is_some h
    by None = refl
    by (Some _) = refl

-- the holders are the entities that hold
pub has-holders : (records : Records) (x : EntityId) → has entity_cmp x (holders records) ≡ is_holder records x
has-holders records x =
    has-filter entity_cmp entity_cmp_same (is_holder records) x (map.keys records)
    ∙ ap (λ b. is_holder records x && b) (sym (map.contains_key-keys records x))
    ∙ holder_there (map.get records x)

-- they rise
pub holders-rise : (records : Records) → IsRising entity_cmp (holders records)
holders-rise records = IsRising-filter entity_cmp (is_holder records) (map.keys records) (rising_keys entity_cmp (map.entries records) (map.entries_sorted records))

-- where all hold by one version, each holder does
pub version-all : (v : MappingVersion) (records : Records) (x : EntityId) → is_holder records x ≡ true → version_at (all_by v records) x ≡ v
version-all One records x holds = refl
version-all Two records x holds = ap (λ b. cond b Two One) (has-holders records x ∙ holds)

module _ {Triple : Type 0} (meaning : MappingVersion → Meaning Triple) (v : MappingVersion) (records : Records) where
  held-all : (x : EntityId) → triples_held (meaning_by meaning (all_by v records)) x (record_of records x).held ≡ triples_held (meaning v) x (record_of records x).held
  held-all x = by (record_of records x).held refl
    where
      by : (h : Option (Held Bytes)) → (record_of records x).held ≡ h → triples_held (meaning_by meaning (all_by v records)) x h ≡ triples_held (meaning v) x h
      by None e = refl
      by (Some h) e = ap (λ w. meaning w x h.revision h.content) (version-all v records x (ap is_some e))

  -- then the union is that of this version's meaning
  pub union-all : (order : Triple → Triple → Ordering) → union order (meaning_by meaning (all_by v records)) records ≡ union order (meaning v) records
  union-all order = union-agree order (meaning v) (meaning_by meaning (all_by v records)) records held-all

  -- and so are the owners
  pub owners-all : (order : Triple → Triple → Ordering) (t : Triple) → owners order (meaning_by meaning (all_by v records)) records t ≡ owners order (meaning v) records t
  owners-all order t = owners-agree order (meaning v) (meaning_by meaning (all_by v records)) records held-all t

-- a rising list without an element has the others
pub has-without : (q x : EntityId) (xs : List EntityId) → IsRising entity_cmp xs → has entity_cmp q (remove_key (eq_by_cmp entity_cmp x) xs) ≡ (not (eq_by_cmp entity_cmp q x) && has entity_cmp q xs)
has-without q x [] rising = by (not (eq_by_cmp entity_cmp q x))
  where
    by : (b : Bool) → false ≡ (b && false)
    by true = refl
    by false = refl
has-without q x (y ∷ ys) rising = by (eq_by_cmp entity_cmp x y) refl (has-without q x ys rising.1)
  where
    here : (c : Bool) → eq_by_cmp entity_cmp x y ≡ true → eq_by_cmp entity_cmp q y ≡ c → has entity_cmp q ys ≡ (not (eq_by_cmp entity_cmp q x) && (c || has entity_cmp q ys))
    here true is same =
        let tie : q ≡ x = entity_cmp_same q y (equal _ same) ∙ sym (entity_cmp_same x y (equal _ is)) in
        ap (λ z. has entity_cmp z ys) (entity_cmp_same q y (equal _ same)) ∙ has-above entity_cmp y ys rising.0
        ∙ ap (λ b. not b && true) (sym (ap (λ z. eq_by_cmp entity_cmp z x) tie ∙ (eq_by_cmp_equiv entity_cmp_total).refl x))
    here false is other =
        let differs : eq_by_cmp entity_cmp q x ≡ false = ap (eq_by_cmp entity_cmp q) (entity_cmp_same x y (equal _ is)) ∙ other in
        ap (λ b. not b && has entity_cmp q ys) (sym differs)

    there : (a c : Bool) → eq_by_cmp entity_cmp x y ≡ false → eq_by_cmp entity_cmp q x ≡ a → eq_by_cmp entity_cmp q y ≡ c → (c || (not a && has entity_cmp q ys)) ≡ (not a && (c || has entity_cmp q ys))
    there true true isnt e f = absurd (true≢false (sym (ap (λ z. eq_by_cmp entity_cmp z y) (sym (entity_cmp_same q x (equal _ e))) ∙ f) ∙ isnt))
    there true false isnt e f = refl
    there false true isnt e f = refl
    there false false isnt e f = refl

    by : (b : Bool) → eq_by_cmp entity_cmp x y ≡ b
        → has entity_cmp q (remove_key (eq_by_cmp entity_cmp x) ys) ≡ (not (eq_by_cmp entity_cmp q x) && has entity_cmp q ys)
        → has entity_cmp q (cond b ys (y ∷ remove_key (eq_by_cmp entity_cmp x) ys)) ≡ (not (eq_by_cmp entity_cmp q x) && (eq_by_cmp entity_cmp q y || has entity_cmp q ys))
    by true is later = here (eq_by_cmp entity_cmp q y) is refl
    by false isnt later = ap (λ b. eq_by_cmp entity_cmp q y || b) later ∙ there (eq_by_cmp entity_cmp q x) (eq_by_cmp entity_cmp q y) isnt refl refl

-- which entities hold once a record is put in
pub holder-insert : (records : Records) (x : EntityId) (r : Record Bytes) (q : EntityId) → is_holder (map.insert records x r) q ≡ cond (eq_by_cmp entity_cmp q x) (is_some r.held) (is_holder records q)
holder-insert records x r q = ap (λ o. is_some (unwrap_or o blank).held) (map.get-insert entity_cmp_total records x r q) ∙ by (eq_by_cmp entity_cmp q x)
  where
    by : (b : Bool) → is_some (unwrap_or (cond b (Some r) (map.get records q)) blank).held ≡ cond b (is_some r.held) (is_holder records q)
    by true = refl
    by false = refl

has-put : (records : Records) (x : EntityId) (r : Record Bytes) (h : Bool) → is_some r.held ≡ h → (q : EntityId) → has entity_cmp q (holders (map.insert records x r)) ≡ cond (eq_by_cmp entity_cmp q x) h (has entity_cmp q (holders records))
has-put records x r h is q =
    has-holders (map.insert records x r) q ∙ holder-insert records x r q
    ∙ ap (λ b. cond (eq_by_cmp entity_cmp q x) b (is_holder records q)) is
    ∙ ap (cond (eq_by_cmp entity_cmp q x) h) (sym (has-holders records q))

-- the holders with one more, or the same
pub holders-put : (records : Records) (x : EntityId) (r : Record Bytes) → is_some r.held ≡ true → holders (map.insert records x r) ≡ insert_key entity_cmp (holders records) x
holders-put records x r holds =
    same_rising entity_cmp_total entity_cmp_same (holders (map.insert records x r)) (insert_key entity_cmp (holders records) x)
    (holders-rise (map.insert records x r)) (IsRising-insert_key entity_cmp_total x (holders records) (holders-rise records))
    (λ q. has-put records x r true holds q ∙ by (eq_by_cmp entity_cmp q x) (has entity_cmp q (holders records)) ∙ sym (has-insert_key entity_cmp_total q x (holders records)))
  where
    by : (a b : Bool) → cond a true b ≡ (a || b)
    by true b = refl
    by false b = refl

-- the holders without one
pub holders-drop : (records : Records) (x : EntityId) (r : Record Bytes) → is_some r.held ≡ false → holders (map.insert records x r) ≡ remove_key (eq_by_cmp entity_cmp x) (holders records)
holders-drop records x r holds =
    same_rising entity_cmp_total entity_cmp_same (holders (map.insert records x r)) (remove_key (eq_by_cmp entity_cmp x) (holders records))
    (holders-rise (map.insert records x r)) (IsRising-remove_key (eq_by_cmp entity_cmp x) entity_cmp (holders records) (holders-rise records))
    (λ q. has-put records x r false holds q ∙ by (eq_by_cmp entity_cmp q x) (has entity_cmp q (holders records)) ∙ sym (has-without q x (holders records) (holders-rise records)))
  where
    by : (a b : Bool) → cond a false b ≡ (not a && b)
    by true b = refl
    by false b = refl

-- the same holders
pub holders-keep : (records : Records) (x : EntityId) (r : Record Bytes) → is_some r.held ≡ is_holder records x → holders (map.insert records x r) ≡ holders records
holders-keep records x r same =
    same_rising entity_cmp_total entity_cmp_same (holders (map.insert records x r)) (holders records)
    (holders-rise (map.insert records x r)) (holders-rise records)
    (λ q. has-put records x r (is_holder records x) same q ∙ by q (eq_by_cmp entity_cmp q x) refl)
  where
    by : (q : EntityId) (b : Bool) → eq_by_cmp entity_cmp q x ≡ b → cond b (is_holder records x) (has entity_cmp q (holders records)) ≡ has entity_cmp q (holders records)
    by q true e = ap (is_holder records) (sym (entity_cmp_same q x (equal _ e))) ∙ sym (has-holders records q)
    by q false e = refl

-- where all hold by one version, and one more page is mapped by it, all do again
pub all-put : (v : MappingVersion) (records : Records) (x : EntityId) (r : Record Bytes) → is_some r.held ≡ true → all_by v (map.insert records x r) ≡ with_version v x (all_by v records)
all-put One records x r holds = refl
all-put Two records x r holds = holders-put records x r holds

-- and where a page goes
pub all-drop : (v : MappingVersion) (records : Records) (x : EntityId) (r : Record Bytes) → is_some r.held ≡ false → all_by v (map.insert records x r) ≡ with_version One x (all_by v records)
all-drop One records x r holds = refl
all-drop Two records x r holds = holders-drop records x r holds

-- and where none comes or goes
pub all-keep : (v : MappingVersion) (records : Records) (x : EntityId) (r : Record Bytes) → is_some r.held ≡ is_holder records x → all_by v (map.insert records x r) ≡ all_by v records
all-keep One records x r same = refl
all-keep Two records x r same = holders-keep records x r same
