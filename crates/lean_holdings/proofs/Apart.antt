-- A page comes by its parts, or by what it and the held page have of their own: in the lists of the whole pages it is the same.
use Rattle.std.proofs.Common.{◌≡◌, ℕ, ◌<◌, Bool, true, false, not, ◌||◌, List, [], ◌∷◌, Option, Some, None, lt-ltb, refl, sym, ◌∙◌, ap, subst, true≢false, ⊎_elim}
use Rattle.std.specs.{List.AllByRecursion, Ordering.eq_by_cmp}
use Rattle.sorted_sets.specs.Rising.{IsRising, has, sorted}
use Rattle.sorted_sets.proofs.{Bools.and_right, Bools.equal, Bools.or_true, Filtering.IsRising-filter, Filtering.has-filter}
use Rattle.sorted_sets.proofs.Rising.{IsRising-sorted, has-append, has-sorted, has_itself, sorted_rising}
use Rattle.rdf_term.specs.{declared.triple.Triple.Triple, Fit.HasFitAndShortTerms, Order.triple_cmp, Order.triple_cmp-total}
use Rattle.rdf_term.proofs.Texts.{triple_cmp-IsAntisymmetric}
use Rattle.entity_model.specs.{declared.id.EntityId.EntityId, declared.mapping.MappingVersion.MappingVersion, EntityId.entity_cmp, EntityId.entity_cmp_total}
use Rattle.entity_state.specs.declared.record.Held.{Held}
use Rattle.slot_keys.specs.declared.key.Key.{Key}
use Rattle.slot_keys.proofs.Lists.{one_of, or_left}
use Rattle.triple_catalog.specs.Room.{room_for}
use Rattle.triple_store.specs.StoreState.{AreKeysOf, StoreState, counts_in, limit_of}
use Rattle.triple_store.proofs.Exchanged.{same_test}
use Rattle.replay_model.specs.{Records.Bytes, Records.record_of, Union.Meaning, Union.owners, Union.triples_held, Versions.meaning_by, Versions.version_at}
use Rattle.fetched_pages.specs.Meaning.{meaning}
use Rattle.fetched_pages.proofs.{Fit.meaning_fit, Rising.meaning_rises}
use Rattle.shared_triples.specs.{Home.home_of, Lean.AreCounted, Lean.own_of, Lean.stored_of, Lean.stranger, Lean.strangers}
use Rattle.entity_counts.specs.Naming.{Naming, pages_naming}
use Rattle.page_parts.specs.{declared.difference.PageDifference.PageDifference, Apart.AreApart, Parts.stands_alone}
use Rattle.parts_exchange.specs.{declared.exchanging.PartsExchange.PartsExchange, Exchanged.own_part, Exchanged.shared_part}
use Rattle.holders.specs.Roomed.{room_with}
use Rattle.holders.proofs.Rooming.{room_same}
use Rattle.lean_holdings.specs.declared.moving.Coming.{Coming}
use Rattle.lean_holdings.specs.declared.moving.Coming.TheVariants.{Whole, Differing}
use Rattle.lean_holdings.specs.Coming.{HasBrought, HasNoRoom, IsComing, MayBring, TellsPages}
use Rattle.lean_holdings.specs.Moving.{AreListsOf, HaveMoved, MayMove, PartLists, lists_of}
use Rattle.lean_holdings.specs.{Changing.needs, Holding.counted_by, Holding.strangers_on, InStep.LeanState}
use Rattle.lean_holdings.proofs.{Named.some_counted, Needing.put_needs, Ordered.fit_each, Ordered.fit_one, Strange.some_named}

-- ---- the entities that two pages name

-- what a page names one of its triples names
named_by_one : (x : EntityId) (ts : List Triple) (y : EntityId) → has entity_cmp y (strangers x ts) ≡ true → (t : Triple) × (has triple_cmp t ts ≡ true) × (has entity_cmp y (stranger x (home_of t)) ≡ true)
named_by_one x [] y there = absurd (true≢false (sym there))
named_by_one x (t ∷ ts) y there = ⊎_elim
    (λ here. (t, has_itself triple_cmp-total t ts, here))
    (λ later. let one = named_by_one x ts y later in (one.0, or_true (eq_by_cmp triple_cmp one.0 t) _ one.1, one.2))
    (one_of (has entity_cmp y (stranger x (home_of t))) (has entity_cmp y (strangers x ts)) (sym (has-append entity_cmp y (stranger x (home_of t)) (strangers x ts)) ∙ there))

-- and what one of them names it names
names_too : (x : EntityId) (t : Triple) (ts : List Triple) (y : EntityId) → has triple_cmp t ts ≡ true → has entity_cmp y (stranger x (home_of t)) ≡ true → has entity_cmp y (strangers x ts) ≡ true
names_too x t [] y there is = absurd (true≢false (sym there))
names_too x t (u ∷ us) y there is = has-append entity_cmp y (stranger x (home_of u)) (strangers x us) ∙ by (eq_by_cmp triple_cmp t u) refl there (λ later. names_too x t us y later is)
  where
    by : (b : Bool) → eq_by_cmp triple_cmp t u ≡ b → (b || has triple_cmp t us) ≡ true → (has triple_cmp t us ≡ true → has entity_cmp y (strangers x us) ≡ true)
        → (has entity_cmp y (stranger x (home_of u)) || has entity_cmp y (strangers x us)) ≡ true
    by true same some later = or_left (has entity_cmp y (stranger x (home_of u))) _ (subst (λ (v : Triple). has entity_cmp y (stranger x (home_of v)) ≡ true) (triple_cmp-IsAntisymmetric t u (equal _ same)) is)
    by false same some later = or_true (has entity_cmp y (stranger x (home_of u))) _ (later some)

-- where no triple that only the first page has names an entity, the second names all that it names
names_stay : (x : EntityId) (old new gone : List Triple) → ((t : Triple) → has triple_cmp t old ≡ true → has triple_cmp t new ≡ false → has triple_cmp t gone ≡ true)
    → ((y : EntityId) → has entity_cmp y (strangers x gone) ≡ false) → (y : EntityId) → has entity_cmp y (strangers x old) ≡ true → has entity_cmp y (strangers x new) ≡ true
names_stay x old new gone left none y there = by (has triple_cmp one.0 new) refl
  where
    one : (t : Triple) × (has triple_cmp t old ≡ true) × (has entity_cmp y (stranger x (home_of t)) ≡ true)
    one = named_by_one x old y there

    by : (b : Bool) → has triple_cmp one.0 new ≡ b → has entity_cmp y (strangers x new) ≡ true
    by true is = names_too x one.0 new y is one.2
    by false is = absurd (true≢false (sym (names_too x one.0 gone y (left one.0 one.1 is) one.2) ∙ none y))

-- so two pages that are told apart name the same
names_same : (x : EntityId) (is_counted : Bool) (old new : List Triple) (d : PageDifference) → AreApart x is_counted old new d → (y : EntityId) → has entity_cmp y (strangers x old) ≡ has entity_cmp y (strangers x new)
names_same x is_counted old new d h y = same_test (has entity_cmp y (strangers x old)) (has entity_cmp y (strangers x new))
    (names_stay x old new d.gone.all h.told.left (λ z. sym (h.gone_parts.others_are z)) y)
    (names_stay x new old d.come.all h.told.came (λ z. sym (h.come_parts.others_are z)) y)

-- ---- the parts of what is held

own_held : (counted : List EntityId) (m : Meaning Triple) (x : EntityId) (held : Option (Held Bytes)) → own_part (has entity_cmp x counted) x (triples_held m x held) ≡ triples_held (own_of counted m) x held
own_held counted m x None = refl
own_held counted m x (Some h) = refl

pub shared_held : (counted : List EntityId) (m : Meaning Triple) (x : EntityId) (held : Option (Held Bytes)) → shared_part (has entity_cmp x counted) x (triples_held m x held) ≡ triples_held (stored_of counted m) x held
shared_held counted m x None = refl
shared_held counted m x (Some h) = refl

held_rises : (m : Meaning Triple) (x : EntityId) → ((rev : ℕ) (bytes : Bytes) → IsRising triple_cmp (m x rev bytes)) → (held : Option (Held Bytes)) → IsRising triple_cmp (triples_held m x held)
held_rises m x rises None = tt
held_rises m x rises (Some h) = rises h.revision h.content

held_fit : (m : Meaning Triple) (x : EntityId) → ((rev : ℕ) (bytes : Bytes) → AllByRecursion HasFitAndShortTerms (m x rev bytes)) → (held : Option (Held Bytes)) → AllByRecursion HasFitAndShortTerms (triples_held m x held)
held_fit m x fit None = tt
held_fit m x fit (Some h) = fit h.revision h.content

-- the parts of what a page means, with names that are its own
whole_lists : (counted : List EntityId) (m : Meaning Triple) (x : EntityId) (held : Option (Held Bytes)) (names : List EntityId)
    → ((rev : ℕ) (bytes : Bytes) → IsRising triple_cmp (m x rev bytes)) → ((rev : ℕ) (bytes : Bytes) → AllByRecursion HasFitAndShortTerms (m x rev bytes))
    → IsRising entity_cmp names → ((y : EntityId) → has entity_cmp y names ≡ has entity_cmp y (strangers x (triples_held m x held)))
    → AreListsOf counted m x held (record { own = own_part (has entity_cmp x counted) x (triples_held m x held); shared = shared_part (has entity_cmp x counted) x (triples_held m x held); names = names })
whole_lists counted m x held names rises fit names_rise named =
    let ts : List Triple = triples_held m x held in
    let c : Bool = has entity_cmp x counted in
    let own : List Triple = own_part c x ts in
    let shared : List Triple = shared_part c x ts in
    record {
      own = sorted_rising triple_cmp-total triple_cmp-IsAntisymmetric own (IsRising-filter triple_cmp (stands_alone c x) ts (held_rises m x rises held)) ∙ own_held counted m x held;
      stored = sorted_rising triple_cmp-total triple_cmp-IsAntisymmetric shared (IsRising-filter triple_cmp (λ t. not (stands_alone c x t)) ts (held_rises m x rises held)) ∙ shared_held counted m x held;
      fit = fit_each shared (λ t there. fit_one ts (held_fit m x fit held) t (and_right (not (stands_alone c x t)) (has triple_cmp t ts) (sym (has-filter triple_cmp triple_cmp-IsAntisymmetric (λ u. not (stands_alone c x u)) t ts) ∙ there)));
      rising = names_rise;
      names = named;
    }

-- ---- what comes

-- a page came in the place of what was held, in lists
pub record IsStep (counted : List EntityId) (m n : Meaning Triple) (x : EntityId) (before after : Option (Held Bytes)) (s s2 : StoreState) (names names2 : Naming) (keys : List Key) (done : PartsExchange) : Type 0 where
  pub gone : PartLists
  pub come : PartLists
  pub gone_are : AreListsOf counted m x before gone
  pub come_are : AreListsOf counted n x after come
  pub known : AreCounted counted come.names
  pub moved : HaveMoved s s2 names names2 keys gone come done

module _ (counted : List EntityId) (by_two : List EntityId) (v : MappingVersion) (x : EntityId) (before after : Option (Held Bytes))
    (s : StoreState) (keys : List Key) (keyed : AreKeysOf s keys (triples_held (stored_of counted (meaning_by meaning by_two)) x before)) where
  abbrev m : Meaning Triple
  m = meaning_by meaning by_two

  abbrev n : Meaning Triple
  n = meaning v

  tells : (d : PageDifference) → AreApart x (has entity_cmp x counted) (triples_held m x before) (triples_held n x after) d
      → TellsPages s keys d x (has entity_cmp x counted) (triples_held m x before) (triples_held n x after)
  tells d h = record { apart = h; keyed = subst (AreKeysOf s keys) (sym (shared_held counted m x before)) keyed }

  pub stepped : (s2 : StoreState) (names names2 : Naming) (done : PartsExchange) → AreCounted counted (strangers x (triples_held m x before))
      → (coming : Coming) → IsComing counted m n x before after coming → HasBrought s s2 names names2 keys coming done
      → IsStep counted m n x before after s s2 names names2 keys done
  stepped s2 names names2 done known (Whole moving) is moved = record {
    gone = lists_of moving.gone.now;
    come = lists_of moving.come.now;
    gone_are = is.0;
    come_are = is.1;
    known = is.2;
    moved = moved;
  }
  stepped s2 names names2 done known (Differing d) is moved =
      let olds : List Triple = triples_held m x before in
      let news : List Triple = triples_held n x after in
      let c : Bool = has entity_cmp x counted in
      let named : List EntityId = sorted entity_cmp (strangers x olds) in
      let named_are : (y : EntityId) → has entity_cmp y named ≡ has entity_cmp y (strangers x olds) = λ y. has-sorted entity_cmp_total y (strangers x olds) in
      record {
        gone = record { own = own_part c x olds; shared = shared_part c x olds; names = named };
        come = record { own = own_part c x news; shared = shared_part c x news; names = named };
        gone_are = whole_lists counted m x before named (meaning_rises (version_at by_two x) x) (meaning_fit (version_at by_two x) x) (IsRising-sorted entity_cmp_total (strangers x olds)) named_are;
        come_are = whole_lists counted n x after named (meaning_rises v x) (meaning_fit v x) (IsRising-sorted entity_cmp_total (strangers x olds)) (λ y. named_are y ∙ names_same x c olds news d.now is y);
        known = λ y there. known y (sym (named_are y) ∙ there);
        moved = moved x c olds news named (tells d.now is);
      }

  -- and there was no room for it
  pub no_step : (coming : Coming) → IsComing counted m n x before after coming → HasNoRoom s keys coming → limit_of s < room_for (counts_in s) (triples_held (stored_of counted n) x after)
  no_step (Whole moving) is none =
      let shared : List Triple = moving.come.now.parts.shared in
      subst (λ k. limit_of s < k) (room_same (counts_in s) shared _ (λ t. sym (has-sorted triple_cmp-total t shared) ∙ ap (has triple_cmp t) is.1.stored)) none
  no_step (Differing d) is none = subst (λ ts. limit_of s < room_for (counts_in s) ts) (shared_held counted n x after) (none x (has entity_cmp x counted) _ _ (tells d.now is))

-- it may come
pub may_bring : (counted : List EntityId) (m n : Meaning Triple) (x : EntityId) (before after : Option (Held Bytes)) (names : Naming)
    → ((gone come : PartLists) → AreListsOf counted m x before gone → AreListsOf counted n x after come → AreCounted counted come.names → MayMove names gone.names come.names)
    → (coming : Coming) → IsComing counted m n x before after coming → MayBring names coming
may_bring counted m n x before after names moves (Whole moving) is = (is.1.fit, moves (lists_of moving.gone.now) (lists_of moving.come.now) is.0 is.1 is.2)
may_bring counted m n x before after names moves (Differing d) is = is.fit

-- what is sorted is in order
pub sorted_again : (ts us : List Triple) → sorted triple_cmp ts ≡ us → sorted triple_cmp us ≡ us
sorted_again ts us is = subst (λ vs. sorted triple_cmp vs ≡ vs) is (sorted_rising triple_cmp-total triple_cmp-IsAntisymmetric (sorted triple_cmp ts) (IsRising-sorted triple_cmp-total ts))

-- ---- what it needs

module _ (h : LeanState) (v : MappingVersion) (x : EntityId) (rev : ℕ) (bytes : Bytes) (d : PageDifference)
    (named : (y : EntityId) → pages_naming h.names y ≡ owners entity_cmp (strangers_on (meaning_by meaning h.by_two)) h.records y)
    (apart : AreApart x (has entity_cmp x (counted_by h.names)) (triples_held (meaning_by meaning h.by_two) x (record_of h.records x).held) (meaning v x rev bytes) d) where
  -- all that the page names is counted, since the page before it names that too
  already_counted : AreCounted (counted_by h.names) (strangers x (meaning v x rev bytes))
  already_counted y there =
      some_counted h.names y (lt-ltb 0 (pages_naming h.names y) (some_named (meaning_by meaning h.by_two) h.names h.records named x y
      (names_same x (has entity_cmp x (counted_by h.names)) (triples_held (meaning_by meaning h.by_two) x (record_of h.records x).held) (meaning v x rev bytes) d apart y ∙ there)))

  -- so it needs the room that its stored triples need now
  pub apart_needs : room_with (stored_of (counted_by h.names) (meaning_by meaning h.by_two)) h.records (stored_of (counted_by h.names) (meaning v) x rev bytes)
      ≡ needs h v x (Some (record { revision = rev; content = bytes }))
  apart_needs =
      let held : Option (Held Bytes) = Some (record { revision = rev; content = bytes }) in
      let names : List EntityId = strangers x (meaning v x rev bytes) in
      put_needs h v x held names (λ y. refl) h (stored_of (counted_by h.names) (meaning v) x rev bytes) refl refl
      (λ y. counted_too (has entity_cmp y names) (has entity_cmp y (counted_by h.names)) (already_counted y))
      (sorted_rising triple_cmp-total triple_cmp-IsAntisymmetric (stored_of (counted_by h.names) (meaning v) x rev bytes)
      (IsRising-filter triple_cmp (λ t. not (stands_alone (has entity_cmp x (counted_by h.names)) x t)) (meaning v x rev bytes) (meaning_rises v x rev bytes)))
    where
      counted_too : (a b : Bool) → (a ≡ true → b ≡ true) → b ≡ (a || b)
      counted_too true b more = more refl
      counted_too false b more = refl
