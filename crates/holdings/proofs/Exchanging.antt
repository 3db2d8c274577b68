-- The triples of a page came in the place of those that its entity had.
use Rattle.std.proofs.Common.{◌≡◌, ℕ, ◌+◌, ◌<◌, ◌≤◌, true, false, List, [], Option, Some, None, cond, length, is_some, unwrap_or, refl, sym, ◌∙◌, ap, subst, true≢false, arith}
use Rattle.std.specs.Prelude.{IfSome, option_map}
use Rattle.std.specs.Ordering.{eq_by_cmp}
use Rattle.sorted_sets.specs.{Merging.Balance, Merging.IsWithin, Rising.has}
use Rattle.sorted_sets.proofs.Rising.{has-sorted}
use Rattle.rdf_term.specs.{declared.triple.Triple.Triple, Order.triple_cmp, Order.triple_cmp-total}
use Rattle.entity_json.specs.Document.{document_of}
use Rattle.entity_model.specs.declared.document.Document.{Document}
use Rattle.entity_model.specs.declared.document.Document.TheVariants.{Entity as AnEntity, Redirect, Lexeme as ALexeme}
use Rattle.entity_model.specs.{declared.entity.Entity.Entity, declared.id.EntityId.EntityId, declared.mapping.MappingVersion.MappingVersion}
use Rattle.entity_model.specs.EntityId.{entity_cmp}
use Rattle.page_rdf.specs.declared.counts.Counts.{Counts as PageCounts}
use Rattle.entity_rdf.specs.Changing.{kept_list}
use Rattle.entity_state.specs.declared.record.Held.{Held}
use Rattle.replay_model.specs.{Records.Bytes, Union.triples_held, Versions.meaning_by, Versions.version_at}
use Rattle.slot_keys.specs.declared.key.Key.{Key}
use Rattle.term_pool.specs.Pool.{one_if}
use Rattle.triple_store.specs.{declared.updates.Exchange.Exchange, declared.telling.Telling.Telling, Counts.count_of}
use Rattle.triple_store.specs.Updates.{AreLeft, AreTimesIfKnown, AreTimesOf, Becomes, ComesTo, HasExchanged, KeepsRest}
use Rattle.triple_store.specs.Room.{room_for}
use Rattle.triple_store.specs.StoreState.{HasKey, IsSound, KeepsKeys, StoreState, beside, counts_in, limit_of}
use Rattle.triple_store.proofs.{Becoming.comes_parted, Lasting.no_times_known, Lasting.times_last_if_known}
use Rattle.triple_store.proofs.Whole.{IsWhole}
use Rattle.fetched_pages.specs.{declared.comparing.ChangedPage.ChangedPage, declared.comparing.ChangedTexts.ChangedTexts}
use Rattle.fetched_pages.specs.{declared.comparing.KnownPage.KnownPage, declared.fetching.FetchedPage.FetchedPage}
use Rattle.fetched_pages.specs.declared.fetching.FetchedPage.TheVariants.{Whole, Changed, Parted, Differing}
use Rattle.fetched_pages.specs.{declared.fetching.Wanted.Wanted, Compared.AreChanged, Compared.HasEntity, Compared.IsKnownPage}
use Rattle.fetched_pages.specs.{Fetched.IsFetched, Listed.AreTextsOf, Listed.IsListed, Meaning.meaning}
use Rattle.holdings.specs.{declared.kept.KeptPage.KeptPage, declared.kept.PageTimes.PageTimes, declared.swapping.PageExchange.PageExchange}
use Rattle.holders.specs.{Holders.ByVersion, Holders.held_by, Pieces.PieceTexts}
use Rattle.holdings.specs.{InStep.AreInStep, Timed.IsTimed, Timed.IsTimedHeld, Timed.counts_held, Timed.times_held, Timed.times_known}
use Rattle.holdings.specs.Keeping.{KeptRecords, held_with, holds_in, kept_of, keys_held, seen}
use Rattle.holdings.specs.Swapped.{HasSwapped, MaySwap, MaySwapParts, wanted_meaning, with_counts}
use Rattle.fetched_pages.proofs.Listing.{listed_meant}
use Rattle.holders.proofs.{ByVersion.version_named, Keyed.exchanged_for, Keyed.keys_same, Rooming.room_same}
use Rattle.holdings.proofs.{Moving.held_is, Timing.own_meaning, Timing.owned_kept}

-- lists that balance, by how many times each triple comes
becomes_by : (new gone old come : List Triple) → Balance new gone old come → IsWithin gone old → Becomes old new gone come
becomes_by new gone old come h within = record {
  balance = λ t. h.weighs (λ (u : Triple). cond (eq_by_cmp triple_cmp t u) 1 0);
  within = λ t. within.weighs (λ (u : Triple). cond (eq_by_cmp triple_cmp t u) 1 0);
}

module _ (telling : Telling) (old new : StoreState) (gone : List Key) (wanted : Wanted) (bytes : Bytes) where
  texts_meant : (triples : List Triple) (counts : Option PageCounts) → AreTextsOf wanted.version wanted.id wanted.rev bytes counts triples
      → (t : Triple) → has triple_cmp t triples ≡ has triple_cmp t (wanted_meaning wanted bytes)
  texts_meant triples counts texts t = sym (has-sorted triple_cmp-total t triples) ∙ ap (has triple_cmp t) texts.set

  pub whole_room : (triples : List Triple) (counts : Option PageCounts) → AreTextsOf wanted.version wanted.id wanted.rev bytes counts triples → room_for (counts_in old) triples ≡ room_for (counts_in old) (wanted_meaning wanted bytes)
  whole_room triples counts texts = room_same (counts_in old) triples (wanted_meaning wanted bytes) (texts_meant triples counts texts)

  -- all triples of the page came
  pub whole_swapped : (triples : List Triple) (counts : Option PageCounts) (done : Exchange) (swapped : PageExchange)
      → AreTextsOf wanted.version wanted.id wanted.rev bytes counts triples
      → IsWhole telling old new gone triples done
      → swapped ≡ with_counts counts done
      → HasSwapped telling old new gone wanted bytes swapped
  whole_swapped triples counts done swapped texts whole is = subst (HasSwapped telling old new gone wanted bytes) (sym is) (record {
    counts = λ had h. record { counts = λ t. (whole.counts had h).counts t ∙ ap (λ b. count_of (counts_in old) t + one_if b) (texts_meant triples counts texts t) };
    told = whole.told;
    keys_are = keys_same new done.keys.rising.items triples (wanted_meaning wanted bytes) (texts_meant triples counts texts) whole.keys_are;
    timed = by counts texts.listed;
    within = subst (λ n. n ≤ limit_of old) (whole_room triples counts texts) whole.within;
  })
    where
      by : (counts : Option PageCounts) → IfSome counts (λ c. IsListed wanted.version wanted.id wanted.rev (document_of wanted.id bytes) c triples)
          → IfSome (with_counts counts done).times (IsTimed wanted.version new wanted.id wanted.rev bytes done.keys.rising.items)
      by None listed = tt
      by (Some c) listed = record { triples = triples; listed = listed; times_are = whole.times }

  module _ (old_rev : ℕ) (was : Entity) (texts : ChangedTexts) (h : AreChanged wanted.version wanted.id old_rev wanted.rev was bytes texts) where
    abbrev before : List Triple
    before = kept_list wanted.version wanted.id old_rev was

    abbrev after : List Triple
    after = kept_list wanted.version wanted.id wanted.rev h.new

    listed : IsListed wanted.version wanted.id wanted.rev (document_of wanted.id bytes) texts.counts after
    listed = record { entity = h.new; is_entity = h.document; counts_are = h.counts_are; triples_are = refl }

    after_meant : (t : Triple) → has triple_cmp t after ≡ has triple_cmp t (wanted_meaning wanted bytes)
    after_meant = listed_meant wanted.version wanted.id wanted.rev (document_of wanted.id bytes) texts.counts after listed

    pub parts_room : room_for (counts_in old) after ≡ room_for (counts_in old) (wanted_meaning wanted bytes)
    parts_room = room_same (counts_in old) after (wanted_meaning wanted bytes) after_meant

    -- the triples that the page changes came and went
    parts_moved : (times : List ℕ) (done : Exchange) → AreTimesOf old gone times before → HasExchanged telling old new before after done
        → HasSwapped telling old new gone wanted bytes (with_counts (Some texts.counts) done)
    parts_moved times done its moved = record {
      counts = λ triples k. exchanged_for old new gone before triples after (wanted_meaning wanted bytes) its.keys_of k after_meant moved.counts;
      told = moved.told;
      keys_are = keys_same new done.keys.rising.items after (wanted_meaning wanted bytes) after_meant moved.keys;
      timed = record { triples = after; listed = listed; times_are = moved.times };
      within = subst (λ n. n ≤ limit_of old) parts_room moved.within;
    }

-- what came and went by parts, where the times are known
module _ (telling : Telling) (old new : StoreState) (gone : List Key) (times left : List ℕ) (wanted : Wanted) (page : ChangedPage) (h : MaySwapParts old gone times wanted page)
    (less : AreLeft old gone times left page.texts.gone) (some : 0 < length left) where
  told : 0 < length times
  told = omega (arith, less.as_many, some)

  comes : ComesTo old gone left page.texts.come (kept_list wanted.version wanted.id h.old_rev h.old) (kept_list wanted.version wanted.id wanted.rev h.changed.new)
  comes = comes_parted old.catalog old.texts gone times left (kept_list wanted.version wanted.id h.old_rev h.old) (kept_list wanted.version wanted.id wanted.rev h.changed.new) page.texts.gone page.texts.come (h.times_are told) less
      (becomes_by (kept_list wanted.version wanted.id wanted.rev h.changed.new) page.texts.gone (kept_list wanted.version wanted.id h.old_rev h.old) page.texts.come h.changed.balance h.changed.within)

  pub parts_swapped : (done : Exchange) (swapped : PageExchange)
      → ((before after : List Triple) → ComesTo old gone left page.texts.come before after → HasExchanged telling old new before after done)
      → swapped ≡ with_counts (Some page.texts.counts) done
      → HasSwapped telling old new gone wanted page.bytes swapped
  parts_swapped done swapped moved is =
      subst (HasSwapped telling old new gone wanted page.bytes) (sym is)
      (parts_moved telling old new gone wanted page.bytes h.old_rev h.old page.texts h.changed times done (h.times_are told) (moved _ _ comes))

  -- and where there is no room
  pub parts_over : ((before after : List Triple) → ComesTo old gone left page.texts.come before after → limit_of old < room_for (counts_in old) after)
      → limit_of old < room_for (counts_in old) (wanted_meaning wanted page.bytes)
  parts_over over =
      subst (λ n. limit_of old < n) (parts_room telling old new gone wanted page.bytes h.old_rev h.old page.texts h.changed) (over _ _ comes)

-- a store that stays as it is keeps all
pub rest_same : (s : StoreState) → IsSound s → KeepsRest s s
rest_same s sound = record { keeps = record { kept = λ key t is _. is }; beside = λ p. refl; limit = refl; sound = sound }

-- ---- what an entity holds, as it is compared with a page

entity_same : (d : Option Document) (e f : Entity) → d ≡ Some (AnEntity e) → d ≡ Some (AnEntity f) → e ≡ f
entity_same d e f one two = ap inside (sym one ∙ two)
  where
    inside : Option Document → Entity
    inside None = e
    inside (Some (AnEntity g)) = g
    inside (Some (Redirect y)) = e
    inside (Some (ALexeme l)) = e

abbrev pub content_of : Option (Held Bytes) → Bytes
content_of None = []
content_of (Some h) = h.content

abbrev revision_of : Option (Held Bytes) → ℕ
revision_of None = 0
revision_of (Some h) = h.revision

-- the times of a held page are those of its triples, where the store keeps its keys
times_there : (version : MappingVersion) (s s2 : StoreState) (f : PieceTexts) (x : EntityId) (held : Option (Held KeptPage)) (before : Held Bytes) (old : Entity)
    → IsTimedHeld version s f x held → held_with f held ≡ Some before → document_of x before.content ≡ Some (AnEntity old)
    → ((t : Triple) → has triple_cmp t (triples_held (meaning version) x (held_with f held)) ≡ true → 0 < count_of (counts_in s2) t)
    → KeepsKeys s s2
    → AreTimesIfKnown s2 (keys_held held) (times_held held) (kept_list version x before.revision old)
times_there version s s2 f x None before old timed is document owned keeps = no_times_known s2 [] (kept_list version x before.revision old)
times_there version s s2 f x (Some h) before old timed is document owned keeps = by h.content.times timed
  where
    by : (known : Option PageTimes) → IfSome known (IsTimed version s x h.revision (unwrap_or (f h.content.piece) []) h.content.keys.rising.items)
        → AreTimesIfKnown s2 h.content.keys.rising.items (times_known known) (kept_list version x before.revision old)
    by None timed = no_times_known s2 h.content.keys.rising.items (kept_list version x before.revision old)
    by (Some known) timed =
        let bytes : Bytes = unwrap_or (f h.content.piece) [] in
        let entity : timed.listed.entity ≡ old =
        entity_same (document_of x bytes) timed.listed.entity old timed.listed.is_entity (ap (document_of x) (ap content_of is) ∙ document) in
        let list : timed.triples ≡ kept_list version x before.revision old =
        timed.listed.triples_are ∙ ap (λ (e : Entity). kept_list version x h.revision e) entity ∙ ap (λ n. kept_list version x n old) (ap revision_of is) in
        subst (AreTimesIfKnown s2 h.content.keys.rising.items known.times.items) list
        (times_last_if_known s s2 h.content.keys.rising.items known.times.items timed.triples timed.times_are keeps
        (λ t there. owned t (sym (listed_meant version x h.revision (document_of x bytes) known.counts timed.triples timed.listed t) ∙ there)))

-- what is known of a held page
has_entity : (version : MappingVersion) (s : StoreState) (f : PieceTexts) (x : EntityId) (held : Option (Held KeptPage)) (page : KnownPage)
    → IsTimedHeld version s f x held → Some page.counts ≡ counts_held held → held_with f held ≡ Some (record { revision = page.rev; content = page.bytes.now }) → HasEntity x page
has_entity version s f x None page timed counted is = absurd (true≢false (ap is_some counted))
has_entity version s f x (Some h) page timed counted is = by h.content.times timed counted
  where
    by : (known : Option PageTimes) → IfSome known (IsTimed version s x h.revision (unwrap_or (f h.content.piece) []) h.content.keys.rising.items)
        → Some page.counts ≡ option_map (λ (k : PageTimes). k.counts) known → HasEntity x page
    by None timed counted = absurd (true≢false (ap is_some counted))
    by (Some known) timed counted = record {
      entity = timed.listed.entity;
      document = ap (document_of x) (sym (ap content_of is)) ∙ timed.listed.is_entity;
      counts_are = ap (λ o. unwrap_or o page.counts) counted ∙ timed.listed.counts_are;
    }

pub known_is : (s : StoreState) (ids : ByVersion) (kept : KeptRecords) (x : EntityId) (version : MappingVersion) (page : KnownPage) → AreInStep s ids kept
    → has entity_cmp x (held_by ids version) ≡ true → Some page.counts ≡ counts_held (kept_of kept x).held
    → held_with (beside s) (kept_of kept x).held ≡ Some (record { revision = page.rev; content = page.bytes.now })
    → IsKnownPage (seen s kept) ids.by_two version x page
known_is s ids kept x version page h there counted is = record {
  held = held_is s kept x ∙ is;
  by_version = version_named ids (holds_in kept) x version h.by there;
  has_entity = has_entity (version_at ids.by_two x) s (beside s) x (kept_of kept x).held page (h.timed x) counted is;
}

-- the same of a page, if there is one
pub known_if : (s : StoreState) (ids : ByVersion) (kept : KeptRecords) (x : EntityId) (version : MappingVersion) (known : Option KnownPage) → AreInStep s ids kept
    → has entity_cmp x (held_by ids version) ≡ true
    → IfSome known (λ page. Some page.counts ≡ counts_held (kept_of kept x).held)
    → IfSome known (λ page. held_with (beside s) (kept_of kept x).held ≡ Some (record { revision = page.rev; content = page.bytes.now }))
    → IfSome known (IsKnownPage (seen s kept) ids.by_two version x)
known_if s ids kept x version None h there counted is = tt
known_if s ids kept x version (Some page) h there counted is = known_is s ids kept x version page h there counted is

-- a page that was fetched may come once it has a place
pub may_swap : (s s1 : StoreState) (ids : ByVersion) (kept : KeptRecords) (wanted : Wanted) (page : FetchedPage) (keys : List Key) (times : List ℕ)
    → AreInStep s ids kept → ((key : Key) (t : Triple) → HasKey s key t → HasKey s1 key t) → counts_in s1 ≡ counts_in s
    → keys ≡ keys_held (kept_of kept wanted.id).held → times ≡ times_held (kept_of kept wanted.id).held
    → IsFetched (seen s kept) ids.by_two wanted.version wanted.id wanted.rev page → MaySwap s1 keys times wanted page
may_swap s s1 ids kept wanted (Whole page) keys times h place_kept place_counts keys_are times_are fetched = fetched
may_swap s s1 ids kept wanted (Parted page) keys times h place_kept place_counts keys_are times_are fetched = tt
may_swap s s1 ids kept wanted (Differing page) keys times h place_kept place_counts keys_are times_are fetched = tt
may_swap s s1 ids kept wanted (Changed page) keys times h place_kept place_counts keys_are times_are fetched =
    let x = wanted.id in
    let change = fetched.change in
    let held = (kept_of kept x).held in
    let m = meaning_by meaning ids.by_two in
    let owned : (t : Triple) → has triple_cmp t (triples_held (meaning wanted.version) x (held_with (beside s) held)) ≡ true → 0 < count_of (counts_in s1) t = λ t there.
    let count : count_of (counts_in s1) t ≡ count_of (counts_in s) t = ap (λ c. count_of c t) place_counts in
    let means : triples_held m x (held_with (beside s) held) ≡ triples_held (meaning wanted.version) x (held_with (beside s) held) =
    own_meaning ids.by_two x (held_with (beside s) held) ∙ ap (λ (v : MappingVersion). triples_held (meaning v) x (held_with (beside s) held)) change.by_version in
    let some : 0 < count_of (counts_in s) t = owned_kept m s kept h.kept x t (ap (has triple_cmp t) means ∙ there) in
    omega arith in
    record {
      old_rev = change.before.revision;
      old = change.old;
      changed = change.changed;
      times_are = subst (λ (ks : List Key). AreTimesIfKnown s1 ks times (kept_list wanted.version x change.before.revision change.old)) (sym keys_are)
          (subst (λ (ns : List ℕ). AreTimesIfKnown s1 (keys_held held) ns (kept_list wanted.version x change.before.revision change.old)) (sym times_are)
          (times_there wanted.version s s1 (beside s) x held change.before change.old
          (subst (λ (v : MappingVersion). IsTimedHeld v s (beside s) x held) change.by_version (h.timed x))
          (sym (held_is s kept x) ∙ change.held) change.document owned (record { kept = λ key t has _. place_kept key t has })));
    }
