-- Where it is known what the source has, the terms of what is held and of a page that comes are among those of the pages that the
-- input may bring.
use Rattle.std.proofs.Common.{◌≡◌, refl, sym, subst, ◌∙◌, ⊎_elim, ℕ, zero, suc, ◌<◌, ◌≤◌, List, [], ◌∷◌, ◌++◌, append-nil, Option, None, Some, arith}
use Rattle.std.specs.{Option.option_to_list, Ordering.eq_by_cmp}
use Rattle.sorted_sets.specs.Rising.{In}
use Rattle.sorted_sets.proofs.{Bools.clash, FirstPassing.has-remove_key}
use Rattle.delivery.specs.{declared.Delivery.Delivery, declared.Delivery.TheVariants.Mapping}
use Rattle.entity_model.specs.{declared.event.Event.Event, declared.id.EntityId.EntityId, declared.mapping.MappingVersion.MappingVersion}
use Rattle.entity_model.specs.declared.mapping.MappingVersion.TheVariants.{One, Two}
use Rattle.entity_model.specs.EntityId.{entity_cmp}
use Rattle.replay_model.specs.{Acceptance.events, Explained.revision_wanted, Play.Replies, Records.Bytes, Records.Records}
use Rattle.replay_model.specs.{Replies.failed_events, ReplayState.following, Versions.all_by}
use Rattle.triple_store.specs.Room.{distinct}
use Rattle.holders.specs.Holding.{with_version_of}
use Rattle.arguments.specs.Options.{max_bytes_of}
use Rattle.run_model.specs.{declared.stop.Stop.TheVariants.StoreFull, declared.stop.Halt.TheVariants.Unapplied as NotApplied}
use Rattle.run_model.specs.Headline.{StandsAtMapping, Stopped, StopsAtEnd, StopsWithin}
use Rattle.run_model.specs.{Course.led_to, Course.version_at, Moment.IsFirst, Moment.Moment, Moment.Run, Moment.horizon_at, Moment.start_of}
use Rattle.run_model.specs.Reading.{AreDeliveries}
use Rattle.run_model.specs.Remapping.{HasNoRoom, IsFullOfStale, Mapped, mapped_by, next_stale_in, remapped_some}
use Rattle.run_model.specs.Taking.{IsFull, entered_if_any, judgement, replies_there}
use Rattle.term_pool.specs.declared.fault.PoolFault.TheVariants.{Full as NoRoom}
use Rattle.drill_replay.specs.Told.{terms_there, versions_told}
use Rattle.drill_replay.proofs.Fits.{ByTwoTold, fits}
use Rattle.drill_replay.proofs.Named.{AreAmong, GivesThere, HoldsNamed, IsNamed, WorldNamed, end_named, entered_named, first_among, following_named, last_among, some_named, source_gives, wanted_named}
use Rattle.run_model.proofs.{FromNothing.led_first, FromNothing.version_first, Reading.at_known}
use Rattle.fetched_pages.specs.Meaning.{meaning}
use Rattle.replay_model.specs.Versions.{meaning_by}
use Rattle.session_laws.proofs.Needs.{few_needs}
use Rattle.session_laws.proofs.Beginnings.{Begins, begins-all, begins-events, begins-fewer, begins-in_force, begins-mapping, first_begins}

-- ---- versions

module _ (ds : List Delivery) where
  -- the version in force is told, and so is each by which a page is mapped
  record MappedTold (mapped : Mapped) : Type 0 where
    version : In mapped.version (versions_told ds)
    by_two : ByTwoTold ds mapped.by_two

  all_told : (v : MappingVersion) (records : Records) → In v (versions_told ds) → ByTwoTold ds (all_by v records)
  all_told One records there x h = clash h refl
  all_told Two records there x h = there

  next_told : (v : MappingVersion) (next : Option EntityId) (by_two : List EntityId) → In v (versions_told ds) → ByTwoTold ds by_two → ByTwoTold ds (with_version_of v next by_two)
  next_told v None by_two there told = told
  next_told One (Some y) by_two there told = λ x h. told x (has-remove_key (eq_by_cmp entity_cmp y) entity_cmp x by_two h)
  next_told Two (Some y) by_two there told = λ x h. there

  some_told : (steps : ℕ) (records : Records) (mapped : Mapped) → MappedTold mapped → MappedTold (remapped_some steps records mapped)
  some_told zero records mapped told = told
  some_told (suc n) records mapped told =
      let before = some_told n records mapped told in
      let old : Mapped = remapped_some n records mapped in
      record { version = before.version; by_two = next_told old.version (next_stale_in records old) old.by_two before.version before.by_two }

-- ---- a run that stopped

module _ (contents : ℕ → Option Bytes) (es : List Event) (replies : Replies) (gives : (e : Event) (r : ℕ) → GivesThere contents r (replies e r)) where
  if_any_named : (hz : Option ℕ) (ds : List Delivery) (last : Option Delivery) → AreAmong (events (ds ++ option_to_list last)) es → WorldNamed contents es (entered_if_any (following hz replies ds) last)
  if_any_named hz ds None among = following_named contents es replies gives hz ds (subst (λ l. AreAmong (events l) es) (append-nil ds) among)
  if_any_named hz ds (Some d) among =
      entered_named contents es replies gives (following hz replies ds) d (last_among contents es replies gives ds d among)
      (following_named contents es replies gives hz ds (first_among contents es replies gives ds d among))

no_number : (a b c : ℕ) → a < b → b ≤ c → c ≤ a → ⊥
no_number a b c over within enough = omega (arith, over, within, enough)

module _ (run : Run) (before now : Moment) (bytes : List ℕ) (ds : List Delivery) (contents : ℕ → Option Bytes) (left : before.input.left ≡ Some bytes) (are : AreDeliveries (max_bytes_of run.choices) bytes ds)
    (known : run.environment.known ≡ Some contents) (begins : IsFirst (start_of run before)) where
  abbrev replies : Replies
  replies = replies_there contents now.stage.world

  abbrev records : Records
  records = now.stage.world.played.records

  gives : (e : Event) (r : ℕ) → GivesThere contents r (replies e r)
  gives = source_gives contents judgement (failed_events now.stage.world.played.side)

  -- what is held, wanted and mapped, the deliveries bring
  record Brought : Type 0 where
    named : WorldNamed contents (events ds) now.stage.world
    mapped : MappedTold ds now.stage.mapped

  told_first : (first : List Delivery) → Begins ds first → In (version_at first (start_of run before)) (versions_told ds)
  told_first first b = subst (λ v. In v (versions_told ds)) (sym (version_first (start_of run before) begins replies first)) (begins-in_force ds first b)

  one_version : (first : List Delivery) → Begins ds first → now.stage.mapped ≡ mapped_by (version_at first (start_of run before)) records → MappedTold ds now.stage.mapped
  one_version first b is = subst (MappedTold ds) (sym is) (record { version = told_first first b; by_two = all_told ds (version_at first (start_of run before)) records (told_first first b) })

  led : (first : List Delivery) → led_to first (start_of run before) replies ≡ following (horizon_at (start_of run before)) replies first
  led first = led_first (start_of run before) begins replies first

  brought_within : StopsWithin (NotApplied NoRoom) run before now → Brought
  brought_within s =
      let b = first_begins (max_bytes_of run.choices) before.input.left now.input.left bytes (s.deliveries ++ option_to_list s.last) ds left are s.first in
      record {
        named = subst (WorldNamed contents (events ds)) (sym (s.within.source contents known))
            (some_named contents (events ds) replies gives s.within.steps _
            (subst (λ w. WorldNamed contents (events ds) (entered_if_any w s.last)) (sym (led s.deliveries))
            (if_any_named contents (events ds) replies gives (horizon_at (start_of run before)) s.deliveries s.last (begins-events ds (s.deliveries ++ option_to_list s.last) b))));
        mapped = one_version s.deliveries (begins-fewer ds s.deliveries (option_to_list s.last) b) s.mapped;
      }

  brought_at_end : StopsAtEnd (NotApplied NoRoom) run before now → Brought
  brought_at_end s =
      let all = at_known before.input.left bytes (λ u. AreDeliveries (max_bytes_of run.choices) u s.deliveries) left s.are in
      let same : Some ds ≡ Some s.deliveries = sym are.delivered ∙ all.delivered in
      let is : ds ≡ s.deliveries = cc in
      let b : Begins ds s.deliveries = subst (λ l. Begins ds l) is (begins-all ds) in
      record {
        named = subst (WorldNamed contents (events ds)) (sym (s.within.source contents known))
            (some_named contents (events ds) replies gives s.within.steps _
            (end_named contents (events ds) replies gives (led_to s.deliveries (start_of run before) replies)
            (subst (WorldNamed contents (events ds)) (sym (led s.deliveries))
            (following_named contents (events ds) replies gives (horizon_at (start_of run before)) s.deliveries (begins-events ds s.deliveries b)))));
        mapped = one_version s.deliveries b s.mapped;
      }

  brought_at_mapping : StandsAtMapping run before now → Brought
  brought_at_mapping s =
      let b = first_begins (max_bytes_of run.choices) before.input.left now.input.left bytes (s.deliveries ++ Mapping s.version ∷ []) ds left are s.first.first in
      let fewer_ones = begins-fewer ds s.deliveries (Mapping s.version ∷ []) b in
      record {
        named = subst (WorldNamed contents (events ds)) (sym (s.played.source contents known))
            (subst (WorldNamed contents (events ds)) (sym (led s.deliveries))
            (following_named contents (events ds) replies gives (horizon_at (start_of run before)) s.deliveries (begins-events ds s.deliveries fewer_ones)));
        mapped = subst (MappedTold ds) (sym s.mapped) (some_told ds s.steps records _ (record {
          version = begins-mapping ds s.deliveries s.version b;
          by_two = all_told ds (version_at s.deliveries (start_of run before)) records (told_first s.deliveries fewer_ones);
        }));
      }

  module _ (enough : distinct (terms_there contents ds) ≤ run.environment.limit.terms) where
    never_over : (x : EntityId) (rev : ℕ) (page : Bytes) → Brought → IsNamed (events ds) x rev → contents rev ≡ Some page → HasNoRoom run.environment.limit records now.stage.mapped x rev page → ⊥
    never_over x rev page brought named there over =
        no_number _ _ _ over (few_needs run.environment.limit.lean (meaning_by meaning now.stage.mapped.by_two) (meaning now.stage.mapped.version) records x (Some (record { revision = rev; content = page })) _ (fits contents ds records now.stage.mapped.version now.stage.mapped.by_two brought.mapped.version brought.mapped.by_two (λ y. (brought.named.pages y).held) x rev page named there)) enough

    never_full : IsFull run.environment now.stage.world now.stage.mapped → Brought → ⊥
    never_full full brought =
        never_over full.event.entity (revision_wanted now.stage.world full.event) full.bytes brought
        (wanted_named contents (events ds) now.stage.world full.event full.due full.fetches brought.named) (full.there contents known) full.over

    never_full_of_stale : IsFullOfStale run.environment.limit records now.stage.mapped → Brought → ⊥
    never_full_of_stale full brought =
        let held : HoldsNamed contents (events ds) full.entity (Some full.page) = subst (HoldsNamed contents (events ds) full.entity) full.holds (brought.named.pages full.entity).held in
        never_over full.entity full.page.revision full.page.content brought held.0 held.1 full.over

    pub never_store_full : Stopped StoreFull run before now → ⊥
    never_store_full stopped = ⊎_elim
        (λ due. never_full due.0 (⊎_elim brought_within brought_at_end due.1))
        (λ stale. never_full_of_stale stale.0 (brought_at_mapping stale.1))
        stopped
