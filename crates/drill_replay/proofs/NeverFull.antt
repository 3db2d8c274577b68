-- There is room for each page that the world of a drill wants.
use Rattle.std.proofs.Common.{◌≡◌, ◌∙◌, refl, sym, ap, subst, inl, ⊎_elim, ◌||◌, ℕ, ◌<◌, ◌≤◌, true, List, [], ◌∷◌, ◌++◌, append_assoc, None, Some, arith}
use Rattle.std.proofs.lemmas.List.Elements.{filter_map-append}
use Rattle.sorted_sets.proofs.{Bools.clash, Rising.has-append}
use Rattle.entity_json.specs.Document.{unfit_of}
use Rattle.delivery.specs.declared.Delivery.{Delivery}
use Rattle.entity_model.specs.{declared.event.Event.Event, declared.mapping.MappingVersion.TheVariants.One, Event.event_cmp}
use Rattle.sorted_sets.specs.Rising.{has}
use Rattle.reorder_buffer.specs.Buffered.{first_due}
use Rattle.replay_model.specs.{Acceptance.event_of, Acceptance.events, Explained.is_fetching, Explained.revision_wanted, Records.Bytes}
use Rattle.replay_model.specs.{ReplayState.ReplayState, ReplayState.following, Versions.meaning_by}
use Rattle.fetched_pages.specs.Meaning.{meaning}
use Rattle.holders.specs.Roomed.{room_with}
use Rattle.drill_replay.proofs.Fits.{fits}
use Rattle.drill_replay.proofs.Named.{AreAmong, GivesThere, WorldNamed, end_named, entered_named, first_among, following_named, last_among, some_named, source_gives, wanted_named}
use Rattle.drill_replay.proofs.Roomy.{roomy}
use Rattle.drill_replay.specs.Drill.{IsSize, contents_of, drill}
use Rattle.drill_replay.specs.{Playing.HasBegun, Playing.StandsAtEnd, Playing.StandsBetween, Playing.StandsWithin, Summary.replies_of}
use Rattle.rdf_term.specs.Limits.{default_max_terms}

-- ---- what is held and what waits

module _ (size : ℕ) where
  abbrev named : List Event
  named = events (drill size)

  gives : (e : Event) (r : ℕ) → GivesThere (contents_of size) r (replies_of size e r)
  gives = source_gives (contents_of size) unfit_of []

  -- the events of a first part are among all
  part_among : (before after : List Delivery) → drill size ≡ before ++ after → AreAmong (events before) named
  part_among before after all e h =
      ap (λ l. has event_cmp e (events l)) all
      ∙ ap (has event_cmp e) (filter_map-append event_of before after)
      ∙ has-append event_cmp e (events before) (events after)
      ∙ ap (λ t. t || has event_cmp e (events after)) h

  between_named : (world : ReplayState) → StandsBetween size (drill size) world → WorldNamed (contents_of size) named world
  between_named world s = subst (WorldNamed (contents_of size) named) (sym s.is) (following_named (contents_of size) named (replies_of size) gives None s.before (part_among s.before s.after s.all))

  within_named : (world : ReplayState) → StandsWithin size (drill size) world → WorldNamed (contents_of size) named world
  within_named world s =
      let among : AreAmong (events (s.before ++ s.last ∷ [])) named = part_among (s.before ++ s.last ∷ []) s.after (s.all ∙ sym (append_assoc s.before (s.last ∷ []) s.after)) in
      subst (WorldNamed (contents_of size) named) (sym s.is)
      (some_named (contents_of size) named (replies_of size) gives s.steps _
      (entered_named (contents_of size) named (replies_of size) gives (following None (replies_of size) s.before) s.last
      (last_among (contents_of size) named (replies_of size) gives s.before s.last among)
      (following_named (contents_of size) named (replies_of size) gives None s.before (first_among (contents_of size) named (replies_of size) gives s.before s.last among))))

  end_part_named : (world : ReplayState) → StandsAtEnd size world → WorldNamed (contents_of size) named world
  end_part_named world s =
      subst (WorldNamed (contents_of size) named) (sym s.is)
      (some_named (contents_of size) named (replies_of size) gives s.steps _
      (end_named (contents_of size) named (replies_of size) gives (following None (replies_of size) (drill size))
      (following_named (contents_of size) named (replies_of size) gives None (drill size) (λ e h. h))))

  begun_named : (world : ReplayState) → HasBegun size world → WorldNamed (contents_of size) named world
  begun_named world begun = ⊎_elim (λ part. ⊎_elim (between_named world) (within_named world) part) (end_part_named world) begun

-- ---- the room

no_number : (a b c : ℕ) → a < b → b ≤ c → c ≤ a → ⊥
no_number a b c over within enough = omega (arith, over, within, enough)

-- no page that is due is too much
pub never_over : (size limit : ℕ) (world : ReplayState) (e : Event) (bytes : Bytes) → IsSize size → HasBegun size world → default_max_terms ≤ limit → first_due world.buffer ≡ Some e → is_fetching world e ≡ true
    → contents_of size (revision_wanted world e) ≡ Some bytes → limit < room_with (meaning_by meaning []) world.played.records (meaning One e.entity (revision_wanted world e) bytes) → ⊥
never_over size limit world e bytes is_size begun enough due wanted there over =
    let among = begun_named size world begun in
    no_number _ _ _ over
    (fits (contents_of size) (drill size) world.played.records One [] (inl refl) (λ x h. clash h refl) (λ x. (among.pages x).held) e.entity (revision_wanted world e) bytes
    (wanted_named (contents_of size) (events (drill size)) world e due wanted among) there)
    (omega (arith, roomy size is_size, enough))
