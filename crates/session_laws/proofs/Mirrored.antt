-- Patch streams that go on from one another are one stream, and a follower of their records has what is held where they end.
use Rattle.std.proofs.Common.{◌≡◌, refl, sym, subst, ◌∙◌, ap, ⊎_elim, ℕ, zero, suc, ◌+◌, ◌-◌, Bool, true, false, List, [], ◌∷◌, ◌++◌, filter, Option, None, Some, arith}
use Rattle.std.specs.List.{AllByRecursion}
use Rattle.std.proofs.lemmas.List.Elements.{filter-append}
use Rattle.sorted_sets.specs.Rising.{Each, In, IsRising, difference}
use Rattle.wq_io.specs.Streams.{after_known}
use Rattle.rdf_term.specs.{declared.triple.Triple.Triple, Order.triple_cmp}
use Rattle.delivery.specs.declared.Delivery.{Delivery}
use Rattle.replay_model.specs.{Acceptance.mark, Acceptance.version_in_force, Play.Played, Play.Replies, Play.played}
use Rattle.replay_model.specs.{ReplayState.ReplayState, Union.union}
use Rattle.replay_parts.specs.Checkpoint.{replies_of_runs}
use Rattle.fetched_pages.specs.Meaning.{meaning}
use Rattle.replica.specs.{declared.record.PatchRecord.PatchRecord, Laws.IsGreatest, Laws.IsRecordOf, Replica.after}
use Rattle.replica.proofs.Producers.{after_is, one_greatest}
use Rattle.written_laws.specs.Laws.{AreOfStream, IsChain}
use Rattle.patch_stream.specs.Stream.{Step, changes, is_change, numbered_from, record_of_step, steps_of_play, stream}
use Rattle.patch_stream.proofs.Streams.{numbered-append}
use Rattle.written_laws.proofs.Chains.{chain_of_play, chain_to_end}
use Rattle.written_laws.proofs.Streamed.{after_stream, all_there, chain_of_changes}
use Rattle.snapshot.specs.declared.counts.Counts.{Counts}
use Rattle.arguments.specs.Options.{FollowChoices, closes, follow_max_bytes_of}
use Rattle.following.specs.{Following.Ending as Followed, Following.FollowMoment, Following.replica_text, Reading.AreRecords}
use Rattle.following.proofs.{Complete.found_records, Refusals.one_list}
use Rattle.run_model.specs.{declared.report.Report.TheVariants.Changes, declared.status.Status.TheVariants.Ok as Ended}
use Rattle.run_model.specs.Headline.{Ending, IsSnapshotBehind, numbers_behind, numbers_saved}
use Rattle.run_model.specs.Moment.{Beginning, Moment, Run, Stage, behind, horizon_at, start_of}
use Rattle.run_model.specs.{OneRun.StandsAfter, OneRun.replies_with, OneRun.steps_ended, Remapping.held_triples, Resuming.with_loaded}
use Rattle.run_model.proofs.Versions.{all_held_by}
use Rattle.session_laws.specs.Complete.{steps_made}
use Rattle.session_laws.specs.Live.{GoOn, IsOneReplay, first_cut, first_run, later_cut, later_run, steps_behind, stored_after, stored_at_record}
use Rattle.session_laws.specs.Reruns.{records_from}
use Rattle.session_laws.proofs.Archived.{snapshot_mapped, snapshot_patches, snapshot_stands, snapshot_steps}
use Rattle.session_laws.proofs.GoesOn.{begins_there, loads_there}
use Rattle.session_laws.proofs.OneRun.{first_patches, first_stands, mapped_is, next_patches, next_stands, state_ended-played, steps_together, world_is}

-- ---- where runs that go on from one another end

-- a run that begins where a play stands leads to the play of its deliveries too
reaches : (h : Option ℕ) (earlier : Replies) (ds : List Delivery) (run : Run) (before now : Moment) → StandsAfter h earlier ds (start_of run before) → (ending : Ending run before now) → run.environment.report ≡ Changes →
    run.numbered.patches ≡ changes (steps_of_play h earlier ds) → (steps : List Step) → steps ≡ steps_of_play h earlier ds → IsOneReplay (closes run.choices) now.stage (numbers_saved ending) (steps ++ steps_made run before now ending)
reaches h earlier ds run before now stands ending told counts steps are = record {
  h = h;
  replies = replies_with earlier ds ending;
  ds = ds ++ ending.replayed.deliveries;
  world = world_is h earlier ds run before now stands ending;
  mapped = mapped_is h earlier ds run before now stands ending;
  stands = next_stands h earlier ds run before now stands ending;
  counts = next_patches h earlier ds run before now stands ending told counts;
  are = ap (λ l. l ++ steps_made run before now ending) are ∙ steps_together h earlier ds run before now stands ending;
}

-- and so does one that was cut off, up to where its snapshot was kept
reaches_cut : (h : Option ℕ) (earlier : Replies) (ds : List Delivery) (run : Run) (start : Beginning) → StandsAfter h earlier ds start → (taken : List Delivery) (text : List ℕ) (kept : IsSnapshotBehind run start taken text) → run.environment.report ≡ Changes →
    start.numbered.patches ≡ changes (steps_of_play h earlier ds) → (steps : List Step) → steps ≡ steps_of_play h earlier ds → IsOneReplay false kept.stage (numbers_behind kept) (steps ++ steps_behind kept)
reaches_cut h earlier ds run start stands taken text kept told counts steps are =
    let there = snapshot_stands h earlier ds run start stands taken text kept in
    record {
      h = h;
      replies = replies_of_runs (mark ds) earlier kept.played.replies;
      ds = ds ++ taken;
      world = there.world;
      mapped = snapshot_mapped h earlier ds run start stands taken text kept;
      stands = λ open_still. there;
      counts = snapshot_patches h earlier ds run start stands taken text kept told counts;
      are = ap (λ l. l ++ steps_behind kept) are ∙ snapshot_steps h earlier ds run start stands taken text kept;
    }

-- so they are one replay of all their deliveries
pub reached : (closed : Bool) (stage : Stage) (numbers : Counts) (steps : List Step) → GoOn closed stage numbers steps → IsOneReplay closed stage numbers steps
reached closed stage numbers steps (first_run run before now is_first told ending) =
    let replies : Replies = ending.replayed.replay.played.replies in
    reaches (horizon_at (start_of run before)) replies [] run before now (first_stands (start_of run before) is_first replies) ending told (first_patches (start_of run before) is_first replies) [] refl
reached closed stage numbers steps (later_run earlier counted done bytes run before now chain saved left told resumed) =
    let there = reached false earlier counted done chain in
    let begins = begins_there Ended run before now earlier counted bytes resumed left saved there.h there.replies there.ds (there.stands refl) in
    reaches there.h there.replies there.ds (behind resumed.numbers run) (with_loaded before resumed.rest resumed.world) now begins.0 resumed.ending.outcome told
    (ap (λ (n : Counts). n.patches) begins.1 ∙ there.counts) done there.are
reached closed stage numbers steps (first_cut run before taken text is_first told kept) =
    let replies : Replies = kept.played.replies in
    reaches_cut (horizon_at (start_of run before)) replies [] run (start_of run before) (first_stands (start_of run before) is_first replies) taken text kept told (first_patches (start_of run before) is_first replies) [] refl
reached closed stage numbers steps (later_cut earlier counted done bytes run before rest world counts taken text chain saved left told loaded kept) =
    let there = reached false earlier counted done chain in
    let begins = loads_there run before rest world counts earlier counted bytes loaded left saved there.h there.replies there.ds (there.stands refl) in
    reaches_cut there.h there.replies there.ds (behind counts run) (start_of (behind counts run) (with_loaded before rest world)) begins.0 taken text kept told
    (ap (λ (n : Counts). n.patches) begins.1 ∙ there.counts) done there.are

-- their steps lead from nothing to what is held at the end
chain_of : (closed : Bool) (stage : Stage) (numbers : Counts) (steps : List Step) → GoOn closed stage numbers steps → IsChain [] steps (held_triples stage.mapped stage.world.played.records)
chain_of closed stage numbers steps chain =
    let there = reached closed stage numbers steps chain in
    let held : union triple_cmp (meaning (version_in_force there.ds)) (played there.h closed there.replies there.ds).records ≡ held_triples stage.mapped stage.world.played.records =
    ap (λ (p : Played). union triple_cmp (meaning (version_in_force there.ds)) p.records) (state_ended-played closed there.h there.replies there.ds ∙ ap (λ (w : ReplayState). w.played) (sym there.world))
    ∙ sym (all_held_by (version_in_force there.ds) stage.mapped stage.world.played.records there.mapped) in
    subst (λ l. IsChain [] l (held_triples stage.mapped stage.world.played.records)) (sym there.are)
    (subst (IsChain [] (steps_ended closed there.h there.replies there.ds)) held (by closed there.h there.replies there.ds))
  where
    by : (c : Bool) (h : Option ℕ) (replies : Replies) (ds : List Delivery) → IsChain [] (steps_ended c h replies ds) (union triple_cmp (meaning (version_in_force ds)) (played h c replies ds).records)
    by true h replies ds = chain_to_end h replies ds
    by false h replies ds = chain_of_play h replies ds

-- the counts that the last of them leaves are how many records they wrote
pub counts_of : (closed : Bool) (stage : Stage) (numbers : Counts) (steps : List Step) → GoOn closed stage numbers steps → numbers.patches ≡ changes steps
counts_of closed stage numbers steps chain = let there = reached closed stage numbers steps chain in there.counts ∙ ap changes (sym there.are)

-- the records of later steps are numbered on
pub records_after : (steps more : List Step) → stream (steps ++ more) ≡ stream steps ++ records_from (changes steps) more
records_after steps more =
    let number : 1 + changes steps ≡ changes steps + 1 = omega arith in
    ap (numbered_from 1) (filter-append is_change steps more)
    ∙ numbered-append 1 (filter is_change steps) (filter is_change more)
    ∙ ap (λ n. stream steps ++ numbered_from n (filter is_change more)) number

-- ---- records after a gap are passed over

pub rises_along : (first last : List Triple) (steps : List Step) → IsRising triple_cmp first → IsChain first steps last → (n : ℕ) → IsRising triple_cmp (stored_after first steps n)
rises_along first last [] rises chain n = rises
rises_along first last (s ∷ steps) rises chain zero = rises
rises_along first last (s ∷ steps) rises chain (suc n) = rises_along s.after last steps chain.0.rises_after chain.1 n

pub at_start : (first : List Triple) (steps : List Step) → stored_after first steps 0 ≡ first
at_start first [] = refl
at_start first (s ∷ steps) = refl

-- each record says what changed from the step before
pub are_records : (producer : ℕ → List Triple) (told : ℕ) (first last : List Triple) (steps : List Step) → ((n : ℕ) → producer (told + n) ≡ stored_after first steps n) → IsChain first steps last →
    (item : PatchRecord) → In item (numbered_from (told + 1) steps) → IsRecordOf producer item
are_records producer told first last [] agrees chain item there = absurd there
are_records producer told first last (s ∷ steps) agrees chain item there = ⊎_elim here
    (λ later. are_records producer (told + 1) s.after last steps shifted chain.1 item later)
    there
  where
    next_is : producer (told + 1) ≡ s.after
    next_is = agrees 1 ∙ at_start s.after steps

    start : told + 0 ≡ told
    start = omega arith

    at : producer told ≡ s.before
    at = ap producer (sym start) ∙ agrees 0 ∙ sym chain.0.begins

    shifted : (n : ℕ) → producer ((told + 1) + n) ≡ stored_after s.after steps n
    shifted n = let same : (told + 1) + n ≡ told + suc n = omega arith in ap producer same ∙ agrees (suc n)

    before : (told + 1) - 1 ≡ told
    before = omega arith

    here : item ≡ record_of_step (told + 1) s → IsRecordOf producer item
    here is = subst (IsRecordOf producer) (sym is) (record {
      adds = λ i. difference triple_cmp (sym next_is i) (sym (ap producer before ∙ at) i);
      removes = λ i. difference triple_cmp (sym (ap producer before ∙ at) i) (sym next_is i);
    })

pub of_producer : (producer : ℕ → List Triple) (all items : List PatchRecord) → ((item : PatchRecord) → In item all → IsRecordOf producer item) → Each (λ item. In item all) items → AllByRecursion (IsRecordOf producer) items
of_producer producer all [] gives each = tt
of_producer producer all (x ∷ xs) gives each = (gives x each.0, of_producer producer all xs gives each.1)

-- the records up to the first gap lead to what was stored after the last of them
lead_there : (last : List Triple) (steps : List Step) (items : List PatchRecord) (n : ℕ) → IsChain [] steps last → Each (λ item. In item (stream steps)) items → IsGreatest items n → after items n ≡ stored_at_record steps n
lead_there last steps items n chain each greatest =
    let changing : IsChain [] (filter is_change steps) last = chain_of_changes [] last steps chain in
    after_is (stored_at_record steps) items (record { starts = at_start [] (filter is_change steps); rises = rises_along [] last (filter is_change steps) tt changing })
    (of_producer (stored_at_record steps) (stream steps) items
    (are_records (stored_at_record steps) 0 [] last (filter is_change steps) (λ m. let same : 0 + m ≡ m = omega arith in ap (stored_at_record steps) same) changing) each)
    n greatest.received

-- ---- followers

module _ (choices : FollowChoices) (before now : FollowMoment) (bytes : List ℕ) (items : List PatchRecord) (followed : Followed choices before now) (known : before.input.left ≡ Some bytes) (are : AreRecords (follow_max_bytes_of choices) bytes items None) where
  same_items : followed.items ≡ items
  same_items = (one_list _ followed.items items None None (found_records choices before now bytes known followed.items followed.followed.are).are are.are).0

  -- what a follower prints that applied the records up to this one
  pub shows : (n : ℕ) (triples : List Triple) → IsGreatest items n → after items n ≡ triples → now.output.bytes ≡ after_known before.output.bytes (replica_text choices.export n triples)
  shows n triples greatest is =
      let applied : followed.applied ≡ n = one_greatest items followed.applied n (subst (λ l. IsGreatest l followed.applied) same_items followed.followed.greatest) greatest in
      followed.printed ∙ (λ i. after_known before.output.bytes (replica_text choices.export (applied i) (((λ j. after (same_items j) (applied j)) ∙ is) i)))

module _ (closed : Bool) (stage : Stage) (numbers : Counts) (steps : List Step) (chain : GoOn closed stage numbers steps) (choices : FollowChoices) (before now : FollowMoment) (bytes : List ℕ) (items : List PatchRecord)
    (followed : Followed choices before now) (known : before.input.left ≡ Some bytes) (are : AreRecords (follow_max_bytes_of choices) bytes items None) where
  pub follower_has : AreOfStream steps items → now.output.bytes ≡ after_known before.output.bytes (replica_text choices.export (changes steps) (held_triples stage.mapped stage.world.played.records))
  follower_has of_stream =
      let lead = chain_of closed stage numbers steps chain in
      shows choices before now bytes items followed known are (changes steps) (held_triples stage.mapped stage.world.played.records) (all_there _ steps items lead of_stream) (after_stream _ steps items lead of_stream)

  pub follower_stops : (n : ℕ) → Each (λ item. In item (stream steps)) items → IsGreatest items n → now.output.bytes ≡ after_known before.output.bytes (replica_text choices.export n (stored_at_record steps n))
  follower_stops n each greatest =
      shows choices before now bytes items followed known are n (stored_at_record steps n) greatest (lead_there (held_triples stage.mapped stage.world.played.records) steps items n (chain_of closed stage numbers steps chain) each greatest)
