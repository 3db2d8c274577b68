-- Runs of any commands that go on from one another are one replay, and a follower of their records stops before a number without a record.
use Rattle.std.proofs.Common.{◌≡◌, refl, sym, subst, ◌∙◌, ap, inl, inr, ⊎_elim, ℕ, ◌+◌, Bool, true, false, ◌||◌, cond, List, [], ◌∷◌, ◌++◌, length, length-append, filter, map, Option, arith, true≢false}
use Rattle.std.proofs.lemmas.List.{length-map, map-append}
use Rattle.sorted_sets.specs.Rising.{Each, In}
use Rattle.rdf_term.specs.declared.triple.Triple.{Triple}
use Rattle.delivery.specs.declared.Delivery.{Delivery}
use Rattle.replay_model.specs.{Acceptance.mark, Acceptance.version_in_force, Play.Played, Play.Replies, Play.played}
use Rattle.replay_model.specs.{ReplayState.ReplayState, Union.union}
use Rattle.replay_parts.specs.Checkpoint.{replies_of_runs}
use Rattle.rdf_term.specs.Order.{triple_cmp}
use Rattle.fetched_pages.specs.Meaning.{meaning}
use Rattle.replica.specs.{declared.record.PatchRecord.PatchRecord, Laws.IsGreatest, Replica.after}
use Rattle.replica.proofs.Producers.{after_is}
use Rattle.written_laws.specs.Laws.{BeginsAt, IsChain}
use Rattle.written_laws.proofs.Chains.{chain_of_play, chain_to_end}
use Rattle.written_laws.proofs.Streamed.{chain_of_changes}
use Rattle.patch_stream.specs.Stream.{Step, changes, has_change, is_change, numbered_from, record_of_step, step, steps_of_play}
use Rattle.patch_stream.proofs.Texts.{differs}
use Rattle.snapshot.specs.declared.counts.Counts.{Counts}
use Rattle.arguments.specs.Options.{closes}
use Rattle.run_model.specs.declared.report.Report.{Report}
use Rattle.run_model.specs.declared.report.Report.TheVariants.{Answers, Changes}
use Rattle.run_model.specs.declared.status.Status.TheVariants.{Ok as Ended}
use Rattle.run_model.specs.Headline.{Ending, IsSnapshotBehind, numbers_behind, numbers_saved}
use Rattle.run_model.specs.Moment.{Beginning, Moment, Run, Stage, behind, horizon_at, numbers_of, start_in, start_of}
use Rattle.run_model.specs.{OneRun.StandsAfter, OneRun.replies_with, OneRun.state_ended, OneRun.steps_ended, Remapping.held_triples, Remapping.mapped_by, Resuming.with_loaded}
use Rattle.run_model.proofs.Versions.{all_held_by}
use Rattle.session_laws.specs.{Complete.steps_made, Live.steps_behind, Live.stored_after}
use Rattle.session_laws.specs.Chains.{Numbered, RunOn, changes_of, first_cut, first_run, joined, later_cut, later_run, numbered_in, written_from}
use Rattle.session_laws.proofs.Archived.{snapshot_mapped, snapshot_stands, snapshot_steps}
use Rattle.session_laws.proofs.GoesOn.{begins_there, loads_there}
use Rattle.session_laws.proofs.Mirrored.{are_records, at_start, of_producer, rises_along}
use Rattle.session_laws.proofs.OneRun.{first_stands, mapped_is, next_stands, state_ended-played, steps_together, world_is}

-- ---- one replay

-- one replay of these deliveries has these steps, and the counts have as many numbers as there are changes with one
record IsOnePlay (closed : Bool) (stage : Stage) (numbers : Counts) (steps : List Step) (changes : List Numbered) : Type 0 where
  h : Option ℕ
  replies : Replies
  ds : List Delivery
  world : stage.world ≡ state_ended closed h replies ds
  mapped : stage.mapped ≡ mapped_by (version_in_force ds) stage.world.played.records
  stands : closed ≡ false → StandsAfter h replies ds (start_in numbers stage)
  are : steps ≡ steps_ended closed h replies ds
  counted : numbers.patches ≡ length changes

-- the counts that a run leaves have a number more for each of its changes with one
numbers_count : (report : Report) (steps : Replies → List Step) (ds : List Delivery) (start : Beginning) (replies : Replies) → (numbers_of report steps ds start replies).patches ≡ start.numbered.patches + length (numbered_in report (steps replies))
numbers_count Changes steps ds start replies = ap (λ n. start.numbered.patches + n) (sym (length-map (filter is_change (steps replies)) (λ s. record { change = s; written = true })))
numbers_count Answers steps ds start replies = by (steps replies)
  where
    one : (b : Bool) (c : Numbered) → cond b (start.numbered.patches + 1) start.numbered.patches ≡ start.numbered.patches + length (cond b (c ∷ []) [])
    one true c = omega arith
    one false c = omega arith

    by : (l : List Step) → cond (has_change l) (start.numbered.patches + 1) start.numbered.patches ≡ start.numbered.patches + length (numbered_in Answers l)
    by [] = omega arith
    by (s ∷ l) = one (has_change (s ∷ l)) (record { change = joined s l; written = false })

counted_on : (report : Report) (numbers earlier : ℕ) (steps : List Step) (changes : List Numbered) → numbers ≡ earlier + length (numbered_in report steps) → earlier ≡ length changes → numbers ≡ length (changes ++ numbered_in report steps)
counted_on report numbers earlier steps changes more was = more ∙ ap (λ n. n + length (numbered_in report steps)) was ∙ sym (length-append changes (numbered_in report steps))

plays : (h : Option ℕ) (earlier : Replies) (ds : List Delivery) (run : Run) (before now : Moment) → StandsAfter h earlier ds (start_of run before) → (ending : Ending run before now) → (steps : List Step) → steps ≡ steps_of_play h earlier ds →
    (changes : List Numbered) → run.numbered.patches ≡ length changes →
    IsOnePlay (closes run.choices) now.stage (numbers_saved ending) (steps ++ steps_made run before now ending) (changes ++ numbered_in run.environment.report (steps_made run before now ending))
plays h earlier ds run before now stands ending steps are changes counts = record {
  h = h;
  replies = replies_with earlier ds ending;
  ds = ds ++ ending.replayed.deliveries;
  world = world_is h earlier ds run before now stands ending;
  mapped = mapped_is h earlier ds run before now stands ending;
  stands = next_stands h earlier ds run before now stands ending;
  are = ap (λ l. l ++ steps_made run before now ending) are ∙ steps_together h earlier ds run before now stands ending;
  counted = counted_on run.environment.report (numbers_saved ending).patches run.numbered.patches (steps_made run before now ending) changes
      (numbers_count run.environment.report _ ending.replayed.deliveries (start_of run before) ending.replayed.replay.played.replies) counts;
}

plays_cut : (h : Option ℕ) (earlier : Replies) (ds : List Delivery) (run : Run) (start : Beginning) → StandsAfter h earlier ds start → (taken : List Delivery) (text : List ℕ) (kept : IsSnapshotBehind run start taken text) →
    (steps : List Step) → steps ≡ steps_of_play h earlier ds → (changes : List Numbered) → start.numbered.patches ≡ length changes →
    IsOnePlay false kept.stage (numbers_behind kept) (steps ++ steps_behind kept) (changes ++ numbered_in run.environment.report (steps_behind kept))
plays_cut h earlier ds run start stands taken text kept steps are changes counts =
    let there = snapshot_stands h earlier ds run start stands taken text kept in
    record {
      h = h;
      replies = replies_of_runs (mark ds) earlier kept.played.replies;
      ds = ds ++ taken;
      world = there.world;
      mapped = snapshot_mapped h earlier ds run start stands taken text kept;
      stands = λ open_still. there;
      are = ap (λ l. l ++ steps_behind kept) are ∙ snapshot_steps h earlier ds run start stands taken text kept;
      counted = counted_on run.environment.report (numbers_behind kept).patches start.numbered.patches (steps_behind kept) changes (numbers_count run.environment.report _ taken start kept.played.replies) counts;
    }

played_on : (closed : Bool) (stage : Stage) (numbers : Counts) (steps : List Step) (changes : List Numbered) → RunOn closed stage numbers steps changes → IsOnePlay closed stage numbers steps changes
played_on closed stage numbers steps changes (first_run run before now is_first ending) =
    let replies : Replies = ending.replayed.replay.played.replies in
    plays (horizon_at (start_of run before)) replies [] run before now (first_stands (start_of run before) is_first replies) ending [] refl [] (ap (λ (n : Counts). n.patches) is_first.numbered)
played_on closed stage numbers steps changes (first_cut run before taken text is_first kept) =
    let replies : Replies = kept.played.replies in
    plays_cut (horizon_at (start_of run before)) replies [] run (start_of run before) (first_stands (start_of run before) is_first replies) taken text kept [] refl [] (ap (λ (n : Counts). n.patches) is_first.numbered)
played_on closed stage numbers steps changes (later_run earlier counted done had bytes run before now chain saved left resumed) =
    let there = played_on false earlier counted done had chain in
    let begins = begins_there Ended run before now earlier counted bytes resumed left saved there.h there.replies there.ds (there.stands refl) in
    plays there.h there.replies there.ds (behind resumed.numbers run) (with_loaded before resumed.rest resumed.world) now begins.0 resumed.ending.outcome done there.are had
    (ap (λ (n : Counts). n.patches) begins.1 ∙ there.counted)
played_on closed stage numbers steps changes (later_cut earlier counted done had bytes run before rest world counts taken text chain saved left loaded kept) =
    let there = played_on false earlier counted done had chain in
    let begins = loads_there run before rest world counts earlier counted bytes loaded left saved there.h there.replies there.ds (there.stands refl) in
    plays_cut there.h there.replies there.ds (behind counts run) (start_of (behind counts run) (with_loaded before rest world)) begins.0 taken text kept done there.are had
    (ap (λ (n : Counts). n.patches) begins.1 ∙ there.counted)

-- there is a number for each change
pub numbers_on : (closed : Bool) (stage : Stage) (numbers : Counts) (steps : List Step) (changes : List Numbered) → RunOn closed stage numbers steps changes → numbers.patches ≡ length changes
numbers_on closed stage numbers steps changes chain = (played_on closed stage numbers steps changes chain).counted

-- ---- chains of steps

chain_on : (closed : Bool) (stage : Stage) (numbers : Counts) (steps : List Step) (changes : List Numbered) → RunOn closed stage numbers steps changes → IsChain [] steps (held_triples stage.mapped stage.world.played.records)
chain_on closed stage numbers steps changes chain =
    let there = played_on closed stage numbers steps changes chain in
    let held : union triple_cmp (meaning (version_in_force there.ds)) (played there.h closed there.replies there.ds).records ≡ held_triples stage.mapped stage.world.played.records =
    ap (λ (p : Played). union triple_cmp (meaning (version_in_force there.ds)) p.records) (state_ended-played closed there.h there.replies there.ds ∙ ap (λ (w : ReplayState). w.played) (sym there.world))
    ∙ sym (all_held_by (version_in_force there.ds) stage.mapped stage.world.played.records there.mapped) in
    subst (λ l. IsChain [] l (held_triples stage.mapped stage.world.played.records)) (sym there.are)
    (subst (IsChain [] (steps_ended closed there.h there.replies there.ds)) held (by closed there.h there.replies there.ds))
  where
    by : (c : Bool) (h : Option ℕ) (replies : Replies) (ds : List Delivery) → IsChain [] (steps_ended c h replies ds) (union triple_cmp (meaning (version_in_force ds)) (played h c replies ds).records)
    by true h replies ds = chain_to_end h replies ds
    by false h replies ds = chain_of_play h replies ds

-- the first steps lead to where the others begin
split_at : (first last : List Triple) (xs ys : List Step) → IsChain first (xs ++ ys) last → (middle : List Triple) × IsChain first xs middle × IsChain middle ys last
split_at first last [] ys chain = (first, refl, chain)
split_at first last (x ∷ xs) ys chain =
    let rest = split_at x.after last xs ys chain.1 in
    (rest.0, (chain.0, rest.1), rest.2)

put_together : (first middle last : List Triple) (xs ys : List Step) → IsChain first xs middle → IsChain middle ys last → IsChain first (xs ++ ys) last
put_together first middle last [] ys chain more = subst (λ m. IsChain m ys last) (sym chain) more
put_together first middle last (x ∷ xs) ys chain more = (chain.0, put_together x.after middle last xs ys chain.1 more)

-- steps as one
joined_chain : (first last : List Triple) (s : Step) (steps : List Step) → IsChain first (s ∷ steps) last → IsChain first (joined s steps ∷ []) last
joined_chain first last s [] chain = chain
joined_chain first last s (t ∷ steps) chain = joined_chain first last (step s.before t.after) steps (both, chain.1.1)
  where
    both : BeginsAt first (step s.before t.after)
    both = record {
      begins = chain.0.begins;
      rises = chain.0.rises;
      rises_after = chain.1.0.rises_after;
      fit = chain.0.fit;
      fit_after = chain.1.0.fit_after;
      utf8 = chain.0.utf8;
      utf8_after = chain.1.0.utf8_after;
    }

neither : (a b : Bool) → (a || b) ≡ false → (a ≡ false) × (b ≡ false)
neither true b is = absurd (true≢false is)
neither false b is = (refl, is)

-- where none changes what is stored, it stays
still_chain : (first last : List Triple) (steps : List Step) → has_change steps ≡ false → IsChain first steps last → first ≡ last
still_chain first last [] none chain = chain
still_chain first last (s ∷ steps) none chain =
    let parts = neither (is_change s) (has_change steps) none in
    let same : s.after ≡ s.before = (differs s.before s.after chain.0.rises chain.0.rises_after).0 parts.0 in
    sym chain.0.begins ∙ sym same ∙ still_chain s.after last steps parts.1 chain.1

written_all : (steps : List Step) → steps ≡ changes_of (map (λ s. record { change = s; written = true }) steps)
written_all [] = refl
written_all (s ∷ steps) = ap (λ l. s ∷ l) (written_all steps)

-- the changes of a run that have a number lead where its steps lead
run_chain : (report : Report) (first last : List Triple) (steps : List Step) → IsChain first steps last → IsChain first (changes_of (numbered_in report steps)) last
run_chain Changes first last steps chain = subst (λ l. IsChain first l last) (written_all (filter is_change steps)) (chain_of_changes first last steps chain)
run_chain Answers first last [] chain = chain
run_chain Answers first last (s ∷ steps) chain = by (has_change (s ∷ steps)) refl
  where
    by : (b : Bool) → has_change (s ∷ steps) ≡ b → IsChain first (changes_of (cond b (record { change = joined s steps; written = false } ∷ []) [])) last
    by true changed = joined_chain first last s steps chain
    by false none = still_chain first last (s ∷ steps) none chain

run_on_chain : (report : Report) (first last : List Triple) (done steps : List Step) (had : List Numbered) → ((middle : List Triple) → IsChain first done middle → IsChain first (changes_of had) middle) → IsChain first (done ++ steps) last →
    IsChain first (changes_of (had ++ numbered_in report steps)) last
run_on_chain report first last done steps had earlier chain =
    let parts = split_at first last done steps chain in
    subst (λ l. IsChain first l last) (sym (map-append (λ (c : Numbered). c.change) had (numbered_in report steps)))
    (put_together first parts.0 last (changes_of had) (changes_of (numbered_in report steps)) (earlier parts.0 parts.1) (run_chain report parts.0 last steps parts.2))

numbered_chain : (closed : Bool) (stage : Stage) (numbers : Counts) (steps : List Step) (changes : List Numbered) → RunOn closed stage numbers steps changes → (last : List Triple) → IsChain [] steps last → IsChain [] (changes_of changes) last
numbered_chain closed stage numbers steps changes (first_run run before now is_first ending) last chain = run_chain run.environment.report [] last (steps_made run before now ending) chain
numbered_chain closed stage numbers steps changes (first_cut run before taken text is_first kept) last chain = run_chain run.environment.report [] last (steps_behind kept) chain
numbered_chain closed stage numbers steps changes (later_run earlier counted done had bytes run before now before_it saved left resumed) last chain =
    run_on_chain run.environment.report [] last done (steps_made (behind resumed.numbers run) (with_loaded before resumed.rest resumed.world) now resumed.ending.outcome) had (numbered_chain false earlier counted done had before_it) chain
numbered_chain closed stage numbers steps changes (later_cut earlier counted done had bytes run before rest world counts taken text before_it saved left loaded kept) last chain =
    run_on_chain run.environment.report [] last done (steps_behind kept) had (numbered_chain false earlier counted done had before_it) chain

-- ---- their records

-- a written record is that of a change with its number
written_in : (number : ℕ) (changes : List Numbered) (item : PatchRecord) → In item (written_from number changes) → In item (numbered_from number (changes_of changes))
written_in number [] item there = absurd there
written_in number (c ∷ changes) item there = by (written_in (number + 1) changes item) c.written there
  where
    by : (In item (written_from (number + 1) changes) → In item (numbered_from (number + 1) (changes_of changes))) → (b : Bool) → In item (cond b (record_of_step number c.change ∷ []) [] ++ written_from (number + 1) changes) → In item (record_of_step number c.change ∷ numbered_from (number + 1) (changes_of changes))
    by later_in true here = ⊎_elim (λ is. inl is) (λ later. inr (later_in later)) here
    by later_in false later = inr (later_in later)

-- all of them lead to the end
all_after : (first last : List Triple) (steps : List Step) → IsChain first steps last → stored_after first steps (length steps) ≡ last
all_after first last [] chain = chain
all_after first last (s ∷ steps) chain = all_after s.after last steps chain.1

module _ (closed : Bool) (stage : Stage) (numbers : Counts) (steps : List Step) (changes : List Numbered) (chain : RunOn closed stage numbers steps changes) where
  lead : IsChain [] (changes_of changes) (held_triples stage.mapped stage.world.played.records)
  lead = numbered_chain closed stage numbers steps changes chain (held_triples stage.mapped stage.world.played.records) (chain_on closed stage numbers steps changes chain)

  -- what is stored after the last number is what is held
  pub held_at_last : stored_after [] (changes_of changes) numbers.patches ≡ held_triples stage.mapped stage.world.played.records
  held_at_last =
      ap (stored_after [] (changes_of changes)) (numbers_on closed stage numbers steps changes chain ∙ sym (length-map changes (λ (c : Numbered). c.change)))
      ∙ all_after [] (held_triples stage.mapped stage.world.played.records) (changes_of changes) lead

  -- the records up to the first gap lead to what was stored after the last of them
  pub lead_on : (items : List PatchRecord) (n : ℕ) → Each (λ item. In item (written_from 1 changes)) items → IsGreatest items n → after items n ≡ stored_after [] (changes_of changes) n
  lead_on items n each greatest =
      let producer : ℕ → List Triple = stored_after [] (changes_of changes) in
      after_is producer items (record { starts = at_start [] (changes_of changes); rises = rises_along [] (held_triples stage.mapped stage.world.played.records) (changes_of changes) tt lead })
      (of_producer producer (written_from 1 changes) items
      (λ item there. are_records producer 0 [] (held_triples stage.mapped stage.world.played.records) (changes_of changes) (λ m. let same : 0 + m ≡ m = omega arith in ap producer same) lead item (written_in 1 changes item there)) each)
      n greatest.received
