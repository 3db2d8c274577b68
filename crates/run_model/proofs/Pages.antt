-- The remapped pages, one after the other, and what is told of them.
use Rattle.std.proofs.Common.{◌≡◌, refl, sym, subst, ◌∙◌, ap, ◌<◌, ◌≤◌, List, [], ◌∷◌, ◌++◌, length, append_assoc, append-nil, Ok, Err, arith}
use Rattle.sorted_sets.specs.Rising.{IsRising}
use Rattle.rdf_term.specs.Order.{triple_cmp}
use Rattle.entity_model.specs.{declared.id.EntityId.EntityId, declared.mapping.MappingVersion.MappingVersion, EntityId.entity_cmp}
use Rattle.replay_model.specs.{Records.Records, ReplayState.ReplayState, Union.union, Versions.meaning_by, Versions.with_version}
use Rattle.fetched_pages.specs.Meaning.{meaning}
use Rattle.holders.specs.Holding.{first_of, with_version_of}
use Rattle.world.specs.WorldState.{WorldState, remapped, stale, stored_of}
use Rattle.text_output.specs.declared.write.Unwritten.{Unwritten}
use Rattle.text_output.specs.declared.write.Unwritten.TheVariants.{WriteFault, OutOfMemory}
use Rattle.text_output.specs.Printing.{Output}
use Rattle.patch_stream.specs.Stream.{Step, step, steps_anew, steps_remapped}
use Rattle.run_model.specs.{declared.report.Report.Report, declared.report.Reported.Reported}
use Rattle.run_model.specs.declared.report.Report.TheVariants.{Answers, Changes}
use Rattle.run_model.specs.declared.stop.Halt.TheVariants.{Unapplied as NotApplied, Unprinted}
use Rattle.run_model.specs.Remapping.{IsLeftStale, mapped_in}
use Rattle.run_model.specs.Delivering.{TellsBy, TellsStepBy, IsLeft, RemapsPages}
use Rattle.term_pool.specs.declared.fault.PoolFault.{PoolFault as StoreFault}
use Rattle.run_model.proofs.{Needed.stale_after, Reports.tells_but_last, Reports.tells_next, Reports.tells_none}
use Rattle.run_model.proofs.Versions.{Remaps, remaps_roomed}

-- the step of the least stale entity comes first
pages_first : (w : WorldState) → IsRising entity_cmp w.by_two → 0 < length (stale w) →
    steps_anew w.mapping w.replay.played.records w.by_two ≡ step (stored_of w) (stored_of (remapped w)) ∷ steps_anew w.mapping w.replay.played.records (remapped w).by_two
pages_first w rising some = by (stale w) refl some
  where
    records : Records
    records = w.replay.played.records

    Left : List EntityId → List Step
    Left by_two = step (stored_of w) (union triple_cmp (meaning_by meaning by_two) records) ∷ steps_anew w.mapping records by_two

    by : (xs : List EntityId) → stale w ≡ xs → 0 < length xs → steps_anew w.mapping records w.by_two ≡ Left (remapped w).by_two
    by [] is none = absurd (omega (arith, none))
    by (x ∷ rest) is there =
        ap (steps_remapped w.mapping records w.by_two) is
        ∙ ap (λ l. step (stored_of w) (union triple_cmp (meaning_by meaning (with_version w.mapping x w.by_two)) records) ∷ steps_remapped w.mapping records (with_version w.mapping x w.by_two) l) (sym (stale_after w rising x rest is))
        ∙ ap (λ o. Left (with_version_of w.mapping o w.by_two)) (sym (ap first_of is))

-- some pages were remapped, and are told
pub record RemapsTold (report : Report) (reported reported_now : Reported) (version : MappingVersion) (old now : WorldState) (out_old out_now : Output) : Type 0 where
  pub remaps : Remaps version old now
  pub pages : List Step
  pub are : pages ++ steps_anew version old.replay.played.records now.by_two ≡ steps_anew version old.replay.played.records old.by_two
  pub tells : TellsBy report reported pages reported_now out_old out_now

-- none yet
pub told_none : (report : Report) (reported : Reported) (version : MappingVersion) (old now : WorldState) (out : Output) → now ≡ record old { mapping = version } → Remaps version old now → RemapsTold report reported reported version old now out out
told_none report reported version old now out is remaps = record {
  remaps = remaps;
  pages = [];
  are = ap (λ (w : WorldState). steps_anew version old.replay.played.records w.by_two) is;
  tells = tells_none report reported out;
}

module _ (report : Report) (reported between : Reported) (version : MappingVersion) (old now new : WorldState) (out_old out_now out_new : Output) (so_far : RemapsTold report reported between version old now out_old out_now)
    (is : new ≡ remapped now) (some : 0 < length (stale now)) where
  -- the step from one world to the next
  abbrev this : Step
  this = step (stored_of now) (stored_of new)

  pages_more : (so_far.pages ++ this ∷ []) ++ steps_anew version old.replay.played.records new.by_two ≡ steps_anew version old.replay.played.records old.by_two
  pages_more =
      append_assoc so_far.pages (this ∷ []) (steps_anew version old.replay.played.records new.by_two)
      ∙ ap (λ (w : WorldState). so_far.pages ++ step (stored_of now) (stored_of w) ∷ steps_anew version old.replay.played.records w.by_two) is
      ∙ ap (λ (w : ReplayState). so_far.pages ++ step (stored_of now) (stored_of (remapped now)) ∷ steps_anew version w.played.records (remapped now).by_two) (sym so_far.remaps.replay)
      ∙ ap (λ v. so_far.pages ++ step (stored_of now) (stored_of (remapped now)) ∷ steps_anew v now.replay.played.records (remapped now).by_two) (sym so_far.remaps.version_is)
      ∙ ap (λ l. so_far.pages ++ l) (sym (pages_first now so_far.remaps.holders.rising some))
      ∙ ap (λ v. so_far.pages ++ steps_anew v now.replay.played.records now.by_two) so_far.remaps.version_is
      ∙ ap (λ (w : ReplayState). so_far.pages ++ steps_anew version w.played.records now.by_two) so_far.remaps.replay
      ∙ so_far.are

  -- one more is told
  pub told_next : (reported_now : Reported) → Remaps version old new → TellsStepBy report between this out_now out_new (Ok reported_now) → RemapsTold report reported reported_now version old new out_old out_new
  told_next reported_now remaps tells = record {
    remaps = remaps;
    pages = so_far.pages ++ this ∷ [];
    are = pages_more;
    tells = tells_next report reported between reported_now so_far.pages this out_old out_now out_new so_far.tells tells;
  }

  rose : (report : Report) (why : Unwritten) → out_old.faults ≤ out_now.faults → TellsStepBy report between this out_now out_new (Err why) → IsLeft (Unprinted why) old.limit old.replay.played.records (mapped_in new) out_old out_new
  rose Answers why more never = absurd never
  rose Changes WriteFault more tells = omega (arith, more, (tells.outcome.1.failed refl).1)
  rose Changes OutOfMemory more tells = tt

  -- one more isn't told wholly
  pub told_but_last : (why : Unwritten) → Remaps version old new → out_old.faults ≤ out_now.faults → TellsStepBy report between this out_now out_new (Err why) →
      RemapsPages (Unprinted why) report old.limit reported version old.replay.played.records (mapped_in old) (mapped_in new) out_old out_new
  told_but_last why remaps more tells = record {
    left = rose report why more tells;
    steps = remaps.steps;
    mapped = remaps.mapped;
    roomed = remaps_roomed version old new new remaps refl;
    pages = so_far.pages ++ this ∷ [];
    are = pages_more;
    told = (so_far.pages, this, refl, tells_but_last report why reported between so_far.pages this out_old out_now out_new so_far.tells tells);
  }

-- the next one isn't remapped
pub told_before : (report : Report) (why : StoreFault) (reported reported_now : Reported) (version : MappingVersion) (old now new : WorldState) (out_old out_now : Output) → RemapsTold report reported reported_now version old now out_old out_now → new ≡ now →
    IsLeftStale why old.limit old.replay.played.records (mapped_in new) → RemapsPages (NotApplied why) report old.limit reported version old.replay.played.records (mapped_in old) (mapped_in new) out_old out_now
told_before report why reported reported_now version old now new out_old out_now so_far same left = record {
  left = left;
  steps = so_far.remaps.steps;
  mapped = ap mapped_in same ∙ so_far.remaps.mapped;
  roomed = remaps_roomed version old now new so_far.remaps same;
  pages = so_far.pages;
  are = ap (λ (w : WorldState). so_far.pages ++ steps_anew version old.replay.played.records w.by_two) same ∙ so_far.are;
  told = (reported_now, so_far.tells);
}

-- all of them are told
pub told_all : (report : Report) (reported reported_now : Reported) (version : MappingVersion) (old now : WorldState) (out_old out_now : Output) → RemapsTold report reported reported_now version old now out_old out_now → length (stale now) ≡ 0 →
    TellsBy report reported (steps_anew version old.replay.played.records old.by_two) reported_now out_old out_now
told_all report reported reported_now version old now out_old out_now so_far none =
    subst (λ l. TellsBy report reported l reported_now out_old out_now) whole so_far.tells
  where
    empty : (xs : List EntityId) → length xs ≡ 0 → xs ≡ []
    empty [] is = refl
    empty (x ∷ xs) is = absurd (omega (arith, is))

    left : steps_anew version old.replay.played.records now.by_two ≡ []
    left =
        ap (λ (w : ReplayState). steps_anew version w.played.records now.by_two) (sym so_far.remaps.replay)
        ∙ ap (λ v. steps_anew v now.replay.played.records now.by_two) (sym so_far.remaps.version_is)
        ∙ ap (steps_remapped now.mapping now.replay.played.records now.by_two) (empty (stale now) none)

    whole : so_far.pages ≡ steps_anew version old.replay.played.records old.by_two
    whole = sym (append-nil so_far.pages) ∙ ap (λ l. so_far.pages ++ l) (sym left) ∙ so_far.are
