-- The snapshots that are kept at a moment, and what writing and keeping one makes of them.
use Rattle.std.specs.Prelude.{◌≡◌, ℕ, ◌≤◌, List, Option, Result, MatchResult}
use Rattle.wq_io.specs.Streams.{Rose, after_known}
use Rattle.text_output.specs.{declared.write.Unwritten.Unwritten, declared.write.Unwritten.TheVariants.WriteFault}
use Rattle.checkpoint.specs.{declared.snapshots.Snapshots.Ghosts as SnapshotsOf, Keeping.with_snapshot}

-- snapshots at a moment: the bytes of each that was kept, in their order, and those of the one that is being written, where they are told;
-- how many calls failed, as far as 64 bits count them; and the most that ever fail, where it is told
pub record Archive : Type 0 where
  pub kept : Option (List (List ℕ))
  pub written : Option (List ℕ)
  pub faults : ℕ
  pub most_faults : Option ℕ

-- the archive that an object is
abbrev pub archive : {F : Type 0} → SnapshotsOf F → F → Archive
archive members object = record {
  kept = members.kept object;
  written = members.written object;
  faults = members.faults object;
  most_faults = members.most_faults object;
}

-- these bytes were written of a snapshot, and what is kept is the same; where not all were written, nothing is told of what was
pub record Writes (bytes : List ℕ) (old new : Archive) (result : Result (Unit {0}) Unwritten) : Type 0 where
  pub same : new.kept ≡ old.kept
  pub later : old.faults ≤ new.faults
  pub most : new.most_faults ≡ old.most_faults
  pub outcome : MatchResult result (λ _. new.written ≡ after_known old.written bytes) (λ why. why ≡ WriteFault → Rose old.faults new.faults)

-- a snapshot of these bytes was kept behind the others; or none was, for a cause, and those that were kept before are as they were
pub record Keeps (bytes : List ℕ) (old new : Archive) (result : Result (Unit {0}) Unwritten) : Type 0 where
  pub later : old.faults ≤ new.faults
  pub most : new.most_faults ≡ old.most_faults
  pub outcome : MatchResult result (λ _. new.kept ≡ with_snapshot old.kept bytes) (λ why. (new.kept ≡ old.kept) × (why ≡ WriteFault → Rose old.faults new.faults))
