-- An application leaves fewer events waiting.
use Rattle.std.proofs.Common.{◌<◌, List, ℕ, length, Option}
use Rattle.revisions.specs.Revisions.{Contents}
use Rattle.sorted_sets.proofs.FirstPassing.{shorter_without}
use Rattle.replay_model.specs.ReplayState.{ReplayState}
use Rattle.world.specs.{Applying.Applies, declared.applied.AppliedEvent.AppliedEvent}

pub applies-fewer : (known : Option Contents) (folder : List ℕ) (old new : ReplayState) (applied : AppliedEvent) → Applies known folder old new applied →
    length new.buffer.waiting < length old.buffer.waiting
applies-fewer known folder old new applied a = rw a.new_is (shorter_without _ applied.event old.buffer.waiting a.due)
