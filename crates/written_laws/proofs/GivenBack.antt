-- What was saved of a world gives it back.
use Rattle.std.proofs.Common.{◌≡◌, sym, ◌∙◌, ap}
use Rattle.replay_model.specs.Versions.{all_by}
use Rattle.world.specs.WorldState.{WorldState}
use Rattle.snapshot.specs.{Whole.Saved, declared.counts.Counts.Counts}
use Rattle.checkpoint.specs.Saved.{saved_of, world_of}

pub given_back : (w : WorldState) (counts : Counts) (s : Saved) → s ≡ saved_of w counts → w.by_two ≡ all_by w.mapping w.replay.played.records → (world_of w.limit s ≡ w) × (s.counts ≡ counts)
given_back w counts s same by_one = (
  ap (world_of w.limit) same ∙ (λ i. record { replay = w.replay; limit = w.limit; mapping = w.mapping; by_two = sym by_one i }),
  ap (λ (t : Saved). t.counts) same,
)
