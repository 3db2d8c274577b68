-- Where neither count moved, nothing was counted that a fetch didn't find.
use Rattle.std.proofs.Common.{◌≡◌, ℕ, Result, Ok, Err, MatchResult}
use Rattle.revisions.specs.declared.revisions.NoRevision.{NoRevision}
use Rattle.revisions.specs.declared.revisions.NoRevision.TheVariants.{Missing, Failed, OutOfMemory}
use Rattle.revisions.specs.Revisions.{IsOtherwiseStill}

pub both_still : {A : Type 0} (r : Result A NoRevision) (misses misses_now faults faults_now : ℕ) → misses_now ≡ misses → faults_now ≡ faults →
    MatchResult r (λ _. (misses_now ≡ misses) × (faults_now ≡ faults)) (λ e. IsOtherwiseStill e misses misses_now faults faults_now)
both_still (Ok a) m n f g same still = (same, still)
both_still (Err Missing) m n f g same still = still
both_still (Err Failed) m n f g same still = same
both_still (Err OutOfMemory) m n f g same still = (same, still)
