-- The places so far, each at its revision.
use Rattle.std.proofs.Common.{◌≡◌, ◌==◌, ℕ, take}
use Rattle.std.specs.HashMap.{get}
use Rattle.memory_run.specs.Pages.{place_at}
use Rattle.memory_run.proofs.pages.index.Given as goal

abbrev pub invariant-loop-place : goal.invariant-loop-place
invariant-loop-place l = (rev : ℕ) → get ◌==◌ l.by_revision rev ≡ place_at (take l.place-index l.places) rev
