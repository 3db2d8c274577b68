-- A world without records holds what it should.
use Rattle.std.proofs.Common.{[], true≢false, sym}
use Rattle.std.specs.FinMap.{len-empty}
use Rattle.replay_model.specs.{Play.nothing_played, Versions.meaning_by}
use Rattle.replay_model.proofs.Settled.{holds-nothing}
use Rattle.fetched_pages.specs.Meaning.{meaning}
use Rattle.holders.proofs.Rooming.{nothing_held}
use Rattle.world.proofs.PuttingIn.{no_documents}
use Rattle.world.proofs.world.World.new.Goals as goal
use Rattle.rdf_term.specs.Limits.{default_max_terms}

pub invariant_of-result : goal.invariant_of-result
invariant_of-result c = rw (c.in-Ok.ensures, c.new-3.ensures) (
  holds-nothing,
  nothing_held (meaning_by meaning []) nothing_played.records default_max_terms (len-empty _ _),
  record { rising = tt; holding = λ _ there. absurd (true≢false (sym there)) },
  no_documents,
)
