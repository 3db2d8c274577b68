-- One use after the other is taken back.
use Rattle.std.proofs.Common.{◌∙◌, arith}
use Rattle.triple_catalog.proofs.{Held.first_used, Held.second_used, Held.taken_back, Live.uses_third}
use Rattle.triple_catalog.proofs.interning.release_triple.Goals as goal

pub release-requires-clause-used : goal.release-requires-clause-used
release-requires-clause-used c = omega (arith, c.requires.used c.args.key.third, uses_third c.args.key)

pub release-requires-2-clause-used : goal.release-requires-2-clause-used
release-requires-2-clause-used c = second_used _ _ _ _ c.args.key c.requires.used c.release.ensures.released

pub release-requires-3-clause-used : goal.release-requires-3-clause-used
release-requires-3-clause-used c = first_used _ _ _ _ _ _ c.args.key c.requires.used c.release.ensures.released c.release-2.ensures.released

pub returns-clause-gone : goal.returns-clause-gone
returns-clause-gone c = taken_back _ _ _ _ _ _ _ _ c.args.key c.release.ensures.released c.release-2.ensures.released c.release-3.ensures.released

pub returns-clause-beside : goal.returns-clause-beside
returns-clause-beside c piece = c.release-3.ensures.beside piece ∙ (c.release-2.ensures.beside piece ∙ c.release.ensures.beside piece)

pub returns-clause-limit : goal.returns-clause-limit
returns-clause-limit c = c.release-3.ensures.limit ∙ (c.release-2.ensures.limit ∙ c.release.ensures.limit)
