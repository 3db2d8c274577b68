-- The slots of a stored triple are used.
use Rattle.triple_catalog.proofs.Storing.{used_slots}
use Rattle.triple_catalog.proofs.catalog.Catalog.texts_at.Goals as goal

pub text-requires-clause-used : goal.text-requires-clause-used
text-requires-clause-used c = (used_slots c.args.self.now.pool c.args.self.now.index c.args.key c.requires.stored.counted c.requires.there).0

pub text-requires-2-clause-used : goal.text-requires-2-clause-used
text-requires-2-clause-used c = (used_slots c.args.self.now.pool c.args.self.now.index c.args.key c.requires.stored.counted c.requires.there).1

pub text-requires-3-clause-used : goal.text-requires-3-clause-used
text-requires-3-clause-used c = (used_slots c.args.self.now.pool c.args.self.now.index c.args.key c.requires.stored.counted c.requires.there).2
