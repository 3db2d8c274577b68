use Rattle.triple_catalog.proofs.Differing.{sole_among, sole_rises}
use Rattle.triple_catalog.proofs.catalog.Catalog.sole_lines.Goals as goal

pub rows_of-requires-clause-rising : goal.rows_of-requires-clause-rising
rows_of-requires-clause-rising g c = rw (c.as_slice.ensures.value, c.in_ok-found.ensures.sole) (sole_rises c.args.self.now c.args.keys.now c.args.others.now c.requires.rising)

pub rows_of-requires-clause-there : goal.rows_of-requires-clause-there
rows_of-requires-clause-there g c = rw (c.as_slice.ensures.value, c.in_ok-found.ensures.sole) (λ key there. c.requires.there key (sole_among c.args.self.now c.args.keys.now c.args.others.now key there))
