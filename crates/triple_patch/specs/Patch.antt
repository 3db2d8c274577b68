-- What a patch is.
use Rattle.std.specs.Prelude.{List}
use Rattle.sorted_sets.specs.Rising.{difference}
use Rattle.rdf_term.specs.declared.triple.Triple.{Triple}
use Rattle.rdf_term.specs.Order.{triple_cmp}
use Rattle.triple_patch.specs.declared.changes.Patch.{Patch}

-- the patch from one set to another: what only the new one has comes, and what only the old one has goes
abbrev pub patch_between : List Triple → List Triple → Patch
patch_between old new = record { adds = difference triple_cmp new old; removes = difference triple_cmp old new }
