-- What a step changed of the stored triples.
use Rattle.std.specs.Prelude.{◌≡◌, List}
use Rattle.sorted_sets.specs.Rising.{difference}
use Rattle.rdf_term.specs.{declared.triple.Triple.Triple, Order.triple_cmp}
use Rattle.triple_store.specs.{declared.telling.Change.Change, declared.telling.Telling.Telling, declared.telling.Told.Told}
use Rattle.triple_store.specs.declared.telling.Telling.TheVariants.{Nothing, Whether, Change as TheChange}
use Rattle.triple_store.specs.declared.telling.Told.TheVariants.{Nothing as NothingTold, Whether as ToldWhether, Change as ToldChange}
use Rattle.triple_store.specs.Telling.{AreLinesOf, is_changed}

-- the lines of the triples that are stored after a step and weren't before it, and of those that were stored before it and aren't after it
pub record IsChangeOf (before after : List Triple) (change : Change) : Type 0 where
  pub came : AreLinesOf change.came (difference triple_cmp after before)
  pub gone : AreLinesOf change.gone (difference triple_cmp before after)

-- what is asked for is told, and nothing else: whether the step changed the stored triples, or their change; where nothing is told of a step
-- of which something is asked, the step changed no stored triple
abbrev pub Tells : Telling → List Triple → List Triple → Told → Type 0
Tells telling before after NothingTold = (telling ≡ Nothing → ⊥) → after ≡ before
Tells telling before after (ToldWhether changed) = (telling ≡ Whether) × (changed ≡ is_changed before after)
Tells telling before after (ToldChange change) = (telling ≡ TheChange) × IsChangeOf before after change
