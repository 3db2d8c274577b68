-- What a call changed of the stored triples, told by lines, or whether it changed them.
use Rattle.std.specs.Prelude.{◌≡◌, ℕ, Bool, false, ◌||◌, nat_lt, length, List}
use Rattle.std.specs.FinMap as map
use Rattle.sorted_sets.specs.Rising.{difference}
use Rattle.rdf_term.specs.{declared.triple.Triple.Triple, Order.triple_cmp}
use Rattle.triple_catalog.specs.Counts.{Counts}
pub use Rattle.triple_catalog.specs.Lines.{AreLinesOf}
use Rattle.triple_store.specs.{declared.telling.Change.Change, declared.telling.Telling.Telling, declared.telling.Told.Told}
use Rattle.triple_store.specs.declared.telling.Telling.TheVariants.{Nothing, Whether, Change as TheChange}
use Rattle.triple_store.specs.declared.telling.Told.TheVariants.{Nothing as NothingTold, Whether as ToldWhether, Change as ToldChange}

-- whether there are triples among these that came, or that are gone
abbrev pub is_some_change : List Triple → List Triple → Bool
is_some_change came gone = nat_lt 0 (length came) || nat_lt 0 (length gone)

-- whether the triples that are stored after differ from those that were stored before: one came, or is gone
abbrev pub is_changed : List Triple → List Triple → Bool
is_changed before after = is_some_change (difference triple_cmp after before) (difference triple_cmp before after)

-- the triples that are stored after and weren't before, and those that were stored before and aren't after, in order
pub record IsChange (old new : Counts) (change : Change) : Type 0 where
  pub came : AreLinesOf change.came (difference triple_cmp (map.keys new) (map.keys old))
  pub gone : AreLinesOf change.gone (difference triple_cmp (map.keys old) (map.keys new))

-- whether it is told that there was a change
abbrev pub tells_change : Told → Bool
tells_change NothingTold = false
tells_change (ToldWhether changed) = changed
tells_change (ToldChange change) = nat_lt 0 change.came.count || nat_lt 0 change.gone.count

-- what is asked for is told, and nothing else: whether the stored triples changed, or the change
abbrev pub TellsIf : Telling → Counts → Counts → Told → Type 0
TellsIf Nothing old new NothingTold = Unit {0}
TellsIf Nothing old new (ToldWhether changed) = ⊥
TellsIf Nothing old new (ToldChange change) = ⊥
TellsIf Whether old new NothingTold = ⊥
TellsIf Whether old new (ToldWhether changed) = changed ≡ is_changed (map.keys old) (map.keys new)
TellsIf Whether old new (ToldChange change) = ⊥
TellsIf TheChange old new NothingTold = ⊥
TellsIf TheChange old new (ToldWhether changed) = ⊥
TellsIf TheChange old new (ToldChange change) = IsChange old new change

-- what is asked for is told of these triples: whether there are some, or their lines
abbrev pub LinesIf : Telling → List Triple → List Triple → Told → Type 0
LinesIf Nothing came gone NothingTold = Unit {0}
LinesIf Nothing came gone (ToldWhether changed) = ⊥
LinesIf Nothing came gone (ToldChange change) = ⊥
LinesIf Whether came gone NothingTold = ⊥
LinesIf Whether came gone (ToldWhether changed) = changed ≡ is_some_change came gone
LinesIf Whether came gone (ToldChange change) = ⊥
LinesIf TheChange came gone NothingTold = ⊥
LinesIf TheChange came gone (ToldWhether changed) = ⊥
LinesIf TheChange came gone (ToldChange change) = AreLinesOf change.came came × AreLinesOf change.gone gone

-- so many, where something is to be told
abbrev pub if_told : Telling → ℕ → ℕ
if_told Nothing n = 0
if_told Whether n = n
if_told TheChange n = n
