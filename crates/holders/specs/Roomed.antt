-- How many terms the triples of all that is held have.
use Rattle.std.specs.Prelude.{ℕ, ◌≤◌, List, [], ◌++◌}
use Rattle.std.specs.List.{flat_map}
use Rattle.rdf_term.specs.{declared.triple.Triple.Triple, Order.triple_cmp}
use Rattle.triple_store.specs.Room.{distinct, terms_of}
use Rattle.replay_model.specs.{Records.Records, Union.Meaning, Union.union}

-- how many distinct terms the triples of all that is held have together with other triples
abbrev pub room_with : Meaning Triple → Records → List Triple → ℕ
room_with held records triples = distinct (flat_map terms_of (union triple_cmp held records ++ triples))

-- the triples of all that is held have no more distinct terms than there may be
abbrev pub HasRoom : Meaning Triple → ℕ → Records → Type 0
HasRoom held limit records = room_with held records [] ≤ limit
