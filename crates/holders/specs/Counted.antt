-- The counts of triples by their owners.
use Rattle.std.specs.Prelude.{◌≡◌}
use Rattle.rdf_term.specs.{declared.triple.Triple.Triple, Order.triple_cmp}
use Rattle.triple_store.specs.Counts.{Counts, count_of}
use Rattle.replay_model.specs.{Records.Records, Union.Meaning, Union.owners}

-- the count of each triple is the number of the entities that hold it
pub record CountsOwners (m : Meaning Triple) (counts : Counts) (records : Records) : Type 0 where
  pub owned : (t : Triple) → count_of counts t ≡ owners triple_cmp m records t
