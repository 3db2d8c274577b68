-- By which version of the mapping what is held is mapped, where a part of it may be mapped by another than the rest.
use Rattle.std.specs.Prelude.{Bool, cond, List, [], filter, is_some}
use Rattle.std.specs.BTreeSet.{insert_key}
use Rattle.std.specs.FinMap as map
use Rattle.std.specs.Ordering.{eq_by_cmp}
use Rattle.std.specs.Set.{remove_key}
use Rattle.sorted_sets.specs.Rising.{has}
use Rattle.entity_model.specs.declared.id.EntityId.{EntityId}
use Rattle.entity_model.specs.declared.mapping.MappingVersion.{MappingVersion}
use Rattle.entity_model.specs.declared.mapping.MappingVersion.TheVariants.{One, Two}
use Rattle.entity_model.specs.EntityId.{entity_cmp}
use Rattle.replay_model.specs.Records.{Records, record_of}
use Rattle.replay_model.specs.Union.{Meaning}

-- the version by which what x holds is mapped, where these hold by version Two and all others by One
abbrev pub version_at : List EntityId → EntityId → MappingVersion
version_at by_two x = cond (has entity_cmp x by_two) Two One

-- what each entity's document means by the version that it is mapped by
abbrev pub meaning_by : {Triple : Type 0} → (MappingVersion → Meaning Triple) → List EntityId → Meaning Triple
meaning_by meaning by_two x rev bytes = meaning (version_at by_two x) x rev bytes

-- whether the entity holds a document
abbrev pub is_holder : Records → EntityId → Bool
is_holder records x = is_some (record_of records x).held

-- the entities that hold a document, in rising order
abbrev pub holders : Records → List EntityId
holders records = filter (is_holder records) (map.keys records)

-- those that hold by version Two where all hold by this version
abbrev pub all_by : MappingVersion → Records → List EntityId
all_by One records = []
all_by Two records = holders records

-- the entities that hold by version Two once what x holds is mapped by this version
abbrev pub with_version : MappingVersion → EntityId → List EntityId → List EntityId
with_version One x by_two = remove_key (eq_by_cmp entity_cmp x) by_two
with_version Two x by_two = insert_key entity_cmp by_two x
