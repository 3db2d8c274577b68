-- The entities that are counted, each with the number of the pages that name it.
use Rattle.std.specs.Prelude.{ℕ, ◌==◌, Bool, cond, List, count_by, filter, unwrap_or}
use Rattle.std.specs.Coded.{Coded, coded_ℕ}
use Rattle.std.specs.FinMap as map
use Rattle.std.specs.Ordering.{eq_by_cmp}
use Rattle.entity_model.specs.{declared.id.EntityId.EntityId, EntityId.entity_cmp}
use Rattle.entity_model.specs.contracts.id.EntityId as entity_id

-- the entities that are counted, each with the number of the pages that name it
abbrev pub Naming : Type 0
Naming = map.FinMap entity_cmp ℕ

-- how it is stored as a value
abbrev pub naming_code : Coded Naming
naming_code = map.code (entity_id.the_row).coded coded_ℕ

-- entities and their numbers as a map
abbrev pub naming_of : List (EntityId × ℕ) → Naming
naming_of entries = map.from_entries entries

-- whether an entity is counted
abbrev pub is_counted : Naming → EntityId → Bool
is_counted names x = map.contains_key names x

-- how many pages name an entity: none where it isn't counted
abbrev pub pages_naming : Naming → EntityId → ℕ
pages_naming names x = unwrap_or (map.get names x) 0

-- with an entity counted, which no page names where it wasn't
abbrev pub counted_in : Naming → EntityId → Naming
counted_in names x = cond (is_counted names x) names (map.insert names x 0)

-- how many times an entity stands in a list
abbrev pub times_in : EntityId → List EntityId → ℕ
times_in x ids = count_by (eq_by_cmp entity_cmp x) ids

-- the entities that are counted though no page names them, in rising order
abbrev pub unnamed_in : Naming → List EntityId
unnamed_in names = filter (λ x. pages_naming names x == 0) (map.keys names)
