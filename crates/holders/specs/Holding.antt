-- What contracts see of what is held, and the entities that hold by a version.
use Rattle.std.specs.Prelude.{◌≡◌, ℕ, Bool, true, false, cond, List, [], ◌∷◌, Option, None, Some, filter}
use Rattle.sorted_sets.specs.Rising.{has, IsRising}
use Rattle.entity_model.specs.{declared.id.EntityId.EntityId, declared.mapping.MappingVersion.MappingVersion}
use Rattle.entity_model.specs.declared.mapping.MappingVersion.TheVariants.{One, Two}
use Rattle.entity_model.specs.EntityId.{entity_cmp}
use Rattle.replay_model.specs.{Records.Records, Versions.holders, Versions.is_holder, Versions.version_at, Versions.with_version}

-- the records of the entities, each with the bytes that its entity holds; how many terms there may be; and the entities whose
-- documents are mapped by version Two
pub record HoldingsState : Type 0 where
  pub records : Records
  pub limit : ℕ
  pub by_two : List EntityId

-- these entities, in rising order, hold a document each
pub record AreHolders (by_two : List EntityId) (records : Records) : Type 0 where
  pub rising : IsRising entity_cmp by_two
  pub holding : (x : EntityId) → has entity_cmp x by_two ≡ true → is_holder records x ≡ true

-- whether two versions aren't the same
abbrev pub differ : MappingVersion → MappingVersion → Bool
differ One One = false
differ One Two = true
differ Two One = true
differ Two Two = false

-- the holders whose documents aren't mapped by the version in force
abbrev pub stale_by : MappingVersion → List EntityId → Records → List EntityId
stale_by mapping by_two records = filter (λ x. differ mapping (version_at by_two x)) (holders records)

-- the first of a list
abbrev pub first_of : {A : Type 0} → List A → Option A
first_of [] = None
first_of (x ∷ xs) = Some x

-- the same for the entity that is there, if one is
abbrev pub with_version_of : MappingVersion → Option EntityId → List EntityId → List EntityId
with_version_of version None by_two = by_two
with_version_of version (Some x) by_two = with_version version x by_two

-- the version by which what x holds is mapped, if it holds a document
abbrev pub version_in : List EntityId → Records → EntityId → Option MappingVersion
version_in by_two records x = cond (is_holder records x) (Some (version_at by_two x)) None
