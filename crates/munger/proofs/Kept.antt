-- What a list keeps of what is left of each triple is what is left of all of them.
use Rattle.std.proofs.Common.{◌≡◌, List, [], ◌∷◌, refl}
use Rattle.std.specs.List.{flat_map}
use Rattle.rdf_term.specs.declared.triple.Triple.{Triple}
use Rattle.entity_model.specs.declared.id.EntityId.{EntityId}
use Rattle.triple_sink.proofs.Gained.{all_of}
use Rattle.munger.specs.Munging.{munged}

pub kept_is : (id : EntityId) (xs : List Triple) → flat_map (λ t. flat_map (λ x. x ∷ []) (munged id t)) xs ≡ flat_map (munged id) xs
kept_is id [] = refl
kept_is id (x ∷ xs) = rw (all_of (munged id x), kept_is id xs) refl
