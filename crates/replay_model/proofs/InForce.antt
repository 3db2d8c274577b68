-- What one more delivery makes of the version of the mapping in force.
use Rattle.std.proofs.Common.{◌≡◌, List, [], ◌∷◌, ◌++◌, Option, None, Some, refl, ◌∙◌, ap, append-nil, filter_map, unwrap_or}
use Rattle.std.specs.List.{cons_option, last_or}
use Rattle.std.proofs.lemmas.List.Elements.{filter_map-append}
use Rattle.delivery.specs.declared.Delivery.{Delivery}
use Rattle.delivery.specs.declared.Delivery.TheVariants.{Mapping}
use Rattle.entity_model.specs.declared.mapping.MappingVersion.{MappingVersion}
use Rattle.entity_model.specs.declared.mapping.MappingVersion.TheVariants.{One}
use Rattle.replay_model.specs.Acceptance.{mapping_of, version_in_force}

last_or-push : {A : Type 0} (o : Option A) (xs : List A) (x : A) → last_or o (xs ++ x ∷ []) ≡ Some x
last_or-push o [] x = refl
last_or-push o (y ∷ ys) x = last_or-push (Some y) ys x

-- the versions that the deliveries bring, with those of one more
versions-push : (ds : List Delivery) (d : Delivery) → filter_map mapping_of (ds ++ d ∷ []) ≡ filter_map mapping_of ds ++ cons_option (mapping_of d) []
versions-push ds d = filter_map-append mapping_of ds (d ∷ [])

-- a delivery that brings a version puts it in force
pub version-mapping : (ds : List Delivery) (v : MappingVersion) → version_in_force (ds ++ Mapping v ∷ []) ≡ v
version-mapping ds v =
    ap (λ vs. unwrap_or (last_or None vs) One) (versions-push ds (Mapping v))
    ∙ ap (λ o. unwrap_or o One) (last_or-push None (filter_map mapping_of ds) v)

-- any other delivery leaves the version in force
pub version-kept : (ds : List Delivery) (d : Delivery) → mapping_of d ≡ None → version_in_force (ds ++ d ∷ []) ≡ version_in_force ds
version-kept ds d none =
    ap (λ vs. unwrap_or (last_or None vs) One) (versions-push ds d ∙ ap (λ o. filter_map mapping_of ds ++ cons_option o []) none ∙ append-nil (filter_map mapping_of ds))
