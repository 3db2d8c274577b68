-- What a sink gains by the triples that it is handed.
use Rattle.std.specs.Prelude.{◌≡◌, List, ◌++◌, length, take}
use Rattle.std.specs.List.{flat_map}
use Rattle.rdf_term.specs.declared.triple.Triple.{Triple}

-- what the old sink keeps of each triple stands behind what it held, and what is kept of a triple is as before
abbrev pub Gains : {S : Type 0} → (S → List Triple) → (S → Triple → List Triple) → S → S → List Triple → Type 0
Gains items keeps old new triples = (items new ≡ items old ++ flat_map (keeps old) triples) × (keeps new ≡ keeps old)

-- whatever the old sink begins with, the new one begins with too: so it begins with all that the old one held
abbrev pub KeepsFront : {S : Type 0} → (S → List Triple) → S → S → Type 0
KeepsFront items old new = (front : List Triple) → take (length front) (items old) ≡ front → take (length front) (items new) ≡ front
