-- Lists as the code reads them: each value adds to the list so far, or is refused.
use Rattle.std.specs.Prelude.{List, [], ◌∷◌, ◌++◌, Option, None, Some}
use Rattle.entity_json.specs.Leaves.{◌>>=◌}

-- the values one after another
abbrev pub steps : {A B : Type 0} → (A → List B → Option (List B)) → List A → List B → Option (List B)
steps step [] out = Some out
steps step (x ∷ xs) out = step x out >>= λ next. steps step xs next

-- one more item at the end, where there is one
abbrev pub put : {A : Type 0} → List A → Option A → Option (List A)
put out None = None
put out (Some x) = Some (out ++ x ∷ [])
