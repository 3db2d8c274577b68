-- Marks at the places of a list.
use Rattle.std.specs.Prelude.{Bool, cond, List, [], ◌∷◌}

-- the elements whose marks are set
abbrev pub marked : {A : Type 0} → List A → List Bool → List A
marked [] marks = []
marked (x ∷ xs) [] = []
marked (x ∷ xs) (mark ∷ marks) = cond mark (x ∷ marked xs marks) (marked xs marks)
