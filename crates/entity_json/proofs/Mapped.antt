-- What is made of a part that was found.
use Rattle.std.proofs.Common.{◌≡◌, Option, None, Some, Result, Ok, Err, option_map, MatchResult, IsOkAnd, sym, ap, ◌∙◌}
use Rattle.entity_json.specs.declared.part.PartFault.{PartFault}
use Rattle.entity_json.specs.declared.part.PartFault.TheVariants.{Shape, OutOfMemory}
use Rattle.entity_json.specs.Finds.{Finds, FindsNone}

none_mapped : {A B : Type 0} (make : A → B) (fault : PartFault) (there : Option A) → FindsNone fault there → FindsNone fault (option_map make there)
none_mapped make Shape there none = ap (option_map make) none
none_mapped make OutOfMemory there none = tt

-- the whole that the part makes, or the fault
pub finds_mapped : {A B : Type 0} (make : A → B) (found : Result A PartFault) (made : Result B PartFault) (there : Option A)
    → MatchResult found (λ part. IsOkAnd made (λ whole. whole ≡ make part)) (λ fault. made ≡ Err fault) → Finds found there → Finds made (option_map make there)
finds_mapped make (Ok part) (Ok whole) there cases finds = ap (option_map make) finds ∙ ap Some (sym cases)
finds_mapped make (Ok part) (Err fault) there cases finds = absurd cases
finds_mapped make (Err fault) made there cases finds = rw cases (none_mapped make fault there finds)
