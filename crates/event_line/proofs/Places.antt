-- A list is a pattern only where it has three values.
use Rattle.std.proofs.Common.{◌≡◌, ◌≢◌, List, [], ◌∷◌, Option, Some, None, option_and_then, length, refl}
use Rattle.serde_json.specs.Data.{Data}
use Rattle.serde_json.specs.Find.{as_array, as_str}
use Rattle.serde_json.specs.View.{items_view}
use Rattle.serde_json.specs.declared.value.Value.{Value}
use Rattle.rdf_term.specs.declared.term.Term.{Term}
use Rattle.rdf_term.specs.declared.pattern.Pattern.{Pattern}
use Rattle.event_line.specs.Line.{pattern_in, pattern_of, pattern_with, wanted_in}

pattern_in-other : (list : List Value) → length list ≢ 3 → pattern_in (items_view list) ≡ None
pattern_in-other [] other = refl
pattern_in-other (a ∷ []) other = refl
pattern_in-other (a ∷ b ∷ []) other = refl
pattern_in-other (a ∷ b ∷ c ∷ []) other = absurd (other refl)
pattern_in-other (a ∷ b ∷ c ∷ d ∷ rest) other = refl

-- a list of another length is no pattern
pub pattern_of_other : (ask : Data) (list : List Value) → as_array ask ≡ Some (items_view list) → length list ≢ 3 → pattern_of ask ≡ None
pattern_of_other ask list is other = rw is (pattern_in-other list other)

-- values of which one is no text are no pattern
pub no_subject : (s p o : Data) → as_str s ≡ None → pattern_with s p o ≡ None
no_subject s p o none = rw none refl

pub no_predicate : (s p o : Data) → as_str p ≡ None → pattern_with s p o ≡ None
no_predicate s p o none = rw none (none_for (wanted_in s))
  where
    none_for : (a : Option (Option Term)) → option_and_then {T = Option Term} {U = Pattern} (λ subject. None) a ≡ None
    none_for None = refl
    none_for (Some x) = refl

pub no_object : (s p o : Data) → as_str o ≡ None → pattern_with s p o ≡ None
no_object s p o none = rw none (none_for (wanted_in s) (wanted_in p))
  where
    none_for : (a b : Option (Option Term)) → option_and_then {T = Option Term} {U = Pattern} (λ subject. option_and_then {T = Option Term} {U = Pattern} (λ predicate. None) b) a ≡ None
    none_for None b = refl
    none_for (Some x) None = refl
    none_for (Some x) (Some y) = refl
