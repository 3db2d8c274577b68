-- What is left of a text behind a front.
use Rattle.std.specs.Prelude.{◌≡◌, ℕ, cond, ◌==◌, Bool, true, false, List, [], ◌∷◌, ◌++◌, Option, Some, None, refl}

-- what is left behind the bytes, where the text begins with them
abbrev pub behind_front : List ℕ → List ℕ → Option (List ℕ)
behind_front [] text = Some text
behind_front (b ∷ bytes) [] = None
behind_front (b ∷ bytes) (x ∷ text) = cond (x == b) (behind_front bytes text) None

-- the same of what is left of a text, where something is
abbrev pub behind : Option (List ℕ) → List ℕ → Option (List ℕ)
behind None bytes = None
behind (Some text) bytes = behind_front bytes text

-- nothing is left out by no bytes
pub behind-none : (text : Option (List ℕ)) → behind text [] ≡ text
behind-none None = refl
behind-none (Some text) = refl

behind-cond : (same : Bool) (text first : Option (List ℕ)) (second : List ℕ) → behind text second ≡ first → behind (cond same text None) second ≡ cond same first None
behind-cond true text first second e = e
behind-cond false text first second e = refl

behind_front-joined : (first text second : List ℕ) → behind (behind_front first text) second ≡ behind_front (first ++ second) text
behind_front-joined [] text second = refl
behind_front-joined (b ∷ first) [] second = refl
behind_front-joined (b ∷ first) (x ∷ text) second = behind-cond (x == b) _ _ second (behind_front-joined first text second)

-- it makes no difference how the bytes are cut
pub behind-joined : (text : Option (List ℕ)) (first second : List ℕ) → behind (behind text first) second ≡ behind text (first ++ second)
behind-joined None first second = refl
behind-joined (Some text) first second = behind_front-joined first text second
