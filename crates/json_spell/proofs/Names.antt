-- The members with different names have together no more bytes than the object that they are of.
use Rattle.std.proofs.Common.{◌≡◌, ℕ, ◌+◌, ◌≤◌, Bool, true, false, not, ◌&&◌, ◌||◌, cond, List, [], ◌∷◌, Option, Some, None, refl, sym, ap, subst, arith}
use Rattle.std.specs.List.{list_any}
use Rattle.std.specs.Str.{bytes_eq}
use Rattle.std.proofs.lemmas.Slice.Eq.{bytes_eq-Decides}
use Rattle.json_spell.specs.Tree.{Tree, null, boolean, number, string, array, object, Pairs, no_pairs, pair, first_there, last_member, member_of}
use Rattle.json_spell.specs.Weight.{weight, members_weight, weight_there, weights_at, are_distinct}

-- a weight for each name that is the key
hits : List ℕ → ℕ → List (List ℕ) → ℕ
hits key w [] = 0
hits key w (name ∷ names) = cond (bytes_eq key name) w 0 + hits key w names

hits-none : (key : List ℕ) (w : ℕ) (names : List (List ℕ)) → list_any (bytes_eq key) names ≡ false → hits key w names ≡ 0
unfolding hits
hits-none key w [] e = refl
hits-none key w (name ∷ names) e = at (bytes_eq key name) (list_any (bytes_eq key) names) e (λ f. hits-none key w names f)
  where
    at : (a b : Bool) → (a || b) ≡ false → (b ≡ false → hits key w names ≡ 0) → cond a w 0 + hits key w names ≡ 0
    at true b f rest = absurd cc
    at false b f rest = let none = rest f in omega (arith, none)

both : (a b : Bool) → (not a && b) ≡ true → (a ≡ false) × (b ≡ true)
both true b e = absurd cc
both false b e = (refl, e)

hits-le : (key : List ℕ) (w : ℕ) (names : List (List ℕ)) → are_distinct names ≡ true → hits key w names ≤ w
unfolding hits
hits-le key w [] d = omega arith
hits-le key w (name ∷ names) d =
    let apart = both (list_any (bytes_eq name) names) (are_distinct names) d in
    at (bytes_eq key name) refl apart.0 (hits-le key w names apart.1)
  where
    at : (b : Bool) → bytes_eq key name ≡ b → list_any (bytes_eq name) names ≡ false → hits key w names ≤ w → cond b w 0 + hits key w names ≤ w
    at true e apart rest =
        let same : key ≡ name = (bytes_eq-Decides key name).0 e in
        let none = hits-none key w names (subst (λ (k : List ℕ). list_any (bytes_eq k) names ≡ false) (sym same) apart) in
        omega (arith, none)
    at false e apart rest = omega (arith, rest)

one-more : (o : Option Tree) (b : Bool) (t : Tree) → weight_there (first_there o (cond b (Some t) None)) ≤ weight_there o + cond b (weight t) 0
one-more None true t = omega arith
one-more None false t = omega arith
one-more (Some u) true t = omega arith
one-more (Some u) false t = omega arith

pair-weights : (key : List ℕ) (t : Tree) (ps : Pairs) (names : List (List ℕ)) → weights_at names (object (pair key t ps)) ≤ weights_at names (object ps) + hits key (weight t) names
unfolding hits
pair-weights key t ps [] = omega arith
pair-weights key t ps (name ∷ names) = omega (arith, one-more (last_member name ps) (bytes_eq key name) t, pair-weights key t ps names)

no-weights : (t : Tree) → ((name : List ℕ) → member_of name t ≡ None) → (names : List (List ℕ)) → weights_at names t ≡ 0
no-weights t none [] = refl
no-weights t none (name ∷ names) = let first : weight_there (member_of name t) ≡ 0 = ap weight_there (none name) in omega (arith, no-weights t none names)

members-weights : (names : List (List ℕ)) → are_distinct names ≡ true → (ps : Pairs) → weights_at names (object ps) ≤ members_weight ps
members-weights names d no_pairs = omega (arith, no-weights (object no_pairs) (λ name. refl) names)
members-weights names d (pair key t ps) = omega (arith, pair-weights key t ps names, hits-le key (weight t) names d, members-weights names d ps)

pub names_weight : (names : List (List ℕ)) → are_distinct names ≡ true → (t : Tree) → weights_at names t ≤ weight t
names_weight names d null = omega (arith, no-weights null (λ name. refl) names)
names_weight names d (boolean b) = omega (arith, no-weights (boolean b) (λ name. refl) names)
names_weight names d (number s) = omega (arith, no-weights (number s) (λ name. refl) names)
names_weight names d (string s) = omega (arith, no-weights (string s) (λ name. refl) names)
names_weight names d (array ts) = omega (arith, no-weights (array ts) (λ name. refl) names)
names_weight names d (object ps) = members-weights names d ps

-- the weight of one member
pub at_weight : (name : List ℕ) (t u : Tree) → member_of name t ≡ Some u → weight_there (member_of name t) ≡ weight u
at_weight name t u e = ap weight_there e
