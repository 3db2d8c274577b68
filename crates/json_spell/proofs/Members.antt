-- The last member with a name is the first one from the end.
use Rattle.std.proofs.Common.{◌≡◌, ℕ, Bool, true, false, cond, List, [], ◌∷◌, ◌++◌, map, reverse, Option, Some, None, option_map, refl, sym, ap, ◌∙◌, rules}
use Rattle.std.specs.List.{find}
use Rattle.std.specs.Str.{bytes_eq}
use Rattle.std.proofs.lemmas.List.{reverse-append}
use Rattle.json_spell.specs.declared.json.Json.{the_lemmas}
use Rattle.json_spell.specs.declared.json.Member.{Member}
use Rattle.json_spell.specs.Tree.{Tree, last_member, first_there}
use Rattle.json_spell.specs.View.{json_view, member_view, pairs_of}

find-push : {A : Type 0} (test : A → Bool) (xs : List A) (a : A) → find test (xs ++ a ∷ []) ≡ first_there (find test xs) (cond (test a) (Some a) None)
find-push test [] a = refl
find-push test (x ∷ xs) a = at (test x) (find-push test xs a)
  where
    at : (b : Bool) → find test (xs ++ a ∷ []) ≡ first_there (find test xs) (cond (test a) (Some a) None)
        → cond b (Some x) (find test (xs ++ a ∷ [])) ≡ first_there (cond b (Some x) (find test xs)) (cond (test a) (Some a) None)
    at true e = refl
    at false e = e

map-first : {A B : Type 0} (f : A → B) (a b : Option A) → option_map f (first_there a b) ≡ first_there (option_map f a) (option_map f b)
map-first f None b = refl
map-first f (Some x) b = refl

map-guard : {A B : Type 0} (f : A → B) (b : Bool) (a : A) → option_map f (cond b (Some a) None) ≡ cond b (Some (f a)) None
map-guard f true a = refl
map-guard f false a = refl

member_view-is : (m : Member) → member_view m ≡ (m.key.now, json_view m.value)
member_view-is m = search (rules, the_lemmas)

pub found-last : (name : List ℕ) (ms : List Member) → option_map (λ m. json_view m.value) (find (λ m. bytes_eq m.key.now name) (reverse ms)) ≡ last_member name (pairs_of (map member_view ms))
found-last name [] = refl
found-last name (m ∷ ms) =
    let test : Member → Bool = λ n. bytes_eq n.key.now name in
    let value : Member → Tree = λ n. json_view n.value in
    ap (λ l. option_map value (find test l)) (reverse-append (m ∷ []) ms)
    ∙ ap (option_map value) (find-push test (reverse ms) m)
    ∙ map-first value (find test (reverse ms)) (cond (test m) (Some m) None)
    ∙ ap (λ o. first_there o (option_map value (cond (test m) (Some m) None))) (found-last name ms)
    ∙ ap (first_there (last_member name (pairs_of (map member_view ms)))) (map-guard value (test m) m)
    ∙ ap (λ p. first_there (last_member name (pairs_of (map member_view ms))) (cond (bytes_eq p.0 name) (Some p.1) None)) (sym (member_view-is m))
