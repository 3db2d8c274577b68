-- A text whose bytes stand for themselves is the name that it becomes, and a `$` becomes `-`.
use Rattle.std.proofs.Common.{◌≡◌, ℕ, true, List, [], ◌∷◌, ◌++◌, Option, Some, None, IfSome, refl, ap, ◌∙◌, arith}
use Rattle.std.specs.Prelude.{MatchOption}
use Rattle.std.proofs.lemmas.List.Concat.{flat_map-append}
use Rattle.std.specs.List.{list_all}
use Rattle.std.proofs.lemmas.Bool.Decides.{nat_tests}
use Rattle.rdf_vocabulary.proofs.Shared.{both}
use Rattle.statement_facts.specs.Node.{is_node_char, name_byte, statement_name}

stands : (b : ℕ) → is_node_char b ≡ true → name_byte b ≡ b ∷ []
stands b h = grind (arith, nat_tests)

pub kept_same : (id : List ℕ) → list_all is_node_char id ≡ true → statement_name id ≡ id
kept_same [] h = refl
kept_same (b ∷ id) h =
    let parts = both (is_node_char b) (list_all is_node_char id) h in
    rw (stands b parts.0) (ap (λ t. b ∷ t) (kept_same id parts.1))

pub name_around : (id front back : List ℕ) → id ≡ front ++ 36 ∷ back → statement_name id ≡ statement_name front ++ 45 ∷ statement_name back
name_around id front back e = ap statement_name e ∙ flat_map-append name_byte front (36 ∷ back)

pub where_some : {X : Type 0} (A : Type 0) (P : X → Type 0) (r : Option X) → MatchOption r A P → IfSome r P
where_some A P None h = tt
where_some A P (Some x) h = h
