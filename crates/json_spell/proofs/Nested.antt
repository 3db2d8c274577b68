-- How deep lists nest that one more value joins, and that literal names and numbers don't nest.
use Rattle.std.proofs.Common.{◌≡◌, ℕ, true, false, List, [], ◌∷◌, ◌++◌, Some, Result, Ok, Err, IfOk, Bor, ⊎_elim, ap, subst}
use Rattle.json_spell.specs.declared.fault.JsonFault.{JsonFault}
use Rattle.json_spell.specs.declared.json.Json.{Json}
use Rattle.json_spell.specs.Tree.{Tree, null, boolean, number, first_there}
use Rattle.json_spell.specs.View.{json_view, trees_of, pairs_of}
use Rattle.json_spell.specs.Grammar.{null_name, true_name, false_name}
use Rattle.json_spell.specs.Reading.{read_map, after_word, literal_named, literal_at, number_at, scalar_at}
use Rattle.json_spell.specs.Parses.{Parses}
use Rattle.json_spell.specs.Nesting.{Nests, AllNest, MembersNest}
use Rattle.json_spell.proofs.Opened.{map_some}
use Rattle.json_spell.proofs.Values.{there}

pub all-push : (n : ℕ) (ts : List Tree) (t : Tree) → AllNest n (trees_of ts) → Nests n t → AllNest n (trees_of (ts ++ t ∷ []))
all-push n [] t h i = (i, tt)
all-push n (u ∷ ts) t h i = (h.0, all-push n ts t h.1 i)

pub members-push : (n : ℕ) (ps : List (List ℕ × Tree)) (p : List ℕ × Tree) → MembersNest n (pairs_of ps) → Nests n p.1 → MembersNest n (pairs_of (ps ++ p ∷ []))
members-push n [] p h i = (i, tt)
members-push n (q ∷ ps) p h i = (h.0, members-push n ps p h.1 i)

literal_named-flat : (n : ℕ) (word : List ℕ) (t : Tree) → Nests n t → (s : List ℕ) (u : Tree) (r : List ℕ) → literal_named word t s ≡ Some (u, r) → Nests n u
literal_named-flat n word t h s u r e =
    let p = map_some _ (after_word word s) e in
    let t_is : t ≡ u = ap (λ q. q.0) p.1.1 in
    subst (λ (v : Tree). Nests n v) t_is h

spelled-flat : (n : ℕ) (s : List ℕ) (u : Tree) (r : List ℕ) → read_map number (number_at s) ≡ Some (u, r) → Nests n u
spelled-flat n s u r e =
    let p = map_some _ (number_at s) e in
    let t_is : number p.0.0 ≡ u = ap (λ q. q.0) p.1.1 in
    subst (λ (v : Tree). Nests n v) t_is tt

scalar-flat : (n : ℕ) (s : List ℕ) (u : Tree) (r : List ℕ) → scalar_at s ≡ Some (u, r) → Nests n u
unfolding scalar_at literal_at
scalar-flat n s u r e =
    ⊎_elim
    (λ l. ⊎_elim (literal_named-flat n null_name null tt s u r)
    (λ f. ⊎_elim (literal_named-flat n true_name (boolean true) tt s u r) (literal_named-flat n false_name (boolean false) tt s u r) (there (literal_named true_name (boolean true) s) (literal_named false_name (boolean false) s) f))
    (there (literal_named null_name null s) (first_there (literal_named true_name (boolean true) s) (literal_named false_name (boolean false) s)) l))
    (spelled-flat n s u r) (there (literal_at s) (read_map number (number_at s)) e)

pub scalar-nests : (n : ℕ) (s : List ℕ) (r : Result (Json × Bor (List ℕ)) JsonFault) → Parses (λ p. (json_view p.0, p.1.now)) r (scalar_at s) → IfOk r (λ p. Nests n (json_view p.0))
scalar-nests n s (Ok p) h = scalar-flat n s (json_view p.0) p.1.now h
scalar-nests n s (Err fault) h = tt
