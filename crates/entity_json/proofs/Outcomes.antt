-- Which way the outcome of bytes goes, by what the grammar says of them.
use Rattle.std.proofs.Common.{◌≡◌, ℕ, ◌<◌, ◌≤◌, true, false, nat_lt, List, [], ◌∷◌, length, Option, Some, None, Err, refl, ap, ◌∙◌, arith}
use Rattle.std.proofs.lemmas.Bool.Decides.{nat_tests}
use Rattle.json_spell.specs.Tree.{Tree}
use Rattle.json_spell.specs.Deep.{IsDeep}
use Rattle.json_spell.specs.Grammar.{Reads}
use Rattle.json_spell.specs.Reading.{spaced, value_at}
use Rattle.json_spell.proofs.Scans.{scan-deep, scan-shallow}
use Rattle.json_spell.proofs.Complete.{text-sound, text-complete}
use Rattle.entity_model.specs.declared.id.EntityId.{EntityId}
use Rattle.entity_model.specs.declared.unfit.Unfit.TheVariants.{Large, Deep, NotJson}
use Rattle.entity_json.specs.Leaves.{◌>>=◌}
use Rattle.entity_json.specs.Document.{page_limit, tree_alone, tree_of, document_in, document_or_cause}

-- the tree is the one that the grammar reads
pub tree-read : (bytes : List ℕ) (t : Tree) → Reads bytes t → tree_of bytes ≡ Some t
unfolding tree_of
tree-read bytes t reads = ap (λ o. o >>= tree_alone) (text-complete bytes t reads)

tree_alone-sound : (bytes : List ℕ) (o : Option (Tree × List ℕ)) (t : Tree) → spaced value_at bytes ≡ o → (o >>= tree_alone) ≡ Some t → Reads bytes t
tree_alone-sound bytes None t e is = absurd cc
tree_alone-sound bytes (Some (u, [])) t e is = let same : u ≡ t = cc in text-sound bytes t (e ∙ ap (λ v. Some (v, [])) same)
tree_alone-sound bytes (Some (u, x ∷ rest)) t e is = absurd cc

pub tree-sound : (bytes : List ℕ) (t : Tree) → tree_of bytes ≡ Some t → Reads bytes t
unfolding tree_of
tree-sound bytes t is = tree_alone-sound bytes (spaced value_at bytes) t refl is

tree-none-by : (bytes : List ℕ) (o : Option Tree) → tree_of bytes ≡ o → ((t : Tree) → ¬ (Reads bytes t)) → o ≡ None
tree-none-by bytes None e unread = refl
tree-none-by bytes (Some t) e unread = absurd (unread t (tree-sound bytes t e))

pub tree-none : (bytes : List ℕ) → ((t : Tree) → ¬ (Reads bytes t)) → tree_of bytes ≡ None
tree-none bytes unread = tree-none-by bytes (tree_of bytes) refl unread

-- the ways of an outcome
pub outcome-large : (x : EntityId) (bytes : List ℕ) → page_limit < length bytes → document_or_cause x bytes ≡ Err Large
unfolding document_or_cause
outcome-large x bytes long = let test : nat_lt page_limit (length bytes) ≡ true = grind (arith, nat_tests) in rw test refl

pub outcome-deep : (x : EntityId) (bytes : List ℕ) → length bytes ≤ page_limit → IsDeep bytes → document_or_cause x bytes ≡ Err Deep
unfolding document_or_cause
outcome-deep x bytes short is =
    let test : nat_lt page_limit (length bytes) ≡ false = grind (arith, nat_tests) in
    let scan = scan-deep bytes is in
    rw (test, scan) refl

pub outcome-shallow : (x : EntityId) (bytes : List ℕ) → length bytes ≤ page_limit → ¬ (IsDeep bytes) → document_or_cause x bytes ≡ document_in x (tree_of bytes)
unfolding document_or_cause
outcome-shallow x bytes short low =
    let test : nat_lt page_limit (length bytes) ≡ false = grind (arith, nat_tests) in
    let scan = scan-shallow bytes low in
    rw (test, scan) refl

pub outcome-unread : (x : EntityId) (bytes : List ℕ) → length bytes ≤ page_limit → ¬ (IsDeep bytes) → ((t : Tree) → ¬ (Reads bytes t)) → document_or_cause x bytes ≡ Err NotJson
outcome-unread x bytes short low unread = outcome-shallow x bytes short low ∙ ap (document_in x) (tree-none bytes unread)

pub outcome-read : (x : EntityId) (bytes : List ℕ) (t : Tree) → length bytes ≤ page_limit → ¬ (IsDeep bytes) → Reads bytes t → document_or_cause x bytes ≡ document_in x (Some t)
outcome-read x bytes t short low reads = outcome-shallow x bytes short low ∙ ap (document_in x) (tree-read bytes t reads)
