-- Statements and references: how they are read agrees with the rules.
use Rattle.std.proofs.Common.{◌≡◌, ◌≢◌, ℕ, false, ◌==◌, List, [], ◌∷◌, length, Option, Some, ⊎_elim, refl, sym, ap, ◌∙◌, arith}
use Rattle.std.proofs.lemmas.Bool.Decides.{nat_tests}
use Rattle.std.specs.Prelude.{codes}
use Rattle.std.specs.Str.{bytes_eq}
use Rattle.json_spell.specs.Tree.{Tree, member_of}
use Rattle.json_spell.proofs.Opened.{some_is, bind_some, chosen, guarded}
use Rattle.entity_model.specs.declared.id.EntityId.{EntityId}
use Rattle.entity_model.specs.EntityId.{id_text}
use Rattle.entity_model.specs.Reference.{is_hash}
use Rattle.entity_model.specs.declared.snak.Snak.{Snak}
use Rattle.entity_model.specs.declared.statement.Rank.{Rank}
use Rattle.entity_model.specs.declared.statement.Rank.TheVariants.{Deprecated, Normal, Preferred}
use Rattle.entity_model.specs.declared.statement.Reference.{Reference}
use Rattle.entity_model.specs.declared.statement.Statement.{Statement}
use Rattle.entity_json.specs.Leaves.{◌>>=◌, text_at}
use Rattle.entity_json.specs.Joined.{InOptionalList}
use Rattle.entity_json.specs.Properties.{UnderProperty}
use Rattle.entity_json.specs.Statements.{IsReference, rank_name, HasMain, IsStatement, AreStatements}
use Rattle.entity_json.specs.Reading.Snaks.{snak_of, snaks_at}
use Rattle.entity_json.specs.Reading.Statements.{rank_named, reference_of, references_at, rank_of, filled, statement_id, main_of, statement_of, statements_step, statements_at}
use Rattle.entity_json.proofs.Agree.{Agree, Walks, optional_list-sound, optional_list-complete, map-sound, map-complete}
use Rattle.entity_json.proofs.AgreeLeaves.{same-from_test}
use Rattle.entity_json.proofs.AgreeSnaks.{snak-sound, snak-complete, snaks-sound, snaks-complete, under_walks}

-- the rank that a name stands for
rank_named-sound : (name : List ℕ) (x : Rank) → rank_named name ≡ Some x → name ≡ rank_name x
rank_named-sound name x e =
    ⊎_elim (λ h. same-from_test name (codes "preferred") h.0 ∙ ap rank_name (some_is h.1))
    (λ n1. ⊎_elim (λ h. same-from_test name (codes "normal") h.0 ∙ ap rank_name (some_is h.1))
    (λ n2. let h = guarded (bytes_eq name (codes "deprecated")) n2.1 in same-from_test name (codes "deprecated") h.0 ∙ ap rank_name (some_is h.1))
    (chosen (bytes_eq name (codes "normal")) n1.1))
    (chosen (bytes_eq name (codes "preferred")) e)

rank_named-complete : (x : Rank) → rank_named (rank_name x) ≡ Some x
rank_named-complete Deprecated = refl
rank_named-complete Normal = refl
rank_named-complete Preferred = refl

rank-sound : (t : Tree) (x : Rank) → rank_of t ≡ Some x → text_at (codes "rank") t ≡ Some (rank_name x)
unfolding rank_of
rank-sound t x e =
    let found = bind_some (text_at (codes "rank") t) rank_named e in
    found.1.0 ∙ ap Some (rank_named-sound found.0 x found.1.1)

rank-complete : (t : Tree) (x : Rank) → text_at (codes "rank") t ≡ Some (rank_name x) → rank_of t ≡ Some x
unfolding rank_of
rank-complete t x h = ap (λ o. o >>= rank_named) h ∙ rank_named-complete x

-- a reference
reference-sound : (t : Tree) (x : Reference) → reference_of t ≡ Some x → IsReference t x
unfolding reference_of
reference-sound t x e =
    let hash = bind_some (text_at (codes "hash") t) _ e in
    let test = guarded (is_hash hash.0) hash.1.1 in
    let snaks = bind_some (snaks_at (codes "snaks") t) _ test.1 in
    let is = some_is snaks.1.1 in
    record {
      hash = hash.1.0 ∙ ap (λ (r : Reference). Some r.hash) is;
      is_hash = ap (λ (r : Reference). is_hash r.hash) (sym is) ∙ test.0;
      snaks = snaks-sound (codes "snaks") t x.snaks (snaks.1.0 ∙ ap (λ (r : Reference). Some r.snaks) is);
    }

reference-complete : (t : Tree) (x : Reference) → IsReference t x → reference_of t ≡ Some x
unfolding reference_of
reference-complete t x h =
    let snaks = snaks-complete (codes "snaks") t x.snaks h.snaks in
    rw (h.hash, h.is_hash, snaks) refl

reference_agrees : Agree {X = ℕ × Tree} (λ item. reference_of item.1) (λ item x. IsReference item.1 x)
reference_agrees = record { sound = λ i x. reference-sound i.1 x; complete = λ i x. reference-complete i.1 x }

references-sound : (t : Tree) (xs : List Reference) → references_at (codes "references") t ≡ Some xs → InOptionalList (λ value x. IsReference value.1 x) (member_of (codes "references") t) xs
unfolding references_at
references-sound t xs e =
    optional_list-sound (λ item. reference_of item.1) (λ item x. IsReference item.1 x) reference_agrees (codes "references") t (member_of (codes "references") t) refl xs e

references-complete : (t : Tree) (xs : List Reference) → InOptionalList (λ value x. IsReference value.1 x) (member_of (codes "references") t) xs → references_at (codes "references") t ≡ Some xs
unfolding references_at
references-complete t xs h =
    optional_list-complete (λ item. reference_of item.1) (λ item x. IsReference item.1 x) reference_agrees (codes "references") t (member_of (codes "references") t) refl xs h

-- the id, which isn't empty
not_empty : (c : ℕ) (cs : List ℕ) → filled (c ∷ cs) ≡ Some (c ∷ cs)
not_empty c cs = let more : (length (c ∷ cs) == 0) ≡ false = grind (arith, nat_tests) in rw more refl

filled-sound : (text x : List ℕ) → filled text ≡ Some x → (text ≡ x) × (x ≢ [])
filled-sound [] x e = absurd cc
filled-sound (c ∷ cs) x e =
    let is : c ∷ cs ≡ x = some_is (sym (not_empty c cs) ∙ e) in
    (is, λ empty. let no = is ∙ empty in absurd cc)

filled-complete : (x : List ℕ) → x ≢ [] → filled x ≡ Some x
filled-complete [] h = absurd (h refl)
filled-complete (c ∷ cs) h = not_empty c cs

id-sound : (t : Tree) (x : List ℕ) → statement_id t ≡ Some x → (text_at (codes "id") t ≡ Some x) × (x ≢ [])
unfolding statement_id
id-sound t x e =
    let found = bind_some (text_at (codes "id") t) filled e in
    let id = filled-sound found.0 x found.1.1 in
    (found.1.0 ∙ ap Some id.0, id.1)

id-complete : (t : Tree) (x : List ℕ) → text_at (codes "id") t ≡ Some x → x ≢ [] → statement_id t ≡ Some x
unfolding statement_id
id-complete t x h some = ap (λ o. o >>= filled) h ∙ filled-complete x some

-- the main snak
main-sound : (key : List ℕ) (p : EntityId) (t : Tree) (x : Snak) → key ≡ id_text p → main_of key p t ≡ Some x → HasMain p t x
unfolding main_of
main-sound key p t x key_is e =
    let found = bind_some (member_of (codes "mainsnak") t) _ e in
    record { main = found.0; is_main = found.1.0; holds = snak-sound key p 0 found.0 x key_is found.1.1 }

main-complete : (key : List ℕ) (p : EntityId) (t : Tree) (x : Snak) → key ≡ id_text p → HasMain p t x → main_of key p t ≡ Some x
unfolding main_of
main-complete key p t x key_is h = ap (λ o. o >>= snak_of key p 0) h.is_main ∙ snak-complete key p 0 h.main x key_is h.holds

-- a statement under the id of a property
statement-sound : (key : List ℕ) (p : EntityId) (t : Tree) (x : Statement) → key ≡ id_text p → statement_of key p t ≡ Some x → IsStatement p t x
unfolding statement_of
statement-sound key p t x key_is e =
    let rank = bind_some (rank_of t) _ e in
    let id = bind_some (statement_id t) _ rank.1.1 in
    let qualifiers = bind_some (snaks_at (codes "qualifiers") t) _ id.1.1 in
    let references = bind_some (references_at (codes "references") t) _ qualifiers.1.1 in
    let main = bind_some (main_of key p t) _ references.1.1 in
    let is = some_is main.1.1 in
    let id_is = id-sound t x.id (id.1.0 ∙ ap (λ (r : Statement). Some r.id) is) in
    record {
      property = ap (λ (r : Statement). r.property) (sym is);
      main = main-sound key p t x.main key_is (main.1.0 ∙ ap (λ (r : Statement). Some r.main) is);
      rank = rank-sound t x.rank (rank.1.0 ∙ ap (λ (r : Statement). Some r.rank) is);
      id = id_is.0;
      id_not_empty = id_is.1;
      qualifiers = snaks-sound (codes "qualifiers") t x.qualifiers (qualifiers.1.0 ∙ ap (λ (r : Statement). Some r.qualifiers) is);
      references = references-sound t x.references (references.1.0 ∙ ap (λ (r : Statement). Some r.references) is);
    }

statement-complete : (key : List ℕ) (p : EntityId) (t : Tree) (x : Statement) → key ≡ id_text p → IsStatement p t x → statement_of key p t ≡ Some x
unfolding statement_of
statement-complete key p t x key_is h =
    let rank = rank-complete t x.rank h.rank in
    let id = id-complete t x.id h.id h.id_not_empty in
    let qualifiers = snaks-complete (codes "qualifiers") t x.qualifiers h.qualifiers in
    let references = references-complete t x.references h.references in
    let main = main-complete key p t x.main key_is h.main in
    rw (rank, id, qualifiers, references, main, ← h.property) refl

-- claims
abbrev statement_in : List ℕ → EntityId → ℕ × Tree → Option Statement
statement_in key p item = statement_of key p item.1

abbrev pub IsStatementIn : EntityId → ℕ × Tree → Statement → Type 0
IsStatementIn p value x = IsStatement p value.1 x

statement_agrees : (key : List ℕ) (p : EntityId) → key ≡ id_text p → Agree (statement_in key p) (IsStatementIn p)
statement_agrees key p is = record { sound = λ i x. statement-sound key p i.1 x is; complete = λ i x. statement-complete key p i.1 x is }

pub statements_walk : Walks statements_step (UnderProperty IsStatementIn)
unfolding statements_step
statements_walk = under_walks statement_in IsStatementIn statement_agrees

pub statements-sound : (t : Tree) (xs : List Statement) → statements_at (codes "claims") t ≡ Some xs → AreStatements t xs
unfolding statements_at
statements-sound t xs e = map-sound statements_step (UnderProperty IsStatementIn) statements_walk (codes "claims") t xs e

pub statements-complete : (t : Tree) (xs : List Statement) → AreStatements t xs → statements_at (codes "claims") t ≡ Some xs
unfolding statements_at
statements-complete t xs h = map-complete statements_step (UnderProperty IsStatementIn) statements_walk (codes "claims") t xs h
