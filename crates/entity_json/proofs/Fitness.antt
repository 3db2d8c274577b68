-- The document and the cause that are computed for bytes are those that the rules say.
use Rattle.std.proofs.Common.{◌≡◌, ◌≢◌, ◌↔◌, ℕ, ◌<◌, ◌≤◌, Bool, true, false, nat_lt, cond, List, length, Option, Some, None, Result, Ok, Err, refl, sym, ap, ◌∙◌, subst, arith}
use Rattle.std.specs.declared.cmp.Ordering.{Ordering}
use Rattle.std.specs.declared.cmp.Ordering.TheVariants.{Less, Equal, Greater}
use Rattle.std.specs.Ordering.{eq_by_cmp, is_eq}
use Rattle.std.proofs.lemmas.Bool.Decides.{nat_tests}
use Rattle.std.proofs.lemmas.Cmp.{tied_itself}
use Rattle.json_spell.specs.Tree.{Tree}
use Rattle.json_spell.specs.Deep.{IsDeep}
use Rattle.json_spell.specs.Scan.{is_deep_text}
use Rattle.json_spell.proofs.Opened.{some_is}
use Rattle.json_spell.proofs.Scans.{scan-sound, scan-deep}
use Rattle.json_spell.proofs.Weights.{reads_weight}
use Rattle.json_spell.specs.Weight.{weight}
use Rattle.entity_model.specs.declared.id.EntityId.{EntityId}
use Rattle.entity_model.specs.declared.unfit.Unfit.{Unfit}
use Rattle.entity_model.specs.declared.unfit.Unfit.TheVariants.{Large, Deep, NotJson, Shape, Foreign}
use Rattle.entity_model.specs.declared.document.Document.{Document}
use Rattle.entity_model.specs.EntityId.{entity_cmp, entity_cmp_total, entity_cmp_same}
use Rattle.entity_model.specs.Document.{IsSmall}
use Rattle.entity_json.specs.declared.page.Page.{Page}
use Rattle.entity_json.specs.Reading.Pages.{page_of}
use Rattle.entity_json.specs.Document.{page_limit, tree_of, own_document, document_in, document_or_cause, document_by, unfit_by, document_of, unfit_of}
use Rattle.entity_json.specs.Pages.{IsPage}
use Rattle.entity_json.specs.Unfit.{HasTree, HasPage, HasDocument, IsUnfit}
use Rattle.entity_json.proofs.AgreePages.{page_agrees}
use Rattle.entity_json.proofs.Outcomes.{tree-sound, tree-read, outcome-large, outcome-deep, outcome-unread, outcome-read}
use Rattle.entity_json.proofs.SmallPages.{page_small}

-- what an outcome says of the bytes
abbrev IsOutcome : EntityId → List ℕ → Result Document Unfit → Type 0
IsOutcome x bytes (Ok document) = HasDocument x bytes document
IsOutcome x bytes (Err why) = IsUnfit x bytes why

-- ids that the test finds equal are, and no others
same_id-by : (a b : EntityId) (o : Ordering) → entity_cmp a b ≡ o → is_eq o ≡ true → a ≡ b
same_id-by a b Less e t = absurd cc
same_id-by a b Equal e t = entity_cmp_same a b e
same_id-by a b Greater e t = absurd cc

same_id : (a b : EntityId) → eq_by_cmp entity_cmp a b ≡ true → a ≡ b
same_id a b t = same_id-by a b (entity_cmp a b) refl t

itself : (a : EntityId) → eq_by_cmp entity_cmp a a ≡ true
itself a = ap is_eq (tied_itself entity_cmp_total a)

other_id : (a b : EntityId) → eq_by_cmp entity_cmp a b ≡ false → a ≢ b
other_id a b t is = let yes : eq_by_cmp entity_cmp a b ≡ true = ap (eq_by_cmp entity_cmp a) (sym is) ∙ itself a in absurd cc

other_test : (a b : EntityId) (t : Bool) → eq_by_cmp entity_cmp a b ≡ t → a ≢ b → t ≡ false
other_test a b true e differ = absurd (differ (same_id a b e))
other_test a b false e differ = refl

-- a page that was found is the entity's own, or foreign
found-sound : (x : EntityId) (bytes : List ℕ) (page : Page) → HasPage bytes page → (t : Bool) → eq_by_cmp entity_cmp page.id x ≡ t
    → IsOutcome x bytes (cond t (Ok page.document) (Err Foreign))
found-sound x bytes page h true e = subst (λ (i : EntityId). HasPage bytes (record { id = i; document = page.document })) (same_id page.id x e) h
found-sound x bytes page h false e = record { page = page; has_page = h; foreign = other_id page.id x e }

tree_outcome : (x : EntityId) (bytes : List ℕ) (t : Tree) → HasTree bytes t → (o : Option Page) → page_of t ≡ o → IsOutcome x bytes (own_document x o)
tree_outcome x bytes t h None e = record {
  tree = t;
  has_tree = h;
  no_page = λ page is. let found = sym e ∙ page_agrees.complete t page is in absurd cc;
}
tree_outcome x bytes t h (Some page) e =
    found-sound x bytes page (record { tree = t; has_tree = h; is_page = page_agrees.sound t page e }) (eq_by_cmp entity_cmp page.id x) refl

read_outcome : (x : EntityId) (bytes : List ℕ) → length bytes ≤ 8388608 → ¬ (IsDeep bytes) → (o : Option Tree) → tree_of bytes ≡ o → IsOutcome x bytes (document_in x o)
read_outcome x bytes short low None e = (short, low, λ t reads. let found = sym e ∙ tree-read bytes t reads in absurd cc)
read_outcome x bytes short low (Some t) e =
    tree_outcome x bytes t (record { not_large = short; not_deep = low; reads = tree-sound bytes t e }) (page_of t) refl

short_outcome : (x : EntityId) (bytes : List ℕ) → length bytes ≤ 8388608 → (t : Bool) → is_deep_text bytes ≡ t
    → IsOutcome x bytes (cond t (Err Deep) (document_in x (tree_of bytes)))
short_outcome x bytes short true e = (short, scan-sound bytes e)
short_outcome x bytes short false e = read_outcome x bytes short (λ is. let found = sym e ∙ scan-deep bytes is in absurd cc) (tree_of bytes) refl

any_outcome : (x : EntityId) (bytes : List ℕ) (t : Bool) → nat_lt page_limit (length bytes) ≡ t
    → IsOutcome x bytes (cond t (Err Large) (cond (is_deep_text bytes) (Err Deep) (document_in x (tree_of bytes))))
any_outcome x bytes true e = let long : 8388608 < length bytes = grind (arith, nat_tests) in long
any_outcome x bytes false e = let short : length bytes ≤ 8388608 = grind (arith, nat_tests) in short_outcome x bytes short (is_deep_text bytes) refl

-- what is computed is so
outcome-sound : (x : EntityId) (bytes : List ℕ) → IsOutcome x bytes (document_or_cause x bytes)
unfolding document_or_cause
outcome-sound x bytes = any_outcome x bytes (nat_lt page_limit (length bytes)) refl

-- and what is so is computed
page_outcome : (x : EntityId) (bytes : List ℕ) (page : Page) → HasPage bytes page → document_or_cause x bytes ≡ own_document x (Some page)
page_outcome x bytes page h =
    outcome-read x bytes h.tree h.has_tree.not_large h.has_tree.not_deep h.has_tree.reads ∙ ap (own_document x) (page_agrees.complete h.tree page h.is_page)

no_page_of : (t : Tree) (o : Option Page) → page_of t ≡ o → ((page : Page) → ¬ (IsPage t page)) → o ≡ None
no_page_of t None e not_one = refl
no_page_of t (Some page) e not_one = absurd (not_one page (page_agrees.sound t page e))

outcome-complete : (x : EntityId) (bytes : List ℕ) (r : Result Document Unfit) → IsOutcome x bytes r → document_or_cause x bytes ≡ r
outcome-complete x bytes (Ok document) h =
    page_outcome x bytes (record { id = x; document = document }) h ∙ ap (λ t. cond t (Ok document) (Err Foreign)) (itself x)
outcome-complete x bytes (Err Large) h = outcome-large x bytes h
outcome-complete x bytes (Err Deep) h = outcome-deep x bytes h.0 h.1
outcome-complete x bytes (Err NotJson) h = outcome-unread x bytes h.0 h.1 h.2
outcome-complete x bytes (Err Shape) h =
    outcome-read x bytes h.tree h.has_tree.not_large h.has_tree.not_deep h.has_tree.reads
    ∙ ap (own_document x) (no_page_of h.tree (page_of h.tree) refl h.no_page)
outcome-complete x bytes (Err Foreign) h =
    page_outcome x bytes h.page h.has_page
    ∙ ap (λ t. cond t (Ok h.page.document) (Err Foreign)) (other_test h.page.id x (eq_by_cmp entity_cmp h.page.id x) refl h.foreign)

-- the two parts of an outcome
document_by-is : (r : Result Document Unfit) (document : Document) → document_by r ≡ Some document → r ≡ Ok document
document_by-is (Ok d) document e = ap Ok (some_is e)
document_by-is (Err why) document e = absurd cc

unfit_by-is : (r : Result Document Unfit) (why : Unfit) → unfit_by r ≡ Some why → r ≡ Err why
unfit_by-is (Ok d) why e = absurd cc
unfit_by-is (Err w) why e = ap Err (some_is e)

-- the document of an entity is that of its page
pub documents : (x : EntityId) (bytes : List ℕ) (document : Document) → (document_of x bytes ≡ Some document) ↔ HasDocument x bytes document
documents x bytes document = (
  λ e. subst (IsOutcome x bytes) (document_by-is (document_or_cause x bytes) document e) (outcome-sound x bytes),
  λ h. ap document_by (outcome-complete x bytes (Ok document) h),
)

-- the cause is the first that applies
pub causes : (x : EntityId) (bytes : List ℕ) (why : Unfit) → (unfit_of x bytes ≡ Some why) ↔ IsUnfit x bytes why
causes x bytes why = (
  λ e. subst (IsOutcome x bytes) (unfit_by-is (document_or_cause x bytes) why e) (outcome-sound x bytes),
  λ h. ap unfit_by (outcome-complete x bytes (Err why) h),
)

-- a document is small
pub document_small : (x : EntityId) (bytes : List ℕ) (document : Document) → document_of x bytes ≡ Some document → IsSmall document
document_small x bytes document e =
    let h = (documents x bytes document).0 e in
    let light : weight h.tree ≤ 8388608 = omega (arith, reads_weight bytes h.tree h.has_tree.reads, h.has_tree.not_large) in
    page_small h.tree (record { id = x; document = document }) light h.is_page
