-- How many terms the pages of a drill have.
use Rattle.std.proofs.Common.{◌≡◌, refl, subst, ℕ, ◌+◌, ◌<◌, ◌^◌, List, [], Option, Some, None, arith}
use Rattle.json_spell.specs.{Grammar.Reads, Tree.Tree}
use Rattle.json_spell.proofs.Complete.{one_tree}
use Rattle.entity_model.specs.declared.document.Document.{Document}
use Rattle.entity_model.specs.declared.document.Document.TheVariants.{Entity as AnEntity, Redirect, Lexeme as ALexeme}
use Rattle.entity_model.specs.{declared.mapping.MappingVersion.MappingVersion, declared.statement.Statement.Statement}
use Rattle.entity_json.specs.{declared.page.Page.Page, Document.document_of, Pages.IsPage}
use Rattle.entity_json.proofs.Fitness.{documents}
use Rattle.entity_rdf.specs.Dump.{dump}
use Rattle.fetched_pages.specs.Meaning.{meaning, triples_if}
use Rattle.drill_replay.specs.Drill.{earlier_page, item, later_page}
use Rattle.drill_replay.specs.Trees.{earlier_tree, later_tree}
use Rattle.drill_replay.proofs.{Counted.stated, Counted.unstated, Covered.Covered, Covered.at_most, Covered.left, Covered.none}
use Rattle.drill_replay.proofs.WrittenTrees.{earlier_read, later_read}
use Rattle.drill_replay.proofs.Parts.{HasNone, IsLabelledPage, IsSourced, earlier_shape, later_shape}

module _ (version : MappingVersion) (i rev n : ℕ) (S : List Statement → Type 0) (bytes : List ℕ) (t : Tree) (reads : Reads bytes t)
    (shape : (p : Page) → IsPage t p → IsLabelledPage S p.document) (few : (d : Document) → IsLabelledPage S d → Covered [] n (dump version (item i) rev d)) where
  by_document : (found : Option Document) → document_of (item i) bytes ≡ found → Covered [] (n + 1) (triples_if version (item i) rev found)
  by_document None is = at_most (n + 1) (omega arith) none
  by_document (Some d) is =
      let h = (documents (item i) bytes d).0 is in
      let same : h.tree ≡ t = one_tree bytes h.tree t h.has_tree.reads reads in
      let p : Page = record { id = item i; document = d } in
      left (item i) n (dump version (item i) rev d) (few d (shape p (subst (λ u. IsPage u p) same h.is_page)))

  few_meant : Covered [] (n + 1) (meaning version (item i) rev bytes)
  few_meant = by_document (document_of (item i) bytes) refl

module _ (version : MappingVersion) (i rev : ℕ) where
  unstated_page : (d : Document) → IsLabelledPage HasNone d → Covered [] 26 (dump version (item i) rev d)
  unstated_page (AnEntity e) h = unstated version i rev e h
  unstated_page (Redirect y) h = absurd h
  unstated_page (ALexeme l) h = absurd h

  stated_page : (d : Document) → IsLabelledPage IsSourced d → Covered [] 72 (dump version (item i) rev d)
  stated_page (AnEntity e) h = stated version i rev e h
  stated_page (Redirect y) h = absurd h
  stated_page (ALexeme l) h = absurd h

  -- the triples of an earlier page have at most 27 terms
  pub earlier_few : (j : ℕ) → j < 2 ^ 64 → Covered [] 27 (meaning version (item i) rev (earlier_page j))
  earlier_few j small = few_meant version i rev 26 HasNone (earlier_page j) (earlier_tree j) (earlier_read j small) (earlier_shape j) unstated_page

  -- and those of a later page at most 73
  pub later_few : (j : ℕ) → j < 2 ^ 64 → Covered [] 73 (meaning version (item i) rev (later_page j))
  later_few j small = few_meant version i rev 72 IsSourced (later_page j) (later_tree j) (later_read j small) (later_shape j) stated_page
