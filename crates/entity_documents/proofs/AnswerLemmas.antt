-- What the call answers, by what the JSON reader and the page reader gave.
use Rattle.std.proofs.Common.{◌≡◌, ℕ, ◌≤◌, List, length, Some, Result, Ok, Err, IfOk, ap, ◌∙◌}
use Rattle.json_spell.specs.declared.fault.JsonFault.{JsonFault}
use Rattle.json_spell.specs.declared.fault.JsonFault.TheVariants.{Deep, NotJson, OutOfMemory as JsonOutOfMemory}
use Rattle.json_spell.specs.Tree.{Tree}
use Rattle.json_spell.specs.Deep.{IsDeep}
use Rattle.json_spell.specs.Grammar.{Reads}
use Rattle.json_spell.specs.Answers.{Faults}
use Rattle.entity_model.specs.declared.id.EntityId.{EntityId}
use Rattle.entity_model.specs.declared.document.Document.{Document}
use Rattle.entity_json.specs.declared.fault.DocumentFault.{DocumentFault}
use Rattle.entity_json.specs.declared.fault.DocumentFault.TheVariants.{Unfit as NoDocument, OutOfMemory}
use Rattle.entity_json.specs.declared.part.PartFault.{PartFault}
use Rattle.entity_json.specs.declared.part.PartFault.TheVariants.{Shape, OutOfMemory as PartOutOfMemory}
use Rattle.entity_json.specs.declared.page.Page.{Page}
use Rattle.entity_json.specs.Finds.{FindsNone}
use Rattle.entity_json.specs.Faults.{of_json, of_part}
use Rattle.entity_json.specs.Reading.Pages.{page_of}
use Rattle.entity_json.specs.Document.{page_limit, own_document, document_by, unfit_by}
use Rattle.entity_documents.specs.Answers.{Tells, Answers}
use Rattle.entity_model.specs.Document.{IsDocumentOf, IsSmall}
use Rattle.entity_json.proofs.Outcomes.{outcome-deep, outcome-unread, outcome-read}
use Rattle.entity_json.proofs.Fitness.{document_small}
use Rattle.entity_json.proofs.Owned.{document_owned}

-- a text that wasn't read
pub text-refused : (x : EntityId) (bytes : List ℕ) (fault : JsonFault) → length bytes ≤ page_limit → Faults bytes fault → Answers x bytes (Err (of_json fault))
text-refused x bytes Deep short is = ap unfit_by (outcome-deep x bytes short is)
text-refused x bytes NotJson short is = ap unfit_by (outcome-unread x bytes short is.0 is.1)
text-refused x bytes JsonOutOfMemory short is = tt

-- a value that is no page
pub page-refused : (x : EntityId) (bytes : List ℕ) (t : Tree) (fault : PartFault) → length bytes ≤ page_limit → ¬ (IsDeep bytes) → Reads bytes t → FindsNone fault (page_of t) → Answers x bytes (Err (of_part fault))
page-refused x bytes t Shape short low reads is = ap unfit_by (outcome-read x bytes t short low reads ∙ ap (own_document x) is)
page-refused x bytes t PartOutOfMemory short low reads is = tt

-- a page
pub page-told : (x : EntityId) (bytes : List ℕ) (t : Tree) (page : Page) (r : Result Document DocumentFault) → length bytes ≤ page_limit → ¬ (IsDeep bytes) → Reads bytes t
    → page_of t ≡ Some page → Tells r (own_document x (Some page)) → Answers x bytes r
page-told x bytes t page (Ok document) short low reads is told = ap document_by (outcome-read x bytes t short low reads ∙ ap (own_document x) is ∙ told)
page-told x bytes t page (Err (NoDocument unfit)) short low reads is told = ap unfit_by (outcome-read x bytes t short low reads ∙ ap (own_document x) is ∙ told)
page-told x bytes t page (Err OutOfMemory) short low reads is told = tt

-- the document that is told is small
pub small-told : (x : EntityId) (bytes : List ℕ) (r : Result Document DocumentFault) → Answers x bytes r → IfOk r IsSmall
small-told x bytes (Ok document) answer = document_small x bytes document answer
small-told x bytes (Err fault) answer = tt

-- and it is one of the entity
pub owned-told : (x : EntityId) (bytes : List ℕ) (r : Result Document DocumentFault) → Answers x bytes r → IfOk r (IsDocumentOf x)
owned-told x bytes (Ok document) answer = document_owned x bytes document answer
owned-told x bytes (Err fault) answer = tt
