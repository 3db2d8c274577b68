-- What the reading of a page answers.
use Rattle.std.specs.Prelude.{◌≡◌, ℕ, List, Some, Result, Ok, Err, ⊤}
use Rattle.entity_model.specs.declared.id.EntityId.{EntityId}
use Rattle.entity_model.specs.declared.unfit.Unfit.{Unfit}
use Rattle.entity_model.specs.declared.document.Document.{Document}
use Rattle.entity_json.specs.declared.fault.DocumentFault.{DocumentFault}
use Rattle.entity_json.specs.declared.fault.DocumentFault.TheVariants.{Unfit as NoDocument, OutOfMemory}
use Rattle.entity_json.specs.Document.{document_of, unfit_of}

-- an outcome, as it is told; any bytes may want more memory than there is
abbrev pub Tells : Result Document DocumentFault → Result Document Unfit → Type 0
Tells (Ok document) outcome = outcome ≡ Ok document
Tells (Err (NoDocument unfit)) outcome = outcome ≡ Err unfit
Tells (Err OutOfMemory) outcome = ⊤

-- the document, or why the bytes are none
abbrev pub Answers : EntityId → List ℕ → Result Document DocumentFault → Type 0
Answers x bytes (Ok document) = document_of x bytes ≡ Some document
Answers x bytes (Err (NoDocument unfit)) = unfit_of x bytes ≡ Some unfit
Answers x bytes (Err OutOfMemory) = ⊤
