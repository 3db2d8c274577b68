-- A document has few bytes, and bytes that are no document mean nothing.
use Rattle.std.proofs.Common.{◌≡◌, ◌≤◌, Bool, true, false, cond, nat_lt, List, ℕ, [], Some, None, Result, Ok, Err, is_some, length, refl, sym, ap, true≢false}
use Rattle.std.proofs.lemmas.Bool.{ltb-false}
use Rattle.entity_model.specs.{declared.id.EntityId.EntityId, declared.document.Document.Document}
use Rattle.entity_model.specs.{declared.unfit.Unfit.Unfit, declared.unfit.Unfit.TheVariants.Large}
use Rattle.entity_model.specs.declared.mapping.MappingVersion.{MappingVersion}
use Rattle.entity_json.specs.Document.{document_by, document_or_cause, page_limit, unfit_by, unfit_of}
use Rattle.fetched_pages.specs.Meaning.{meaning, triples_if}

pub document_short : (x : EntityId) (bytes : List ℕ) → unfit_of x bytes ≡ None → length bytes ≤ 8388608
unfolding document_or_cause
document_short x bytes fit = by (nat_lt page_limit (length bytes)) refl _ fit
  where
    by : (b : Bool) → nat_lt page_limit (length bytes) ≡ b → (found : Result Document Unfit) → unfit_by (cond b (Err Large) found) ≡ None → length bytes ≤ 8388608
    by true large found e = absurd (true≢false (ap is_some e))
    by false small found e = ltb-false page_limit (length bytes) small

no_document : (found : Result Document Unfit) (why : Unfit) → unfit_by found ≡ Some why → document_by found ≡ None
no_document (Ok document) why is = absurd (true≢false (sym (ap is_some is)))
no_document (Err unfit) why is = refl

pub unfit_means : (v : MappingVersion) (x : EntityId) (rev : ℕ) (bytes : List ℕ) (why : Unfit) → unfit_of x bytes ≡ Some why → meaning v x rev bytes ≡ []
unfit_means v x rev bytes why is = ap (triples_if v x rev) (no_document (document_or_cause x bytes) why is)
