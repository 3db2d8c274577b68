-- What a page means has fit and short terms.
use Rattle.std.proofs.Common.{◌≡◌, ℕ, ◌≤◌, Bool, true, false, cond, nat_lt, List, Option, Some, None, Result, Ok, Err, is_some, length, refl, sym, ◌∙◌, ap, subst, true≢false, arith}
use Rattle.std.specs.List.{AllByRecursion}
use Rattle.std.proofs.lemmas.Bool.{ltb-false}
use Rattle.sorted_sets.specs.Rising.{has, sorted}
use Rattle.sorted_sets.proofs.Rising.{has-sorted}
use Rattle.rdf_term.specs.{declared.triple.Triple.Triple, Fit.HasFitAndShortTerms, Order.triple_cmp, Order.triple_cmp-total}
use Rattle.entity_model.specs.{declared.id.EntityId.EntityId, declared.document.Document.Document, Document.IsSmall}
use Rattle.entity_model.specs.{declared.unfit.Unfit.Unfit, declared.unfit.Unfit.TheVariants.Large}
use Rattle.entity_model.specs.declared.mapping.MappingVersion.{MappingVersion}
use Rattle.entity_json.specs.Document.{document_of, document_or_cause, page_limit, unfit_by, unfit_of}
use Rattle.entity_json.proofs.Fitness.{document_small}
use Rattle.entity_rdf.proofs.Direct.{direct_fit}
use Rattle.replay_model.specs.{Records.Bytes, Records.Records, Replies.GivesDocument}
use Rattle.revisions.specs.Revisions.{Contents}
use Rattle.entity_state.specs.declared.entry.Cause.{Cause}
use Rattle.fetched_pages.specs.{Reply.IsReply, declared.fetching.FetchedPage.FetchedPage}
use Rattle.fetched_pages.specs.declared.fetching.FetchedPage.TheVariants.{Whole, Changed, Parted, Differing}
use Rattle.fetched_pages.specs.{Fetched.IsFetched, Fetched.IsPageOf, Fetched.bytes_of, Listed.IsListed}
use Rattle.fetched_pages.specs.Meaning.{document_triples, meaning, triples_if}
use Rattle.std.specs.Prelude.{IfSome}
use Rattle.page_rdf.specs.declared.counts.Counts.{Counts}

-- the triples of a small document
document_fit : (v : MappingVersion) (x : EntityId) (rev : ℕ) (document : Document) → IsSmall document → AllByRecursion HasFitAndShortTerms (document_triples v x rev document)
document_fit v x rev document small = direct_fit v x rev document small

found_fit : (v : MappingVersion) (x : EntityId) (rev : ℕ) (bytes : List ℕ) (found : Option Document) → document_of x bytes ≡ found → AllByRecursion HasFitAndShortTerms (triples_if v x rev found)
found_fit v x rev bytes None is = tt
found_fit v x rev bytes (Some document) is = document_fit v x rev document (document_small x bytes document is)

-- the triples of any bytes, since a document is small
pub meaning_fit : (v : MappingVersion) (x : EntityId) (rev : ℕ) (bytes : List ℕ) → AllByRecursion HasFitAndShortTerms (meaning v x rev bytes)
meaning_fit v x rev bytes = found_fit v x rev bytes (document_of x bytes) refl

-- a page has few bytes
pub page_short : (x : EntityId) (bytes : List ℕ) → unfit_of x bytes ≡ None → length bytes ≤ 33554432
unfolding document_or_cause
page_short x bytes fit = by (nat_lt page_limit (length bytes)) refl _ fit
  where
    by : (b : Bool) → nat_lt page_limit (length bytes) ≡ b → (found : Result Document Unfit) → unfit_by (cond b (Err Large) found) ≡ None → length bytes ≤ 33554432
    by true large found e = absurd (true≢false (ap is_some e))
    by false small found e = let few : length bytes ≤ 8388608 = ltb-false page_limit (length bytes) small in omega arith

-- texts of the triples that the bytes mean are those of a page
pub page_of : (v : MappingVersion) (x : EntityId) (rev : ℕ) (bytes other : List ℕ) (ts : List Triple) (counts : Option Counts) (graph : Option ℕ) → other ≡ bytes → sorted triple_cmp ts ≡ meaning v x rev bytes → AllByRecursion HasFitAndShortTerms ts → length bytes ≤ 33554432
    → IfSome counts (λ known. IsListed v x rev (document_of x bytes) known ts)
    → IsPageOf v x rev (record { bytes = other; triples = ts; counts = counts; graph = graph })
page_of v x rev bytes other ts counts graph is meant fit short listed = record {
  set = meant ∙ ap (meaning v x rev) (sym is);
  meant = λ t. sym (has-sorted triple_cmp-total t ts) ∙ ap (has triple_cmp t) (meant ∙ ap (meaning v x rev) (sym is));
  fit = fit;
  short = subst (λ (b : List ℕ). length b ≤ 33554432) (sym is) short;
  listed = subst (λ (b : List ℕ). IfSome counts (λ known. IsListed v x rev (document_of x b) known ts)) (sym is) listed;
}

-- a page that was fetched has few bytes
pub fetched_short : (records : Records) (by_two : List EntityId) (v : MappingVersion) (x : EntityId) (rev : ℕ) (page : FetchedPage) → IsFetched records by_two v x rev page → length (bytes_of page) ≤ 33554432
fetched_short records by_two v x rev (Whole page) is = is.short
fetched_short records by_two v x rev (Changed page) is = is.short
fetched_short records by_two v x rev (Parted page) is = is.short
fetched_short records by_two v x rev (Differing page) is = is.short

-- a reply of a source that gives bytes gives a document
pub reply_gives : (known : Option Contents) (folder : List ℕ) (x : EntityId) (rev : ℕ) (reply : Result Bytes Cause) → IsReply known folder x rev reply → GivesDocument unfit_of x reply
reply_gives known folder x rev (Ok bytes) is = is.0
reply_gives known folder x rev (Err cause) is = tt
