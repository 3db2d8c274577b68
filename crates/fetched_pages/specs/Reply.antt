-- What a source may reply to the fetch of a page.
use Rattle.std.specs.Prelude.{◌≡◌, ℕ, List, Option, None, Some, IfSome, Result, Ok, Err, ⊤}
use Rattle.entity_model.specs.declared.id.EntityId.{EntityId}
use Rattle.entity_json.specs.Document.{unfit_of}
use Rattle.entity_state.specs.declared.entry.Cause.{Cause}
use Rattle.entity_state.specs.declared.entry.Cause.TheVariants.{Missing, Failed, Unfit as NoDocument}
use Rattle.revisions.specs.Revisions.{Contents}
use Rattle.wq_io.specs.Streams.{Rose}
use Rattle.replay_model.specs.{Records.Bytes, Replies.HasUnfit}

-- the reply says whether the bytes are a document of x
abbrev pub IsJudged : EntityId → Bytes → Result Bytes Cause → Type 0
IsJudged x bytes (Ok document) = (unfit_of x bytes ≡ None) × (document ≡ bytes)
IsJudged x bytes (Err Missing) = ⊥
IsJudged x bytes (Err Failed) = ⊥
IsJudged x bytes (Err (NoDocument unfit)) = unfit_of x bytes ≡ Some unfit

-- the reply is one that a source may give to the fetch of a revision of x: a document of x, or why there is none; if the source tells what
-- it has, the reply agrees with it unless the fetch failed
abbrev pub IsReply : Option Contents → List ℕ → EntityId → ℕ → Result Bytes Cause → Type 0
IsReply known folder x r (Ok bytes) = (unfit_of x bytes ≡ None) × IfSome known (λ there. there folder r ≡ Some bytes)
IsReply known folder x r (Err Missing) = IfSome known (λ there. there folder r ≡ None)
IsReply known folder x r (Err Failed) = ⊤
IsReply known folder x r (Err (NoDocument unfit)) = IfSome known (λ there. HasUnfit unfit_of x unfit (there folder r))

-- the counts that show a reply: nothing was found, or the call failed
abbrev pub ShowsReply : Result Bytes Cause → ℕ → ℕ → ℕ → ℕ → Type 0
ShowsReply (Ok bytes) misses misses_now faults faults_now = ⊤
ShowsReply (Err Missing) misses misses_now faults faults_now = Rose misses misses_now
ShowsReply (Err Failed) misses misses_now faults faults_now = Rose faults faults_now
ShowsReply (Err (NoDocument unfit)) misses misses_now faults faults_now = ⊤
