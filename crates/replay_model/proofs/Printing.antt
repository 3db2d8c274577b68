-- What one more delivery adds to what is printed.
use Rattle.std.proofs.Common.{◌≡◌, List, [], ◌∷◌, ◌++◌, flat_map, ◌∙◌, ap, append-nil, Option, ℕ}
use Rattle.std.proofs.lemmas.List.Concat.{flat_map-append}
use Rattle.rdf_term.specs.declared.triple.Triple.{Triple}
use Rattle.delivery.specs.declared.Delivery.{Delivery}
use Rattle.entity_model.specs.declared.mapping.MappingVersion.{MappingVersion}
use Rattle.replay_model.specs.Acceptance.{arrivals}
use Rattle.replay_model.specs.Play.{Replies}
use Rattle.replay_model.specs.Transcript.{said, said_at}
use Rattle.replay_model.specs.Union.{Meaning}
use Rattle.replay_model.proofs.Arrivals.{arrivals-push}

pub said-push : (hz : Option ℕ) (meaning : MappingVersion → Meaning Triple) (replies : Replies) (ds : List Delivery) (d : Delivery) → said meaning hz replies (ds ++ d ∷ []) ≡ said meaning hz replies ds ++ said_at meaning hz replies (record { before = ds; delivery = d })
said-push hz meaning replies ds d =
    ap (flat_map (said_at meaning hz replies)) (arrivals-push ds d)
    ∙ flat_map-append (said_at meaning hz replies) (arrivals ds) (record { before = ds; delivery = d } ∷ [])
    ∙ ap (λ l. said meaning hz replies ds ++ l) (append-nil (said_at meaning hz replies (record { before = ds; delivery = d })))
