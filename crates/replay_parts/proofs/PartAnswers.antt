-- A part answers at the questions of the whole.
use Rattle.std.proofs.Common.{◌≡◌, ℕ, Bool, true, false, cond, List, [], ◌∷◌, ◌++◌, Option, flat_map, refl, sym, ◌∙◌, ap, append-nil}
use Rattle.std.proofs.lemmas.List.Concat.{flat_map-append}
use Rattle.rdf_term.specs.declared.triple.Triple.{Triple}
use Rattle.sorted_sets.proofs.Pushes.{by_pushes}
use Rattle.entity_model.specs.declared.id.EntityId.{EntityId}
use Rattle.delivery.specs.declared.Delivery.{Delivery}
use Rattle.delivery.specs.declared.Delivery.TheVariants.{Event as Told, Watermark, Ask, Mapping, Match}
use Rattle.entity_model.specs.declared.mapping.MappingVersion.{MappingVersion}
use Rattle.replay_model.specs.Acceptance.{Arrival, arrivals}
use Rattle.replay_model.specs.Play.{Replies}
use Rattle.replay_model.specs.Transcript.{said, said_at}
use Rattle.replay_model.specs.Union.{Meaning}
use Rattle.replay_model.proofs.Arrivals.{arrivals-push}
use Rattle.replay_model.proofs.Printing.{said-push}
use Rattle.replay_parts.specs.Parts.{is_routed, routed}
use Rattle.replay_parts.proofs.Routed.{routed-push}

module _ (meaning : MappingVersion → Meaning Triple) (contains : EntityId → Bool) (own : Replies) (hz : Option ℕ) where
  -- what is said at an arrival by a part, after what went to it before
  abbrev part_says : Arrival → List ℕ
  part_says a = said_at meaning hz own (record { before = routed contains a.before; delivery = a.delivery })

  says-push : (ds : List Delivery) (d : Delivery) → flat_map part_says (arrivals (ds ++ d ∷ [])) ≡ flat_map part_says (arrivals ds) ++ part_says (record { before = ds; delivery = d })
  says-push ds d =
      ap (flat_map part_says) (arrivals-push ds d)
      ∙ flat_map-append part_says (arrivals ds) (record { before = ds; delivery = d } ∷ [])
      ∙ ap (λ l. flat_map part_says (arrivals ds) ++ l) (append-nil (part_says (record { before = ds; delivery = d })))

  says-step : (ds : List Delivery) (d : Delivery) → said meaning hz own (routed contains ds) ≡ flat_map part_says (arrivals ds) → said meaning hz own (routed contains ds ++ cond (is_routed contains d) (d ∷ []) []) ≡ flat_map part_says (arrivals ds) ++ part_says (record { before = ds; delivery = d })
  says-step ds (Told e) before = told (contains e.entity) ∙ before ∙ sym (append-nil (flat_map part_says (arrivals ds)))
    where
      told : (b : Bool) → said meaning hz own (routed contains ds ++ cond b (Told e ∷ []) []) ≡ said meaning hz own (routed contains ds)
      told true = said-push hz meaning own (routed contains ds) (Told e) ∙ append-nil (said meaning hz own (routed contains ds))
      told false = ap (said meaning hz own) (append-nil (routed contains ds))
  says-step ds (Watermark w) before = said-push hz meaning own (routed contains ds) (Watermark w) ∙ ap (λ l. l ++ []) before
  says-step ds (Ask q) before = said-push hz meaning own (routed contains ds) (Ask q) ∙ ap (λ l. l ++ part_says (record { before = ds; delivery = Ask q })) before
  says-step ds (Mapping v) before = said-push hz meaning own (routed contains ds) (Mapping v) ∙ ap (λ l. l ++ []) before
  says-step ds (Match q) before = said-push hz meaning own (routed contains ds) (Match q) ∙ ap (λ l. l ++ part_says (record { before = ds; delivery = Match q })) before

  -- a part says its answers at the questions of the whole
  pub said-routed : (ds : List Delivery) → said meaning hz own (routed contains ds) ≡ flat_map part_says (arrivals ds)
  said-routed = by_pushes (λ ds. said meaning hz own (routed contains ds) ≡ flat_map part_says (arrivals ds)) refl
      (λ ds d before. ap (said meaning hz own) (routed-push contains ds d) ∙ says-step ds d before ∙ sym (says-push ds d))
