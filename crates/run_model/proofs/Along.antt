-- One delivery more: what it adds to what deliveries make from a checkpoint on, and where it leads.
use Rattle.std.proofs.Common.{◌≡◌, refl, sym, ◌∙◌, ap, ◌+◌, List, [], ◌∷◌, ◌++◌, append_assoc, append-nil, length, length-append, filter_map, arith}
use Rattle.std.proofs.{lemmas.List.Elements.filter_map-append, lemmas.List.Sums.fold_push}
use Rattle.delivery.specs.declared.Delivery.{Delivery}
use Rattle.entity_model.specs.declared.mapping.MappingVersion.{MappingVersion}
use Rattle.replay_model.specs.{Play.Replies, ReplayState.delivered}
use Rattle.replay_model.specs.Transcript.{asks, matches, pattern_of, shapes_of}
use Rattle.replay_parts.specs.Checkpoint.{Checkpoint, advanced, advanced_by, version_after}
use Rattle.run_model.specs.Course.{along, state_along, version_since}

-- one delivery more: how many questions were asked
pub asks-push : (ds : List Delivery) (d : Delivery) → asks (ds ++ d ∷ []) ≡ asks ds + asks (d ∷ [])
asks-push ds d = ap length (filter_map-append pattern_of ds (d ∷ [])) ∙ length-append (filter_map pattern_of ds) (filter_map pattern_of (d ∷ []))

-- and how many matches were delivered
pub matches-push : (ds : List Delivery) (d : Delivery) → matches (ds ++ d ∷ []) ≡ matches ds + matches (d ∷ [])
matches-push ds d = ap length (filter_map-append shapes_of ds (d ∷ [])) ∙ length-append (filter_map shapes_of ds) (filter_map shapes_of (d ∷ []))

matches-cons : (d : Delivery) (ds : List Delivery) → matches (d ∷ ds) ≡ matches (d ∷ []) + matches ds
matches-cons d ds = ap length (filter_map-append shapes_of (d ∷ []) ds) ∙ length-append (filter_map shapes_of (d ∷ [])) (filter_map shapes_of ds)

asks-cons : (d : Delivery) (ds : List Delivery) → asks (d ∷ ds) ≡ asks (d ∷ []) + asks ds
asks-cons d ds = ap length (filter_map-append pattern_of (d ∷ []) ds) ∙ length-append (filter_map pattern_of (d ∷ [])) (filter_map pattern_of ds)

module _ {A : Type 0} (made : Replies → Checkpoint → Delivery → List A) (replies : Replies) where
  pub along-push : (c : Checkpoint) (ds : List Delivery) (d : Delivery) → along made replies c (ds ++ d ∷ []) ≡ along made replies c ds ++ made replies (advanced_by replies c ds) d
  along-push c [] d = append-nil (made replies c d)
  along-push c (q ∷ ds) d =
      ap (λ l. made replies c q ++ l) (along-push (advanced replies c q) ds d)
      ∙ sym (append_assoc (made replies c q) (along made replies (advanced replies c q) ds) (made replies (advanced_by replies (advanced replies c q) ds) d))

  -- a delivery that makes nothing
  pub along-still : (c : Checkpoint) (ds : List Delivery) (d : Delivery) → made replies (advanced_by replies c ds) d ≡ [] → along made replies c (ds ++ d ∷ []) ≡ along made replies c ds
  along-still c ds d none = along-push c ds d ∙ ap (λ l. along made replies c ds ++ l) none ∙ append-nil (along made replies c ds)

pub state-push : (replies : Replies) (c : Checkpoint) (ds : List Delivery) (d : Delivery) → state_along replies c (ds ++ d ∷ []) ≡ delivered replies (state_along replies c ds) d
state-push replies c ds d = ap (λ (x : Checkpoint). x.state) (fold_push (advanced replies) c ds d)

pub version-push : (version : MappingVersion) (ds : List Delivery) (d : Delivery) → version_since version (ds ++ d ∷ []) ≡ version_after (version_since version ds) d
version-push version ds d = fold_push version_after version ds d

-- the version doesn't depend on the replies, and neither do the questions
pub version-along : (replies : Replies) (c : Checkpoint) (ds : List Delivery) → (advanced_by replies c ds).version ≡ version_since c.version ds
version-along replies c [] = refl
version-along replies c (d ∷ ds) = version-along replies (advanced replies c d) ds

pub asked-along : (replies : Replies) (c : Checkpoint) (ds : List Delivery) → (advanced_by replies c ds).asked ≡ c.asked + asks ds
asked-along replies c [] = omega arith
asked-along replies c (d ∷ ds) = asked-along replies (advanced replies c d) ds ∙ omega (arith, asks-cons d ds)

pub matched-along : (replies : Replies) (c : Checkpoint) (ds : List Delivery) → (advanced_by replies c ds).matched ≡ c.matched + matches ds
matched-along replies c [] = omega arith
matched-along replies c (d ∷ ds) = matched-along replies (advanced replies c d) ds ∙ omega (arith, matches-cons d ds)
