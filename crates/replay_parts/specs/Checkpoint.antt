-- What a replay has to know between two deliveries, and how it goes on from there.
use Rattle.std.specs.Prelude.{ℕ, ◌+◌, ℤ, cond, List, [], ◌∷◌, ◌++◌, Option, None, Some, fold, unwrap_or}
use Rattle.rdf_term.specs.declared.triple.Triple.{Triple}
use Rattle.rdf_term.specs.Order.{triple_cmp}
use Rattle.delivery.specs.declared.Delivery.{Delivery}
use Rattle.entity_model.specs.declared.mapping.MappingVersion.{MappingVersion}
use Rattle.entity_model.specs.declared.mapping.MappingVersion.TheVariants.{One}
use Rattle.reorder_buffer.specs.Watermarks.{reached}
use Rattle.replay_model.specs.Acceptance.{mapping_of, version_in_force}
use Rattle.replay_model.specs.Play.{Replies, Fetch}
use Rattle.replay_model.specs.ReplayState.{ReplayState, nothing_delivered_within, after_end, delivered, ended, fetches_delivered, fetches_due, following}
use Rattle.replay_model.specs.Transcript.{Question, Sections, answer_section, asks, closing_text, matches, question_of}
use Rattle.replay_model.specs.Union.{Meaning, union}

-- where a replay stands: its state, the version of the mapping in force, and how many asks and how many matches were delivered
pub record Checkpoint : Type 0 where
  pub state : ReplayState
  pub version : MappingVersion
  pub asked : ℕ
  pub matched : ℕ

-- before the first delivery
abbrev pub checkpoint_at_start : Option ℕ → Checkpoint
checkpoint_at_start h = record { state = nothing_delivered_within h; version = One; asked = 0; matched = 0 }

-- where the replay of these deliveries stands
abbrev pub checkpoint : Option ℕ → Replies → List Delivery → Checkpoint
checkpoint h replies ds = record { state = following h replies ds; version = version_in_force ds; asked = asks ds; matched = matches ds }

-- the version in force after one more delivery
abbrev pub version_after : MappingVersion → Delivery → MappingVersion
version_after version d = unwrap_or (mapping_of d) version

-- a checkpoint after one more delivery
abbrev pub advanced : Replies → Checkpoint → Delivery → Checkpoint
advanced replies c d = record { state = delivered replies c.state d; version = version_after c.version d; asked = c.asked + asks (d ∷ []); matched = c.matched + matches (d ∷ []) }

-- a checkpoint after more deliveries, one after the other
abbrev pub advanced_by : Replies → Checkpoint → List Delivery → Checkpoint
advanced_by replies c ds = fold (advanced replies) c ds

-- the fetches that more deliveries make from a state on
abbrev pub fetches_from : Replies → ReplayState → List Delivery → List Fetch
fetches_from replies w [] = []
fetches_from replies w (d ∷ ds) = fetches_delivered replies w d ++ fetches_from replies (delivered replies w d) ds

-- those fetches, with the ones that the end of the input makes
abbrev pub fetches_to_end_from : Replies → ReplayState → List Delivery → List Fetch
fetches_to_end_from replies w ds = fetches_from replies w ds ++ fetches_due replies (after_end (fold (delivered replies) w ds))

module _ (meaning : MappingVersion → Meaning Triple) where
  -- the answer to a question that is asked at a checkpoint, if one is
  abbrev pub answer_at : Checkpoint → Option Question → List ℕ
  answer_at c None = []
  answer_at c (Some question) = answer_section c.asked c.matched (union triple_cmp (meaning c.version) c.state.played.records) question

  -- what is printed at more deliveries
  abbrev pub said_from : Replies → Checkpoint → List Delivery → List ℕ
  said_from replies c [] = []
  said_from replies c (d ∷ ds) = answer_at c (question_of d) ++ said_from replies (advanced replies c d) ds

  -- what is printed where the input ends at a checkpoint
  abbrev pub closing_at : Sections → Replies → Checkpoint → List ℕ
  closing_at sections replies c = closing_text meaning c.version sections (ended replies c.state).played

  -- all that is printed from a checkpoint on
  abbrev pub transcript_from : Sections → Replies → Checkpoint → List Delivery → List ℕ
  transcript_from sections replies c ds = said_from replies c ds ++ closing_at sections replies (advanced_by replies c ds)

-- the replies of two runs: those of the first to events that the mark reached, and those of the second to all others
abbrev pub replies_of_runs : Option ℤ → Replies → Replies → Replies
replies_of_runs mark first second e r = cond (reached mark e.time) (first e r) (second e r)
