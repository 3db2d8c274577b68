-- How many times each triple of a held page comes, where that is known.
use Rattle.std.specs.Prelude.{ℕ, ⊤, List, [], Option, None, Some, IfSome, option_map, unwrap_or}
use Rattle.rdf_term.specs.declared.triple.Triple.{Triple}
use Rattle.entity_json.specs.Document.{document_of}
use Rattle.entity_model.specs.{declared.id.EntityId.EntityId, declared.mapping.MappingVersion.MappingVersion}
use Rattle.page_rdf.specs.declared.counts.Counts.{Counts}
use Rattle.entity_state.specs.declared.record.Held.{Held}
use Rattle.replay_model.specs.{Records.Bytes, Versions.version_at}
use Rattle.slot_keys.specs.declared.key.Key.{Key}
use Rattle.triple_store.specs.{Updates.AreTimesIfKnown, StoreState.StoreState, StoreState.beside}
use Rattle.holdings.specs.{declared.kept.KeptPage.KeptPage, declared.kept.PageTimes.PageTimes, Keeping.KeptRecords, Keeping.kept_of}
use Rattle.holders.specs.Pieces.{PieceTexts}
use Rattle.fetched_pages.specs.Listed.{IsListed}

-- the bytes are the page of an item or a property that has the counts, and the times are those of its triples, by their keys
pub record IsTimed (version : MappingVersion) (store : StoreState) (x : EntityId) (rev : ℕ) (bytes : Bytes) (keys : List Key) (known : PageTimes) : Type 0 where
  pub triples : List Triple
  pub listed : IsListed version x rev (document_of x bytes) known.counts triples
  pub times_are : AreTimesIfKnown store keys known.times.items triples

-- so it is of what is held, with the text of its piece, if anything is known of it
abbrev pub IsTimedHeld : MappingVersion → StoreState → PieceTexts → EntityId → Option (Held KeptPage) → Type 0
IsTimedHeld version store text x None = ⊤
IsTimedHeld version store text x (Some h) = IfSome h.content.times (IsTimed version store x h.revision (unwrap_or (text h.content.piece) []) h.content.keys.rising.items)

-- of each entity, by the version that its page is mapped by
abbrev pub AreTimed : StoreState → List EntityId → KeptRecords → Type 0
AreTimed store by_two kept = (x : EntityId) → IsTimedHeld (version_at by_two x) store (beside store) x (kept_of kept x).held

-- how many times the triple of each key comes, or nothing where it isn't known
abbrev pub times_known : Option PageTimes → List ℕ
times_known None = []
times_known (Some known) = known.times.items

abbrev pub times_held : Option (Held KeptPage) → List ℕ
times_held None = []
times_held (Some h) = times_known h.content.times

-- the counts that are known of what is held
abbrev pub counts_held : Option (Held KeptPage) → Option Counts
counts_held None = None
counts_held (Some h) = option_map (λ (known : PageTimes). known.counts) h.content.times
