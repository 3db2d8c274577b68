-- What a drill leads to, and what is told of it.
use Rattle.std.specs.Prelude.{ℕ, Bool, None, List, [], ◌∷◌, ◌++◌, count_by, codes, decimal, flat_map, length}
use Rattle.std.specs.FinMap as map
use Rattle.rdf_term.specs.{declared.triple.Triple.Triple, Order.triple_cmp, Text.triple_text}
use Rattle.entity_model.specs.{declared.id.EntityId.EntityId, declared.mapping.MappingVersion.TheVariants.One}
use Rattle.entity_json.specs.Document.{unfit_of}
use Rattle.entity_state.specs.State.{is_kept}
use Rattle.replay_model.specs.{Acceptance.accepted, Acceptance.late, Play.Replies, Records.Records, Records.record_of}
use Rattle.replay_model.specs.{Replies.source_replies, ReplayState.ReplayState, ReplayState.following_to_end, Union.union}
use Rattle.fetched_pages.specs.Meaning.{meaning}
use Rattle.hex.specs.Hex.{encode_lower}
use Rattle.md5.specs.Md5.{md5}
use Rattle.drill_replay.specs.Drill.{contents_of, drill}
use Rattle.drill_replay.specs.declared.summary.Summary.{Summary}

-- the replies to the fetches of a drill: what is there, since none fails
abbrev pub replies_of : ℕ → Replies
replies_of size = source_replies unfit_of (contents_of size) []

-- the state that a drill ends with
abbrev pub drilled : ℕ → ReplayState
drilled size = following_to_end None (replies_of size) (drill size)

-- whether an entity's page is kept
abbrev pub is_kept_in : Records → EntityId → Bool
is_kept_in records x = is_kept (record_of records x).state.mode

-- how many entities' pages are kept
abbrev pub kept_in : Records → ℕ
kept_in records = count_by (is_kept_in records) (map.keys records)

-- the lines of triples, one after the other
abbrev pub triple_lines : List Triple → List ℕ
triple_lines triples = flat_map triple_text triples

-- the triples that a drill ends with, in order, by version One of the mapping
abbrev pub drill_triples : ℕ → List Triple
drill_triples size = union triple_cmp (meaning One) (drilled size).played.records

-- what is told of a drill: its size, its deliveries, how many distinct events were accepted and were late, how many
-- entities' pages are kept and how many triples there are at its end, and the MD5 of their lines
abbrev pub summary_of : ℕ → Summary
summary_of size = record {
  size = size;
  deliveries = length (drill size);
  accepted = length (accepted None (drill size));
  late = length (late None (drill size));
  kept = kept_in (drilled size).played.records;
  triples = length (drill_triples size);
  digest = md5 (triple_lines (drill_triples size));
}

-- the line of a number under a word
abbrev pub number_line : List ℕ → ℕ → List ℕ
number_line word n = codes "# " ++ word ++ codes " " ++ decimal n ++ codes "\n"

-- the line of an MD5, in lower-case hexadecimal digits
abbrev pub digest_line : List ℕ → List ℕ
digest_line digest = codes "# export " ++ encode_lower digest ++ codes "\n"

-- the lines of a summary
abbrev pub summary_lines : Summary → List (List ℕ)
summary_lines s =
    number_line (codes "drill") s.size
    ∷ number_line (codes "deliveries") s.deliveries
    ∷ number_line (codes "accepted") s.accepted
    ∷ number_line (codes "late") s.late
    ∷ number_line (codes "kept") s.kept
    ∷ number_line (codes "triples") s.triples
    ∷ digest_line s.digest
    ∷ []
