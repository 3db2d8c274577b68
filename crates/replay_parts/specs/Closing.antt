-- What is printed at the end of what is held.
use Rattle.std.specs.Prelude.{ℕ, cond, List, [], ◌++◌}
use Rattle.rdf_term.specs.declared.triple.Triple.{Triple}
use Rattle.replay_model.specs.Play.{Played}
use Rattle.replay_model.specs.Transcript.{Sections, export_section, side_section, state_section}

-- the sections that are asked for, one after the other, where these are the triples of all that is held
abbrev pub closing_of : List Triple → Sections → Played → List ℕ
closing_of triples sections p =
    cond sections.export (export_section triples) []
    ++ cond sections.state (state_section p.records) []
    ++ cond sections.side (side_section p.records p.side) []
