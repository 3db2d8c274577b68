-- What is printed of the entries, and which sections are asked for.
use Rattle.std.specs.Prelude.{ℕ, List}
use Rattle.entity_state.specs.declared.entry.Entry.{Entry}
use Rattle.replay_model.specs.{Entries.is_open_in, Records.Records}
use Rattle.replay_model.specs.Transcript.{Sections, entry_line}
use Rattle.transcript.specs.declared.sections.Sections.{Sections as Asked}

-- the sections that are asked for
abbrev pub chosen : Asked → Sections
chosen s = record { export = s.export; state = s.state; side = s.side }

-- the line of an entry, which says whether it is open by these records
abbrev pub entry_text : Records → Entry → List ℕ
entry_text records entry = entry_line (is_open_in records entry) entry
