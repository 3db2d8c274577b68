-- No line of an entry is empty.
use Rattle.std.proofs.Common.{◌≡◌, ◌∙◌, ap, ℕ, ◌<◌, nat_lt, List, ◌++◌, length, flat_map, codes, arith, length-append}
use Rattle.entity_state.specs.{declared.entry.Entry.Entry, Entry.entity_of}
use Rattle.replay_model.specs.{Entries.is_open_in, Records.Records, Transcript.entry_word, Transcript.entry_words, Transcript.open_word, Transcript.side_line}
use Rattle.entity_model.specs.EntityId.{id_text}
use Rattle.text_output.proofs.Parts.{some_texts}
use Rattle.transcript.specs.Sections.{entry_text}

some_line : (word stands id words : List ℕ) → 0 < length (side_line word stands id words)
unfolding side_line
some_line word stands id words = omega (arith, length-append (codes "# side ") (word ++ codes " " ++ stands ++ codes " " ++ id ++ codes " " ++ words ++ codes "\n"))

some_text : (records : Records) (entry : Entry) → 0 < length (entry_text records entry)
some_text records entry = some_line (entry_word entry) (open_word (is_open_in records entry)) (id_text (entity_of entry)) (entry_words entry)

-- whether there is an entry says whether their lines have a byte, where so many entries are counted
pub some_counted : (records : Records) (side : List Entry) (count : ℕ) → count ≡ length side → nat_lt 0 count ≡ nat_lt 0 (length (flat_map (entry_text records) side))
some_counted records side count is = ap (nat_lt 0) is ∙ some_texts (entry_text records) (some_text records) side
