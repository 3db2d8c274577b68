-- The bytes of a string's content.
use Rattle.std.specs.Prelude.{ℕ, List}
use Rattle.json_reader.specs.declared.string.Content.{Content}
use Rattle.json_reader.specs.declared.string.Content.TheVariants.{Source, Arena}

-- where it is a part of the text, and where it is in the arena
abbrev pub content_bytes : Content → List ℕ
content_bytes (Source text) = text.now
content_bytes (Arena text) = text.now
