-- A text that isn't empty is a word where each byte passes.
use Rattle.std.proofs.Common.{sym, ◌∙◌}
use Rattle.page_rdf.specs.Property.{is_datatype_char}
use Rattle.rdf_term.proofs.Words.{is_word_filled}
use Rattle.page_rdf.proofs.property.has_type.Goals as goal

pub returns-then-not-is_empty : goal.returns-then-not-is_empty
returns-then-not-is_empty c = c.are_datatype_chars.ensures ∙ sym (is_word_filled is_datatype_char c.args.datatype.now cc)
