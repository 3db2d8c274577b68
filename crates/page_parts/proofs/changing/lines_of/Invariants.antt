-- The lines so far.
use Rattle.std.proofs.Common.{◌≡◌, take, flat_map}
use Rattle.std.specs.Prelude.{map}
use Rattle.rdf_term.specs.Text.{triple_text}
use Rattle.page_parts.specs.Row.{row_triple}
use Rattle.page_parts.proofs.changing.lines_of.Given as goal

abbrev pub invariant-loop-row : goal.invariant-loop-row
invariant-loop-row l = l.text.items ≡ flat_map triple_text (map row_triple (take l.row-index l.rows))
