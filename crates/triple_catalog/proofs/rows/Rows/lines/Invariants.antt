-- The lines so far.
use Rattle.std.proofs.Common.{◌≡◌, take, flat_map}
use Rattle.rdf_term.specs.Text.{triple_text}
use Rattle.triple_catalog.proofs.rows.Rows.lines.Given as goal

abbrev pub invariant-loop-index : goal.invariant-loop-index
invariant-loop-index l = l.text.items ≡ flat_map triple_text (take l.index l.self)
