use Rattle.std.proofs.Common.{◌≡◌, drop}
use Rattle.rdf_term.specs.declared.tag.TagState.TheVariants.{Start}
use Rattle.rdf_term.specs.TagReader.{is_rest_of_tag}
use Rattle.rdf_term.proofs.tag.is_tag.Given as goal

abbrev pub invariant-loop-byte : goal.invariant-loop-byte
invariant-loop-byte l = is_rest_of_tag l.state (drop l.byte-index l.tag) ≡ is_rest_of_tag Start l.tag
