-- The parts so far, capitalized and joined.
use Rattle.std.proofs.Common.{◌≡◌, ◌++◌, take, string_bytes}
use Rattle.std.specs.List.{flat_map}
use Rattle.page_rdf.specs.Property.{capitalized}
use Rattle.page_rdf.proofs.property.push_all_capitalized.Given as goal

abbrev pub invariant-loop-part : goal.invariant-loop-part
invariant-loop-part l = string_bytes l.name ≡ string_bytes l.fn.name ++ flat_map (λ part. capitalized part.now) (take l.part-index l.parts)
