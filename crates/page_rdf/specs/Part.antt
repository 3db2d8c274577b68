-- The nodes of forms and senses.
use Rattle.std.specs.Prelude.{ℕ, List}
use Rattle.rdf_term.specs.declared.term.Term.{Term}
use Rattle.rdf_vocabulary.specs.declared.prefix.Prefix.TheVariants.{Wd}
use Rattle.rdf_vocabulary.specs.Prefix.{prefixed}

-- the node of a form or a sense, by its id
abbrev pub part_term : List ℕ → Term
part_term id = prefixed Wd id
