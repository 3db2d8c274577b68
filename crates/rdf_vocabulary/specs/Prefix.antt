-- Namespaces of IRIs, and the IRIs of names and entities in them.
use Rattle.std.specs.Prelude.{ℕ, List, ◌++◌, codes}
use Rattle.rdf_term.specs.declared.term.Term.{Term}
use Rattle.rdf_term.specs.declared.term.Term.TheVariants.{Iri}
use Rattle.entity_model.specs.declared.id.EntityId.{EntityId}
use Rattle.entity_model.specs.EntityId.{id_text}
use Rattle.rdf_vocabulary.specs.declared.prefix.Prefix.{Prefix}
use Rattle.rdf_vocabulary.specs.declared.prefix.Prefix.TheVariants.{Wd, Wds, Wdv, Wdref, Wdt, P, Ps, Psv, Pq, Pqv, Pr, Prv, Wdno, Data, Genid, Wikibase, FilePath}

-- the text that the IRIs of a namespace begin with
unfoldable pub prefix_text : Prefix → List ℕ
prefix_text Wd = codes "http://www.wikidata.org/entity/"
prefix_text Wds = codes "http://www.wikidata.org/entity/statement/"
prefix_text Wdv = codes "http://www.wikidata.org/value/"
prefix_text Wdref = codes "http://www.wikidata.org/reference/"
prefix_text Wdt = codes "http://www.wikidata.org/prop/direct/"
prefix_text P = codes "http://www.wikidata.org/prop/"
prefix_text Ps = codes "http://www.wikidata.org/prop/statement/"
prefix_text Psv = codes "http://www.wikidata.org/prop/statement/value/"
prefix_text Pq = codes "http://www.wikidata.org/prop/qualifier/"
prefix_text Pqv = codes "http://www.wikidata.org/prop/qualifier/value/"
prefix_text Pr = codes "http://www.wikidata.org/prop/reference/"
prefix_text Prv = codes "http://www.wikidata.org/prop/reference/value/"
prefix_text Wdno = codes "http://www.wikidata.org/prop/novalue/"
prefix_text Data = codes "https://www.wikidata.org/wiki/Special:EntityData/"
prefix_text Genid = codes "http://www.wikidata.org/.well-known/genid/"
prefix_text Wikibase = codes "http://wikiba.se/ontology#"
prefix_text FilePath = codes "http://commons.wikimedia.org/wiki/Special:FilePath/"

-- the IRI of a name in a namespace
abbrev pub prefixed : Prefix → List ℕ → Term
prefixed prefix name = Iri (prefix_text prefix ++ name)

-- the IRI of an entity's id in a namespace
abbrev pub id_term : Prefix → EntityId → Term
id_term prefix id = prefixed prefix (id_text id)

-- the IRI of an entity
abbrev pub entity_term : EntityId → Term
entity_term id = id_term Wd id
