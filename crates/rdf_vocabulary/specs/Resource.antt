-- The classes, ranks and the licence of the dump.
use Rattle.std.specs.Prelude.{ℕ, List, codes}
use Rattle.rdf_term.specs.declared.term.Term.{Term}
use Rattle.rdf_term.specs.declared.term.Term.TheVariants.{Iri}
use Rattle.rdf_term.specs.declared.triple.Triple.{Triple}
use Rattle.rdf_vocabulary.specs.declared.predicate.Predicate.TheVariants.{RdfType}
use Rattle.rdf_vocabulary.specs.declared.resource.Resource.{Resource}
use Rattle.rdf_vocabulary.specs.declared.resource.Resource.TheVariants.{Item, Property, Statement, Reference, BestRank, PreferredRank, NormalRank, DeprecatedRank, TimeValue, QuantityValue}
use Rattle.rdf_vocabulary.specs.declared.resource.Resource.TheVariants.{GlobecoordinateValue, Dataset, Article, PublicDomain, LexicalEntry, Lexeme, Form, WikibaseForm, LexicalSense, WikibaseSense}
use Rattle.rdf_vocabulary.specs.Predicate.{about}

-- the text of a resource's IRI
unfoldable pub resource_text : Resource → List ℕ
resource_text Item = codes "http://wikiba.se/ontology#Item"
resource_text Property = codes "http://wikiba.se/ontology#Property"
resource_text Statement = codes "http://wikiba.se/ontology#Statement"
resource_text Reference = codes "http://wikiba.se/ontology#Reference"
resource_text BestRank = codes "http://wikiba.se/ontology#BestRank"
resource_text PreferredRank = codes "http://wikiba.se/ontology#PreferredRank"
resource_text NormalRank = codes "http://wikiba.se/ontology#NormalRank"
resource_text DeprecatedRank = codes "http://wikiba.se/ontology#DeprecatedRank"
resource_text TimeValue = codes "http://wikiba.se/ontology#TimeValue"
resource_text QuantityValue = codes "http://wikiba.se/ontology#QuantityValue"
resource_text GlobecoordinateValue = codes "http://wikiba.se/ontology#GlobecoordinateValue"
resource_text Dataset = codes "http://schema.org/Dataset"
resource_text Article = codes "http://schema.org/Article"
resource_text PublicDomain = codes "http://creativecommons.org/publicdomain/zero/1.0/"
resource_text LexicalEntry = codes "http://www.w3.org/ns/lemon/ontolex#LexicalEntry"
resource_text Lexeme = codes "http://wikiba.se/ontology#Lexeme"
resource_text Form = codes "http://www.w3.org/ns/lemon/ontolex#Form"
resource_text WikibaseForm = codes "http://wikiba.se/ontology#Form"
resource_text LexicalSense = codes "http://www.w3.org/ns/lemon/ontolex#LexicalSense"
resource_text WikibaseSense = codes "http://wikiba.se/ontology#Sense"

-- the resource as a term
abbrev pub resource_term : Resource → Term
resource_term word = Iri (resource_text word)

-- the class of a node
abbrev pub class_triple : Term → Resource → Triple
class_triple node class = about node RdfType (resource_term class)
