-- The predicates of the dump that are no property of Wikidata, and triples by them.
use Rattle.std.specs.Prelude.{ℕ, List, codes}
use Rattle.rdf_term.specs.declared.term.Term.{Term}
use Rattle.rdf_term.specs.declared.term.Term.TheVariants.{Iri}
use Rattle.rdf_term.specs.declared.triple.Triple.{Triple}
use Rattle.rdf_term.specs.Triple.{triple}
use Rattle.rdf_vocabulary.specs.declared.predicate.Predicate.{Predicate}
use Rattle.rdf_vocabulary.specs.declared.predicate.Predicate.TheVariants.{RdfType, Label, PrefLabel, AltLabel, Name, Description, About, SoftwareVersion, Version, DateModified, InLanguage, IsPartOf}
use Rattle.rdf_vocabulary.specs.declared.predicate.Predicate.TheVariants.{License, SameAs, WasDerivedFrom, Rank, Statements, Identifiers, Sitelinks, Badge, WikiGroup, PropertyType, DirectClaim, Claim}
use Rattle.rdf_vocabulary.specs.declared.predicate.Predicate.TheVariants.{StatementProperty, StatementValue, Qualifier, QualifierValue, Reference, ReferenceValue, Novalue, TimeValue, TimePrecision}
use Rattle.rdf_vocabulary.specs.declared.predicate.Predicate.TheVariants.{TimeTimezone, TimeCalendarModel, QuantityAmount, QuantityUnit, QuantityUpperBound, QuantityLowerBound, GeoLatitude}
use Rattle.rdf_vocabulary.specs.declared.predicate.Predicate.TheVariants.{GeoLongitude, GeoPrecision, GeoGlobe, Language, LexicalCategory, Lemma, LexicalForm, Representation, GrammaticalFeature, Sense, Definition}

-- the text of a predicate's IRI
unfoldable pub predicate_text : Predicate → List ℕ
predicate_text RdfType = codes "http://www.w3.org/1999/02/22-rdf-syntax-ns#type"
predicate_text Label = codes "http://www.w3.org/2000/01/rdf-schema#label"
predicate_text PrefLabel = codes "http://www.w3.org/2004/02/skos/core#prefLabel"
predicate_text AltLabel = codes "http://www.w3.org/2004/02/skos/core#altLabel"
predicate_text Name = codes "http://schema.org/name"
predicate_text Description = codes "http://schema.org/description"
predicate_text About = codes "http://schema.org/about"
predicate_text SoftwareVersion = codes "http://schema.org/softwareVersion"
predicate_text Version = codes "http://schema.org/version"
predicate_text DateModified = codes "http://schema.org/dateModified"
predicate_text InLanguage = codes "http://schema.org/inLanguage"
predicate_text IsPartOf = codes "http://schema.org/isPartOf"
predicate_text License = codes "http://creativecommons.org/ns#license"
predicate_text SameAs = codes "http://www.w3.org/2002/07/owl#sameAs"
predicate_text WasDerivedFrom = codes "http://www.w3.org/ns/prov#wasDerivedFrom"
predicate_text Rank = codes "http://wikiba.se/ontology#rank"
predicate_text Statements = codes "http://wikiba.se/ontology#statements"
predicate_text Identifiers = codes "http://wikiba.se/ontology#identifiers"
predicate_text Sitelinks = codes "http://wikiba.se/ontology#sitelinks"
predicate_text Badge = codes "http://wikiba.se/ontology#badge"
predicate_text WikiGroup = codes "http://wikiba.se/ontology#wikiGroup"
predicate_text PropertyType = codes "http://wikiba.se/ontology#propertyType"
predicate_text DirectClaim = codes "http://wikiba.se/ontology#directClaim"
predicate_text Claim = codes "http://wikiba.se/ontology#claim"
predicate_text StatementProperty = codes "http://wikiba.se/ontology#statementProperty"
predicate_text StatementValue = codes "http://wikiba.se/ontology#statementValue"
predicate_text Qualifier = codes "http://wikiba.se/ontology#qualifier"
predicate_text QualifierValue = codes "http://wikiba.se/ontology#qualifierValue"
predicate_text Reference = codes "http://wikiba.se/ontology#reference"
predicate_text ReferenceValue = codes "http://wikiba.se/ontology#referenceValue"
predicate_text Novalue = codes "http://wikiba.se/ontology#novalue"
predicate_text TimeValue = codes "http://wikiba.se/ontology#timeValue"
predicate_text TimePrecision = codes "http://wikiba.se/ontology#timePrecision"
predicate_text TimeTimezone = codes "http://wikiba.se/ontology#timeTimezone"
predicate_text TimeCalendarModel = codes "http://wikiba.se/ontology#timeCalendarModel"
predicate_text QuantityAmount = codes "http://wikiba.se/ontology#quantityAmount"
predicate_text QuantityUnit = codes "http://wikiba.se/ontology#quantityUnit"
predicate_text QuantityUpperBound = codes "http://wikiba.se/ontology#quantityUpperBound"
predicate_text QuantityLowerBound = codes "http://wikiba.se/ontology#quantityLowerBound"
predicate_text GeoLatitude = codes "http://wikiba.se/ontology#geoLatitude"
predicate_text GeoLongitude = codes "http://wikiba.se/ontology#geoLongitude"
predicate_text GeoPrecision = codes "http://wikiba.se/ontology#geoPrecision"
predicate_text GeoGlobe = codes "http://wikiba.se/ontology#geoGlobe"
predicate_text Language = codes "http://purl.org/dc/terms/language"
predicate_text LexicalCategory = codes "http://wikiba.se/ontology#lexicalCategory"
predicate_text Lemma = codes "http://wikiba.se/ontology#lemma"
predicate_text LexicalForm = codes "http://www.w3.org/ns/lemon/ontolex#lexicalForm"
predicate_text Representation = codes "http://www.w3.org/ns/lemon/ontolex#representation"
predicate_text GrammaticalFeature = codes "http://wikiba.se/ontology#grammaticalFeature"
predicate_text Sense = codes "http://www.w3.org/ns/lemon/ontolex#sense"
predicate_text Definition = codes "http://www.w3.org/2004/02/skos/core#definition"

-- the predicate as a term
abbrev pub predicate_term : Predicate → Term
predicate_term word = Iri (predicate_text word)

-- a triple that says something of a subject
abbrev pub about : Term → Predicate → Term → Triple
about subject predicate object = triple subject (predicate_term predicate) object
