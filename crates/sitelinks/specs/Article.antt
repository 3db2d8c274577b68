-- What a link to an article becomes.
use Rattle.std.specs.Prelude.{ℕ, List, [], ◌∷◌, ◌++◌, codes, map, Option, Some, None}
use Rattle.rdf_term.specs.declared.term.Term.{Term}
use Rattle.rdf_term.specs.declared.term.Term.TheVariants.{Iri, Plain}
use Rattle.rdf_term.specs.declared.triple.Triple.{Triple}
use Rattle.rdf_term.specs.Grammar.{tagged_of}
use Rattle.entity_model.specs.declared.entity.Link.{Link}
use Rattle.entity_model.specs.declared.id.EntityId.{EntityId}
use Rattle.rdf_vocabulary.specs.declared.predicate.Predicate.TheVariants.{About, InLanguage, IsPartOf, Name, Badge, WikiGroup}
use Rattle.rdf_vocabulary.specs.declared.resource.Resource.TheVariants.{Article}
use Rattle.rdf_vocabulary.specs.Predicate.{about}
use Rattle.rdf_vocabulary.specs.Prefix.{entity_term}
use Rattle.rdf_vocabulary.specs.Resource.{class_triple}
use Rattle.rdf_vocabulary.specs.Unreserved.{escaped_name}
use Rattle.sitelinks.specs.declared.sites.Site.{Site}
use Rattle.sitelinks.specs.Replaced.{replaced}
use Rattle.sitelinks.specs.Site.{site_of}

-- the IRI of the article with this title: its spaces are `_`, and what is reserved in a path is percent-encoded
abbrev pub article_iri : Site → List ℕ → List ℕ
article_iri site title = site.base ++ codes "wiki/" ++ escaped_name (replaced 32 95 title)

-- what the article is, and where
abbrev pub article_head_triples : Term → EntityId → Site → List Triple
article_head_triples article entity site =
    class_triple article Article
    ∷ about article About (entity_term entity)
    ∷ about article InLanguage (Plain site.language)
    ∷ about article IsPartOf (Iri site.base) ∷ []

-- a badge of the article
abbrev pub badge_triple : Term → EntityId → Triple
badge_triple article badge = about article Badge (entity_term badge)

-- the group of the site
abbrev pub group_triple : Site → Triple
group_triple site = about (Iri site.base) WikiGroup (Plain site.group)

-- the triples of an article of a site
abbrev pub site_article_triples : Term → EntityId → Link → Site → List Triple
site_article_triples article entity link site =
    article_head_triples article entity site
    ++ about article Name (tagged_of link.title site.language) ∷ []
    ++ map (badge_triple article) link.badges
    ++ group_triple site ∷ []

abbrev pub site_triples : EntityId → Link → Site → List Triple
site_triples entity link site = site_article_triples (Iri (article_iri site link.title)) entity link site

-- the triples of a link: none where no rule names the site
abbrev pub found_triples : EntityId → Link → Option Site → List Triple
found_triples entity link None = []
found_triples entity link (Some site) = site_triples entity link site

abbrev pub article_triples : EntityId → Link → List Triple
article_triples entity link = found_triples entity link (site_of link.site)
