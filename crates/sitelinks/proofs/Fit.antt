-- The triples of a small link have fit and short terms.
use Rattle.std.proofs.Common.{◌≡◌, ℕ, ◌+◌, ◌≤◌, Bool, true, false, cond, List, [], ◌∷◌, ◌++◌, ◌-◌, length, map, drop, take, Option, Some, None, IfSome, refl, arith, lit≤}
use Rattle.std.proofs.lemmas.List.{length-append, length-take, length-map}
use Rattle.std.specs.Prelude.{codes}
use Rattle.std.specs.List.{AllByRecursion}
use Rattle.std.specs.Str.{bytes_eq}
use Rattle.rdf_term.specs.declared.term.Term.{Term}
use Rattle.rdf_term.specs.declared.term.Term.TheVariants.{Iri, Plain}
use Rattle.rdf_term.specs.Fit.{IsFitAndShort, HasFitAndShortTerms}
use Rattle.rdf_term.specs.Grammar.{is_iri, tagged_of}
use Rattle.rdf_term.proofs.FitTerms.{is_iri-append}
use Rattle.entity_model.specs.declared.entity.Link.{Link}
use Rattle.entity_model.specs.declared.id.EntityId.{EntityId}
use Rattle.entity_model.specs.Document.{IsSmallLink}
use Rattle.rdf_vocabulary.specs.declared.predicate.Predicate.TheVariants as Predicates
use Rattle.rdf_vocabulary.specs.declared.prefix.Prefix.TheVariants.{Wd}
use Rattle.rdf_vocabulary.specs.declared.resource.Resource.TheVariants.{Article}
use Rattle.rdf_vocabulary.specs.Predicate.{about}
use Rattle.rdf_vocabulary.specs.Prefix.{entity_term}
use Rattle.rdf_vocabulary.specs.Unreserved.{escaped_name}
use Rattle.rdf_vocabulary.proofs.Fit.{about_fit, class_fit, join, plain_fit, tagged_fit}
use Rattle.rdf_vocabulary.proofs.Ids.{id_term_fit}
use Rattle.rdf_vocabulary.proofs.NamesFit.{escaped_name_iri, escaped_name_short}
use Rattle.sitelinks.specs.declared.project.Project.{Project}
use Rattle.sitelinks.specs.declared.project.Project.TheVariants as Projects
use Rattle.sitelinks.specs.declared.sites.Site.{Site}
use Rattle.sitelinks.specs.declared.special.SpecialSite.{SpecialSite}
use Rattle.sitelinks.specs.declared.special.SpecialSite.TheVariants as Specials
use Rattle.sitelinks.specs.Article.{article_iri, article_triples, badge_triple, found_triples, group_triple, article_head_triples, site_article_triples}
use Rattle.sitelinks.specs.Language.{is_language}
use Rattle.sitelinks.specs.Project.{coded, coded_or, first_coded, project_group, project_suffix, projects}
use Rattle.sitelinks.specs.Replaced.{replaced, replaced_byte}
use Rattle.sitelinks.specs.Site.{coded_site, english, language_of, site_in, site_of, special_or, special_site}
use Rattle.sitelinks.specs.Special.{special_base, special_group, special_of}
use Rattle.sitelinks.proofs.Languages.{language_iri}

-- a site's texts: the base may stand in an IRI, and none is long
record IsSmallSite (n : ℕ) (site : Site) : Type 0 where
  iri : is_iri site.base ≡ true
  base : length site.base ≤ n + 100
  language : length site.language ≤ n + 100
  group : length site.group ≤ n + 100

special_small : (n : ℕ) (special : SpecialSite) → IsSmallSite n (special_site special)
unfolding special_base special_group english
special_small n Specials.Commons = record { iri = refl; base = omega arith; language = omega arith; group = omega arith }
special_small n Specials.Meta = record { iri = refl; base = omega arith; language = omega arith; group = omega arith }
special_small n Specials.Species = record { iri = refl; base = omega arith; language = omega arith; group = omega arith }
special_small n Specials.Outreach = record { iri = refl; base = omega arith; language = omega arith; group = omega arith }
special_small n Specials.MediaWiki = record { iri = refl; base = omega arith; language = omega arith; group = omega arith }
special_small n Specials.Wikidata = record { iri = refl; base = omega arith; language = omega arith; group = omega arith }
special_small n Specials.Sources = record { iri = refl; base = omega arith; language = omega arith; group = omega arith }
special_small n Specials.Simple = record { iri = refl; base = omega arith; language = omega arith; group = omega arith }

group_small : (project : Project) → (is_iri (project_group project) ≡ true) × (length (project_group project) ≤ 20)
unfolding project_group
group_small Projects.Wikibooks = (refl, lit≤ tt)
group_small Projects.Wikinews = (refl, lit≤ tt)
group_small Projects.Wikiquote = (refl, lit≤ tt)
group_small Projects.Wikisource = (refl, lit≤ tt)
group_small Projects.Wikiversity = (refl, lit≤ tt)
group_small Projects.Wikivoyage = (refl, lit≤ tt)
group_small Projects.Wiktionary = (refl, lit≤ tt)
group_small Projects.Wikipedia = (refl, lit≤ tt)

-- the code of an id is no longer than the id
code_small : (projects : List Project) (id : List ℕ) → IfSome (first_coded projects id) (λ p. length p.0 ≤ length id)
code_small [] id = tt
code_small (project ∷ more) id = by (bytes_eq (drop (length id - length (project_suffix project)) id) (project_suffix project)) (code_small more id)
  where
    by : (b : Bool) → IfSome (first_coded more id) (λ p. length p.0 ≤ length id) → IfSome (coded_or (first_coded more id) project (cond b (Some (take (length id - length (project_suffix project)) id)) None)) (λ p. length p.0 ≤ length id)
    by true h = omega (arith, length-take (length id - length (project_suffix project)) id)
    by false h = h

language_small : (n : ℕ) (language : List ℕ) (project : Project) → is_iri language ≡ true → length language ≤ n → IsSmallSite n (site_in language project)
language_small n language project h short =
    let g = group_small project in
    let a = codes "https://" in
    let b = codes "." in
    let c = codes ".org/" in
    record {
      iri = is_iri-append (a ++ language ++ b ++ project_group project) c (is_iri-append (a ++ language ++ b) (project_group project) (is_iri-append (a ++ language) b (is_iri-append a language refl h) refl) g.0) refl;
      base = omega (
        arith,
        g.1,
        length-append a language,
        length-append (a ++ language) b,
        length-append (a ++ language ++ b) (project_group project),
        length-append (a ++ language ++ b ++ project_group project) c,
      );
      language = omega arith;
      group = omega (arith, g.1);
    }

coded_small : (n : ℕ) (c : Option (List ℕ × Project)) → IfSome c (λ p. length p.0 ≤ n) → IfSome (coded_site c) (IsSmallSite n)
coded_small n None h = tt
coded_small n (Some (code, project)) h = by (is_language (language_of code)) refl
  where
    by : (b : Bool) → is_language (language_of code) ≡ b → IfSome (cond b (Some (site_in (language_of code) project)) None) (IsSmallSite n)
    by true e = language_small n (language_of code) project (language_iri (language_of code) e) (omega (arith, h, length-map code (replaced_byte 95 45)))
    by false e = tt

special_or_small : (n : ℕ) (special : Option SpecialSite) (other : Option Site) → IfSome other (IsSmallSite n) → IfSome (special_or special other) (IsSmallSite n)
special_or_small n None other h = h
special_or_small n (Some special) other h = special_small n special

site_small : (id : List ℕ) → IfSome (site_of id) (IsSmallSite (length id))
site_small id = special_or_small (length id) (special_of id) (coded_site (coded id)) (coded_small (length id) (coded id) (code_small projects id))

iri_fit : (iri : List ℕ) → is_iri iri ≡ true → length iri ≤ 33554000 → IsFitAndShort (Iri iri)
iri_fit iri h short = record { fit = h; short = omega (arith, length-append iri (62 ∷ [])) }

article_fit : (n : ℕ) (site : Site) (title : List ℕ) → IsSmallSite n site → n + length title ≤ 8388608 → IsFitAndShort (Iri (article_iri site title))
article_fit n site title s h =
    let name = replaced 32 95 title in
    let front = site.base ++ codes "wiki/" in
    iri_fit (article_iri site title)
    (is_iri-append front (escaped_name name) (is_iri-append site.base (codes "wiki/") s.iri refl) (escaped_name_iri name))
    (omega (arith, s.base, escaped_name_short name, length-map title (replaced_byte 32 95), length-append site.base (codes "wiki/"), length-append front (escaped_name name)))

badges_fit : (article : Term) (badges : List EntityId) → IsFitAndShort article → AllByRecursion HasFitAndShortTerms (map (badge_triple article) badges)
badges_fit article [] a = tt
badges_fit article (badge ∷ badges) a = (about_fit article Predicates.Badge (entity_term badge) a (id_term_fit Wd badge), badges_fit article badges a)

triples_fit : (article : Term) (entity : EntityId) (link : Link) (site : Site) → IsFitAndShort article → IsSmallSite (length link.site) site → IsSmallLink link → AllByRecursion HasFitAndShortTerms (site_article_triples article entity link site)
triples_fit article entity link site a s h =
    let base = iri_fit site.base s.iri (omega (arith, s.base)) in
    let head : AllByRecursion HasFitAndShortTerms (article_head_triples article entity site) = (
      class_fit article Article a,
      (
        about_fit article Predicates.About (entity_term entity) a (id_term_fit Wd entity),
        (
          about_fit article Predicates.InLanguage (Plain site.language) a (plain_fit site.language (omega (arith, s.language))),
          (about_fit article Predicates.IsPartOf (Iri site.base) a base, tt),
        ),
      ),
    ) in
    let name = about article Predicates.Name (tagged_of link.title site.language) in
    let named : AllByRecursion HasFitAndShortTerms (name ∷ []) =
    (about_fit article Predicates.Name (tagged_of link.title site.language) a (tagged_fit link.title site.language (omega arith) (omega (arith, s.language))), tt) in
    let group : AllByRecursion HasFitAndShortTerms (group_triple site ∷ []) =
    (about_fit (Iri site.base) Predicates.WikiGroup (Plain site.group) base (plain_fit site.group (omega (arith, s.group))), tt) in
    let badges = map (badge_triple article) link.badges in
    let front = article_head_triples article entity site ++ name ∷ [] in
    join (front ++ badges) (group_triple site ∷ [])
    (join front badges (join (article_head_triples article entity site) (name ∷ []) head named) (badges_fit article link.badges a)) group

found_fit : (entity : EntityId) (link : Link) (found : Option Site) → IfSome found (IsSmallSite (length link.site)) → IsSmallLink link → AllByRecursion HasFitAndShortTerms (found_triples entity link found)
found_fit entity link None s h = tt
found_fit entity link (Some site) s h =
    triples_fit (Iri (article_iri site link.title)) entity link site (article_fit (length link.site) site link.title s h) s h

-- the triples of a small link have fit and short terms
pub article_triples_fit : (entity : EntityId) (link : Link) → IsSmallLink link → AllByRecursion HasFitAndShortTerms (article_triples entity link)
article_triples_fit entity link h = found_fit entity link (site_of link.site) (site_small link.site) h
