-- The triples of a link whose title is UTF-8 have terms of UTF-8.
use Rattle.std.proofs.Common.{◌≡◌, ℕ, ◌<◌, Bool, true, false, cond, List, [], ◌∷◌, ◌++◌, map, Option, Some, None, refl, subst, arith}
use Rattle.std.specs.Prelude.{codes, IfSome, ◌==◌}
use Rattle.std.specs.Char.{is_ascii_lowercase}
use Rattle.std.specs.List.{AllByRecursion, join_with_byte, list_all, slice_split}
use Rattle.std.specs.Str.{IsUtf8, bytes_eq}
use Rattle.std.proofs.lemmas.Bool.{and_parts}
use Rattle.std.proofs.lemmas.Bool.Decides.{nat_tests}
use Rattle.std.proofs.lemmas.List.Splits.{join_with_byte-slice_split}
use Rattle.std.proofs.lemmas.Str.{IsUtf8-append, IsUtf8-nil}
use Rattle.rdf_term.specs.declared.term.Term.{Term}
use Rattle.rdf_term.specs.declared.term.Term.TheVariants.{Iri, Plain}
use Rattle.rdf_term.specs.Grammar.{is_word, tagged_of}
use Rattle.rdf_term.proofs.Utf8Texts.{iri_utf8, plain_utf8}
use Rattle.entity_model.specs.declared.entity.Link.{Link}
use Rattle.entity_model.specs.declared.id.EntityId.{EntityId}
use Rattle.rdf_vocabulary.specs.declared.predicate.Predicate.TheVariants as Predicates
use Rattle.rdf_vocabulary.specs.declared.prefix.Prefix.TheVariants.{Wd}
use Rattle.rdf_vocabulary.specs.declared.resource.Resource.TheVariants.{Article}
use Rattle.rdf_vocabulary.specs.Predicate.{about}
use Rattle.rdf_vocabulary.specs.Unreserved.{escaped_name}
use Rattle.sitelinks.specs.declared.sites.Site.{Site}
use Rattle.sitelinks.specs.Article.{article_head_triples, article_iri, article_triples, badge_triple, found_triples, group_triple, site_article_triples}
use Rattle.sitelinks.specs.Language.{are_language_parts, is_language, is_lowercase_or_digit}
use Rattle.sitelinks.specs.Project.{coded, coded_or, first_coded, project_group, project_suffix, projects, without_suffix}
use Rattle.sitelinks.specs.Replaced.{replaced}
use Rattle.sitelinks.specs.Site.{coded_site, english, language_of, site_in, site_of, special_or}
use Rattle.sitelinks.specs.Special.{special_base, special_group, special_of}
use Rattle.meaning_texts.specs.Documents.{IsUtf8Link}
use Rattle.meaning_texts.specs.Terms.{IsUtf8Term}
use Rattle.meaning_texts.proofs.Ascii.{ascii_utf8, is_low, low_utf8, passing_utf8}
use Rattle.meaning_texts.proofs.Vocabulary.{AreUtf8, about_utf8, class_utf8, escaped_utf8, id_utf8, join, tagged_utf8}

-- ---- languages

module _ (test : ℕ → Bool) (low : (c : ℕ) → test c ≡ true → c < 128) where
  word_utf8 : (text : List ℕ) → is_word test text ≡ true → IsUtf8 text
  word_utf8 [] is = IsUtf8-nil
  word_utf8 (c ∷ cs) is = passing_utf8 test low (c ∷ cs) is

  words_utf8 : (parts : List (List ℕ)) → list_all (is_word test) parts ≡ true → AllByRecursion IsUtf8 parts
  words_utf8 [] are = tt
  words_utf8 (part ∷ parts) are =
      let both = and_parts (is_word test part) (list_all (is_word test) parts) are in (word_utf8 part both.0, words_utf8 parts both.1)

lowercase_low : (c : ℕ) → is_ascii_lowercase c ≡ true → c < 128
lowercase_low c is = grind (arith, nat_tests)

lowercase_or_digit_low : (c : ℕ) → is_lowercase_or_digit c ≡ true → c < 128
lowercase_or_digit_low c is = grind (arith, nat_tests)

parts_utf8 : (parts : List (List ℕ)) → are_language_parts parts ≡ true → AllByRecursion IsUtf8 parts
parts_utf8 [] are = tt
parts_utf8 (first ∷ later) are =
    let both = and_parts (is_word is_ascii_lowercase first) (list_all (is_word is_lowercase_or_digit) later) are in
    (word_utf8 is_ascii_lowercase lowercase_low first both.0, words_utf8 is_lowercase_or_digit lowercase_or_digit_low later both.1)

joined_utf8 : (parts : List (List ℕ)) → AllByRecursion IsUtf8 parts → IsUtf8 (join_with_byte 45 parts)
joined_utf8 [] are = IsUtf8-nil
joined_utf8 (x ∷ []) are = are.0
joined_utf8 (x ∷ y ∷ xs) are = IsUtf8-append x _ are.0 (low_utf8 45 _ (omega arith) (joined_utf8 (y ∷ xs) are.1))

language_utf8 : (text : List ℕ) → is_language text ≡ true → IsUtf8 text
language_utf8 text is =
    subst IsUtf8 (join_with_byte-slice_split 45 text) (joined_utf8 (slice_split (λ c. c == 45) text) (parts_utf8 (slice_split (λ c. c == 45) text) is))

-- ---- sites

record IsUtf8Site (site : Site) : Type 0 where
  base : IsUtf8 site.base
  language : IsUtf8 site.language
  group : IsUtf8 site.group

-- by the cases of a test
when : {A : Type 0} (b : Bool) → (b ≡ true → A) → (b ≡ false → A) → A
when true first second = first refl
when false first second = second refl

special_low : (id : List ℕ) → IfSome (special_of id) (λ s. (list_all is_low (special_base s) ≡ true) × (list_all is_low (special_group s) ≡ true))
unfolding special_base special_group
special_low id =
    when (bytes_eq id (codes "commonswiki")) (λ is. rw is (refl, refl)) (λ other. rw other (
    when (bytes_eq id (codes "metawiki")) (λ is. rw is (refl, refl)) (λ other. rw other (
    when (bytes_eq id (codes "specieswiki")) (λ is. rw is (refl, refl)) (λ other. rw other (
    when (bytes_eq id (codes "outreachwiki")) (λ is. rw is (refl, refl)) (λ other. rw other (
    when (bytes_eq id (codes "mediawikiwiki")) (λ is. rw is (refl, refl)) (λ other. rw other (
    when (bytes_eq id (codes "wikidatawiki")) (λ is. rw is (refl, refl)) (λ other. rw other (
    when (bytes_eq id (codes "sourceswiki")) (λ is. rw is (refl, refl)) (λ other. rw other (
    when (bytes_eq id (codes "simplewiki")) (λ is. rw is (refl, refl)) (λ other. rw other tt)))))))))))))))

projects_low : AllByRecursion (λ p. list_all is_low (project_group p) ≡ true) projects
unfolding project_group
projects_low = (refl, (refl, (refl, (refl, (refl, (refl, (refl, (refl, tt))))))))

coded_low : (ps : _) (id : List ℕ) → AllByRecursion (λ p. list_all is_low (project_group p) ≡ true) ps → IfSome (first_coded ps id) (λ found. list_all is_low (project_group found.1) ≡ true)
coded_low [] id are = tt
coded_low (project ∷ more) id are = by (without_suffix (project_suffix project) id) (coded_low more id are.1)
  where
    by : (code : Option (List ℕ)) → IfSome (first_coded more id) (λ found. list_all is_low (project_group found.1) ≡ true) → IfSome (coded_or (first_coded more id) project code) (λ found. list_all is_low (project_group found.1) ≡ true)
    by None later = later
    by (Some code) later = are.0

language_site_utf8 : (language : List ℕ) (project : _) → IsUtf8 language → list_all is_low (project_group project) ≡ true → IsUtf8Site (site_in language project)
language_site_utf8 language project is low =
    let a = codes "https://" in
    let b = codes "." in
    let c = codes ".org/" in
    let group = ascii_utf8 (project_group project) low in
    record {
      base = IsUtf8-append (a ++ language ++ b ++ project_group project) c
          (IsUtf8-append (a ++ language ++ b) (project_group project) (IsUtf8-append (a ++ language) b (IsUtf8-append a language (ascii_utf8 a refl) is) (ascii_utf8 b refl)) group) (ascii_utf8 c refl);
      language = is;
      group = group;
    }

coded_utf8 : (found : Option (List ℕ × _)) → IfSome found (λ coded. list_all is_low (project_group coded.1) ≡ true) → IfSome (coded_site found) IsUtf8Site
coded_utf8 None low = tt
coded_utf8 (Some (code, project)) low = by (is_language (language_of code)) refl
  where
    by : (b : Bool) → is_language (language_of code) ≡ b → IfSome (cond b (Some (site_in (language_of code) project)) None) IsUtf8Site
    by true is = language_site_utf8 (language_of code) project (language_utf8 (language_of code) is) low
    by false is = tt

special_or_utf8 : (row : _) (other : Option Site) → IfSome row (λ s. (list_all is_low (special_base s) ≡ true) × (list_all is_low (special_group s) ≡ true)) → IfSome other IsUtf8Site → IfSome (special_or row other) IsUtf8Site
unfolding english
special_or_utf8 None other low is = is
special_or_utf8 (Some row) other low is = record { base = ascii_utf8 (special_base row) low.0; language = ascii_utf8 english refl; group = ascii_utf8 (special_group row) low.1 }

-- ---- articles

article_term_utf8 : (site : Site) (title : List ℕ) → IsUtf8Site site → IsUtf8Term (Iri (article_iri site title))
article_term_utf8 site title is =
    let front = site.base ++ codes "wiki/" in
    iri_utf8 (article_iri site title)
    (IsUtf8-append front (escaped_name (replaced 32 95 title)) (IsUtf8-append site.base (codes "wiki/") is.base (ascii_utf8 (codes "wiki/") refl)) (escaped_utf8 (replaced 32 95 title)))

badges_utf8 : (article : Term) (badges : List EntityId) → IsUtf8Term article → AreUtf8 (map (badge_triple article) badges)
badges_utf8 article [] a = tt
badges_utf8 article (badge ∷ badges) a = (about_utf8 article Predicates.Badge _ a (id_utf8 Wd badge), badges_utf8 article badges a)

site_utf8 : (article : Term) (entity : EntityId) (link : Link) (site : Site) → IsUtf8Term article → IsUtf8Site site → IsUtf8Link link → AreUtf8 (site_article_triples article entity link site)
site_utf8 article entity link site a s is =
    let base = iri_utf8 site.base s.base in
    let head = article_head_triples article entity site in
    let name = about article Predicates.Name (tagged_of link.title site.language) ∷ [] in
    let badges = map (badge_triple article) link.badges in
    let head_is : AreUtf8 head = (
      class_utf8 article Article a,
      (about_utf8 article Predicates.About _ a (id_utf8 Wd entity), (about_utf8 article Predicates.InLanguage (Plain site.language) a (plain_utf8 site.language s.language), (about_utf8 article Predicates.IsPartOf (Iri site.base) a base, tt))),
    ) in
    join (head ++ name ++ badges) (group_triple site ∷ [])
    (join (head ++ name) badges (join head name head_is (about_utf8 article Predicates.Name _ a (tagged_utf8 link.title site.language is s.language), tt)) (badges_utf8 article link.badges a))
    (about_utf8 (Iri site.base) Predicates.WikiGroup (Plain site.group) base (plain_utf8 site.group s.group), tt)

found_utf8 : (entity : EntityId) (link : Link) (found : Option Site) → IfSome found IsUtf8Site → IsUtf8Link link → AreUtf8 (found_triples entity link found)
found_utf8 entity link None s is = tt
found_utf8 entity link (Some site) s is = site_utf8 (Iri (article_iri site link.title)) entity link site (article_term_utf8 site link.title s) s is

-- the triples of a link
pub article_utf8 : (entity : EntityId) (link : Link) → IsUtf8Link link → AreUtf8 (article_triples entity link)
article_utf8 entity link is = found_utf8 entity link (site_of link.site) (special_or_utf8 (special_of link.site) (coded_site (coded link.site)) (special_low link.site) (coded_utf8 (coded link.site) (coded_low projects link.site projects_low))) is
