-- Which site an id names, rule by rule.
use Rattle.std.specs.Prelude.{◌≡◌, ◌↔◌, ℕ, true, List, ◌++◌, Option, Some, None}
use Rattle.sitelinks.specs.declared.project.Project.{Project}
use Rattle.sitelinks.specs.declared.sites.Site.{Site}
use Rattle.sitelinks.specs.declared.special.SpecialSite.{SpecialSite}
use Rattle.sitelinks.specs.Language.{is_language}
use Rattle.sitelinks.specs.Project.{project_suffix}
use Rattle.sitelinks.specs.Site.{language_of, site_in, special_site}
use Rattle.sitelinks.specs.Special.{special_of}

-- the id is that of a special site; or it is of none, and a code of a language with a project's suffix
pub data NamesSite (id : List ℕ) (site : Site) : Type 0 where
  special : (row : SpecialSite) → special_of id ≡ Some row → site ≡ special_site row → NamesSite id site
  coded : (code : List ℕ) (project : Project) → special_of id ≡ None → id ≡ code ++ project_suffix project
      → is_language (language_of code) ≡ true → site ≡ site_in (language_of code) project → NamesSite id site

-- what was found is the site that the id names, and nothing where it names none
abbrev pub IsNamed : List ℕ → Option Site → Type 0
IsNamed id found = (site : Site) → (found ≡ Some site) ↔ NamesSite id site
