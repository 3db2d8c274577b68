-- Sites by their ids.
use Rattle.std.specs.Prelude.{ℕ, List, ◌++◌, codes, Option, Some, None, if◌then◌else◌}
use Rattle.sitelinks.specs.declared.project.Project.{Project}
use Rattle.sitelinks.specs.declared.sites.Site.{Site}
use Rattle.sitelinks.specs.declared.special.SpecialSite.{SpecialSite}
use Rattle.sitelinks.specs.Language.{is_language}
use Rattle.sitelinks.specs.Project.{coded, project_group}
use Rattle.sitelinks.specs.Replaced.{replaced}
use Rattle.sitelinks.specs.Special.{special_base, special_group, special_of}

-- the language of the special sites
unfoldable pub english : List ℕ
english = codes "en"

-- a special site
abbrev pub special_site : SpecialSite → Site
special_site special = record { base = special_base special; language = english; group = special_group special }

-- what the IRIs of a project's site in a language begin with
abbrev pub language_base : List ℕ → Project → List ℕ
language_base language project = codes "https://" ++ language ++ codes "." ++ project_group project ++ codes ".org/"

-- a project's site in a language
abbrev pub site_in : List ℕ → Project → Site
site_in language project = record { base = language_base language project; language = language; group = project_group project }

-- the language of a code, which has `_` for each `-`
abbrev pub language_of : List ℕ → List ℕ
language_of code = replaced 95 45 code

-- a project's site in the language of a code, where that is a language
abbrev pub language_site : List ℕ → Project → Option Site
language_site code project = if is_language (language_of code) then Some (site_in (language_of code) project) else None

-- the site of an id that is taken apart
abbrev pub coded_site : Option (List ℕ × Project) → Option Site
coded_site None = None
coded_site (Some (code, project)) = language_site code project

-- a special site, or else that of an id that is taken apart
abbrev pub special_or : Option SpecialSite → Option Site → Option Site
special_or None other = other
special_or (Some special) other = Some (special_site special)

-- the site with this id
abbrev pub site_of : List ℕ → Option Site
site_of id = special_or (special_of id) (coded_site (coded id))
