-- The projects that have a site for each of many languages.
use Rattle.std.specs.Prelude.{ℕ, ◌-◌, List, [], ◌∷◌, codes, drop, take, length, Option, Some, None, if◌then◌else◌}
use Rattle.std.specs.Str.{bytes_eq}
use Rattle.sitelinks.specs.declared.project.Project.{Project}
use Rattle.sitelinks.specs.declared.project.Project.TheVariants.{Wikibooks, Wikinews, Wikiquote, Wikisource, Wikiversity, Wikivoyage, Wiktionary, Wikipedia}

-- the group of a project's sites
unfoldable pub project_group : Project → List ℕ
project_group Wikibooks = codes "wikibooks"
project_group Wikinews = codes "wikinews"
project_group Wikiquote = codes "wikiquote"
project_group Wikisource = codes "wikisource"
project_group Wikiversity = codes "wikiversity"
project_group Wikivoyage = codes "wikivoyage"
project_group Wiktionary = codes "wiktionary"
project_group Wikipedia = codes "wikipedia"

-- what the ids of a project's sites end with
unfoldable pub project_suffix : Project → List ℕ
project_suffix Wikibooks = codes "wikibooks"
project_suffix Wikinews = codes "wikinews"
project_suffix Wikiquote = codes "wikiquote"
project_suffix Wikisource = codes "wikisource"
project_suffix Wikiversity = codes "wikiversity"
project_suffix Wikivoyage = codes "wikivoyage"
project_suffix Wiktionary = codes "wiktionary"
project_suffix Wikipedia = codes "wiki"

-- the text in front of a suffix, where it has that suffix
abbrev pub without_suffix : List ℕ → List ℕ → Option (List ℕ)
without_suffix suffix text =
    if bytes_eq (drop (length text - length suffix) text) suffix then Some (take (length text - length suffix) text) else None

-- the code and the project, or else what another search finds
abbrev pub coded_or : Option (List ℕ × Project) → Project → Option (List ℕ) → Option (List ℕ × Project)
coded_or other project None = other
coded_or other project (Some code) = Some (code, project)

-- the code in front of the suffix of the first of the projects whose suffix the id has
abbrev pub first_coded : List Project → List ℕ → Option (List ℕ × Project)
first_coded [] id = None
first_coded (project ∷ more) id = coded_or (first_coded more id) project (without_suffix (project_suffix project) id)

-- all projects
abbrev pub projects : List Project
projects = Wikibooks ∷ Wikinews ∷ Wikiquote ∷ Wikisource ∷ Wikiversity ∷ Wikivoyage ∷ Wiktionary ∷ Wikipedia ∷ []

-- a site's id, taken apart into a code and a project
abbrev pub coded : List ℕ → Option (List ℕ × Project)
coded id = first_coded projects id
