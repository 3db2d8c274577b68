-- The sites that are in no language's group.
use Rattle.std.specs.Prelude.{ℕ, List, codes, Option, Some, None, if◌then◌else◌}
use Rattle.std.specs.Str.{bytes_eq}
use Rattle.sitelinks.specs.declared.special.SpecialSite.{SpecialSite}
use Rattle.sitelinks.specs.declared.special.SpecialSite.TheVariants.{Commons, Meta, Species, Outreach, MediaWiki, Wikidata, Sources, Simple}

-- the site with this id
abbrev pub special_of : List ℕ → Option SpecialSite
special_of id =
    if bytes_eq id (codes "commonswiki") then Some Commons
    else (if bytes_eq id (codes "metawiki") then Some Meta
    else (if bytes_eq id (codes "specieswiki") then Some Species
    else (if bytes_eq id (codes "outreachwiki") then Some Outreach
    else (if bytes_eq id (codes "mediawikiwiki") then Some MediaWiki
    else (if bytes_eq id (codes "wikidatawiki") then Some Wikidata
    else (if bytes_eq id (codes "sourceswiki") then Some Sources
    else (if bytes_eq id (codes "simplewiki") then Some Simple
    else None)))))))

-- what the IRIs of a site begin with
unfoldable pub special_base : SpecialSite → List ℕ
special_base Commons = codes "https://commons.wikimedia.org/"
special_base Meta = codes "https://meta.wikimedia.org/"
special_base Species = codes "https://species.wikimedia.org/"
special_base Outreach = codes "https://outreach.wikimedia.org/"
special_base MediaWiki = codes "https://www.mediawiki.org/"
special_base Wikidata = codes "https://www.wikidata.org/"
special_base Sources = codes "https://wikisource.org/"
special_base Simple = codes "https://simple.wikipedia.org/"

-- the group of sites that it counts to
unfoldable pub special_group : SpecialSite → List ℕ
special_group Commons = codes "commons"
special_group Meta = codes "meta"
special_group Species = codes "species"
special_group Outreach = codes "outreach"
special_group MediaWiki = codes "mediawiki"
special_group Wikidata = codes "wikidata"
special_group Sources = codes "sources"
special_group Simple = codes "wikipedia"
