-- The text of a point on a globe.
use Rattle.std.specs.Prelude.{ℕ, List, [], ◌++◌, codes, if◌then◌else◌}
use Rattle.std.specs.Str.{bytes_eq}
use Rattle.rdf_term.specs.Grammar.{percent_encoded}

-- the Earth, as the globe of a point
unfoldable pub earth : List ℕ
earth = codes "http://www.wikidata.org/entity/Q2"

-- what stands in front of a point: the globe's IRI in angle brackets and a space, but nothing for the Earth
abbrev pub globe_text : List ℕ → List ℕ
globe_text globe = if bytes_eq globe earth then [] else codes "<" ++ percent_encoded globe ++ codes "> "

-- the text of a point: the globe, where it is not the Earth, then the longitude and the latitude
abbrev pub point_text : List ℕ → List ℕ → List ℕ → List ℕ
point_text latitude longitude globe =
    globe_text globe ++ codes "Point(" ++ longitude ++ codes " " ++ latitude ++ codes ")"
