-- The routes of entities to graphs, and their text.
use Rattle.std.specs.Prelude.{◌≡◌, ◌≤◌, ℕ, Bool, true, not, ◌&&◌, nat_le, List, [], ◌∷◌, ◌++◌, length, Option, None, Some, slice_get, codes}
use Rattle.std.specs.List.{AllByRecursion, join_by, list_all, list_any}
use Rattle.std.specs.Str.{bytes_eq}
use Rattle.entity_model.specs.declared.id.EntityId.{EntityId}
use Rattle.entity_model.specs.declared.id.IdKind.TheVariants.{Q}
use Rattle.entity_model.specs.EntityId.{IsId, id_text}
use Rattle.graph_routes.specs.declared.routes.Route.{Route}

-- the name of the last graph
abbrev pub main_name : List ℕ
main_name = codes "main"

-- a letter from a to z
abbrev pub is_letter : ℕ → Bool
is_letter c = nat_le 97 c && nat_le c 122

-- 1 to 16 letters, and not the name of the last graph
abbrev pub is_name : List ℕ → Bool
is_name text = (nat_le 1 (length text) && nat_le (length text) 16) && (list_all is_letter text && not (bytes_eq text main_name))

-- the id of an item
abbrev pub IsItem : EntityId → Type 0
IsItem id = IsId id × (id.kind ≡ Q)

-- 1 to 64 items
pub record AreClasses (classes : List EntityId) : Type 0 where
  pub some : 1 ≤ length classes
  pub few : length classes ≤ 64
  pub items : AllByRecursion IsItem classes

-- what stands between two classes, between a name and its classes, and between two routes
abbrev pub comma : ℕ
comma = 44

abbrev pub colon : ℕ
colon = 58

abbrev pub semicolon : ℕ
semicolon = 59

-- the text of a route's classes: their ids, with a comma between each two
abbrev pub classes_text : List EntityId → List ℕ
classes_text classes = join_by id_text (comma ∷ []) classes

-- a name, and classes
pub record IsRoute (route : Route) : Type 0 where
  pub name : is_name route.name ≡ true
  pub classes : AreClasses route.classes

-- the text of a route: its name, a colon, and its classes
abbrev pub route_text : Route → List ℕ
route_text route = route.name ++ colon ∷ classes_text route.classes

-- whether each route has a name that none after it has
abbrev pub have_own_names : List Route → Bool
have_own_names [] = true
have_own_names (route ∷ routes) = not (list_any (λ other. bytes_eq route.name other.name) routes) && have_own_names routes

-- 1 to 16 routes, no two of them with the same name
pub record AreRoutes (routes : List Route) : Type 0 where
  pub some : 1 ≤ length routes
  pub few : length routes ≤ 16
  pub each : AllByRecursion IsRoute routes
  pub names : have_own_names routes ≡ true

-- the text of routes, with a semicolon between each two
abbrev pub routes_text : List Route → List ℕ
routes_text routes = join_by route_text (semicolon ∷ []) routes

-- the text is that of these routes
pub record AreRoutesIn (text : List ℕ) (routes : List Route) : Type 0 where
  pub routes_are : AreRoutes routes
  pub text_is : routes_text routes ≡ text

-- the name of a graph: that of its route, and `main` for the last, which has none
abbrev pub name_of : Option Route → List ℕ
name_of None = main_name
name_of (Some route) = route.name

abbrev pub graph_name : List Route → ℕ → List ℕ
graph_name routes graph = name_of (slice_get routes graph)
