-- The routes that a text is, computed; the law that ties them to the text of routes is beside their reader.
use Rattle.std.specs.Prelude.{ℕ, Bool, true, false, cond, ◌==◌, nat_le, List, [], ◌∷◌, length, Option, None, Some}
use Rattle.entity_model.specs.declared.id.EntityId.{EntityId}
use Rattle.entity_model.specs.declared.id.IdKind.{IdKind}
use Rattle.entity_model.specs.declared.id.IdKind.TheVariants.{P, Q, L}
use Rattle.entity_model.specs.IdOf.{id_of}
use Rattle.graph_routes.specs.declared.routes.Route.{Route}
use Rattle.graph_routes.specs.Routes.{colon, comma, have_own_names, is_name, semicolon}

-- a text with one more byte in front, which goes to its first piece
abbrev pub in_first : ℕ → List (List ℕ) → List (List ℕ)
in_first byte [] = (byte ∷ []) ∷ []
in_first byte (piece ∷ pieces) = (byte ∷ piece) ∷ pieces

-- what stands before, between and after the bytes of a text that are the separator
abbrev pub pieces : ℕ → List ℕ → List (List ℕ)
pieces separator [] = [] ∷ []
pieces separator (byte ∷ bytes) = cond (byte == separator) ([] ∷ pieces separator bytes) (in_first byte (pieces separator bytes))

-- what is read of one, in front of what is read of others
abbrev pub with_first : {A : Type 0} → Option A → Option (List A) → Option (List A)
with_first None others = None
with_first (Some x) None = None
with_first (Some x) (Some xs) = Some (x ∷ xs)

-- what is read of each, where each can be read
abbrev pub read_each : {A B : Type 0} → (A → Option B) → List A → Option (List B)
read_each read [] = Some []
read_each read (x ∷ xs) = with_first (read x) (read_each read xs)

-- whether an id is an item's
abbrev pub is_q : IdKind → Bool
is_q P = false
is_q Q = true
is_q L = false

abbrev pub if_item : Option EntityId → Option EntityId
if_item None = None
if_item (Some id) = cond (is_q id.kind) (Some id) None

-- the item whose id a text is
abbrev pub item_of : List ℕ → Option EntityId
item_of text = if_item (id_of text)

-- the classes whose text this is
abbrev pub classes_of : List ℕ → Option (List EntityId)
classes_of text = cond (nat_le (length (pieces comma text)) 64) (read_each item_of (pieces comma text)) None

-- a route with this name
abbrev pub route_named : List ℕ → Option (List EntityId) → Option Route
route_named name None = None
route_named name (Some classes) = cond (is_name name) (Some (record { name = name; classes = classes })) None

-- the route of a name and classes, where there are these two parts
abbrev pub route_of_parts : List (List ℕ) → Option Route
route_of_parts [] = None
route_of_parts (name ∷ []) = None
route_of_parts (name ∷ classes ∷ []) = route_named name (classes_of classes)
route_of_parts (name ∷ classes ∷ more ∷ others) = None

-- the route whose text this is
abbrev pub route_in : List ℕ → Option Route
route_in text = route_of_parts (pieces colon text)

-- routes with names of their own
abbrev pub if_own_names : Option (List Route) → Option (List Route)
if_own_names None = None
if_own_names (Some routes) = cond (have_own_names routes) (Some routes) None

-- the routes whose text this is
abbrev pub routes_in : List ℕ → Option (List Route)
routes_in text = cond (nat_le (length (pieces semicolon text)) 16) (if_own_names (read_each route_in (pieces semicolon text))) None
