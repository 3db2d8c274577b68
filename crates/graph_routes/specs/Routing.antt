-- Which graph the document of an entity is routed to.
use Rattle.std.specs.Prelude.{ℕ, Bool, cond, List, length, Option, None}
use Rattle.std.specs.List.{flat_map, list_any, position_or_len}
use Rattle.std.specs.Option.{option_to_list}
use Rattle.std.specs.Ordering.{eq_by_cmp}
use Rattle.sorted_sets.specs.Rising.{has}
use Rattle.entity_model.specs.declared.document.Document.{Document}
use Rattle.entity_model.specs.declared.document.Document.TheVariants.{Entity as AnEntity, Redirect, Lexeme as ALexeme}
use Rattle.entity_model.specs.declared.id.EntityId.{EntityId}
use Rattle.entity_model.specs.declared.id.IdKind.TheVariants.{P}
use Rattle.entity_model.specs.declared.snak.Content.{Content}
use Rattle.entity_model.specs.declared.snak.Content.TheVariants.{Value as AValue, NoValue, SomeValue}
use Rattle.entity_model.specs.declared.statement.Statement.{Statement}
use Rattle.entity_model.specs.declared.value.Value.{Value}
use Rattle.entity_model.specs.declared.value.Value.TheVariants.{Entity, Str, Time, Quantity, Globe, Mono, Other}
use Rattle.entity_model.specs.EntityId.{entity_cmp}
use Rattle.entity_model.specs.IdOf.{id_of}
use Rattle.statement_facts.specs.Ranking.{is_best}
use Rattle.graph_routes.specs.declared.routes.Route.{Route}

-- P31, by which an entity is said to be an instance of a class
abbrev pub instance_of : EntityId
instance_of = record { kind = P; number = 31 }

-- the entity that a value names, if it names one
abbrev pub entity_in : Value → Option EntityId
entity_in (Entity text) = id_of text
entity_in (Str text) = None
entity_in (Time time) = None
entity_in (Quantity quantity) = None
entity_in (Globe globe) = None
entity_in (Mono tagged) = None
entity_in Other = None

abbrev pub entity_said : Content → Option EntityId
entity_said (AValue value) = entity_in value
entity_said NoValue = None
entity_said SomeValue = None

-- the class that a statement says, if it is one of P31
abbrev pub class_of : Statement → Option EntityId
class_of s = cond (eq_by_cmp entity_cmp s.property instance_of) (entity_said s.main.content) None

-- the same, if the statement is best
abbrev pub class_if : Bool → Statement → Option EntityId
class_if best s = cond best (class_of s) None

-- the classes that the best statements of P31 say
abbrev pub classes_said : List Statement → List EntityId
classes_said all = flat_map (λ s. option_to_list (class_if (is_best all s) s)) all

-- whether one of these classes is one of the route's
abbrev pub leads : List EntityId → Route → Bool
leads classes route = list_any (λ class. has entity_cmp class classes) route.classes

-- the graph of a document: that of the first route that has a class of the entity, and the last graph if none has
abbrev pub route_of : List Route → Document → ℕ
route_of routes (AnEntity entity) = position_or_len (leads (classes_said entity.statements)) routes
route_of routes (Redirect target) = length routes
route_of routes (ALexeme lexeme) = length routes
