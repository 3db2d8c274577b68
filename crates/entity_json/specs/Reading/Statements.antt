-- Statements and references.
use Rattle.std.specs.Prelude.{ℕ, cond, List, [], Option, None, Some, codes, ◌==◌, length}
use Rattle.std.specs.Str.{bytes_eq}
use Rattle.json_spell.specs.Tree.{Tree, member_of}
use Rattle.entity_model.specs.declared.id.IdKind.TheVariants.{P}
use Rattle.entity_model.specs.declared.id.EntityId.{EntityId}
use Rattle.entity_model.specs.declared.statement.Rank.{Rank}
use Rattle.entity_model.specs.declared.statement.Rank.TheVariants.{Deprecated, Normal, Preferred}
use Rattle.entity_model.specs.declared.statement.Reference.{Reference}
use Rattle.entity_model.specs.declared.statement.Statement.{Statement}
use Rattle.entity_model.specs.declared.snak.Snak.{Snak}
use Rattle.entity_model.specs.Reference.{is_hash}
use Rattle.entity_json.specs.Leaves.{◌>>=◌, text_at, list_of, optional_list_at, id_of_kind}
use Rattle.entity_json.specs.Maps.{map_at}
use Rattle.entity_json.specs.Joined.{numbered}
use Rattle.entity_json.specs.Reading.Steps.{steps, put}
use Rattle.entity_json.specs.Reading.Snaks.{snak_of, snaks_at}

-- the rank with the name
abbrev pub rank_named : List ℕ → Option Rank
rank_named name =
    cond (bytes_eq name (codes "preferred")) (Some Preferred)
    (cond (bytes_eq name (codes "normal")) (Some Normal)
    (cond (bytes_eq name (codes "deprecated")) (Some Deprecated) None))

-- a reference
unfoldable pub reference_of : Tree → Option Reference
reference_of t = do
  hash ← text_at (codes "hash") t
  cond (is_hash hash) (do
    snaks ← snaks_at (codes "snaks") t
    Some (record { hash = hash; snaks = snaks }))
      None

-- one reference, by its place
abbrev pub reference_step : ℕ × Tree → List Reference → Option (List Reference)
reference_step item out = put out (reference_of item.1)

-- the references, which may be missing
unfoldable pub references_at : List ℕ → Tree → Option (List Reference)
references_at name t = optional_list_at name t >>= λ items. steps reference_step (numbered 0 items) []

-- the rank of a statement
unfoldable pub rank_of : Tree → Option Rank
rank_of t = text_at (codes "rank") t >>= rank_named

-- a text that isn't empty
abbrev pub filled : List ℕ → Option (List ℕ)
filled text = cond (length text == 0) None (Some text)

-- the id of a statement
unfoldable pub statement_id : Tree → Option (List ℕ)
statement_id t = text_at (codes "id") t >>= filled

-- the main snak of a statement under a property
unfoldable pub main_of : List ℕ → EntityId → Tree → Option Snak
main_of key property t = member_of (codes "mainsnak") t >>= snak_of key property 0

-- a statement under a property
unfoldable pub statement_of : List ℕ → EntityId → Tree → Option Statement
statement_of key property t = do
  rank ← rank_of t
  id ← statement_id t
  qualifiers ← snaks_at (codes "qualifiers") t
  references ← references_at (codes "references") t
  main ← main_of key property t
  Some (record { id = id; property = property; rank = rank; main = main; qualifiers = qualifiers; references = references })

-- one statement of a property, by its place
abbrev pub statement_step : List ℕ → EntityId → ℕ × Tree → List Statement → Option (List Statement)
statement_step key property item out = put out (statement_of key property item.1)

-- the statements of one property
unfoldable pub statements_step : List ℕ × Tree → List Statement → Option (List Statement)
statements_step member out = do
  property ← id_of_kind P member.0
  items ← list_of member.1
  steps (statement_step member.0 property) (numbered 0 items) out

-- a map from properties to lists of statements
unfoldable pub statements_at : List ℕ → Tree → Option (List Statement)
statements_at name t = map_at name t >>= λ members. steps statements_step members []
