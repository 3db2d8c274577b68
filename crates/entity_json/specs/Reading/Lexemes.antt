-- Forms, senses and lexemes.
use Rattle.std.specs.Prelude.{ℕ, List, [], ◌++◌, Option, Some, None, cond, codes}
use Rattle.json_spell.specs.Tree.{Tree}
use Rattle.entity_model.specs.declared.id.EntityId.{EntityId}
use Rattle.entity_model.specs.declared.id.IdKind.TheVariants.{Q, L}
use Rattle.entity_model.specs.declared.lexeme.Lexeme.{Lexeme}
use Rattle.entity_model.specs.declared.lexeme.Part.{Part}
use Rattle.entity_model.specs.EntityId.{id_text}
use Rattle.entity_model.specs.Lexeme.{is_part_id}
use Rattle.entity_json.specs.declared.lexeme.PartKind.{PartKind}
use Rattle.entity_json.specs.declared.lexeme.PartKind.TheVariants.{Form, Sense}
use Rattle.entity_json.specs.Leaves.{◌>>=◌, text_at, id_of_kind_at, optional_text_at, optional_list_at}
use Rattle.entity_json.specs.Lexemes.{list_name, mark_of, texts_name}
use Rattle.entity_json.specs.Joined.{numbered}
use Rattle.entity_json.specs.Reading.Items.{item_ids_at}
use Rattle.entity_json.specs.Reading.Statements.{statements_at}
use Rattle.entity_json.specs.Reading.Steps.{steps, put}
use Rattle.entity_json.specs.Reading.Terms.{labels_at}

-- the id of a part, which begins so
abbrev pub own_part_id : List ℕ → List ℕ → Option (List ℕ)
own_part_id front text = cond (is_part_id front text) (Some text) None

unfoldable pub part_id_at : List ℕ → Tree → Option (List ℕ)
part_id_at front t = text_at (codes "id") t >>= own_part_id front

-- the features, which a form alone has
abbrev pub features_by_kind : PartKind → Tree → Option (List EntityId)
features_by_kind Form t = item_ids_at (codes "grammaticalFeatures") t
features_by_kind Sense t = Some []

-- a part whose id begins so
unfoldable pub part_of : PartKind → List ℕ → Tree → Option Part
part_of kind front t = do
  id ← part_id_at front t
  texts ← labels_at (texts_name kind) t
  features ← features_by_kind kind t
  statements ← statements_at (codes "claims") t
  Some (record { id = id; texts = texts; features = features; statements = statements })

-- a part of the kind with its lists, where its id is there
unfoldable pub part_lists : PartKind → Tree → Part → Option Part
part_lists kind t begun = do
  texts ← labels_at (texts_name kind) t
  features ← features_by_kind kind t
  statements ← statements_at (codes "claims") t
  Some (record { id = begun.id; texts = texts; features = features; statements = statements })

-- one of a list, by its index
abbrev pub part_step : PartKind → List ℕ → ℕ × Tree → List Part → Option (List Part)
part_step kind front item out = put out (part_of kind front item.1)

-- those of a list that may be missing
unfoldable pub parts_at : EntityId → PartKind → Tree → Option (List Part)
parts_at x kind t = optional_list_at (list_name kind) t >>= λ items. steps (part_step kind (id_text x ++ mark_of kind)) (numbered 0 items) []

-- a lexeme, where the page is that of one
unfoldable pub lexeme_of : Tree → Option Lexeme
lexeme_of t = do
  id ← id_of_kind_at L (codes "id") t
  modified ← optional_text_at (codes "modified") t
  lemmas ← labels_at (codes "lemmas") t
  category ← id_of_kind_at Q (codes "lexicalCategory") t
  language ← id_of_kind_at Q (codes "language") t
  statements ← statements_at (codes "claims") t
  forms ← parts_at id Form t
  senses ← parts_at id Sense t
  Some (record { id = id; modified = modified; lemmas = lemmas; category = category; language = language; statements = statements; forms = forms; senses = senses })

-- a lexeme with its statements and parts, where the rest of it is there
unfoldable pub lexeme_lists : Tree → Lexeme → Option Lexeme
lexeme_lists t begun = do
  statements ← statements_at (codes "claims") t
  forms ← parts_at begun.id Form t
  senses ← parts_at begun.id Sense t
  Some (record { id = begun.id; modified = begun.modified; lemmas = begun.lemmas; category = begun.category; language = begun.language; statements = statements; forms = forms; senses = senses })
