-- The first parts were read, and the lists were filled in.
use Rattle.json_spell.specs.View.{json_view}
use Rattle.entity_json.specs.Reading.Pages.{entity_of, entity_lists}
use Rattle.entity_json.proofs.entity.entity_of.Goals as goal

pub returns : goal.returns
unfolding entity_of entity_lists
returns c =
    c.finish.ensures (entity_of (json_view c.args.json.now))
    (rw (c.in_ok-kind.ensures, c.in_ok-id_of_kind_at.ensures, c.in_ok-datatype_by_kind.ensures, c.in_ok-optional_text_at.ensures) c.fill_entity-filled.ensures)
