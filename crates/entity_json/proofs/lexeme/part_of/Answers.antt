-- The id was read, and the lists were filled in.
use Rattle.json_spell.specs.View.{json_view}
use Rattle.entity_json.specs.Reading.Lexemes.{part_of, part_lists}
use Rattle.entity_json.proofs.lexeme.part_of.Goals as goal

pub returns : goal.returns
unfolding part_of part_lists
returns c =
    c.finish.ensures (part_of c.args.kind c.args.front.now (json_view c.args.json.now))
    (rw c.in_ok-part_id_at.ensures c.fill_part-filled.ensures)
