-- The first parts were read, and the lists were filled in.
use Rattle.json_spell.specs.View.{json_view}
use Rattle.entity_json.specs.Reading.Lexemes.{lexeme_of, lexeme_lists}
use Rattle.entity_json.proofs.lexeme.lexeme_of.Goals as goal

pub returns : goal.returns
unfolding lexeme_of lexeme_lists
returns c =
    c.finish.ensures (lexeme_of (json_view c.args.json.now))
    (rw (c.in_ok-id_of_kind_at.ensures, c.in_ok-optional_text_at.ensures, c.in_ok-lemmas_at.ensures, c.in_ok-id_of_kind_at-2.ensures, c.in_ok-id_of_kind_at-3.ensures) c.fill_lexeme-filled.ensures)
