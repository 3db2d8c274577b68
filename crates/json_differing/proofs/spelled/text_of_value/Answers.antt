-- The text of a value that was read is what stands before the rest.
use Rattle.json_spell.specs.View.{json_view}
use Rattle.json_differing.proofs.SpelledTexts.{span_nests, span_read}
use Rattle.json_differing.proofs.spelled.text_of_value.Goals as goal

pub returns-clause-read : goal.returns-clause-read
returns-clause-read c =
    span_read c.args.bytes.now c.skip_ws-start.result.now (json_view c.in_ok-_value._value) c.in_ok-_value.end.now c.before-text.result.now c.skip_ws.result.now c.skip_ws-start.ensures.rest
    c.in_ok-_value.ensures.read c.before-text.ensures c.skip_ws.ensures.rest

pub returns-clause-nests : goal.returns-clause-nests
returns-clause-nests c =
    span_nests c.args.levels c.skip_ws-start.result.now (json_view c.in_ok-_value._value) c.in_ok-_value.end.now c.before-text.result.now c.in_ok-_value.ensures.read c.before-text.ensures c.in_ok-_value.ensures.nests
