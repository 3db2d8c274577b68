-- The bracket that opens in front is closed where the value ends.
use Rattle.std.proofs.Common.{sym, ◌∙◌}
use Rattle.json_differing.proofs.Skims.{bracket_past}
use Rattle.json_differing.proofs.brackets.past_value.Goals as goal

pub returns-clause-rest : goal.returns-clause-rest
returns-clause-rest c n t r nests read =
    bracket_past n t c.in_ok-byte.byte c.args.bytes.now c.in_ok-byte.rest.now c.in_ok-end.end.now r c.in_ok-byte.ensures (sym c.is_opening.ensures ∙ c.if-not-is_opening.false) c.in_ok-end.ensures.rest nests read
