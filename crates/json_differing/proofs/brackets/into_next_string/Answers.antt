-- The colon or comma stands outside of strings.
use Rattle.std.proofs.Common.{sym, ◌∙◌}
use Rattle.json_differing.proofs.Skims.{past_between}
use Rattle.json_differing.proofs.brackets.into_next_string.Goals as goal

pub returns-clause-rest : goal.returns-clause-rest
returns-clause-rest c o =
    past_between o c.in_ok-byte.byte c.args.bytes.now c.in_ok-byte.rest.now c.in_ok-inside.inside.now c.in_ok-byte.ensures (sym c.parts_strings.ensures ∙ c.if-not-parts_strings.false) (sym c.in_ok-inside.ensures.rest)
