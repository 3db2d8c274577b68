use Rattle.std.proofs.Common.{◌∷◌, sym, ◌∙◌}
use Rattle.wb_values.proofs.Padded.{same_bytes}
use Rattle.wb_values.proofs.literal.is_clock_on.Goals as goal

pub returns : goal.returns
returns c = λ same. same_bytes c.args.text.now (84 ∷ c.args.clock.now) (sym c.is_behind_t.ensures ∙ same)
