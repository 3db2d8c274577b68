use Rattle.std.proofs.Common.{◌++◌, string_bytes, ◌∙◌, ap, [], ◌∷◌, ◌+◌, ◌%◌}
use Rattle.wb_values.proofs.Padded.{pair_in_digits}
use Rattle.wb_values.proofs.literal.push_pair.Goals as goal

pub returns-then-number-lt100 : goal.returns-then-number-lt100
returns-then-number-lt100 c =
    c.in_ok-push_digit-2.ensures ∙ ap (λ bytes. bytes ++ ((48 + c.args.number % 10) ∷ [])) c.in_ok-push_digit.ensures ∙ pair_in_digits (string_bytes c.args.text.now) c.args.number c.if-number-lt100.true
