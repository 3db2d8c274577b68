use Rattle.std.proofs.Common.{◌++◌, string_bytes, ◌∙◌, ap, ◌%◌}
use Rattle.wb_values.specs.Literal.{zero_padded}
use Rattle.wb_values.proofs.Padded.{four_in_pairs}
use Rattle.wb_values.proofs.literal.push_four.Goals as goal

pub returns-then-number-lt10000 : goal.returns-then-number-lt10000
returns-then-number-lt10000 c =
    c.in_ok-push_pair-2.ensures ∙ ap (λ bytes. bytes ++ zero_padded 2 (c.args.number % 100)) c.in_ok-push_pair.ensures ∙ four_in_pairs (string_bytes c.args.text.now) c.args.number c.if-number-lt10000.true
