-- The digits behind the spaces write the number.
use Rattle.std.proofs.Common.{◌≡◌, decimal, ◌++◌, subst, sym, ap, ◌∙◌}
use Rattle.std.specs.Str.{IsUtf8}
use Rattle.event_line.proofs.PlainLines.{begins}
use Rattle.event_line.proofs.pieces.number.Goals as goal

pub returns : goal.returns
returns c =
    let n = c.in_ok-number_of.field-0 in
    let rest = c.split_at.result.1.now in
    let written : decimal n ≡ c.split_at.result.0.now = c.in_ok-number_of.ensures.text ∙ c.in_ok-utf8.ensures.0 in
    record {
      is = begins (decimal n) c.args.bytes.now rest (sym c.past_spaces-bytes.ensures ∙ c.split_at.ensures.by_index.0 ∙ ap (λ l. l ++ rest) (sym written));
      utf8 = subst IsUtf8 (sym written) c.in_ok-utf8.ensures.1;
      positive = c.in_ok-number_of.ensures.small.0;
      small = c.in_ok-number_of.ensures.small.1;
    }
