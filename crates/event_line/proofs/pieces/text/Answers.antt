-- The text stands between two quotes.
use Rattle.std.proofs.Common.{◌≡◌, ◌++◌, ◌∙◌, ap, sym}
use Rattle.std.specs.List.{list_all}
use Rattle.event_line.specs.Pieces.{is_plain}
use Rattle.event_line.proofs.PlainLines.{text_at}
use Rattle.event_line.proofs.pieces.text.Goals as goal

pub returns : goal.returns
returns c =
    let after = c.split_at.result.1.now in
    let is : c.in_ok-text.text.now ≡ c.split_at.result.0.now = c.in_ok-text.ensures.0 in
    text_at c.args.bytes.now c.in_ok-inner.inner.now c.in_ok-text.text.now after c.in_ok-rest.rest.now c.in_ok-inner.ensures
    (c.split_at.ensures.by_index.0 ∙ ap (λ l. l ++ after) (sym is)) c.in_ok-rest.ensures
    (ap (list_all is_plain) (is ∙ c.split_at.ensures.front) ∙ c.in_ok-end.ensures.1)
