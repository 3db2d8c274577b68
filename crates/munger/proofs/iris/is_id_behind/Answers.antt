use Rattle.std.proofs.Common.{◌≡◌, ◌++◌, ◌∙◌, ap, sym}
use Rattle.entity_model.specs.EntityId.{id_text}
use Rattle.munger.proofs.Joined.{joined}
use Rattle.munger.proofs.iris.is_id_behind.Goals as goal

pub returns-in-Some : goal.returns-in-Some
returns-in-Some c =
    let front = c.args.front.now in
    let text = c.args.text.now in
    let rest = c.in-Some.rest.now in
    let apart : text ≡ front ++ rest = sym c.as_bytes-2.ensures.value ∙ c.in-Some.ensures ∙ ap (λ f. f ++ rest) c.as_bytes.ensures.value in
    c.is_id_text.ensures ∙ joined front (id_text c.args.id) rest text apart
