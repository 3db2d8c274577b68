-- The text stands at the front.
use Rattle.std.proofs.Common.{◌≡◌, ◌++◌, Some, sym, ◌∙◌, ap}
use Rattle.std.proofs.lemmas.Bool.Decides.{Decides-eqb}
use Rattle.std.proofs.lemmas.Slice.Eq.{strip_prefix_is}
use Rattle.json_spell.proofs.Complete.{known_spaced}
use Rattle.json_differing.proofs.known.after_known.Goals as goal

pub returns-clause-read : goal.returns-clause-read
returns-clause-read c t closed is =
    let front : c.skip_ws.result.now ≡ c.args.known.now ++ c.in_ok-rest.rest.now = strip_prefix_is Decides-eqb c.skip_ws.result.now c.args.known.now (Some c.in_ok-rest.rest) c.in_ok-rest.ensures.cases in
    known_spaced t c.args.known.now c.args.bytes.now c.in_ok-rest.rest.now closed is (sym c.skip_ws.ensures.rest ∙ front)
    ∙ ap (λ q. Some (t, q)) (sym c.skip_ws-2.ensures.rest)
