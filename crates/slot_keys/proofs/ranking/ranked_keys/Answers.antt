-- The ranks of one more key.
use Rattle.std.proofs.Common.{◌<◌, ◌++◌, ◌∙◌, [], ◌∷◌, take, length, get_or, ap, sym, subst, arith}
use Rattle.std.specs.Prelude.{map as mapped}
use Rattle.std.specs.List.{All}
use Rattle.std.proofs.lemmas.List.{map_push, take_all, take_more}
use Rattle.std.proofs.lemmas.List.Elements.{All-push}
use Rattle.slot_keys.specs.Ranks.{IsRanked, rank_key}
use Rattle.slot_keys.proofs.ranking.ranked_keys.Goals as goal

pub loop-key-preserved : goal.loop-key-preserved
loop-key-preserved c =
    let keys = c.args.keys.now in
    let i = c.loop-key.key-index in
    let key = get_or keys i (record { first = 0; second = 0; third = 0 }) in
    let within : i < length keys = omega (arith, c.loop-key-test.true) in
    let more = take_more keys i (record { first = 0; second = 0; third = 0 }) within in
    let ranks = c.args.ranks.now in
    let P = IsRanked c.args.terms.now ranks in
    rw c.in_ok-push.ensures.items (
      ap (λ l. l ++ c.in-Some.ranks_of_key ∷ []) c.loop-key.invariant.0
          ∙ ap (λ k. mapped (rank_key ranks) (take i keys) ++ k ∷ []) c.in-Some.ensures.0
          ∙ sym (ap (mapped (rank_key ranks)) more ∙ map_push (rank_key ranks) (take i keys) key),
      subst (All P) (sym more) (All-push P (take i keys) key c.loop-key.invariant.1 c.in-Some.ensures.1),
    )

-- in the end of all
pub returns-clause-keys : goal.returns-clause-keys
returns-clause-keys c = c.loop-key.invariant.0 ∙ ap (mapped (rank_key c.args.ranks.now)) (take_all c.loop-key.key-index c.args.keys.now (omega (arith, c.loop-key-test.false)))

pub returns-clause-ranked : goal.returns-clause-ranked
returns-clause-ranked c = subst (All (IsRanked c.args.terms.now c.args.ranks.now)) (take_all c.loop-key.key-index c.args.keys.now (omega (arith, c.loop-key-test.false))) c.loop-key.invariant.1
