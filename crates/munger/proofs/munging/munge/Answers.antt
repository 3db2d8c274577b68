use Rattle.std.proofs.Common.{◌≡◌, IfOk, arith, rules}
use Rattle.std.proofs.lemmas.Grind.{common_steps}
use Rattle.std.proofs.lemmas.Result.{IfOk-weaker}
use Rattle.munger.specs.Munging.{munge}
use Rattle.munger.proofs.Fit.{munge_fit, munge_short}
use Rattle.munger.proofs.munging.munge.Goals as goal

pub returns-clause-short : goal.returns-clause-short
returns-clause-short c s l =
    let id = c.args.id in
    let triples = c.args.triples.now in
    let value : IfOk c.from_list.result (λ set. set ≡ munge id triples) = first_of (search rules, grind (arith, common_steps)) in
    IfOk-weaker c.from_list.result _ _ (λ set e. rw e (munge_short id triples s l)) value

pub returns-clause-fit : goal.returns-clause-fit
returns-clause-fit c s l =
    let id = c.args.id in
    let triples = c.args.triples.now in
    let value : IfOk c.from_list.result (λ set. set ≡ munge id triples) = first_of (search rules, grind (arith, common_steps)) in
    IfOk-weaker c.from_list.result _ _ (λ set e. rw e (munge_fit id triples s l)) value
