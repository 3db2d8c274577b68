-- By the laws of pages and counts, with the keys that are new.
use Rattle.std.specs.FinMap.{keys}
use Rattle.sorted_sets.specs.Rising.{difference}
use Rattle.rdf_term.specs.Order.{triple_cmp}
use Rattle.replay_model.specs.Union.{union}
use Rattle.shared_triples.specs.Lean.{count_in, own_of, triples_of}
use Rattle.parts_exchange.proofs.Telling.{merged}
use Rattle.parts_exchange.proofs.laws.parts_tell_the_change.Goals as goal

pub returns-clause-came : goal.returns-clause-came
returns-clause-came c x counted m n p q before after lean_before lean_after alike owned_p owned_q old new old_is new_is change h =
    let laws = c.pages_and_counts_tell_the_change.ensures in
    let fresh = laws.told_by_keys p q owned_p owned_q in
    let came = difference triple_cmp (keys q) (keys p) in
    merged change.own.came change.stored.came old new (triples_of (own_of counted m) before x) (triples_of (own_of counted n) after x) came (difference triple_cmp (union triple_cmp n after) (union triple_cmp m before)) h.own.came h.stored.came old_is new_is
    (laws.gained_once x counted m n (count_in p) (count_in q) before after lean_before lean_after alike came fresh)
    (laws.adds x counted m n (count_in p) (count_in q) before after lean_before lean_after alike came fresh)

pub returns-clause-gone : goal.returns-clause-gone
returns-clause-gone c x counted m n p q before after lean_before lean_after alike owned_p owned_q old new old_is new_is change h =
    let laws = c.pages_and_counts_tell_the_change.ensures in
    let lost = laws.told_by_keys q p owned_q owned_p in
    let gone = difference triple_cmp (keys p) (keys q) in
    merged change.own.gone change.stored.gone new old (triples_of (own_of counted n) after x) (triples_of (own_of counted m) before x) gone (difference triple_cmp (union triple_cmp m before) (union triple_cmp n after)) h.own.gone h.stored.gone new_is old_is
    (laws.lost_once x counted m n (count_in p) (count_in q) before after lean_before lean_after alike gone lost)
    (laws.removes x counted m n (count_in p) (count_in q) before after lean_before lean_after alike gone lost)
