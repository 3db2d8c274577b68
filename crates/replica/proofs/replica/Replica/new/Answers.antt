-- Nothing was received.
use Rattle.std.proofs.Common.{◌≡◌, [], None, Some, subst, sym}
use Rattle.replica.specs.Replica.{AreOwnedOnce, Follows}
use Rattle.replica.proofs.{Applied.no_keys, Applied.none_once, Following.follows_nothing}
use Rattle.replica.proofs.replica.Replica.new.Goals as goal

pub invariant_of-result : goal.invariant_of-result
invariant_of-result c = (
  subst AreOwnedOnce (sym c.in_ok-store.ensures.counts) none_once,
  λ number item is. let none : None ≡ Some item = rw c.new-2.ensures.empty at is in cc,
)

pub returns-clause-new : goal.returns-clause-new
returns-clause-new c =
    let triples = no_keys _ c.in_ok-store.ensures.counts in
    λ i. record { triples = triples i; applied = 0; waiting = c.new-2.ensures.empty i; limit = c.in_ok-store.ensures.limit i }

pub returns-clause-follows : goal.returns-clause-follows
returns-clause-follows c =
    let triples = no_keys _ c.in_ok-store.ensures.counts in
    subst (Follows []) (λ i. record { triples = sym triples i; applied = 0; waiting = sym c.new-2.ensures.empty i; limit = sym c.in_ok-store.ensures.limit i }) (follows_nothing c.args.limit)
