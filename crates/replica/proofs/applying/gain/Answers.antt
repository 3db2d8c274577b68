-- The triples come for an owner that had none, and go again if too few of them are new.
use Rattle.std.proofs.Common.{◌∙◌, ◌+◌, [], ap}
use Rattle.triple_store.proofs.{Becoming.comes_whole, Patched.no_keys}
use Rattle.replica.proofs.AtOnce.{given_back, kept_twice, not_more, stored_keys}
use Rattle.replica.proofs.applying.gain.Goals as goal

pub release-requires : goal.release-requires
release-requires c =
    let old = c.args.store.now in
    let its = (rw c.none.ensures at c.in-Ok.ensures.exchanged).done [] c.args.triples.now (comes_whole old.catalog old.texts [] c.args.triples.now [] (no_keys old.catalog old.texts)) in
    stored_keys c.exchange.new.self c.in-Ok.given.keys.rising.items c.args.triples.now its.keys

pub returns-then-has_more-clause-some : goal.returns-then-has_more-clause-some
returns-then-has_more-clause-some c =
    let old = c.args.store.now in
    let its = (rw c.none.ensures at c.in-Ok.ensures.exchanged).done [] c.args.triples.now (comes_whole old.catalog old.texts [] c.args.triples.now [] (no_keys old.catalog old.texts)) in
    record { owners = its.counts; keys_of = its.keys; within = its.within; fresh_are = c.has_more.ensures c.if-has_more.true ∙ ap (λ n. n + c.args.fresh) c.triples-before.ensures }

pub returns-else-has_more-clause-none : goal.returns-else-has_more-clause-none
returns-else-has_more-clause-none c =
    let old = c.args.store.now in
    let its = (rw c.none.ensures at c.in-Ok.ensures.exchanged).done [] c.args.triples.now (comes_whole old.catalog old.texts [] c.args.triples.now [] (no_keys old.catalog old.texts)) in
    given_back old c.exchange.new.self c.release.new.store c.args.triples.now its.counts (c.release.ensures.owners c.args.triples.now its.keys)

pub returns-else-has_more-clause-rest : goal.returns-else-has_more-clause-rest
returns-else-has_more-clause-rest c =
    let old = c.args.store.now in
    let its = (rw c.none.ensures at c.in-Ok.ensures.exchanged).done [] c.args.triples.now (comes_whole old.catalog old.texts [] c.args.triples.now [] (no_keys old.catalog old.texts)) in
    kept_twice old c.exchange.new.self c.release.new.store c.exchange.ensures.rest c.release.ensures.rest
    (not_more c.exchange.new.self c.release.new.store c.args.triples.now (c.release.ensures.owners c.args.triples.now its.keys))
