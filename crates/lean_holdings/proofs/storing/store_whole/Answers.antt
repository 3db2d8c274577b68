-- All triples of the page come in the place of those that were stored.
use Rattle.std.proofs.Common.{◌≡◌, Err, sym, ap, subst}
use Rattle.term_pool.specs.declared.fault.PoolFault.TheVariants.{Full}
use Rattle.triple_store.specs.declared.telling.Telling.TheVariants.{Nothing}
use Rattle.triple_store.specs.{StoreState.AreKeysOf, Updates.AreStored}
use Rattle.triple_store.proofs.Whole.{IsWhole, whole, whole_full}
use Rattle.lean_holdings.proofs.{GoingOut.goes_less, Staying.goes_whole, Staying.keys_unseen}
use Rattle.lean_holdings.proofs.storing.store_whole.Goals as goal

pub returns-in-Ok-clause-counted : goal.returns-in-Ok-clause-counted
returns-in-Ok-clause-counted c m pages names h meant = rw c.set_keys.ensures
    (let came : IsWhole Nothing c.args.store.now c.exchange.new.self c.keys_of.result.rising.now c.args.page.now c.in-Ok.field-0 =
    whole c.args.store.now c.keys_of.result.rising.now c.args.page.now c.requires.sound (subst (AreStored c.args.store.now) (sym c.keys_of.ensures) c.requires.stored) Nothing c.exchange.new.self c.in-Ok.field-0 c.in-Ok.ensures.exchanged.done in
    goes_whole c.args.table.now.records c.args.id c.in-Ok.field-0.keys c.requires.held m c.args.store.now c.exchange.new.self pages names c.args.page.now h meant
    (λ triples are. came.counts triples (subst (λ ks. AreKeysOf c.args.store.now ks triples) (sym c.keys_of.ensures) are)) c.exchange.ensures.rest.sound c.exchange.ensures.rest.keeps came.keys_are)

pub returns-in-Ok-clause-uncounted : goal.returns-in-Ok-clause-uncounted
returns-in-Ok-clause-uncounted c m pages names h named_in unnamed meant = rw c.set_keys.ensures
    (let came : IsWhole Nothing c.args.store.now c.exchange.new.self c.keys_of.result.rising.now c.args.page.now c.in-Ok.field-0 =
    whole c.args.store.now c.keys_of.result.rising.now c.args.page.now c.requires.sound (subst (AreStored c.args.store.now) (sym c.keys_of.ensures) c.requires.stored) Nothing c.exchange.new.self c.in-Ok.field-0 c.in-Ok.ensures.exchanged.done in
    goes_less c.args.table.now.records c.args.id c.in-Ok.field-0.keys c.requires.held m c.args.store.now c.exchange.new.self pages names c.args.page.now h named_in unnamed meant
    (λ triples are. came.counts triples (subst (λ ks. AreKeysOf c.args.store.now ks triples) (sym c.keys_of.ensures) are)) c.exchange.ensures.rest.sound c.exchange.ensures.rest.keeps came.keys_are)

pub returns-in-Ok-clause-seen : goal.returns-in-Ok-clause-seen
returns-in-Ok-clause-seen c pages = rw c.set_keys.ensures (keys_unseen c.args.table.now.records c.args.id c.in-Ok.field-0.keys c.requires.held pages)

pub returns-in-Err-clause-full : goal.returns-in-Err-clause-full
returns-in-Err-clause-full c is =
    let same : c.in-Err.fault ≡ Full = cc in
    whole_full c.args.store.now c.keys_of.result.rising.now c.args.page.now c.requires.sound (subst (AreStored c.args.store.now) (sym c.keys_of.ensures) c.requires.stored)
    (c.in-Err.ensures.exchanged.full (ap (λ fault. Err fault) same))
