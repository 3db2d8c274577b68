-- All shared triples of the page come, and both changes are told.
use Rattle.std.proofs.Common.{◌≡◌, ◌<◌, List, Err, ap, sym, subst}
use Rattle.term_pool.specs.declared.fault.PoolFault.TheVariants.{Full}
use Rattle.triple_catalog.specs.Room.{room_for}
use Rattle.slot_keys.specs.declared.key.Key.{Key}
use Rattle.triple_store.specs.{StoreState.AreKeysOf, StoreState.counts_in, StoreState.limit_of, Updates.MayCome}
use Rattle.triple_store.proofs.Whole.{IsWhole, whole, whole_full}
use Rattle.triple_store.specs.declared.telling.Telling.TheVariants.{Change as TheChange}
use Rattle.page_parts.specs.Rows.{IsRowChange}
use Rattle.parts_exchange.proofs.Telling.{change_told, told_change}
use Rattle.parts_exchange.proofs.exchanging.exchange_parts.Goals as goal

pub exchange-requires-clause-may_come : goal.exchange-requires-clause-may_come
exchange-requires-clause-may_come c = subst (MayCome c.args.store.now) (sym c.shared.ensures) (record { fit = c.requires.fit; countable = λ t _. c.requires.countable t })

pub joined-requires : goal.joined-requires
joined-requires c =
    let old = c.args.store.now in
    let new = c.exchange.new.self in
    let done = c.in-Ok-exchange.done in
    let came = whole old c.args.had.keys.rising.now c.shared.result.now c.requires.sound c.requires.stored TheChange new done c.in-Ok-exchange.ensures.exchanged.done in
    told_change (counts_in old) (counts_in new) done.change came.told

pub returns-in-Ok-exchange-clause-exchanged : goal.returns-in-Ok-exchange-clause-exchanged
returns-in-Ok-exchange-clause-exchanged c =
    let old = c.args.store.now in
    let new = c.exchange.new.self in
    let keys = c.args.had.keys.rising.now in
    let done = c.in-Ok-exchange.done in
    let came : IsWhole TheChange old new keys c.args.parts.now.shared done = subst (λ l. IsWhole TheChange old new keys l done) c.shared.ensures (whole old keys c.shared.result.now c.requires.sound c.requires.stored TheChange new done c.in-Ok-exchange.ensures.exchanged.done) in
    record {
      done = record {
        counts = came.counts;
        keys_are = subst (λ (ks : List Key). AreKeysOf new ks c.args.parts.now.shared) (sym c.compact.ensures) came.keys_are;
        told = record {
          own = subst (λ r. IsRowChange c.args.had.own.now c.args.parts.now.own r) (sym c.joined.ensures.own) (subst (λ l. IsRowChange c.args.had.own.now l c.in-Ok.own) c.own.ensures c.in-Ok.ensures);
          stored = change_told (counts_in old) (counts_in new) done.change c.joined.result.stored c.joined.ensures.stored came.told;
        };
        within = came.within;
      };
      err = tt;
      full = λ e. cc;
    }

pub returns-in-Err-clause-exchanged : goal.returns-in-Err-clause-exchanged
returns-in-Err-clause-exchanged c = record {
  done = tt;
  err = c.in-Err.ensures.exchanged.err;
  full = λ e.
      let same : c.in-Err.fault ≡ Full = cc in
      subst (λ l. limit_of c.args.store.now < room_for (counts_in c.args.store.now) l) c.shared.ensures
      (whole_full c.args.store.now c.args.had.keys.rising.now c.shared.result.now c.requires.sound c.requires.stored (c.in-Err.ensures.exchanged.full (ap (λ fault. Err fault) same)));
}
