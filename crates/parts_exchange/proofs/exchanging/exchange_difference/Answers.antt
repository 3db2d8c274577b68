-- What the two pages have of their own goes and comes.
use Rattle.std.proofs.Common.{◌≡◌, Err, ap}
use Rattle.rdf_term.specs.declared.triple.Triple.{Triple}
use Rattle.term_pool.specs.declared.fault.PoolFault.TheVariants.{Full}
use Rattle.triple_catalog.specs.Room.{room_for}
use Rattle.triple_store.specs.{StoreState.counts_in, StoreState.limit_of, Updates.AreLeftWithout, Updates.ComesTo, Updates.HasExchanged, Updates.MayCome}
use Rattle.triple_store.specs.{declared.telling.Telling.TheVariants.Change as TheChange}
use Rattle.triple_store.proofs.Without.{comes_without}
use Rattle.page_parts.specs.Rows.{IsRowChange}
use Rattle.parts_exchange.proofs.{Apart.apart_exchanged, Apart.apart_full, Telling.told_change}
use Rattle.parts_exchange.proofs.exchanging.exchange_difference.Goals as goal

pub joined-requires : goal.joined-requires
joined-requires c =
    let less : AreLeftWithout c.args.store.now c.args.keys.rising.now c.as_slice.result.now c.args.difference.now.gone.shared = rw c.as_slice.ensures.value (rw c.shared.ensures at c.in-Ok-left_without.ensures) in
    let old = c.args.store.now in
    let stored = c.requires.stored in
    let comes : ComesTo old c.args.keys.rising.now c.as_slice.result.now c.shared-2.result.now _ _ =
    comes_without old.catalog old.texts c.requires.sound c.args.keys.rising.now stored.rising stored.there c.args.difference.now.gone.shared c.shared-2.result.now c.as_slice.result.now less in
    told_change (counts_in old) (counts_in c.exchange-exchanged.new.self) c.in-Ok-exchanged.done.change (c.in-Ok-exchanged.ensures.exchanged.done _ _ comes).told

pub returns-in-Ok-exchanged-clause-exchanged : goal.returns-in-Ok-exchanged-clause-exchanged
returns-in-Ok-exchanged-clause-exchanged c x is_counted before after apart keyed =
    let less : AreLeftWithout c.args.store.now c.args.keys.rising.now c.as_slice.result.now c.args.difference.now.gone.shared = rw c.as_slice.ensures.value (rw c.shared.ensures at c.in-Ok-left_without.ensures) in
    record {
      done = apart_exchanged x is_counted before after c.args.difference.now apart c.args.store.now c.args.keys.rising.now c.requires.sound c.requires.stored keyed
          c.as_slice.result.now less c.exchange-exchanged.new.self c.in-Ok-exchanged.done (rw c.shared-2.ensures at c.in-Ok-exchanged.ensures.exchanged.done)
          _ c.compact.ensures c.joined.ensures.stored (rw c.joined.ensures.own (rw (c.own.ensures, c.own-2.ensures) at c.in-Ok.ensures));
      err = tt;
      full = λ e. cc;
    }

pub returns-in-Err-clause-exchanged : goal.returns-in-Err-clause-exchanged
returns-in-Err-clause-exchanged c x is_counted before after apart keyed =
    let less : AreLeftWithout c.args.store.now c.args.keys.rising.now c.as_slice.result.now c.args.difference.now.gone.shared = rw c.as_slice.ensures.value (rw c.shared.ensures at c.in-Ok-left_without.ensures) in
    record {
      done = tt;
      err = c.in-Err.ensures.exchanged.err;
      full = λ e.
          let same : c.in-Err.fault ≡ Full = cc in
          apart_full x is_counted before after c.args.difference.now apart c.args.store.now c.args.keys.rising.now c.requires.sound c.requires.stored keyed
          c.as_slice.result.now less (rw c.shared-2.ensures at c.in-Err.ensures.exchanged.full (ap (λ fault. Err fault) same));
    }
