-- All triples of the page come.
use Rattle.std.proofs.Common.{◌≡◌, ◌<◌, Err, ap, subst}
use Rattle.term_pool.specs.declared.fault.PoolFault.TheVariants.{Full}
use Rattle.triple_store.specs.StoreState.{limit_of}
use Rattle.triple_store.proofs.Whole.{whole, whole_full}
use Rattle.holdings.proofs.Exchanging.{rest_same, whole_room, whole_swapped}
use Rattle.holdings.proofs.swapping.exchange_anew.Goals as goal

pub exchange-exchanged-requires-clause-may_come : goal.exchange-exchanged-requires-clause-may_come
exchange-exchanged-requires-clause-may_come c = record { fit = c.in-Ok.ensures.fit; countable = λ t _. c.requires.countable t }

pub returns-in-Ok-exchanged-clause-exchanged : goal.returns-in-Ok-exchanged-clause-exchanged
returns-in-Ok-exchanged-clause-exchanged c = record {
  done = whole_swapped c.args.setting.telling c.args.store.now c.exchange-exchanged.new.self c.args.old.rising.now c.args.setting.wanted c.args.page.now c.in-Ok.mapped.triples c.in-Ok.mapped.counts c.in-Ok-exchanged.done c.with_counts.result
      (record { set = c.in-Ok.ensures.meant; listed = c.in-Ok.ensures.listed })
      (whole c.args.store.now c.args.old.rising.now c.in-Ok.mapped.triples c.requires.sound c.requires.stored c.args.setting.telling c.exchange-exchanged.new.self c.in-Ok-exchanged.done c.in-Ok-exchanged.ensures.exchanged.done)
      c.with_counts.ensures;
  err = tt;
  full = λ e. cc;
}

pub returns-in-Err-exchanged-clause-exchanged : goal.returns-in-Err-exchanged-clause-exchanged
returns-in-Err-exchanged-clause-exchanged c = record {
  done = tt;
  err = c.in-Err-exchanged.ensures.exchanged.err;
  full = λ e.
      let same : c.in-Err-exchanged.fault ≡ Full = cc in
      subst (λ n. limit_of c.args.store.now < n) (whole_room c.args.setting.telling c.args.store.now c.exchange-exchanged.new.self c.args.old.rising.now c.args.setting.wanted c.args.page.now c.in-Ok.mapped.triples c.in-Ok.mapped.counts
      (record { set = c.in-Ok.ensures.meant; listed = c.in-Ok.ensures.listed }))
      (whole_full c.args.store.now c.args.old.rising.now c.in-Ok.mapped.triples c.requires.sound c.requires.stored (c.in-Err-exchanged.ensures.exchanged.full (ap (λ fault. Err fault) same)));
}

pub returns-in-Err-clause-rest : goal.returns-in-Err-clause-rest
returns-in-Err-clause-rest c = rest_same c.args.store.now c.requires.sound
