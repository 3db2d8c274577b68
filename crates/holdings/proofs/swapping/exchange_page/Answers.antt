-- The page comes as a whole, or what it changes comes and goes.
use Rattle.std.proofs.Common.{◌≡◌, ◌<◌, Err, ap, subst}
use Rattle.term_pool.specs.declared.fault.PoolFault.TheVariants.{Full}
use Rattle.triple_store.specs.StoreState.{limit_of}
use Rattle.triple_store.proofs.Whole.{whole, whole_full}
use Rattle.holdings.proofs.Exchanging.{parts_over, parts_swapped, whole_room, whole_swapped}
use Rattle.holdings.proofs.swapping.exchange_page.Goals as goal

pub returns-in-Ok-clause-exchanged : goal.returns-in-Ok-clause-exchanged
returns-in-Ok-clause-exchanged c =
    let page = c.in-Whole.page in
    let its = rw c.in-Whole.is at c.requires.may_swap in
    rw c.in-Whole.is (record {
      done = whole_swapped c.args.setting.telling c.args.store.now c.exchange.new.self c.args.had.keys.rising.now c.args.setting.wanted page.bytes page.triples page.counts c.in-Ok.done c.with_counts.result
          (record { set = its.set; listed = its.listed })
          (whole c.args.store.now c.args.had.keys.rising.now page.triples c.requires.sound c.requires.stored c.args.setting.telling c.exchange.new.self c.in-Ok.done c.in-Ok.ensures.exchanged.done)
          c.with_counts.ensures;
      err = tt;
      full = λ e. cc;
    })

pub returns-in-Err-clause-exchanged : goal.returns-in-Err-clause-exchanged
returns-in-Err-clause-exchanged c =
    let page = c.in-Whole.page in
    let its = rw c.in-Whole.is at c.requires.may_swap in
    rw c.in-Whole.is (record {
      done = tt;
      err = c.in-Err.ensures.exchanged.err;
      full = λ e.
          let same : c.in-Err.fault ≡ Full = cc in
          subst (λ n. limit_of c.args.store.now < n) (whole_room c.args.setting.telling c.args.store.now c.exchange.new.self c.args.had.keys.rising.now c.args.setting.wanted page.bytes page.triples page.counts (record { set = its.set; listed = its.listed }))
          (whole_full c.args.store.now c.args.had.keys.rising.now page.triples c.requires.sound c.requires.stored (c.in-Err.ensures.exchanged.full (ap (λ fault. Err fault) same)));
    })

pub exchange-exchanged-requires-clause-may_come : goal.exchange-exchanged-requires-clause-may_come
exchange-exchanged-requires-clause-may_come c =
    let its = rw c.in-Changed.is at c.requires.may_swap in
    record { fit = its.changed.fit; countable = λ t _. c.requires.countable t }

pub returns-in-Ok-exchanged-clause-exchanged : goal.returns-in-Ok-exchanged-clause-exchanged
returns-in-Ok-exchanged-clause-exchanged c =
    let page = c.in-Changed.page in
    let its = rw c.in-Changed.is at c.requires.may_swap in
    let left = rw c.in-Ok-Some.field-0-is at c.in-Ok-Some.ensures.left in
    let some = rw c.in-Ok-Some.field-0-is at c.in-Ok-Some.ensures.some in
    rw c.in-Changed.is (record {
      done = parts_swapped c.args.setting.telling c.args.store.now c.exchange-exchanged.new.self c.args.had.keys.rising.now c.args.had.times.now c.in-Ok-Some.counts.items c.args.setting.wanted page its left some c.in-Ok-exchanged.done c.with_counts-in-Ok-exchanged.result
          (rw c.as_slice.ensures.value at c.in-Ok-exchanged.ensures.exchanged.done) c.with_counts-in-Ok-exchanged.ensures;
      err = tt;
      full = λ e. cc;
    })

pub returns-in-Err-exchanged-clause-exchanged : goal.returns-in-Err-exchanged-clause-exchanged
returns-in-Err-exchanged-clause-exchanged c =
    let page = c.in-Changed.page in
    let its = rw c.in-Changed.is at c.requires.may_swap in
    let left = rw c.in-Ok-Some.field-0-is at c.in-Ok-Some.ensures.left in
    let some = rw c.in-Ok-Some.field-0-is at c.in-Ok-Some.ensures.some in
    rw c.in-Changed.is (record {
      done = tt;
      err = c.in-Err-exchanged.ensures.exchanged.err;
      full = λ e.
          let same : c.in-Err-exchanged.fault ≡ Full = cc in
          parts_over c.args.setting.telling c.args.store.now c.exchange-exchanged.new.self c.args.had.keys.rising.now c.args.had.times.now c.in-Ok-Some.counts.items c.args.setting.wanted page its left some
          (rw c.as_slice.ensures.value at (c.in-Err-exchanged.ensures.exchanged.full (ap (λ fault. Err fault) same)));
    })
