-- What goes has one owner less, and nothing comes.
use Rattle.std.proofs.Common.{◌≤◌, [], refl, ap, arith}
use Rattle.triple_catalog.specs.Room.{room_for}
use Rattle.triple_store.specs.StoreState.{counts_in, limit_of}
use Rattle.triple_store.proofs.{Afterwards.none_done, Stocked.terms_counted}
use Rattle.triple_store.proofs.store.Store.exchange_for_none.Goals as goal

pub returns-in-Ok-clause-exchanged : goal.returns-in-Ok-clause-exchanged
returns-in-Ok-clause-exchanged g c =
    let old = c.args.self.now in
    let new = c.release.new.self in
    let within : room_for (counts_in old) [] ≤ limit_of old = rw (← c.self.view_is) (omega (arith, terms_counted c.self.inside.catalog c.self.inside.region c.self.invariant, c.self.invariant.lies.few)) in
    record {
      done = none_done old.catalog old.texts new.catalog new.texts c.args.old.rising.now c.args.telling _ c.in-Ok.ensures.released.ok c.in-Ok.ensures.released.told c.none.ensures c.new.ensures.items within;
      err = tt;
      full = λ e. absurd cc;
      free = λ quiet none nothing. refl;
    }

pub returns-in-Err-clause-exchanged : goal.returns-in-Err-clause-exchanged
returns-in-Err-clause-exchanged g c = record {
  done = tt;
  err = ap counts_in c.in-Err.ensures.released.err;
  full = λ e. absurd cc;
  free = λ quiet none nothing. c.in-Err.ensures.released.free quiet;
}
