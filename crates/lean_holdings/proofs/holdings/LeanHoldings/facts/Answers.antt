-- Store and records say so.
use Rattle.replay_model.specs.Versions.{meaning_by}
use Rattle.fetched_pages.specs.Meaning.{meaning}
use Rattle.triple_store.specs.StoreState.{limit_of}
use Rattle.lean_holdings.specs.{Holding.counted_by, Kept.holds_in, Kept.seen}
use Rattle.holders.proofs.ByVersion.{by_two_holds}
use Rattle.lean_holdings.proofs.{InStep.links, Named.named_room, Rooming.room_held}
use Rattle.lean_holdings.proofs.holdings.LeanHoldings.facts.Goals as goal

pub returns-clause-room : goal.returns-clause-room
returns-clause-room c =
    let a = c.self.inside in
    rw (← c.self.view_is) (room_held (meaning_by meaning a.holders.by_two) (counted_by a.names) a.store (seen a.pages a.table.records) c.self.invariant.kept.sound c.self.invariant.kept.lean)

pub returns-clause-shared : goal.returns-clause-shared
returns-clause-shared c =
    let a = c.self.inside in
    rw (← c.self.view_is)
    (named_room (meaning_by meaning a.holders.by_two) a.names (seen a.pages a.table.records) c.self.invariant.kept.named (limit_of a.store)
    (room_held (meaning_by meaning a.holders.by_two) (counted_by a.names) a.store (seen a.pages a.table.records) c.self.invariant.kept.sound c.self.invariant.kept.lean))

pub returns-clause-named : goal.returns-clause-named
returns-clause-named c = rw (← c.self.view_is) c.self.invariant.kept.named

pub returns-clause-holders : goal.returns-clause-holders
returns-clause-holders c =
    let a = c.self.inside in
    rw (← c.self.view_is) (by_two_holds a.holders (holds_in a.table.records) (seen a.pages a.table.records) c.self.invariant.by (links a.pages a.table.records))
