-- Without a page nothing is stored of it.
use Rattle.std.proofs.Common.{rules, ◌≡◌, None}
use Rattle.lean_holdings.specs.Kept.{kept_of}
use Rattle.lean_holdings.proofs.GoingOut.{goes_bare}
use Rattle.lean_holdings.proofs.counting.uncount_page.Goals as goal

pub returns-then-is_none-clause-uncounted : goal.returns-then-is_none-clause-uncounted
returns-then-is_none-clause-uncounted c m pages h meant =
    let none : (kept_of c.args.table.now.records c.args.id).held ≡ None = search rules in
    rw c.count_out.ensures (goes_bare m c.args.id c.args.store.now pages c.args.names.now c.args.table.now.records none c.requires.counted c.requires.unnamed h)

pub returns-in-Ok-clause-uncounted : goal.returns-in-Ok-clause-uncounted
returns-in-Ok-clause-uncounted c m pages h meant =
    rw c.count_out-in-Ok.ensures (c.in-Ok.ensures.uncounted m pages c.args.names.now h c.requires.counted c.requires.unnamed meant)
