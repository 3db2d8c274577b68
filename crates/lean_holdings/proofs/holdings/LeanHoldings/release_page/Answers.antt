-- The parts are those of the version that the page is mapped by.
use Rattle.std.proofs.Common.{◌≡◌, refl, sym}
use Rattle.replay_model.specs.Versions.{version_at}
use Rattle.lean_holdings.proofs.Stepping.{parts_by}
use Rattle.lean_holdings.proofs.holdings.LeanHoldings.release_page.Goals as goal

pub put_nothing-released-requires-clause-gone : goal.put_nothing-released-requires-clause-gone
put_nothing-released-requires-clause-gone c =
    let is : version_at c.args.self.now.by_two c.args.id ≡ c.version_in-version.result = rw (← c.self.view_is) (sym c.version_in-version.ensures) in
    parts_by _ _ _ _ is _ _ (c.in_ok-gone.ensures _ refl)
