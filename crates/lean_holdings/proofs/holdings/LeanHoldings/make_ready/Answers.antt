-- The parts are those of the version that the page is mapped by.
use Rattle.std.proofs.Common.{◌≡◌, refl, sym}
use Rattle.replay_model.specs.Versions.{version_at}
use Rattle.lean_holdings.proofs.Stepping.{parts_by}
use Rattle.lean_holdings.proofs.holdings.LeanHoldings.make_ready.Goals as goal

pub returns-in-Ok-clause-gone : goal.returns-in-Ok-clause-gone
returns-in-Ok-clause-gone c =
    let is : version_at c.count_all.new.self.by_two c.args.id ≡ c.version_in-version.result = rw (← c.self.view_is) (sym c.version_in-version.ensures) in
    parts_by _ _ _ _ is _ _ (c.in-Ok.ensures _ refl)
