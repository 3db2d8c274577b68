-- Without a page nothing is stored, and an entity that can't be counted in is counted out again.
use Rattle.std.proofs.Common.{rules, ◌≡◌, None, ap, ◌∙◌}
use Rattle.std.specs.FinMap as map
use Rattle.entity_counts.specs.Naming.{Naming, counted_in}
use Rattle.lean_holdings.specs.Kept.{kept_of}
use Rattle.lean_holdings.proofs.CountedIn.{goes_without, out_again}
use Rattle.lean_holdings.proofs.counting.count_page.Goals as goal

pub returns-then-is_none-clause-counted : goal.returns-then-is_none-clause-counted
returns-then-is_none-clause-counted c m pages h meant =
    let none : (kept_of c.args.table.now.records c.args.id).held ≡ None = search rules in
    let put : c.count_in.new.self ≡ counted_in c.args.names.now c.args.id = search rules in
    rw put (goes_without m c.args.id c.args.store.now pages c.args.names.now c.args.table.now.records none h)

pub returns-in-Err-clause-err_names : goal.returns-in-Err-clause-err_names
returns-in-Err-clause-err_names c =
    let put : c.count_in.new.self ≡ counted_in c.args.names.now c.args.id = search rules in
    c.count_out.ensures ∙ ap (λ (n : Naming). map.remove n c.args.id) put ∙ out_again c.args.names.now c.args.id c.requires.new
