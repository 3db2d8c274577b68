-- The options are those of the command's table.
use Rattle.std.proofs.Common.{◌≡◌, ◌∙◌, Bool, false, ap, ap₂, sym, Some}
use Rattle.arguments.specs.declared.table.Command.{Command}
use Rattle.arguments.specs.declared.table.Command.TheVariants.{Replay as ToReplay, Patches as ToPatches}
use Rattle.arguments.specs.declared.plan.Plan.TheVariants.{Replay, Patches}
use Rattle.arguments.specs.{Options.choices_of, Plan.asked_by, Table.table_of}
use Rattle.arguments.proofs.plan.asked_by.Goals as goal

pub returns-in-Replay-clause-value : goal.returns-in-Replay-clause-value
returns-in-Replay-clause-value c =
    let is : c.args.request.now.command ≡ ToReplay = sym c.command.ensures ∙ c.in-Replay.is in
    ap (λ choices. Some (Replay choices)) (c.of_items.ensures.choices ∙ ap (λ (k : Command). choices_of (table_of k) false c.args.request.now.items) is)
    ∙ ap (λ k. asked_by k c.args.request.now.items) (sym is)

pub returns-in-Patches-clause-value : goal.returns-in-Patches-clause-value
returns-in-Patches-clause-value c =
    let is : c.args.request.now.command ≡ ToPatches = sym c.command.ensures ∙ c.in-Patches.is in
    ap (λ choices. Some (Patches choices))
    (c.of_items-in-Patches.ensures.choices ∙ ap₂ (λ (k : Command) (lean : Bool). choices_of (table_of k) lean c.args.request.now.items) is c.has-lean.ensures)
    ∙ ap (λ k. asked_by k c.args.request.now.items) (sym is)
