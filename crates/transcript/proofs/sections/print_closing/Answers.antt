-- The sections follow one another; where one isn't ended, it is a prefix of them.
use Rattle.std.proofs.Common.{ℕ, List, [], ◌++◌, cond, Ok}
use Rattle.std.proofs.lemmas.Result.{err_from_is_err_and}
use Rattle.rdf_term.specs.Order.{triple_cmp}
use Rattle.replay_model.specs.{Transcript.export_section, Transcript.side_section, Transcript.state_section, Union.union}
use Rattle.replay_model.specs.Versions.{meaning_by}
use Rattle.fetched_pages.specs.Meaning.{meaning}
use Rattle.text_output.proofs.Parts.{prints_both, prints_first}
use Rattle.transcript.proofs.sections.print_closing.Goals as goal

pub returns-in_err-print_export : goal.returns-in_err-print_export
returns-in_err-print_export g c =
    let world = c.args.world.now.replay.played in
    let exported : List ℕ = cond c.args.sections.export (export_section (union triple_cmp (meaning_by meaning c.args.world.now.by_two) world.records)) [] in
    let stated : List ℕ = cond c.args.sections.state (state_section world.records) [] in
    let named : List ℕ = cond c.args.sections.side (side_section world.records world.side) [] in
    let p = err_from_is_err_and c.from_residual.result c.from_residual.ensures.1 in
    rw (p.1, p.2) (prints_first _ (exported ++ stated) named _ _ (prints_first _ exported stated _ _ c.in_err-print_export.ensures))

pub returns-in_err-print_state : goal.returns-in_err-print_state
returns-in_err-print_state g c =
    let world = c.args.world.now.replay.played in
    let exported : List ℕ = cond c.args.sections.export (export_section (union triple_cmp (meaning_by meaning c.args.world.now.by_two) world.records)) [] in
    let stated : List ℕ = cond c.args.sections.state (state_section world.records) [] in
    let named : List ℕ = cond c.args.sections.side (side_section world.records world.side) [] in
    let p = err_from_is_err_and c.from_residual-in_err-print_state.result c.from_residual-in_err-print_state.ensures.1 in
    rw (p.1, p.2) (prints_first _ (exported ++ stated) named _ _ (prints_both _ exported stated _ _ _ c.in_ok-print_export.ensures c.in_err-print_state.ensures))

pub returns : goal.returns
returns g c =
    let world = c.args.world.now.replay.played in
    let exported : List ℕ = cond c.args.sections.export (export_section (union triple_cmp (meaning_by meaning c.args.world.now.by_two) world.records)) [] in
    let stated : List ℕ = cond c.args.sections.state (state_section world.records) [] in
    let named : List ℕ = cond c.args.sections.side (side_section world.records world.side) [] in
    prints_both _ (exported ++ stated) named _ _ _ (prints_both (Ok tt) exported stated _ _ _ c.in_ok-print_export.ensures c.in_ok-print_state.ensures) c.print_side.ensures
