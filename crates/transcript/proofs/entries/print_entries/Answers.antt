-- One line more, and where a line isn't ended.
use Rattle.std.proofs.Common.{◌≡◌, ◌<◌, length, take, arith}
use Rattle.std.proofs.lemmas.List.{take_all}
use Rattle.std.proofs.lemmas.Result.{err_from_is_err_and}
use Rattle.transcript.specs.Sections.{entry_text}
use Rattle.text_output.proofs.Parts.{not_handed, text_cut_short, text_more_at, text_printed}
use Rattle.replay_model.specs.Transcript.{side_section}
use Rattle.text_output.specs.Printing.{output}
use Rattle.transcript.proofs.EntryLines.{some_counted}
use Rattle.transcript.proofs.entries.print_entries.Goals as goal

pub loop-index-preserved : goal.loop-index-preserved
loop-index-preserved g c =
    let within : c.loop-index.index < length c.args.world.now.replay.played.side = omega arith in
    text_printed (entry_text c.args.world.now.replay.played.records) c.args.world.now.replay.played.side c.loop-index.index _ _ _ _
    (text_more_at (entry_text c.args.world.now.replay.played.records) c.args.world.now.replay.played.side c.loop-index.index within) c.loop-index.invariant c.in_ok-print_entry.ensures

pub returns-in_err-print_entry : goal.returns-in_err-print_entry
returns-in_err-print_entry g c =
    let within : c.loop-index.index < length c.args.world.now.replay.played.side = omega arith in
    let p = err_from_is_err_and c.from_residual.result c.from_residual.ensures.1 in
    rw (p.1, p.2) (not_handed _ _ _ _ (text_cut_short (entry_text c.args.world.now.replay.played.records) c.args.world.now.replay.played.side c.loop-index.index _ _ _ _ _
    (text_more_at (entry_text c.args.world.now.replay.played.records) c.args.world.now.replay.played.side c.loop-index.index within) c.loop-index.invariant c.in_err-print_entry.ensures))

pub returns : goal.returns
returns g c =
    let all : take c.loop-index.index c.args.world.now.replay.played.side ≡ c.args.world.now.replay.played.side = take_all c.loop-index.index c.args.world.now.replay.played.side (omega arith) in
    c.flush.ensures (side_section c.args.world.now.replay.played.records c.args.world.now.replay.played.side) (output g.K.Sink c.args.out.now)
    (some_counted c.args.world.now.replay.played.records c.args.world.now.replay.played.side _ c.side_len.ensures) (rw all at c.loop-index.invariant)
