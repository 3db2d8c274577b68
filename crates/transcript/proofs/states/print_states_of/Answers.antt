-- One line more, and where a line isn't begun or isn't ended.
use Rattle.std.proofs.Common.{◌≡◌, ◌∙◌, arith, flat_map, take}
use Rattle.std.proofs.lemmas.List.{take_all}
use Rattle.std.proofs.lemmas.Result.{err_from_is_err_and}
use Rattle.replay_model.specs.{Records.record_of, Transcript.state_line}
use Rattle.text_output.proofs.Parts.{not_handed, some_more, text_cut_short, text_more, text_not_begun, text_printed}
use Rattle.text_output.specs.Printing.{output}
use Rattle.transcript.proofs.states.print_states_of.Goals as goal

pub returns-in_err-line : goal.returns-in_err-line
returns-in_err-line g c =
    let p = err_from_is_err_and c.from_residual.result c.from_residual.ensures.1 in
    rw (p.1, p.2) (not_handed _ _ _ _ (text_not_begun (λ x. state_line x (record_of c.args.world.now.replay.played.records x).state) c.args.ids.now c.loop-id.id-index _ _ c.loop-id.invariant.0))

pub returns-in_err-write_all : goal.returns-in_err-write_all
returns-in_err-write_all g c =
    let p = err_from_is_err_and c.from_residual-in_err-write_all.result c.from_residual-in_err-write_all.ensures.1 in
    let line = c.as_bytes-line.ensures.value ∙ (rw c.state.ensures at c.in_ok-line.ensures) in
    rw (p.1, p.2) (not_handed _ _ _ _ (text_cut_short (λ x. state_line x (record_of c.args.world.now.replay.played.records x).state) c.args.ids.now c.loop-id.id-index _ _ _ _ _
    (text_more (λ x. state_line x (record_of c.args.world.now.replay.played.records x).state) c.args.ids.now _ _ c.loop-id-test.true) c.loop-id.invariant.0 (rw line at c.in_err-write_all.ensures)))

pub loop-id-preserved : goal.loop-id-preserved
loop-id-preserved g c =
    let line = c.as_bytes-line.ensures.value ∙ (rw c.state.ensures at c.in_ok-line.ensures) in
    let more = text_more (λ x. state_line x (record_of c.args.world.now.replay.played.records x).state) c.args.ids.now c.loop-id.id-index _ c.loop-id-test.true in (
      text_printed (λ x. state_line x (record_of c.args.world.now.replay.played.records x).state) c.args.ids.now c.loop-id.id-index _ _ _ _ more c.loop-id.invariant.0 (rw line at c.in_ok-write_all.ensures),
      rw more (some_more _ _ _ _ c.loop-id.invariant.1 (rw line at c.is_empty.ensures)),
    )

pub returns : goal.returns
returns g c =
    let all : take c.loop-id.id-index c.args.ids.now ≡ c.args.ids.now = take_all c.loop-id.id-index c.args.ids.now (omega arith) in
    c.flush.ensures (flat_map (λ x. state_line x (record_of c.args.world.now.replay.played.records x).state) c.args.ids.now) (output g.K.Sink c.args.out.now) (rw all at c.loop-id.invariant.1) (rw all at c.loop-id.invariant.0)
