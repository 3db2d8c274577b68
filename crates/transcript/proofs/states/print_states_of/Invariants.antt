-- The lines of the states so far were written, and whether any byte was.
use Rattle.std.proofs.Common.{◌≡◌, length, nat_lt, take, Ok}
use Rattle.std.specs.List.{flat_map}
use Rattle.replay_model.specs.{Records.record_of, Transcript.state_line}
use Rattle.text_output.specs.Printing.{Puts, output}
use Rattle.transcript.proofs.states.print_states_of.Given as goal

abbrev pub invariant-loop-id : goal.invariant-loop-id
invariant-loop-id g l =
    Puts (flat_map (λ x. state_line x (record_of l.world.replay.played.records x).state) (take l.id-index l.ids)) (output g.K.Sink l.fn.out) (output g.K.Sink l.out) (Ok tt)
    × (l.is_printed ≡ nat_lt 0 (length (flat_map (λ x. state_line x (record_of l.world.replay.played.records x).state) (take l.id-index l.ids))))
