-- Over the ids of the records as over their entries.
use Rattle.std.proofs.Common.{ℕ, List, flat_map, ap, ◌∙◌}
use Rattle.entity_model.specs.declared.id.EntityId.{EntityId}
use Rattle.replay_model.specs.{Records.Records, Records.record_of, Transcript.state_line}
use Rattle.transcript.proofs.ByIds.{states_over_ids}
use Rattle.transcript.proofs.states.print_states.Goals as goal

pub returns : goal.returns
returns g c =
    let records : Records = c.args.world.now.replay.played.records in
    let all : List EntityId → List ℕ = flat_map (λ x. state_line x (record_of records x).state) in
    rw (ap all (c.as_slice.ensures ∙ c.in_ok-ids.ensures) ∙ states_over_ids records) at c.print_states_of.ensures
