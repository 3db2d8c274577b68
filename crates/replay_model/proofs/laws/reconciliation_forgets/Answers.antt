-- An event put below a reconciliation leaves the fold.
use Rattle.entity_state.specs.State.{unknown}
use Rattle.entity_model.specs.Event.{event_cmp, event_cmp_same}
use Rattle.std.proofs.Common.{◌∙◌}
use Rattle.sorted_sets.proofs.Finding.{list_any-sorted}
use Rattle.replay_model.specs.Entries.{is_later}
use Rattle.replay_model.specs.Fate.{in_order}
use Rattle.replay_model.proofs.Known.{place_below}
use Rattle.replay_model.proofs.laws.reconciliation_forgets.Goals as goal

pub returns-clause-added : goal.returns-clause-added
returns-clause-added c e es later = place_below e (in_order es) (list_any-sorted event_cmp event_cmp_same (is_later e) es ∙ later) unknown
