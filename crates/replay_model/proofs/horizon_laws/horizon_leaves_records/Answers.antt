-- A horizon makes events late, and changes nothing else.
use Rattle.replay_model.proofs.HorizonEntries.{others-played, fetches-alike, fetches_to_end-alike}
use Rattle.replay_model.proofs.Horizons.{accepted-alike, records-alike}
use Rattle.replay_model.proofs.Known.{has-known}
use Rattle.replay_model.proofs.horizon_laws.horizon_leaves_records.Goals as goal

pub returns-clause-accepted : goal.returns-clause-accepted
returns-clause-accepted c = accepted-alike

pub returns-clause-records : goal.returns-clause-records
returns-clause-records c = records-alike

pub returns-clause-known : goal.returns-clause-known
returns-clause-known c = has-known

pub returns-clause-entries : goal.returns-clause-entries
returns-clause-entries c = others-played

pub returns-clause-fetches : goal.returns-clause-fetches
returns-clause-fetches c = fetches-alike

pub returns-clause-fetches_to_end : goal.returns-clause-fetches_to_end
returns-clause-fetches_to_end c = fetches_to_end-alike
