-- What it wrote is a prefix of what is reported of all deliveries.
use Rattle.session_laws.proofs.Begun.{prefix_written, records_written}
use Rattle.session_laws.proofs.reruns.stopped_runs_are_begun_reruns.Goals as goal

pub returns-clause-prefix : goal.returns-clause-prefix
returns-clause-prefix c = λ run before now again done contents bytes place told stop stopped no_page ending text empty is. prefix_written run before now again done ending contents bytes place told stop stopped no_page text empty is

pub returns-clause-records : goal.returns-clause-records
returns-clause-records c = λ run before now again done contents bytes place told stop stopped no_page ending written there changes. records_written run before now again done ending contents bytes place told stop stopped no_page written there changes
