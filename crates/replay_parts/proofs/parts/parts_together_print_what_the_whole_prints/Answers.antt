-- The union is made of the parts' unions, by the version that is in force in each part, and the rows are a filter of it.
use Rattle.replay_parts.proofs.Together.{rows-together, has-rows_together, union-together, has-union_together, said-together, transcript-together}
use Rattle.replay_parts.proofs.parts.parts_together_print_what_the_whole_prints.Goals as goal

pub returns-clause-rows : goal.returns-clause-rows
returns-clause-rows c = rows-together

pub returns-clause-row : goal.returns-clause-row
returns-clause-row c = has-rows_together

pub returns-clause-union : goal.returns-clause-union
returns-clause-union c = union-together

pub returns-clause-triple : goal.returns-clause-triple
returns-clause-triple c = has-union_together

pub returns-clause-said : goal.returns-clause-said
returns-clause-said c = said-together

pub returns-clause-all : goal.returns-clause-all
returns-clause-all c = transcript-together
