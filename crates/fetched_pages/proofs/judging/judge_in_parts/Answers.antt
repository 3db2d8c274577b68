-- All triples are meant, whatever is held.
use Rattle.fetched_pages.proofs.judging.judge_in_parts.Goals as goal

pub returns-clause-meant : goal.returns-clause-meant
returns-clause-meant c records by_two h = c.judge_whole.ensures.meant records by_two
