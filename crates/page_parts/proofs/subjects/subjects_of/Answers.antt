-- The second page's subjects come behind the first one's, and a sort moves them only.
use Rattle.std.proofs.Common.{length}
use Rattle.page_parts.proofs.Ranking.{subjects_kept, subjects_moved}
use Rattle.page_parts.proofs.subjects.subjects_of.Goals as goal

pub returns-clause-first : goal.returns-clause-first
returns-clause-first c =
    let triples = c.args.first.now in
    subjects_moved _ _ triples (length triples) c.sort_subjects.ensures.same
    (subjects_kept _ _ triples (length triples) c.in_ok-push_subjects-2.ensures.kept c.in_ok-push_subjects.ensures.all)

pub returns-clause-second : goal.returns-clause-second
returns-clause-second c =
    let triples = c.args.second.now in
    subjects_moved _ _ triples (length triples) c.sort_subjects.ensures.same c.in_ok-push_subjects-2.ensures.all
