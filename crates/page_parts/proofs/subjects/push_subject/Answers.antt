-- The subject is that of the triple before, or is pushed.
use Rattle.std.proofs.Common.{refl}
use Rattle.page_parts.proofs.Ranking.{subject_again, subject_pushed}
use Rattle.page_parts.specs.Row.{subject_texts}
use Rattle.page_parts.proofs.subjects.push_subject.Goals as goal

pub returns-then-repeats_subject-clause-next : goal.returns-then-repeats_subject-clause-next
returns-then-repeats_subject-clause-next c = subject_again (subject_texts c.args.subjects.now.items) c.args.texts.now c.args.index (c.repeats_subject.ensures c.if-repeats_subject.true) c.requires.before

pub returns-clause-next : goal.returns-clause-next
returns-clause-next c = subject_pushed c.args.subjects.now.items _ _ c.args.texts.now c.args.index c.get-row.result c.in_ok-push.ensures.items refl c.get-row.ensures c.requires.before
