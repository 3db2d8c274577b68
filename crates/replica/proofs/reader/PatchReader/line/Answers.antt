-- The line stands behind those that were read before it.
use Rattle.std.proofs.Common.{◌≡◌, ◌∙◌}
use Rattle.replica.proofs.Records.{taken_lines}
use Rattle.replica.proofs.reader.PatchReader.line.Goals as goal

pub returns-in-Ok-clause-lines : goal.returns-in-Ok-clause-lines
returns-in-Ok-clause-lines c =
    let old : c.take.result ≡ c.args.self.now = c.take.ensures.value ∙ c.self.view_is in
    let grows = rw old at c.in-Ok.ensures.ok.0 in
    let unfinished = rw c.self.view_is at c.self.invariant in
    rw (c.settle.ensures.found, c.settle.ensures.left) (taken_lines c.args.self.now c.args.line.now c.in-Ok.begun unfinished grows)
