-- Each round passes what is plain of the first sixteen bytes.
use Rattle.std.proofs.Common.{length, take, drop, ap, ◌∙◌, arith}
use Rattle.std.proofs.lemmas.List.{length-take, length-drop}
use Rattle.std.proofs.lemmas.List.Sums.{prefix_len-le-length}
use Rattle.json_spell.specs.Reading.{skip}
use Rattle.json_spell.specs.Runs.{is_plain}
use Rattle.json_spell.proofs.Lanes.{skip-past, skip-within}
use Rattle.json_reader.proofs.runs.skip_plain.Goals as goal

pub past-left-requires : goal.past-left-requires
past-left-requires c =
    let left = c.loop-left.left.now in
    omega (arith, c.plain_lanes-passed.ensures, prefix_len-le-length is_plain (take 16 left), length-take 16 left)

pub returns-then-passed-lt-LANES-clause-rest : goal.returns-then-passed-lt-LANES-clause-rest
returns-then-passed-lt-LANES-clause-rest c =
    let left = c.loop-left.left.now in
    c.past-left.ensures ∙ ap (λ n. drop n left) c.plain_lanes-passed.ensures
    ∙ skip-within is_plain 16 left (omega arith) (omega (arith, c.plain_lanes-passed.ensures, c.if-passed-lt-LANES.true)) ∙ c.loop-left.invariant.0

pub loop-left-preserved : goal.loop-left-preserved
loop-left-preserved c =
    let left = c.loop-left.left.now in
    let there = c.past-left.ensures ∙ ap (λ n. drop n left) c.plain_lanes-passed.ensures in (
      ap (skip is_plain) there ∙ skip-past is_plain 16 left ∙ c.loop-left.invariant.0,
      omega (arith, ap length c.past-left.ensures, length-drop c.plain_lanes-passed.result left, c.loop-left.invariant.1),
    )
