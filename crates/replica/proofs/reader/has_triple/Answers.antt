-- Each step leaves out a half, whose triples are lower or greater.
use Rattle.std.proofs.Common.{◌+◌, ◌-◌, ◌/◌, sym, arith}
use Rattle.replica.proofs.ByTexts.{found_here, from_here, not_found, up_to_here, whole_between}
use Rattle.replica.proofs.reader.has_triple.Goals as goal

pub loop-low-init : goal.loop-low-init
loop-low-init c = (omega arith, omega (arith, c.len-high.ensures), λ triple is. rw c.len-high.ensures (whole_between c.args.triples.now triple))

pub loop-low-preserved-in-Less : goal.loop-low-preserved-in-Less
loop-low-preserved-in-Less c =
    let inv = c.loop-low.invariant in
    let test = c.loop-low-test.true in
    let middle = c.loop-low.low + (c.loop-low.high - c.loop-low.low) / 2 in (
      omega (arith, inv.0, inv.1, test),
      inv.1,
      λ triple is. from_here c.args.triples.now middle c.get.result c.args.texts.now triple c.requires (omega (arith, inv.0, inv.1, test)) c.get.ensures is
          c.loop-low.low c.loop-low.high (sym c.in-Less.ensures) (inv.2 triple is),
    )

pub returns-in-Equal : goal.returns-in-Equal
returns-in-Equal c = λ triple is.
    let inv = c.loop-low.invariant in
    let test = c.loop-low-test.true in
    let middle = c.loop-low.low + (c.loop-low.high - c.loop-low.low) / 2 in
    sym (found_here c.args.triples.now middle c.get.result c.args.texts.now triple c.requires (omega (arith, inv.0, inv.1, test)) c.get.ensures is (sym c.in-Equal.ensures))

pub loop-low-preserved : goal.loop-low-preserved
loop-low-preserved c =
    let inv = c.loop-low.invariant in
    let test = c.loop-low-test.true in
    let middle = c.loop-low.low + (c.loop-low.high - c.loop-low.low) / 2 in (
      omega (arith, inv.0, inv.1, test),
      omega (arith, inv.0, inv.1, test),
      λ triple is. up_to_here c.args.triples.now middle c.get.result c.args.texts.now triple c.requires (omega (arith, inv.0, inv.1, test)) c.get.ensures is
          c.loop-low.low c.loop-low.high (sym c.in-Greater.ensures) (inv.2 triple is),
    )

pub returns : goal.returns
returns c = λ triple is.
    let inv = c.loop-low.invariant in
    sym (not_found c.args.triples.now triple c.loop-low.low c.loop-low.high (omega (arith, c.loop-low-test.false)) (inv.2 triple is))
