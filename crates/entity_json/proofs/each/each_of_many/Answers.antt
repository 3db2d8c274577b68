-- The first of the members left is an entry, where its flag says so.
use Rattle.std.proofs.Common.{sym, ◌∙◌}
use Rattle.entity_json.proofs.Entried.{flagged-read}
use Rattle.entity_json.proofs.each.each_of_many.Goals as goal

pub loop-left-preserved-in_ok-read : goal.loop-left-preserved-in_ok-read
loop-left-preserved-in_ok-read g c =
    let p =
    flagged-read (g.R.EntryReader.reads c.args.reader.now) c.loop-left.flags.items c.pop.new.self.items c.pop.result c.loop-left.left.now _ c.loop-left.out c.read.new.out
    c.in-len1-up.len_at_least c.pop.ensures.items (sym c.eq.ensures ∙ c.if-eq.true) c.loop-left.invariant.flagged c.in_ok-read.ensures in
    record { same = p.0 ∙ c.loop-left.invariant.same; flagged = p.1 }
