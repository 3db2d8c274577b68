-- The first of the members left is an entry, or its key comes again.
use Rattle.std.proofs.Common.{sym, ◌∙◌}
use Rattle.entity_json.proofs.Entried.{front-read, front-passed}
use Rattle.entity_json.proofs.each.each_of_few.Goals as goal

pub loop-left-preserved-in_ok-read : goal.loop-left-preserved-in_ok-read
loop-left-preserved-in_ok-read g c =
    front-read (g.R.EntryReader.reads c.args.reader.now) c.loop-left.left.now _ c.loop-left.out c.read.new.out c.in-len1-up.len_at_least
    (sym c.has_key.ensures ∙ c.if-not-has_key.true) c.in_ok-read.ensures ∙ c.loop-left.invariant

pub loop-left-preserved : goal.loop-left-preserved
loop-left-preserved g c =
    front-passed (g.R.EntryReader.reads c.args.reader.now) c.loop-left.left.now _ c.loop-left.out c.in-len1-up.len_at_least
    (sym c.has_key.ensures ∙ c.if-not-has_key.false) ∙ c.loop-left.invariant
