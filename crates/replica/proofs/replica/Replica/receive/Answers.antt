-- A record that is known changes nothing, and a new one waits.
use Rattle.std.proofs.Common.{◌∙◌, sym}
use Rattle.std.proofs.lemmas.Result.{on_ok_weaker}
use Rattle.replica.proofs.Following.{follows_again, follows_new}
use Rattle.replica.proofs.replica.Replica.receive.Goals as goal

pub returns-then-is_known-clause-follows : goal.returns-then-is_known-clause-follows
returns-then-is_known-clause-follows c = λ items follows.
    follows_again items c.args.item c.args.self.now c.requires.numbered (sym c.is_known.ensures ∙ c.if-is_known.true) follows

pub returns-else-is_known-clause-follows : goal.returns-else-is_known-clause-follows
returns-else-is_known-clause-follows c =
    on_ok_weaker c.keep.result (λ waits items follows.
    follows_new items c.args.item c.args.self.now c.keep.new.self c.keep.ensures.others waits (sym c.is_known.ensures ∙ c.if-is_known.false) follows) c.keep.ensures.waits
