-- By the lemma on the position of the first line feed.
use Rattle.wq_io.proofs.LineFeeds.{line_feed_position}
use Rattle.wq_io.proofs.line_end.line_feed_at.Goals as goal

pub returns : goal.returns
returns c = rw c.first_line_feed.ensures (line_feed_position c.args.bytes.now)
