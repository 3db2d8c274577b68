use Rattle.std.proofs.Common.{arith}
use Rattle.sorted_sets.proofs.Bools.{clash}
use Rattle.slot_keys.proofs.Adding.{first_added, first_apart, other_added, other_apart}
use Rattle.slot_keys.proofs.added.Added.insert.Goals as goal

pub returns-then-is_empty-clause-added : goal.returns-then-is_empty-clause-added
returns-then-is_empty-clause-added c = first_added c.args.self.now.firsts.items c.args.self.now.others.keys c.args.key c.len.result c.bucket_of-bucket.result (omega (arith, c.len.ensures, c.args.self.now.firsts.ok.0)) c.bucket_of-bucket.ensures (c.is_empty.ensures.0 c.if-is_empty.true) c.requires.apart.apart

pub returns-then-is_empty-clause-apart : goal.returns-then-is_empty-clause-apart
returns-then-is_empty-clause-apart c = record {
  apart = first_apart c.args.self.now.firsts.items c.args.self.now.others.keys c.args.key c.len.result c.bucket_of-bucket.result (omega (arith, c.len.ensures, c.args.self.now.firsts.ok.0)) c.bucket_of-bucket.ensures (c.is_empty.ensures.0 c.if-is_empty.true) c.requires.apart.apart;
}

pub returns-clause-added : goal.returns-clause-added
returns-clause-added c = rw c.in_ok-insert.ensures.keys (other_added c.args.self.now.firsts.items c.args.self.now.others.keys c.args.key c.len.result c.bucket_of-bucket.result (omega (arith, c.len.ensures, c.args.self.now.firsts.ok.0)) c.bucket_of-bucket.ensures (λ e. clash (c.is_empty.ensures.1 e) c.if-is_empty.false))

pub returns-clause-apart : goal.returns-clause-apart
returns-clause-apart c = record {
  apart = rw c.in_ok-insert.ensures.keys (other_apart c.args.self.now.firsts.items c.args.self.now.others.keys c.args.key c.len.result c.bucket_of-bucket.result (omega (arith, c.len.ensures, c.args.self.now.firsts.ok.0)) c.bucket_of-bucket.ensures (λ e. clash (c.is_empty.ensures.1 e) c.if-is_empty.false) c.requires.apart.apart);
}
