-- The head, the triples that come and those that go, one after the other.
use Rattle.std.proofs.Common.{flat_map}
use Rattle.rdf_term.specs.Text.{triple_text}
use Rattle.replica.proofs.Records.{appends_on, record_parts}
use Rattle.replica.proofs.record.write_patch.Goals as goal

pub returns : goal.returns
returns c =
    rw (record_parts c.args.item.now)
    (appends_on c.args.out.now.items c.write_head.new.out.items c.write_triples-2.new.out.items _ _ c.write_triples-2.result c.in_ok-write_head.ensures
    (appends_on c.write_head.new.out.items c.write_triples.new.out.items c.write_triples-2.new.out.items (flat_map triple_text c.args.item.now.adds) (flat_map triple_text c.args.item.now.removes) c.write_triples-2.result c.in_ok-write_triples.ensures c.write_triples-2.ensures))
