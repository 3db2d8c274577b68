-- The partition point is the first place.
use Rattle.std.proofs.Common.{rules, is_lt}
use Rattle.std.proofs.lemmas.List.Sorted.{IsPartitionPoint-from_clause}
use Rattle.rdf_term.specs.Order.{bytes_cmp}
use Rattle.page_parts.specs.declared.subjects.SubjectText.{SubjectText}
use Rattle.page_parts.proofs.Ranking.{first_place, parted}
use Rattle.page_parts.proofs.subjects.place_of.Goals as goal

pub returns : goal.returns
returns c there =
    let subjects = c.args.subjects.now in
    let text = c.args.text.now in
    let point = IsPartitionPoint-from_clause (λ (s : SubjectText). is_lt (bytes_cmp s.text.now text)) subjects _ c.partition_point.ensures.partitioned (parted subjects text c.requires.sorted) (λ a r q k. search rules) in
    first_place subjects text _ c.requires.sorted c.partition_point.ensures.bound point there
