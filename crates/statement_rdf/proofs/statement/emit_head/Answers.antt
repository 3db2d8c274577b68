-- The claim, the class and the rank, and the class of a best one.
use Rattle.std.proofs.Common.{[], ◌∷◌, ◌++◌}
use Rattle.rdf_term.specs.Triple.{triple}
use Rattle.rdf_vocabulary.specs.declared.predicate.Predicate.TheVariants.{Rank}
use Rattle.rdf_vocabulary.specs.declared.prefix.Prefix.TheVariants.{P}
use Rattle.rdf_vocabulary.specs.declared.resource.Resource.TheVariants.{BestRank, Statement}
use Rattle.rdf_vocabulary.specs.Predicate.{predicate_term}
use Rattle.rdf_vocabulary.specs.Prefix.{id_term}
use Rattle.rdf_vocabulary.specs.Resource.{class_triple, resource_term}
use Rattle.triple_sink.specs.TermRef.{meant}
use Rattle.triple_sink.proofs.Gained.{gains_then}
use Rattle.statement_rdf.specs.Statement.{rank_resource}
use Rattle.statement_rdf.proofs.statement.emit_head.Goals as goal

pub returns-else-best-clause-gains : goal.returns-else-best-clause-gains
returns-else-best-clause-gains g c =
    let s = g.S.TripleSink in
    let entity = meant c.args.entity.now in
    let node = meant c.args.node.now in
    let statement = c.args.statement.now in
    let claim = triple entity (id_term P statement.property) node ∷ [] in
    let class = class_triple node Statement ∷ [] in
    let rank = triple node (predicate_term Rank) (resource_term (rank_resource statement.rank)) ∷ [] in
    let two = gains_then s.items s.keeps c.args.out.now c.emit.new.self c.emit_class.new.out claim class
    c.in_ok-emit.ensures.gains c.in_ok-emit_class.ensures.gains in
    rw c.if-best.false (gains_then s.items s.keeps c.args.out.now c.emit_class.new.out c.emit_about.new.out (claim ++ class) rank two
    (rw c.rank_resource.ensures at c.in_ok-emit_about.ensures.gains))

pub returns-in_ok-emit_class-2-clause-gains : goal.returns-in_ok-emit_class-2-clause-gains
returns-in_ok-emit_class-2-clause-gains g c =
    let s = g.S.TripleSink in
    let entity = meant c.args.entity.now in
    let node = meant c.args.node.now in
    let statement = c.args.statement.now in
    let claim = triple entity (id_term P statement.property) node ∷ [] in
    let class = class_triple node Statement ∷ [] in
    let rank = triple node (predicate_term Rank) (resource_term (rank_resource statement.rank)) ∷ [] in
    let two = gains_then s.items s.keeps c.args.out.now c.emit.new.self c.emit_class.new.out claim class
    c.in_ok-emit.ensures.gains c.in_ok-emit_class.ensures.gains in
    let three = gains_then s.items s.keeps c.args.out.now c.emit_class.new.out c.emit_about.new.out (claim ++ class) rank two
    (rw c.rank_resource.ensures at c.in_ok-emit_about.ensures.gains) in
    rw c.if-best.true (gains_then s.items s.keeps c.args.out.now c.emit_about.new.out c.emit_class-then-best.new.out (claim ++ class ++ rank) (class_triple node BestRank ∷ []) three
    c.in_ok-emit_class-2.ensures.gains)
