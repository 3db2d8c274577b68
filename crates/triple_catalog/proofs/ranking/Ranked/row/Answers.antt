-- Each of the three texts has the rank of its place.
use Rattle.std.proofs.Common.{sym, subst, length}
use Rattle.triple_catalog.specs.Ranks.{IsWithin}
use Rattle.triple_catalog.proofs.ByRank.{row_is}
use Rattle.triple_catalog.proofs.ranking.Ranked.row.Goals as goal

pub returns-clause-triple : goal.returns-clause-triple
returns-clause-triple c =
    let ranked = c.args.self.now in
    let key = c.index-key.result.now in
    row_is ranked.terms.items ranked.keys.items c.args.index key c.index.result.now c.index-2.result.now c.index-3.result.now
    c.requires.index c.index-key.ensures (subst (IsWithin (length ranked.terms.items)) (sym c.index-key.ensures) (c.requires.rows.within c.args.index key c.requires.index))
    c.index.ensures c.index-2.ensures c.index-3.ensures
