use Rattle.std.proofs.Common.{sym, ◌∙◌}
use Rattle.rdf_term.proofs.Escapes.{parts_tied, parts_decided}
use Rattle.rdf_term.proofs.order.compare_iris.Goals as goal

pub returns-in-Equal : goal.returns-in-Equal
returns-in-Equal c = parts_tied _ _ _ _ _ _ (sym c.as_bytes-a.ensures ∙ c.split_at.ensures.by_index.0) (sym c.as_bytes-b.ensures ∙ c.split_at-2.ensures.by_index.0) (c.split_at.ensures.front_len ∙ sym c.split_at-2.ensures.front_len) _ _ c.cmp.ensures c.in-Equal.is c.compare_ends.ensures

pub returns-in_default : goal.returns-in_default
returns-in_default c = parts_decided _ _ _ _ _ _ (sym c.as_bytes-a.ensures ∙ c.split_at.ensures.by_index.0) (sym c.as_bytes-b.ensures ∙ c.split_at-2.ensures.by_index.0) (c.split_at.ensures.front_len ∙ sym c.split_at-2.ensures.front_len) _ c.cmp.ensures c.in_default.not-Equal
