-- The counts of a document that changed.
use Rattle.std.proofs.Common.{◌≡◌, ℕ, ◌+◌, List, [], ◌∷◌, cond, length, inl, inr, refl, sym, ap, ◌∙◌, arith}
use Rattle.sorted_sets.specs.Merging.{Changes, Merges}
use Rattle.sorted_sets.proofs.Balanced.{merged_sum}
use Rattle.entity_model.specs.declared.statement.Statement.{Statement}
use Rattle.entity_model.specs.declared.entity.Entity.{Entity}
use Rattle.entity_model.specs.Changes.{EntityChanges}
use Rattle.page_rdf.specs.Dataset.{is_identifier}
use Rattle.page_rdf.specs.declared.counts.Counts.{Counts}
use Rattle.page_rdf.specs.Counted.{AreAfter, counts_of}

-- a merged list is as long as its parts together
length_merged : {A : Type 0} (xs ys zs : List A) → Merges xs ys zs → length zs ≡ length xs + length ys
length_merged xs ys [] h = omega (arith, ap length h.0, ap length h.1)
length_merged xs ys (z ∷ zs) (inl h) = omega (arith, length_merged h.rest ys zs h.holds, ap length h.is)
length_merged xs ys (z ∷ zs) (inr h) = omega (arith, length_merged xs h.rest zs h.holds, ap length h.is)

pub counts_change : (old new gone come : Entity) → EntityChanges old new gone come → AreAfter (counts_of old) (counts_of gone) (counts_of come) (counts_of new)
counts_change old new gone come h =
    let was = h.statements.was in
    let is = h.statements.is in
    record {
      statements = omega (arith, length_merged h.statements.common gone.statements old.statements was, length_merged h.statements.common come.statements new.statements is);
      identifiers = omega (
        arith,
        merged_sum (λ (s : Statement). cond (is_identifier s) 1 0) h.statements.common gone.statements old.statements was,
        merged_sum (λ (s : Statement). cond (is_identifier s) 1 0) h.statements.common come.statements new.statements is,
      );
      links = omega (arith, length_merged h.links.common gone.links old.links h.links.was, length_merged h.links.common come.links new.links h.links.is);
    }

-- counts that come to what those of the new document come to are these
same_counts : (old gone come now new : Counts) → AreAfter old gone come now → AreAfter old gone come new → now ≡ new
same_counts old gone come now new h k i =
    let statements : now.statements ≡ new.statements = omega (arith, h.statements, k.statements) in
    let identifiers : now.identifiers ≡ new.identifiers = omega (arith, h.identifiers, k.identifiers) in
    let links : now.links ≡ new.links = omega (arith, h.links, k.links) in
    record { statements = statements i; identifiers = identifiers i; links = links i }

pub counts_after : (old new gone come : Entity) (now : Counts) → EntityChanges old new gone come → AreAfter (counts_of old) (counts_of gone) (counts_of come) now → now ≡ counts_of new
counts_after old new gone come now changes h = same_counts (counts_of old) (counts_of gone) (counts_of come) now (counts_of new) h (counts_change old new gone come changes)
