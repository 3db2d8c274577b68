-- One shelf gets a spare block, and the others are as they were.
use Rattle.std.proofs.Common.{◌<◌, length, None, refl, sym, subst}
use Rattle.std.specs.Prelude.{IsSome}
use Rattle.text_region.specs.Region.{bytes_of}
use Rattle.text_region.proofs.Steps.{class_there, frees, shelves_freed, updates}
use Rattle.text_region.proofs.region.Region.free.Goals as goal

there : (c : goal.After-self-1) → c.args.piece.class < length c.self.inside.shelves.items
there c = class_there c.self.inside.shelves.items c.args.piece (subst (λ t. IsSome (bytes_of t c.args.piece)) (sym c.self.view_is) c.requires)

pub invariant_of-self : goal.invariant_of-self
invariant_of-self c =
    shelves_freed c.self.inside.shelves.items c.args.piece.class c.index_mut.result.now c.free.new.self (there c) c.index_mut.ensures.value c.self.invariant c.free.ensures.size c.args.piece.number c.free.ensures.blocks

pub returns-clause-updates : goal.returns-clause-updates
returns-clause-updates c =
    rw (← c.self.view_is) (updates c.self.inside.shelves.items c.args.piece.class c.index_mut.result.now c.free.new.self (there c) c.index_mut.ensures.value c.args.piece None refl c.free.ensures.blocks.gone c.free.ensures.blocks.others)

pub returns-clause-frees : goal.returns-clause-frees
returns-clause-frees c =
    rw (← c.self.view_is) (frees c.self.inside.shelves.items c.args.piece.class c.index_mut.result.now c.free.new.self (there c) c.index_mut.ensures.value c.args.piece.number c.free.ensures.blocks)
