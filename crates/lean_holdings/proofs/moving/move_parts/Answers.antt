-- The parts came, and the names moved.
use Rattle.std.proofs.Common.{◌+◌, sym, ap, ◌∙◌}
use Rattle.sorted_sets.specs.{Counting.one_if, Rising.has}
use Rattle.entity_model.specs.EntityId.{entity_cmp}
use Rattle.entity_counts.specs.Naming.{pages_naming}
use Rattle.lean_holdings.proofs.moving.move_parts.Goals as goal

pub move_names-requires-clause-gone_rise : goal.move_names-requires-clause-gone_rise
move_names-requires-clause-gone_rise c = rw c.as_slice.ensures.value c.requires.may_move.gone_rise

pub move_names-requires-clause-come_rise : goal.move_names-requires-clause-come_rise
move_names-requires-clause-come_rise c = rw c.as_slice-in-Ok.ensures.value c.requires.may_move.come_rise

pub move_names-requires-clause-counted : goal.move_names-requires-clause-counted
move_names-requires-clause-counted c = rw c.as_slice-in-Ok.ensures.value c.requires.may_move.counted

pub move_names-requires-clause-named : goal.move_names-requires-clause-named
move_names-requires-clause-named c = rw c.as_slice.ensures.value c.requires.may_move.named

pub move_names-requires-clause-few : goal.move_names-requires-clause-few
move_names-requires-clause-few c = c.requires.may_move.few

pub returns-in-Ok-clause-moved : goal.returns-in-Ok-clause-moved
returns-in-Ok-clause-moved c = record {
  exchanged = rw c.own.ensures at c.in-Ok.ensures.exchanged.done;
  rest = c.exchange_parts.ensures.rest;
  counted = c.move_names.ensures.counted;
  named = λ y.
      ap (λ ids. pages_naming c.move_names.new.names y + one_if (has entity_cmp y ids)) (sym c.as_slice.ensures.value)
      ∙ c.move_names.ensures.named y
      ∙ ap (λ ids. pages_naming c.args.names.now y + one_if (has entity_cmp y ids)) c.as_slice-in-Ok.ensures.value;
}
