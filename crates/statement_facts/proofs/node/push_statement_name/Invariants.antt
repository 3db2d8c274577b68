-- The name of the bytes so far stands behind what was there.
use Rattle.std.proofs.Common.{◌≡◌, ◌++◌, take, string_bytes}
use Rattle.statement_facts.specs.Node.{statement_name}
use Rattle.statement_facts.proofs.node.push_statement_name.Given as goal

abbrev pub invariant-loop-byte : goal.invariant-loop-byte
invariant-loop-byte l = string_bytes l.name ≡ string_bytes l.fn.name ++ statement_name (take l.byte-index l.id)
