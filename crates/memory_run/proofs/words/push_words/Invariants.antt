-- The lines so far, each as a word.
use Rattle.std.proofs.Common.{◌≡◌, ◌++◌, map, take, string_bytes}
use Rattle.memory_run.proofs.words.push_words.Given as goal

abbrev pub invariant-loop-line : goal.invariant-loop-line
invariant-loop-line l = map (λ w. string_bytes w) l.words.items ≡ map (λ w. string_bytes w) l.fn.words.items ++ map (λ line. line.now) (take l.line-index l.lines)
