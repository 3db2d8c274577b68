-- What the reader of a whole text answers, by what its part gave.
use Rattle.std.proofs.Common.{◌≡◌, ℕ, List, [], Some, sym, ap, ◌∙◌}
use Rattle.json_spell.specs.declared.fault.JsonFault.{JsonFault}
use Rattle.json_spell.specs.declared.fault.JsonFault.TheVariants.{Deep, NotJson, OutOfMemory}
use Rattle.json_spell.specs.Tree.{Tree}
use Rattle.json_spell.specs.Reading.{spaced, value_at}
use Rattle.json_spell.specs.Parses.{Refuses}
use Rattle.json_spell.specs.Tells.{Excuses}
use Rattle.json_spell.proofs.Opened.{some_is}
use Rattle.json_spell.proofs.Complete.{text-complete}

pub excuses-passed : (bytes : List ℕ) (fault : JsonFault) → Refuses fault (spaced value_at bytes) → Excuses bytes fault
excuses-passed bytes Deep h = tt
excuses-passed bytes NotJson h = λ t reads. let there = text-complete bytes t reads in cc
excuses-passed bytes OutOfMemory h = tt

-- bytes left behind the value
pub excuses-behind : (bytes rest : List ℕ) (t : Tree) → spaced value_at bytes ≡ Some (t, rest) → (rest ≡ [] → ⊥) → Excuses bytes NotJson
excuses-behind bytes rest t e more = λ u reads. let there = text-complete bytes u reads in more (ap (λ p. p.1) (some_is (sym e ∙ there)))
