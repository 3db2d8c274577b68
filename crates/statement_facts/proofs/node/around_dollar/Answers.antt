-- A text that is split at another stands round it.
use Rattle.std.proofs.Common.{◌≡◌, ◌≢◌, ℕ, List, [], ◌∷◌, ◌++◌, Bor}
use Rattle.std.proofs.lemmas.Str.Pattern.{split_text_parts}
use Rattle.statement_facts.proofs.KeptParts.{where_some}
use Rattle.statement_facts.proofs.node.around_dollar.Goals as goal

pub returns : goal.returns
returns c =
    let id = c.args.id.now in
    where_some ((xs ys : List ℕ) → id ≢ xs ++ 36 ∷ ys) (λ (parts : Bor (List ℕ) × Bor (List ℕ)). id ≡ parts.0.now ++ 36 ∷ parts.1.now) c.split_once.result
    (split_text_parts (36 ∷ []) id c.split_once.result c.split_once.ensures.cases)
