-- The roles in which snaks stand in statements.
use Rattle.std.specs.Prelude.{ℕ, List, ◌++◌, codes}
use Rattle.rdf_vocabulary.specs.declared.prefix.Prefix.{Prefix}
use Rattle.rdf_vocabulary.specs.declared.prefix.Prefix.TheVariants.{Ps, Psv, Pq, Pqv, Pr, Prv}
use Rattle.statement_facts.specs.declared.role.Role.{Role}
use Rattle.statement_facts.specs.declared.role.Role.TheVariants.{Main, Qualifier, Reference}

-- the namespace of the properties that lead to simple values
abbrev pub value_prefix : Role → Prefix
value_prefix Main = Ps
value_prefix Qualifier = Pq
value_prefix (Reference hash) = Pr

-- the namespace of the properties that lead to the nodes of values
abbrev pub node_prefix : Role → Prefix
node_prefix Main = Psv
node_prefix Qualifier = Pqv
node_prefix (Reference hash) = Prv

-- the role's name; that of a reference has its hash
unfoldable pub role_text : Role → List ℕ
role_text Main = codes "main"
role_text Qualifier = codes "qualifier"
role_text (Reference hash) = codes "reference:" ++ hash
