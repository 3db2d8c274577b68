-- The triples of a document are those of the document before, less those of the parts that are gone, and those of the parts that came.
use Rattle.std.proofs.Common.{◌≡◌, ℕ, ◌+◌, ◌≤◌, Bool, true, false, not, ◌&&◌, ◌||◌, nat_lt, List, [], ◌∷◌, ◌++◌, length, Option, inl, inr, refl, sym, ap, ◌∙◌, subst, arith}
use Rattle.std.specs.Prelude.{sum_by, ◌≢◌}
use Rattle.std.specs.List.{flat_map, list_any}
use Rattle.std.specs.Ordering.{eq_by_cmp}
use Rattle.sorted_sets.specs.Rising.{In}
use Rattle.sorted_sets.proofs.Bools.{equal}
use Rattle.sorted_sets.specs.Merging.{Balance, IsWithin, Merges}
use Rattle.sorted_sets.proofs.Balanced.{balance-append, balance-flat_map, balance-swap, changes_balance, merged_sum, same_sum, second-within, weighed_each, within-append, within-flat_map, within-same}
use Rattle.rdf_term.specs.declared.term.Term.{Term}
use Rattle.rdf_term.specs.declared.triple.Triple.{Triple}
use Rattle.entity_model.specs.EntityId.{entity_cmp, entity_cmp_same}
use Rattle.entity_model.specs.declared.id.EntityId.{EntityId}
use Rattle.entity_model.specs.declared.statement.Statement.{Statement}
use Rattle.entity_model.specs.declared.entity.Entity.{Entity}
use Rattle.entity_model.specs.declared.mapping.MappingVersion.{MappingVersion}
use Rattle.entity_model.specs.Changes.{AreSeparate, EntityChanges, StatementChanges}
use Rattle.munger.specs.Munging.{munged}
use Rattle.rdf_vocabulary.specs.Prefix.{entity_term}
use Rattle.sitelinks.specs.Article.{article_triples}
use Rattle.statement_facts.specs.Ranking.{is_best, is_ranked_above, rank_number}
use Rattle.statement_rdf.specs.Statement.{statement_triples}
use Rattle.statement_rdf.specs.Statements.{judged_triples, statements_triples}
use Rattle.page_rdf.specs.About.{alias_triples, class_triples, description_triples, label_triples, text_triples}
use Rattle.entity_rdf.specs.Changing.{kept_list}
use Rattle.page_rdf.specs.Counted.{counted_dataset, counts_of}
use Rattle.entity_rdf.specs.Counted.{counted_kept, counted_triples}
use Rattle.page_rdf.specs.declared.counts.Counts.{Counts}
use Rattle.entity_rdf.specs.Dump.{entity_triples}
use Rattle.page_rdf.specs.Property.{property_triples}

-- a test that no element of the second list passes asks the first one alone
any_first : {A : Type 0} (test : A → Bool) (xs ys zs : List A) → Merges xs ys zs → ((y : A) → In y ys → test y ≡ false) → list_any test zs ≡ list_any test xs
any_first test xs ys [] h none = ap (list_any test) (sym h.0)
any_first test xs ys (z ∷ zs) (inl h) none =
    ap (λ b. test z || b) (any_first test h.rest ys zs h.holds none) ∙ ap (list_any test) (sym h.is)
any_first test xs ys (z ∷ zs) (inr h) none =
    let failed : test z ≡ false = none z (subst (λ l. In z l) (sym h.is) (inl refl)) in
    ap (λ b. b || list_any test zs) failed ∙ any_first test xs h.rest zs h.holds (λ y among. none y (subst (λ l. In y l) (sym h.is) (inr among)))

any_second : {A : Type 0} (test : A → Bool) (xs ys zs : List A) → Merges xs ys zs → ((x : A) → In x xs → test x ≡ false) → list_any test zs ≡ list_any test ys
any_second test xs ys [] h none = ap (list_any test) (sym h.1)
any_second test xs ys (z ∷ zs) (inr h) none =
    ap (λ b. test z || b) (any_second test xs h.rest zs h.holds none) ∙ ap (list_any test) (sym h.is)
any_second test xs ys (z ∷ zs) (inl h) none =
    let failed : test z ≡ false = none z (subst (λ l. In z l) (sym h.is) (inl refl)) in
    ap (λ b. b || list_any test zs) failed ∙ any_second test h.rest ys zs h.holds (λ x among. none x (subst (λ l. In x l) (sym h.is) (inr among)))

-- a statement of another property isn't ranked above
other_property : (p : EntityId) (number : ℕ) (s : Statement) → s.property ≢ p → is_ranked_above p number s ≡ false
other_property p number s other = at (eq_by_cmp entity_cmp p s.property) refl
  where
    at : (b : Bool) → eq_by_cmp entity_cmp p s.property ≡ b → (b && nat_lt number (rank_number s.rank)) ≡ false
    at true is = absurd (other (sym (entity_cmp_same p s.property (equal (entity_cmp p s.property) is))))
    at false is = refl

module _ (version : MappingVersion) (subject : Term) (weight : Triple → ℕ) where
  abbrev weighed : List Statement → Statement → ℕ
  weighed all s = sum_by weight (judged_triples version subject all s)

  -- a statement is judged among those of its property
  best_first : (first second all : List Statement) → Merges first second all → AreSeparate first second → (s : Statement) → In s first → weighed all s ≡ weighed first s
  best_first first second all merges apart s here =
      ap (λ b. sum_by weight (statement_triples version subject s (nat_lt 0 (rank_number s.rank) && not b)))
      (any_first (is_ranked_above s.property (rank_number s.rank)) first second all merges (λ y among. other_property s.property (rank_number s.rank) y (apart s y here among)))

  best_second : (first second all : List Statement) → Merges first second all → AreSeparate first second → (s : Statement) → In s second → weighed all s ≡ weighed second s
  best_second first second all merges apart s here =
      ap (λ b. sum_by weight (statement_triples version subject s (nat_lt 0 (rank_number s.rank) && not b)))
      (any_second (is_ranked_above s.property (rank_number s.rank)) first second all merges
      (λ y among. other_property s.property (rank_number s.rank) y (λ same. apart y s among here (sym same))))

  -- so statements that share no property weigh by themselves
  pub apart_sum : (first second all : List Statement) → Merges first second all → AreSeparate first second
      → sum_by weight (statements_triples version subject all) ≡ sum_by weight (statements_triples version subject first) + sum_by weight (statements_triples version subject second)
  apart_sum first second all merges apart =
      omega (
        arith,
        weighed_each weight (judged_triples version subject all) all,
        merged_sum (λ (s : Statement). weighed all s) first second all merges,
        same_sum (λ (s : Statement). weighed all s) (λ (s : Statement). weighed first s) first (best_first first second all merges apart),
        same_sum (λ (s : Statement). weighed all s) (λ (s : Statement). weighed second s) second (best_second first second all merges apart),
        weighed_each weight (judged_triples version subject first) first,
        weighed_each weight (judged_triples version subject second) second,
      )

statements_balance : (version : MappingVersion) (subject : Term) (old new gone come : List Statement) → StatementChanges old new gone come
    → Balance (statements_triples version subject new) (statements_triples version subject gone) (statements_triples version subject old) (statements_triples version subject come)
statements_balance version subject old new gone come h =
    record {
      weighs = λ weight. omega (arith, apart_sum version subject weight h.common gone old h.was h.from_gone, apart_sum version subject weight h.common come new h.is h.from_come);
    }

module _ (version : MappingVersion) (x : EntityId) (old_rev new_rev : ℕ) (old new gone come : Entity) (h : EntityChanges old new gone come) where
  labels_balance : Balance (flat_map (label_triples (entity_term x)) new.labels) (flat_map (label_triples (entity_term x)) gone.labels)
      (flat_map (label_triples (entity_term x)) old.labels) (flat_map (label_triples (entity_term x)) come.labels)
  labels_balance = balance-flat_map (label_triples (entity_term x)) new.labels gone.labels old.labels come.labels (changes_balance old.labels new.labels gone.labels come.labels h.labels)

  descriptions_balance : Balance (flat_map (description_triples (entity_term x)) new.descriptions) (flat_map (description_triples (entity_term x)) gone.descriptions)
      (flat_map (description_triples (entity_term x)) old.descriptions) (flat_map (description_triples (entity_term x)) come.descriptions)
  descriptions_balance =
      balance-flat_map (description_triples (entity_term x)) new.descriptions gone.descriptions old.descriptions come.descriptions
      (changes_balance old.descriptions new.descriptions gone.descriptions come.descriptions h.descriptions)

  aliases_balance : Balance (flat_map (alias_triples (entity_term x)) new.aliases) (flat_map (alias_triples (entity_term x)) gone.aliases)
      (flat_map (alias_triples (entity_term x)) old.aliases) (flat_map (alias_triples (entity_term x)) come.aliases)
  aliases_balance =
      balance-flat_map (alias_triples (entity_term x)) new.aliases gone.aliases old.aliases come.aliases (changes_balance old.aliases new.aliases gone.aliases come.aliases h.aliases)

  links_balance : Balance (flat_map (article_triples x) new.links) (flat_map (article_triples x) gone.links) (flat_map (article_triples x) old.links) (flat_map (article_triples x) come.links)
  links_balance = balance-flat_map (article_triples x) new.links gone.links old.links come.links (changes_balance old.links new.links gone.links come.links h.links)

  texts_balance : Balance (text_triples x new) (text_triples x gone) (text_triples x old) (text_triples x come)
  texts_balance =
      balance-append _ _ _ _ _ _ _ _
      (balance-append _ _ _ _ _ _ _ _
      (balance-append (class_triples x) (class_triples x) (class_triples x) (class_triples x) _ _ _ _ (record { weighs = λ weight. refl }) labels_balance)
      descriptions_balance)
      aliases_balance

  abbrev new_set : List Triple
  new_set = counted_dataset x new_rev (counts_of new) new

  abbrev old_set : List Triple
  old_set = counted_dataset x old_rev (counts_of old) old

  abbrev gone_set : List Triple
  gone_set = counted_dataset x old_rev (counts_of old) gone

  abbrev come_set : List Triple
  come_set = counted_dataset x new_rev (counts_of new) come

  dataset_balance : Balance new_set gone_set old_set come_set
  dataset_balance =
      balance-swap new_set gone_set old_set come_set
      (ap (λ (m : Option (List ℕ)). counted_dataset x new_rev (counts_of new) (record { id = new.id; datatype = new.datatype; modified = m; labels = new.labels; descriptions = new.descriptions; aliases = new.aliases; statements = new.statements; links = new.links })) h.new_modified)
      (ap (λ (m : Option (List ℕ)). counted_dataset x old_rev (counts_of old) (record { id = old.id; datatype = old.datatype; modified = m; labels = old.labels; descriptions = old.descriptions; aliases = old.aliases; statements = old.statements; links = old.links })) h.old_modified)

  property_balance : Balance (property_triples x new.datatype) (property_triples x gone.datatype) (property_triples x old.datatype) (property_triples x come.datatype)
  property_balance = balance-swap _ _ _ _ (ap (property_triples x) h.new_datatype) (ap (property_triples x) h.old_datatype)

  abbrev new_list : List Triple
  new_list = entity_triples version x new_rev new

  abbrev old_list : List Triple
  old_list = entity_triples version x old_rev old

  abbrev gone_list : List Triple
  gone_list = counted_triples version x old_rev (counts_of old) gone

  abbrev come_list : List Triple
  come_list = counted_triples version x new_rev (counts_of new) come

  lists_balance : Balance new_list gone_list old_list come_list
  lists_balance =
      balance-append _ _ _ _ _ _ _ _
      (balance-append _ _ _ _ _ _ _ _
      (balance-append _ _ _ _ _ _ _ _ (balance-append _ _ _ _ new_set gone_set old_set come_set texts_balance dataset_balance) property_balance)
      links_balance)
      (statements_balance version (entity_term x) old.statements new.statements gone.statements come.statements h.statements)

  pub kept_balance : Balance (kept_list version x new_rev new) (counted_kept version x old_rev (counts_of old) gone) (kept_list version x old_rev old) (counted_kept version x new_rev (counts_of new) come)
  kept_balance = balance-flat_map (munged x) new_list gone_list old_list come_list lists_balance

-- ---- the parts alone

-- a part of a document, with what it doesn't have
pub record IsPart (part whole : Entity) : Type 0 where
  pub datatype : part.datatype ≡ whole.datatype
  pub modified : part.modified ≡ whole.modified
  pub labels : IsWithin part.labels whole.labels
  pub descriptions : IsWithin part.descriptions whole.descriptions
  pub aliases : IsWithin part.aliases whole.aliases
  pub links : IsWithin part.links whole.links
  pub statements : (version : MappingVersion) (subject : Term) → IsWithin (statements_triples version subject part.statements) (statements_triples version subject whole.statements)

apart-within : (version : MappingVersion) (subject : Term) (first second all : List Statement) → Merges first second all → AreSeparate first second
    → IsWithin (statements_triples version subject second) (statements_triples version subject all)
apart-within version subject first second all merges apart =
    record { weighs = λ weight. omega (arith, apart_sum version subject weight first second all merges apart) }

pub gone_part : (old new gone come : Entity) → EntityChanges old new gone come → IsPart gone old
gone_part old new gone come h =
    record {
      datatype = h.old_datatype;
      modified = h.old_modified;
      labels = second-within h.labels.common gone.labels old.labels h.labels.was;
      descriptions = second-within h.descriptions.common gone.descriptions old.descriptions h.descriptions.was;
      aliases = second-within h.aliases.common gone.aliases old.aliases h.aliases.was;
      links = second-within h.links.common gone.links old.links h.links.was;
      statements = λ version subject. apart-within version subject h.statements.common gone.statements old.statements h.statements.was h.statements.from_gone;
    }

pub come_part : (old new gone come : Entity) → EntityChanges old new gone come → IsPart come new
come_part old new gone come h =
    record {
      datatype = h.new_datatype;
      modified = h.new_modified;
      labels = second-within h.labels.common come.labels new.labels h.labels.is;
      descriptions = second-within h.descriptions.common come.descriptions new.descriptions h.descriptions.is;
      aliases = second-within h.aliases.common come.aliases new.aliases h.aliases.is;
      links = second-within h.links.common come.links new.links h.links.is;
      statements = λ version subject. apart-within version subject h.statements.common come.statements new.statements h.statements.is h.statements.from_come;
    }

-- has no triple that the whole doesn't have
pub part_within : (version : MappingVersion) (x : EntityId) (rev : ℕ) (part whole : Entity) → IsPart part whole
    → IsWithin (counted_kept version x rev (counts_of whole) part) (kept_list version x rev whole)
part_within version x rev part whole h =
    within-flat_map (munged x) (counted_triples version x rev (counts_of whole) part) (entity_triples version x rev whole)
    (within-append _ _ _ _
    (within-append _ _ _ _
    (within-append _ _ _ _
    (within-append (text_triples x part) _ (text_triples x whole) _
    (within-append _ _ _ _
    (within-append _ _ _ _
    (within-append (class_triples x) _ (class_triples x) _ (within-same _ _ refl) (within-flat_map (label_triples (entity_term x)) part.labels whole.labels h.labels))
    (within-flat_map (description_triples (entity_term x)) part.descriptions whole.descriptions h.descriptions))
    (within-flat_map (alias_triples (entity_term x)) part.aliases whole.aliases h.aliases))
    (within-same (counted_dataset x rev (counts_of whole) part) (counted_dataset x rev (counts_of whole) whole) (ap (λ (m : Option (List ℕ)). counted_dataset x rev (counts_of whole) (record { id = part.id; datatype = part.datatype; modified = m; labels = part.labels; descriptions = part.descriptions; aliases = part.aliases; statements = part.statements; links = part.links })) h.modified)))
    (within-same _ _ (ap (property_triples x) h.datatype)))
    (within-flat_map (article_triples x) part.links whole.links h.links))
    (h.statements version (entity_term x)))
