-- The parts of a list of triples are the parts of its set.
use Rattle.std.proofs.Common.{◌≡◌, ℕ, Bool, not, ◌&&◌, List, [], ◌∷◌, ◌++◌, Some, Result, Ok, Err, flat_map, filter, sym, ◌∙◌, ap, subst}
use Rattle.std.specs.List.{AllByRecursion}
use Rattle.std.specs.Prelude.{IfOk}
use Rattle.sorted_sets.specs.Rising.{IsRising, has, sorted}
use Rattle.sorted_sets.proofs.{Bools.and_right, Filtering.has-filter, Filtering.sorted-filter, Members.has-member, Members.member-has, Rising.IsRising-sorted, Rising.has-sorted, Rising.sorted_same}
use Rattle.rdf_term.specs.{declared.triple.Triple.Triple, Fit.HasFitAndShortTerms, Order.triple_cmp, Order.triple_cmp-total}
use Rattle.rdf_term.proofs.Texts.{triple_cmp-IsAntisymmetric}
use Rattle.entity_model.specs.{declared.id.EntityId.EntityId, EntityId.entity_cmp, EntityId.entity_cmp_same, EntityId.entity_cmp_total}
use Rattle.entity_model.specs.declared.document.Document.{Document}
use Rattle.entity_model.specs.Document.{IsSmall}
use Rattle.entity_model.specs.declared.mapping.MappingVersion.{MappingVersion}
use Rattle.munger.specs.Munging.{munged}
use Rattle.munger.proofs.{FlatMap.sorted-flat_map, Kept.kept_is, MungedList.munge_of_list}
use Rattle.statement_rdf.proofs.Each.{of_each_member, of_member}
use Rattle.entity_rdf.specs.Dump.{dump}
use Rattle.entity_rdf.proofs.Direct.{direct_list_fit}
use Rattle.replay_model.specs.Records.{Bytes}
use Rattle.entity_json.specs.Document.{document_of}
use Rattle.fetched_pages.specs.{Meaning.document_triples, Meaning.meaning, Meaning.triples_if, Parted.ArePartsIn}
use Rattle.shared_triples.specs.{Home.home_of, Lean.stranger, Lean.strangers}
use Rattle.page_parts.specs.declared.named.NamedParts.{NamedParts}
use Rattle.page_parts.specs.Parts.{AreParts, ArePartsOf, AreSplit, PartsState, stands_alone}

-- a part that has what passes a test is the set's
part_is : (part all : List Triple) (a : Triple → Bool) → ((t : Triple) → has triple_cmp t part ≡ (a t && has triple_cmp t all)) → sorted triple_cmp part ≡ filter a (sorted triple_cmp all)
part_is part all a are =
    sorted_same triple_cmp-total triple_cmp-IsAntisymmetric part (filter a all) (λ q. are q ∙ sym (has-filter triple_cmp triple_cmp-IsAntisymmetric a q all))
    ∙ sorted-filter triple_cmp-total triple_cmp-IsAntisymmetric a all

-- the strangers of a list are those of its set
strangers_alike : (x : EntityId) (all : List Triple) (y : EntityId) → has entity_cmp y (strangers x all) ≡ has entity_cmp y (strangers x (sorted triple_cmp all))
strangers_alike x all y =
    sym (has-sorted entity_cmp_total y (strangers x all))
    ∙ ap (has entity_cmp y) (sym (sorted-flat_map entity_cmp_total triple_cmp-IsAntisymmetric entity_cmp_same (λ (t : Triple). stranger x (home_of t)) all))
    ∙ has-sorted entity_cmp_total y (strangers x (sorted triple_cmp all))

-- what holds of all triples holds of a part
pub part_fit : (P : Triple → Type 0) (part all : List Triple) (a : Triple → Bool) → ((t : Triple) → has triple_cmp t part ≡ (a t && has triple_cmp t all)) → AllByRecursion P all → AllByRecursion P part
part_fit P part all a are fit =
    of_each_member P part (λ t there. of_member P all t fit (member-has triple_cmp-IsAntisymmetric t all (and_right (a t) (has triple_cmp t all) (sym (are t) ∙ has-member triple_cmp-total t part there))))

-- the triples of a document, one after the other
module _ (x : EntityId) (is_counted : Bool) (version : MappingVersion) (rev : ℕ) (document : Document) (p : PartsState) (entity : p.entity ≡ x) (flag : p.is_counted ≡ is_counted) (parts : AreParts p)
    (listed : p.all ≡ [] ++ flat_map (λ (t : Triple). flat_map (λ (u : Triple). u ∷ []) (munged x t)) (dump version x rev document)) where
  abbrev list : List Triple
  list = flat_map (munged x) (dump version x rev document)

  all_are : p.all ≡ list
  all_are = listed ∙ kept_is x (dump version x rev document)

  set_is : sorted triple_cmp p.all ≡ document_triples version x rev document
  set_is = ap (sorted triple_cmp) all_are ∙ sym (munge_of_list x (dump version x rev document))

  split : AreSplit x is_counted p.all p.own p.shared p.strangers
  split = subst (λ e. AreSplit e is_counted p.all p.own p.shared p.strangers) entity (subst (λ f. AreSplit p.entity f p.all p.own p.shared p.strangers) flag parts)

  pub parts_of_document : ArePartsOf x is_counted (document_triples version x rev document) p
  parts_of_document = record {
    own_are = part_is p.own p.all (stands_alone is_counted x) split.own_are ∙ ap (filter (stands_alone is_counted x)) set_is;
    shared_are = part_is p.shared p.all (λ t. not (stands_alone is_counted x t)) split.shared_are ∙ ap (filter (λ t. not (stands_alone is_counted x t))) set_is;
    others_are = λ y. split.others_are y ∙ strangers_alike x p.all y ∙ ap (λ ts. has entity_cmp y (strangers x ts)) set_is;
  }

  all_fit : IsSmall document → AllByRecursion HasFitAndShortTerms p.all
  all_fit small = subst (AllByRecursion HasFitAndShortTerms) (sym all_are) (direct_list_fit version x rev document small)

  pub own_fit : IsSmall document → AllByRecursion HasFitAndShortTerms p.own
  own_fit small = part_fit HasFitAndShortTerms p.own p.all (stands_alone is_counted x) split.own_are (all_fit small)

  pub shared_fit : IsSmall document → AllByRecursion HasFitAndShortTerms p.shared
  shared_fit small = part_fit HasFitAndShortTerms p.shared p.all (λ t. not (stands_alone is_counted x t)) split.shared_are (all_fit small)

-- the parts of a document with the names of the entities that they name are those of the bytes whose document this is
pub named_in : {E F : Type 0} (version : MappingVersion) (x : EntityId) (rev : ℕ) (bytes : Bytes) (is_counted : Bool) (document : Document) (parts : Result PartsState E) (result : Result NamedParts F)
    → document_of x bytes ≡ Some document → IsSmall document
    → IfOk parts (ArePartsOf x is_counted (document_triples version x rev document)) → (IsSmall document → IfOk parts (λ p. AllByRecursion HasFitAndShortTerms p.shared))
    → IfOk result (λ named. (parts ≡ Ok named.parts) × (named.names.items ≡ sorted entity_cmp named.parts.strangers))
    → IfOk result (ArePartsIn version x rev bytes is_counted)
named_in version x rev bytes is_counted document parts (Err fault) is small are fit named = tt
named_in version x rev bytes is_counted document parts (Ok n) is small are fit named =
    let means : document_triples version x rev document ≡ meaning version x rev bytes = ap (triples_if version x rev) (sym is) in
    let of : ArePartsOf x is_counted (meaning version x rev bytes) n.parts = subst (λ ts. ArePartsOf x is_counted ts n.parts) means (subst (λ r. IfOk r (ArePartsOf x is_counted (document_triples version x rev document))) named.0 are) in
    record {
      own = λ counted same. of.own_are ∙ ap (λ flag. filter (stands_alone flag x) (meaning version x rev bytes)) (sym same);
      stored = λ counted same. of.shared_are ∙ ap (λ flag. filter (λ t. not (stands_alone flag x t)) (meaning version x rev bytes)) (sym same);
      fit = subst (λ r. IfOk r (λ (p : PartsState). AllByRecursion HasFitAndShortTerms p.shared)) named.0 (fit small);
      rising = subst (IsRising entity_cmp) (sym named.1) (IsRising-sorted entity_cmp_total n.parts.strangers);
      names = λ y. ap (has entity_cmp y) named.1 ∙ has-sorted entity_cmp_total y n.parts.strangers ∙ of.others_are y;
    }
