-- What two pages of an entity have of their own, by the parts that are gone and those that came.
use Rattle.std.proofs.Common.{◌≡◌, ℕ, Bool, not, List, [], filter, Option, Some, None, sym, ◌∙◌, ap, subst, arith}
use Rattle.std.specs.Prelude.{IfSome}
use Rattle.std.specs.List.{AllByRecursion}
use Rattle.sorted_sets.specs.{Merging.Balance, Merging.IsWithin, Rising.has}
use Rattle.sorted_sets.proofs.{Filtering.has-filter, Rising.has-sorted}
use Rattle.rdf_term.specs.{declared.triple.Triple.Triple, Fit.HasFitAndShortTerms, Order.triple_cmp, Order.triple_cmp-total}
use Rattle.rdf_term.proofs.Texts.{triple_cmp-IsAntisymmetric}
use Rattle.entity_documents.specs.{declared.changed.Changed.Changed, Changed.HasChanged}
use Rattle.entity_json.specs.Document.{document_of}
use Rattle.entity_json.proofs.Fitness.{document_small}
use Rattle.entity_model.specs.{declared.document.Document.Document, declared.document.Document.TheVariants.Entity as AnEntity, declared.document.Document.TheVariants.Redirect, declared.document.Document.TheVariants.Lexeme as ALexeme}
use Rattle.entity_model.specs.{declared.entity.Entity.Entity, declared.id.EntityId.EntityId, declared.mapping.MappingVersion.MappingVersion}
use Rattle.page_rdf.specs.{declared.counts.Counts.Counts, Counted.AreAfter, Counted.counts_of}
use Rattle.entity_rdf.specs.{Changing.kept_list, Counted.counted_kept}
use Rattle.entity_rdf.proofs.{Balance.come_part, Balance.gone_part, Balance.kept_balance, Balance.part_within, Counting.counts_change, PartFit.come_fit}
use Rattle.replay_model.specs.Records.{Bytes}
use Rattle.page_parts.specs.declared.difference.PageDifference.{PageDifference}
use Rattle.page_parts.specs.{Apart.AreApart, Apart.TellApart, InOne.has_more, InOne.in_one, Parts.AreSplit, Parts.stands_alone}
use Rattle.fetched_pages.specs.{declared.apart.Sides.Sides, Differing.AreSides, Differing.IsDifference, Differing.part_list, Differing.stays, Meaning.meaning, Meaning.triples_if}
use Rattle.fetched_pages.proofs.{Listing.list_set, Parted.part_fit, Telling.told_apart}

-- the counts of the old document, by those of the new one
counts_before : (was new gone come before : Counts) → AreAfter was gone come new → AreAfter new come gone before → before ≡ was
counts_before was new gone come before h k =
    let statements : before.statements ≡ was.statements = omega (arith, h.statements, k.statements) in
    let identifiers : before.identifiers ≡ was.identifiers = omega (arith, h.identifiers, k.identifiers) in
    let links : before.links ≡ was.links = omega (arith, h.links, k.links) in
    λ i. record { statements = statements i; identifiers = identifiers i; links = links i }

-- the entity's document, or another one where it is of another kind
abbrev entity_or : Option Document → Entity → Entity
entity_or None other = other
entity_or (Some (AnEntity e)) other = e
entity_or (Some (Redirect y)) other = other
entity_or (Some (ALexeme l)) other = other

-- the same triples as a page means
same_meaning : (version : MappingVersion) (x : EntityId) (rev : ℕ) (bytes : Bytes) (e : Entity) → document_of x bytes ≡ Some (AnEntity e) → (t : Triple) → has triple_cmp t (meaning version x rev bytes) ≡ has triple_cmp t (kept_list version x rev e)
same_meaning version x rev bytes e is t =
    ap (λ (o : Option Document). has triple_cmp t (triples_if version x rev o)) is ∙ ap (has triple_cmp t) (sym (list_set version x rev e)) ∙ has-sorted triple_cmp-total t (kept_list version x rev e)

module _ (version : MappingVersion) (x : EntityId) (old_rev rev : ℕ) (was bytes : Bytes) (old new : Entity) (changed : Changed) (sides : Sides) (is_counted : Bool) (d : PageDifference)
    (old_is : document_of x was ≡ Some (AnEntity old)) (new_is : document_of x bytes ≡ Some (AnEntity new)) (h : HasChanged x bytes old changed)
    (s : AreSides new changed old_rev rev sides) (k : IsDifference version x sides (stays version x (AnEntity new) sides) d) (flag : sides.is_counted ≡ is_counted) where
  same_new : h.new ≡ new
  same_new = ap (λ (o : Option Document). entity_or o new) (sym h.document ∙ new_is)

  before : sides.gone.counts ≡ counts_of old
  before = counts_before (counts_of old) (counts_of new) (counts_of changed.gone) (counts_of changed.come) sides.gone.counts
      (subst (λ (e : Entity). AreAfter (counts_of old) (counts_of changed.gone) (counts_of changed.come) (counts_of e)) same_new (counts_change old h.new changed.gone changed.come h.changes))
      (subst (λ (c : Counts). AreAfter c (counts_of changed.come) (counts_of changed.gone) sides.gone.counts) s.counts_are s.counts_before)

  gone_list : part_list version x sides.gone ≡ counted_kept version x old_rev (counts_of old) changed.gone
  gone_list = λ i. counted_kept version x (s.old_rev_is i) (before i) (s.gone i)

  come_list : part_list version x sides.come ≡ counted_kept version x rev (counts_of new) changed.come
  come_list = λ i. counted_kept version x (s.rev_is i) (s.counts_are i) (s.come i)

  abbrev gone : List Triple
  gone = part_list version x sides.gone

  abbrev come : List Triple
  come = part_list version x sides.come

  balance : Balance (kept_list version x rev new) gone (kept_list version x old_rev old) come
  balance =
      subst (λ (ts : List Triple). Balance (kept_list version x rev new) ts (kept_list version x old_rev old) come) (sym gone_list)
      (subst (λ (ts : List Triple). Balance (kept_list version x rev new) (counted_kept version x old_rev (counts_of old) changed.gone) (kept_list version x old_rev old) ts) (sym come_list)
      (subst (λ (e : Entity). Balance (kept_list version x rev e) (counted_kept version x old_rev (counts_of old) changed.gone) (kept_list version x old_rev old) (counted_kept version x rev (counts_of e) changed.come)) same_new
      (kept_balance version x old_rev rev old h.new changed.gone changed.come h.changes)))

  gone_in : IsWithin gone (kept_list version x old_rev old)
  gone_in = subst (λ (ts : List Triple). IsWithin ts (kept_list version x old_rev old)) (sym gone_list) (part_within version x old_rev changed.gone old (gone_part old h.new changed.gone changed.come h.changes))

  come_in : IsWithin come (kept_list version x rev new)
  come_in =
      subst (λ (ts : List Triple). IsWithin ts (kept_list version x rev new)) (sym come_list)
      (subst (λ (e : Entity). IsWithin (counted_kept version x rev (counts_of e) changed.come) (kept_list version x rev e)) same_new
      (part_within version x rev changed.come h.new (come_part old h.new changed.gone changed.come h.changes)))

  -- what is left of both parts
  abbrev left_of : List Triple → List Triple
  left_of = filter (λ t. not (stays version x (AnEntity new) sides t))

  come_are_fit : AllByRecursion HasFitAndShortTerms come
  come_are_fit =
      subst (AllByRecursion HasFitAndShortTerms) (sym come_list)
      (subst (λ (e : Entity). AllByRecursion HasFitAndShortTerms (counted_kept version x rev (counts_of e) changed.come)) same_new
      (come_fit version x rev old h.new changed.gone changed.come h.changes (document_small x bytes (AnEntity h.new) h.document)))

  left_fit : AllByRecursion HasFitAndShortTerms d.come.all
  left_fit = subst (AllByRecursion HasFitAndShortTerms) (sym k.come.all_are)
      (part_fit HasFitAndShortTerms (left_of come) come (λ t. not (stays version x (AnEntity new) sides t)) (λ t. has-filter triple_cmp triple_cmp-IsAntisymmetric (λ u. not (stays version x (AnEntity new) sides u)) t come) come_are_fit)

  told_of_lists : TellApart (meaning version x old_rev was) (meaning version x rev bytes) (left_of gone) (left_of come)
  told_of_lists =
      subst (λ (r : ℕ). TellApart (meaning version x old_rev was) (meaning version x rev bytes)
      (filter (λ t. not (has_more (filter (in_one gone come) (kept_list version x r new)) (filter (in_one gone come) come) t)) gone)
      (filter (λ t. not (has_more (filter (in_one gone come) (kept_list version x r new)) (filter (in_one gone come) come) t)) come)) (sym s.rev_is)
      (told_apart (kept_list version x rev new) gone (kept_list version x old_rev old) come balance gone_in come_in (meaning version x old_rev was) (meaning version x rev bytes)
      (same_meaning version x old_rev was old old_is) (same_meaning version x rev bytes new new_is))

  pub are_apart : AreApart x is_counted (meaning version x old_rev was) (meaning version x rev bytes) d
  are_apart = record {
    told =
        subst (λ (ts : List Triple). TellApart (meaning version x old_rev was) (meaning version x rev bytes) ts d.come.all) (sym k.gone.all_are)
        (subst (λ (ts : List Triple). TellApart (meaning version x old_rev was) (meaning version x rev bytes) (left_of gone) ts) (sym k.come.all_are) told_of_lists);
    gone_parts = subst (λ (f : Bool). AreSplit x f d.gone.all d.gone.own d.gone.shared []) flag k.gone.split;
    come_parts = subst (λ (f : Bool). AreSplit x f d.come.all d.come.own d.come.shared []) flag k.come.split;
    fit = part_fit HasFitAndShortTerms d.come.shared d.come.all (λ t. not (stands_alone sides.is_counted x t)) k.come.split.shared_are left_fit;
  }

-- the same, where it is told
pub apart_if : (version : MappingVersion) (x : EntityId) (old_rev rev : ℕ) (was bytes : Bytes) (old new : Entity) (changed : Changed) (sides : Sides) (is_counted : Bool) (result : Option PageDifference)
    → document_of x was ≡ Some (AnEntity old) → document_of x bytes ≡ Some (AnEntity new) → HasChanged x bytes old changed
    → AreSides new changed old_rev rev sides → IfSome result (IsDifference version x sides (stays version x (AnEntity new) sides)) → sides.is_counted ≡ is_counted
    → IfSome result (AreApart x is_counted (meaning version x old_rev was) (meaning version x rev bytes))
apart_if version x old_rev rev was bytes old new changed sides is_counted None old_is new_is h s k flag = tt
apart_if version x old_rev rev was bytes old new changed sides is_counted (Some d) old_is new_is h s k flag = are_apart version x old_rev rev was bytes old new changed sides is_counted d old_is new_is h s k flag
