-- What the parts print together is what the whole prints.
use Rattle.std.proofs.Common.{◌≡◌, ℕ, ◌+◌, Bool, true, false, cond, List, [], ◌∷◌, ◌++◌, Option, Ordering, filter, flat_map, refl, sym, ◌∙◌, ap, None, Some}
use Rattle.std.specs.List.{list_any}
use Rattle.std.proofs.lemmas.List.Elements.{filter-append}
use Rattle.rdf_term.specs.declared.pattern.Pattern.{Pattern}
use Rattle.rdf_term.specs.declared.triple.Triple.{Triple}
use Rattle.rdf_term.specs.Order.{triple_cmp, triple_cmp-total}
use Rattle.rdf_term.specs.Pattern.{agrees, rows}
use Rattle.delivery.specs.Bindings.{bindings}
use Rattle.rdf_term.proofs.Texts.{triple_cmp-IsAntisymmetric}
use Rattle.sorted_sets.specs.Rising.{Each, has, sorted}
use Rattle.sorted_sets.proofs.Filtering.{sorted-filter}
use Rattle.delivery.specs.declared.Delivery.{Delivery}
use Rattle.entity_model.specs.declared.mapping.MappingVersion.{MappingVersion}
use Rattle.replay_model.specs.Acceptance.{Arrival, arrivals, version_in_force}
use Rattle.replay_model.specs.Play.{Replies, played}
use Rattle.replay_model.specs.Union.{Meaning, union}
use Rattle.replay_model.specs.Transcript.{Question, for_triples, for_bindings, Sections, asks, ask_section, export_section, match_section, matches, question_of, answer_said, said, side_section, state_section, transcript}
use Rattle.replay_parts.specs.Parts.{routed, part_of_records, AgreeOnPart, Part, IsPartition, merged, answered_together, closing_together, rows_played, rows_together, said_together, union_played, union_together}
use Rattle.replay_parts.proofs.PlayedParts.{played-routed}
use Rattle.replay_parts.proofs.Routed.{version-routed}
use Rattle.replay_parts.proofs.UnionParts.{has-merged, union-parts}
use Rattle.replay_parts.proofs.PartRecords.{covered, each_from, gathered_same, records-together}

merged-same : {P Triple : Type 0} (order : Triple → Triple → Ordering) (f g : P → List Triple) (parts : List P) → Each (λ part. f part ≡ g part) parts → merged order f parts ≡ merged order g parts
merged-same order f g parts all = ap (sorted order) (gathered_same f g parts all)

filter-flat_map : {P A : Type 0} (p : A → Bool) (f : P → List A) (parts : List P) → filter p (flat_map f parts) ≡ flat_map (λ part. filter p (f part)) parts
filter-flat_map p f [] = refl
filter-flat_map p f (part ∷ parts) = filter-append p (f part) (flat_map f parts) ∙ ap (λ l. filter p (f part) ++ l) (filter-flat_map p f parts)

-- the rows of what is merged are merged of the rows
rows-merged : {P : Type 0} (given : P → List Triple) (parts : List P) (q : Pattern) → rows (merged triple_cmp given parts) q ≡ merged triple_cmp (λ part. rows (given part) q) parts
rows-merged given parts q =
    sym (sorted-filter triple_cmp-total triple_cmp-IsAntisymmetric (agrees q) (flat_map given parts))
    ∙ ap (sorted triple_cmp) (filter-flat_map (agrees q) given parts)

module _ (meaning : MappingVersion → Meaning Triple) (replies : Replies) (parts : List Part) (are : IsPartition replies parts) (hz : Option ℕ) where
  -- the union of a replay is merged of the parts' own
  pub union-together : (closed : Bool) (ds : List Delivery) → union_played meaning hz closed replies ds ≡ union_together meaning hz closed parts ds
  union-together closed ds =
      union-parts triple_cmp-total (meaning (version_in_force ds)) (played hz closed replies ds).records triple_cmp-IsAntisymmetric (λ (part : Part). part.contains) parts (covered replies parts are)
      ∙ merged-same triple_cmp (λ (part : Part). union triple_cmp (meaning (version_in_force ds)) (part_of_records part.contains (played hz closed replies ds).records))
      (λ (part : Part). union_played meaning hz closed part.replies (routed part.contains ds)) parts
      (each_from (λ (part : Part). AgreeOnPart part.contains part.replies replies) _ (λ part agree i. union triple_cmp (meaning (sym (version-routed part.contains ds) i)) (sym (played-routed part.contains part.replies replies agree hz closed ds) i).records) parts are.agree)

  pub has-union_together : (closed : Bool) (ds : List Delivery) (t : Triple) → has triple_cmp t (union_played meaning hz closed replies ds) ≡ list_any (λ (part : Part). has triple_cmp t (union_played meaning hz closed part.replies (routed part.contains ds))) parts
  has-union_together closed ds t =
      ap (has triple_cmp t) (union-together closed ds)
      ∙ has-merged triple_cmp-total (λ (part : Part). union_played meaning hz closed part.replies (routed part.contains ds)) t parts

  -- and so are the rows of each question
  pub rows-together : (before : List Delivery) (pattern : Pattern) → rows_played meaning hz replies before pattern ≡ rows_together meaning hz parts before pattern
  rows-together before pattern =
      ap (λ u. rows u pattern) (union-together false before)
      ∙ rows-merged (λ (part : Part). union_played meaning hz false part.replies (routed part.contains before)) parts pattern

  pub has-rows_together : (before : List Delivery) (pattern : Pattern) (t : Triple) → has triple_cmp t (rows_played meaning hz replies before pattern) ≡ list_any (λ (part : Part). has triple_cmp t (rows_played meaning hz part.replies (routed part.contains before) pattern)) parts
  has-rows_together before pattern t =
      ap (has triple_cmp t) (rows-together before pattern)
      ∙ has-merged triple_cmp-total (λ (part : Part). rows_played meaning hz part.replies (routed part.contains before) pattern) t parts

  answered-together : (before : List Delivery) (question : Option Question) → answer_said meaning hz replies before question ≡ answered_together meaning hz parts before question
  answered-together before None = refl
  answered-together before (Some (for_triples pattern)) = ap (ask_section (asks before + 1)) (rows-together before pattern)
  answered-together before (Some (for_bindings shapes)) = ap (λ triples. match_section (matches before + 1) (bindings triples shapes)) (union-together false before)

  -- the answers to all questions
  pub said-together : (ds : List Delivery) → said meaning hz replies ds ≡ said_together meaning hz parts ds
  said-together ds = λ i. flat_map (λ (a : Arrival). answered-together a.before (question_of a.delivery) i) (arrivals ds)

  -- all that is printed, where the side output isn't
  pub transcript-together : (sections : Sections) (ds : List Delivery) → sections.side ≡ false → transcript meaning hz sections replies ds ≡ said_together meaning hz parts ds ++ closing_together meaning hz sections parts ds
  transcript-together sections ds no_side = λ i.
      said-together ds i
      ++ (cond sections.export (export_section (union-together true ds i)) []
      ++ cond sections.state (state_section (records-together replies parts are hz true ds i)) []
      ++ unasked (side_section (played hz true replies ds).records (played hz true replies ds).side) (flat_map (λ (part : Part). side_section (played hz true part.replies (routed part.contains ds)).records (played hz true part.replies (routed part.contains ds)).side) parts) i)
    where
      unasked : (one other : List ℕ) → cond sections.side one [] ≡ cond sections.side other []
      unasked one other = ap (λ b. cond b one []) no_side ∙ sym (ap (λ b. cond b other []) no_side)
