-- The lines of what is told are in order.
use Rattle.std.proofs.Common.{◌≡◌, Bool, true, false, not, cond, ◌||◌, List, [], ◌∷◌, ◌++◌, Option, Some, None, refl, sym, ◌∙◌, ap, subst}
use Rattle.std.proofs.Common.{true≢false}
use Rattle.std.specs.FinMap as map
use Rattle.std.specs.{List.AllByRecursion, Ordering.eq_by_cmp}
use Rattle.sorted_sets.specs.Rising.{IsRising, difference, has, sorted}
use Rattle.sorted_sets.proofs.{Bools.and_right, Bools.equal, Bools.or_true, Filtering.IsRising-filter, Filtering.has-difference}
use Rattle.sorted_sets.proofs.Rising.{IsRising-sorted, has-append, has-sorted, has_itself}
use Rattle.rdf_term.specs.{declared.triple.Triple.Triple, Fit.HasFitAndShortTerms, Order.triple_cmp, Order.triple_cmp-total}
use Rattle.rdf_term.proofs.Texts.{triple_cmp-IsAntisymmetric}
use Rattle.entity_model.specs.declared.id.EntityId.{EntityId}
use Rattle.entity_state.specs.declared.record.Held.{Held}
use Rattle.slot_keys.proofs.Lists.{or_left}
use Rattle.slot_index.proofs.Mapped.{rising_keys}
use Rattle.triple_catalog.specs.{declared.lines.TripleLines.TripleLines, Counts.Counts, Lines.AreLinesOf}
use Rattle.replay_model.specs.{Records.Bytes, Records.Records, Records.record_of, Union.triples_held, Union.union, Versions.meaning_by}
use Rattle.replay_model.specs.{Versions.version_at}
use Rattle.replay_model.proofs.Owners.{has-union}
use Rattle.fetched_pages.specs.Meaning.{meaning}
use Rattle.fetched_pages.proofs.Fit.{meaning_fit}
use Rattle.shared_triples.proofs.Holding.{holder}
use Rattle.parts_exchange.specs.{Exchanged.AreMerged, Merging.AreOrderedLines}

-- ---- fit triples

fit_or : (t u : Triple) (ts : List Triple) (b : Bool) → eq_by_cmp triple_cmp t u ≡ b → HasFitAndShortTerms u
    → (has triple_cmp t ts ≡ true → HasFitAndShortTerms t) → (b || has triple_cmp t ts) ≡ true → HasFitAndShortTerms t
fit_or t u ts true same fit later there = subst HasFitAndShortTerms (sym (triple_cmp-IsAntisymmetric t u (equal _ same))) fit
fit_or t u ts false other fit later there = later there

pub fit_one : (ts : List Triple) → AllByRecursion HasFitAndShortTerms ts → (t : Triple) → has triple_cmp t ts ≡ true → HasFitAndShortTerms t
fit_one [] fit t there = absurd (true≢false (sym there))
fit_one (u ∷ ts) fit t there = fit_or t u ts (eq_by_cmp triple_cmp t u) refl fit.0 (λ later. fit_one ts fit.1 t later) there

pub fit_each : (ts : List Triple) → ((t : Triple) → has triple_cmp t ts ≡ true → HasFitAndShortTerms t) → AllByRecursion HasFitAndShortTerms ts
fit_each [] each = tt
fit_each (t ∷ ts) each =
    (each t (has_itself triple_cmp-total t ts), fit_each ts (λ u there. each u (or_true (eq_by_cmp triple_cmp u t) _ there)))

held_fit : (by_two : List EntityId) (y : EntityId) (held : Option (Held Bytes)) (t : Triple)
    → has triple_cmp t (triples_held (meaning_by meaning by_two) y held) ≡ true → HasFitAndShortTerms t
held_fit by_two y None t there = absurd (true≢false (sym there))
held_fit by_two y (Some h) t there =
    fit_one (meaning (version_at by_two y) y h.revision h.content) (meaning_fit (version_at by_two y) y h.revision h.content) t there

-- all that held pages mean is fit
pub union_fit : (by_two : List EntityId) (records : Records) (t : Triple)
    → has triple_cmp t (union triple_cmp (meaning_by meaning by_two) records) ≡ true → HasFitAndShortTerms t
union_fit by_two records t there =
    let found =
    holder (meaning_by meaning by_two) records t (sym (has-union triple_cmp-total (meaning_by meaning by_two) records t) ∙ there) in
    held_fit by_two found.0 (record_of records found.0).held t found.1

-- ---- two texts

-- the triples are those of two texts of lines to be merged, and the lines of each are in order
abbrev pub AreMergedInOrder : TripleLines → TripleLines → List Triple → Type 0
AreMergedInOrder first second triples =
    (merged : AreMerged first second triples) × AreOrderedLines merged.some × AreOrderedLines merged.others

module _ (first second : TripleLines) (old new own_before own_after before after : List Triple) (p q : Counts) where
  abbrev own : List Triple
  own = difference triple_cmp own_after own_before

  abbrev others : List Triple
  others = difference triple_cmp (map.keys q) (map.keys p)

  -- two differences, of which the second is by keys
  pub merged_in_order : AreLinesOf first (difference triple_cmp (sorted triple_cmp new) (sorted triple_cmp old)) → AreLinesOf second others
      → sorted triple_cmp old ≡ own_before → sorted triple_cmp new ≡ own_after
      → ((t : Triple) → has triple_cmp t own ≡ true → has triple_cmp t others ≡ false)
      → difference triple_cmp after before ≡ sorted triple_cmp (own ++ others)
      → ((t : Triple) → has triple_cmp t after ≡ true → HasFitAndShortTerms t)
      → AreMergedInOrder first second (difference triple_cmp after before)
  merged_in_order first_are second_are before_is after_is once all fit =
      let there : (t : Triple) → (has triple_cmp t own || has triple_cmp t others) ≡ true → HasFitAndShortTerms t = λ t is.
      fit t
      (and_right _ _ (sym (has-difference triple_cmp-total t after before) ∙ ap (has triple_cmp t) all ∙ has-sorted triple_cmp-total t (own ++ others) ∙ has-append triple_cmp t own others ∙ is))
      in
      let own_rises : IsRising triple_cmp own_after = subst (IsRising triple_cmp) after_is (IsRising-sorted triple_cmp-total new) in (
        record {
          some = own;
          others = others;
          first_are = subst (AreLinesOf first) (λ i. difference triple_cmp (after_is i) (before_is i)) first_are;
          second_are = second_are;
          once = once;
          all = all;
        },
        record {
          rising = IsRising-filter triple_cmp _ own_after own_rises;
          fit = fit_each own (λ t is. there t (or_left (has triple_cmp t own) _ is));
        },
        record {
          rising = IsRising-filter triple_cmp _ (map.keys q) (rising_keys triple_cmp (map.entries q) (map.entries_sorted q));
          fit = fit_each others (λ t is. there t (or_true (has triple_cmp t own) _ is));
        },
      )

-- ---- no change

pub none_differ : (triples more : List Triple) → ((t : Triple) → has triple_cmp t triples ≡ true → has triple_cmp t more ≡ true)
    → difference triple_cmp triples more ≡ []
none_differ [] more all = refl
none_differ (t ∷ triples) more all =
    ap (λ b. cond (not b) (t ∷ difference triple_cmp triples more) (difference triple_cmp triples more))
    (all t (has_itself triple_cmp-total t triples))
    ∙ none_differ triples more (λ u there. all u (or_true (eq_by_cmp triple_cmp u t) _ there))

-- two texts without lines are what comes where nothing changes
abbrev pub nothing_told : (triples : List Triple) (first second : TripleLines) → AreLinesOf first [] → AreLinesOf second []
    → AreMerged first second (difference triple_cmp triples triples)
nothing_told triples first second first_are second_are = record {
  some = [];
  others = [];
  first_are = first_are;
  second_are = second_are;
  once = λ t there. refl;
  all = none_differ triples triples (λ t there. there);
}
