-- That each step of a replay begins where the last one ended, and records that are those of its stream.
use Rattle.std.specs.Prelude.{◌≡◌, ℕ, ◌<◌, ◌≤◌, List, [], ◌∷◌, flat_map, IsSome}
use Rattle.std.specs.List.{AllByRecursion}
use Rattle.sorted_sets.specs.Rising.{Each, In, IsRising}
use Rattle.wq_io.specs.Lines.{lines}
use Rattle.rdf_term.specs.{declared.triple.Triple.Triple, Fit.HasFitAndShortTerms, Order.triple_cmp}
use Rattle.meaning_texts.specs.Terms.{HasUtf8Terms}
use Rattle.replica.specs.{declared.record.PatchRecord.PatchRecord, Laws.HasShortNumbers, Record.record_lines, Replica.numbered}
use Rattle.patch_stream.specs.Stream.{Step, changes, stream, stream_text}

-- the step begins at these triples; what is stored before it and after it are sets of triples of fit and short terms in UTF-8
pub record BeginsAt (stored : List Triple) (s : Step) : Type 0 where
  pub begins : s.before ≡ stored
  pub rises : IsRising triple_cmp s.before
  pub rises_after : IsRising triple_cmp s.after
  pub fit : AllByRecursion HasFitAndShortTerms s.before
  pub fit_after : AllByRecursion HasFitAndShortTerms s.after
  pub utf8 : AllByRecursion HasUtf8Terms s.before
  pub utf8_after : AllByRecursion HasUtf8Terms s.after

-- each step begins where the one before it ended, the first at the first triples, and the last ends at the last ones
abbrev pub IsChain : List Triple → List Step → List Triple → Type 0
IsChain first [] last = first ≡ last
IsChain first (s ∷ steps) last = BeginsAt first s × IsChain s.after steps last

-- these are records of the stream of the steps, in any order, each of them once or more
pub record AreOfStream (steps : List Step) (items : List PatchRecord) : Type 0 where
  pub each : Each (λ item. In item (stream steps)) items
  pub every : (number : ℕ) → 0 < number → number ≤ changes steps → IsSome (numbered number items)

-- the texts of the stream's records can be read: they are those of records that a reader gives, and have the lines of these, and no other
pub record CanBeRead (steps : List Step) : Type 0 where
  pub sound : AllByRecursion HasShortNumbers (stream steps)
  pub are_lines : lines (stream_text steps) ≡ flat_map record_lines (stream steps)
