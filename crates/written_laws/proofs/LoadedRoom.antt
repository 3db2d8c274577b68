-- Where the bytes of a saved world have no room, the triples of the world have none.
use Rattle.std.proofs.Common.{◌≡◌, ℕ, ◌+◌, ◌<◌, ◌≤◌, T, Bool, true, false, ◌&&◌, ◌||◌, List, [], ◌∷◌, ◌++◌, Option, map, length, fold, Some, refl, sym, ◌∙◌, ap, ap₂, subst, arith, append_assoc}
use Rattle.std.specs.{List.flat_map, FinMap.entries_sorted, FinMap.get-entries, FinMap.get-from_entries, FinMap.same_map}
use Rattle.std.specs.{FinMap.Entries.below_all, FinMap.Entries.find, FinMap.Entries.is_sorted, Ordering.eq_by_cmp}
use Rattle.std.specs.Cmp.{IsTotalOrder}
use Rattle.std.specs.Prelude.{⊤}
use Rattle.std.specs.declared.cmp.Ordering.{Ordering}
use Rattle.std.specs.FinMap as finite
use Rattle.sorted_sets.specs.Rising.{Each, has}
use Rattle.sorted_sets.proofs.{Bools.equal, Bools.or_true, Keys.and_first, Keys.and_second}
use Rattle.sorted_sets.proofs.Rising.{has-append, has-sorted, has_itself}
use Rattle.rdf_term.specs.{declared.term.Term.Term, declared.triple.Triple.Triple}
use Rattle.rdf_term.specs.Order.{term_cmp, term_cmp-total, triple_cmp, triple_cmp-total}
use Rattle.rdf_term.proofs.Texts.{term_cmp-IsAntisymmetric, triple_cmp-IsAntisymmetric}
use Rattle.triple_store.specs.Room.{distinct, terms_of}
use Rattle.triple_store.proofs.Distinct.{fewer}
use Rattle.entity_model.specs.{declared.id.EntityId.EntityId, declared.event.Event.Event, declared.mapping.MappingVersion.MappingVersion}
use Rattle.entity_model.specs.EntityId.{entity_cmp, entity_cmp_same, entity_cmp_total}
use Rattle.entity_state.specs.{declared.record.Held.Held, declared.record.Record.Record}
use Rattle.entity_state.specs.declared.entry.Entry.{Entry}
use Rattle.replay_model.specs.{Records.Bytes, Records.Records, ReplayState.ReplayState}
use Rattle.replay_model.specs.{Union.Meaning, Union.triples_at, Union.triples_held, Union.union, Versions.all_by, Versions.meaning_by}
use Rattle.replay_model.proofs.{Versions.union-all, ToldContents.Each-append}
use Rattle.fetched_pages.specs.Meaning.{meaning}
use Rattle.shared_triples.specs.Lean.{stored_of, strangers}
use Rattle.holders.specs.Roomed.{room_with}
use Rattle.lean_holdings.specs.{Changing.counted_with, Changing.named_by, Changing.needs_of, Changing.needs_where, Changing.shared_by, Holding.strangers_on}
use Rattle.lean_holdings.proofs.{Naming.named_held, Needing.room_more}
use Rattle.world.specs.{Limit.Limit, Limit.needs, Limit.stored_by, Roomed.needs_now, WorldState.WorldState}
use Rattle.snapshot.specs.declared.line.Line.{Line}
use Rattle.snapshot.specs.declared.line.Line.TheVariants.{Head as Begins, Remembered, Entity, Side, End}
use Rattle.snapshot.specs.LineText.{line_of}
use Rattle.snapshot.specs.Whole.{Loading, Saved, unbegun, begun, beginning, entity_line, head_of, lines_before_end, recording}
use Rattle.snapshot.specs.declared.counts.Counts.{Counts}
use Rattle.snapshot.proofs.LineTextBack.{line_text_back}
use Rattle.snapshot.proofs.WholeBack.{kept_in, noted_in, records_fold, recorded_fold, noted_again}
use Rattle.checkpoint.specs.declared.stage.Stage.{Stage}
use Rattle.checkpoint.specs.declared.stage.Stage.TheVariants.{Unbegun, Begun, Ended}
use Rattle.checkpoint.specs.{Causes.IsFileOverfull, Loading.HasNoRoomForLine, Loading.IsLoadable, Loading.Leads, Loading.loading_of}
use Rattle.checkpoint.specs.Saved.{saved_of}
use Rattle.checkpoint.proofs.OneCause.{each_front, leads_same}
use Rattle.written_laws.proofs.Loadable.{Next, Stands, at, bytes, entries_lead, events_lead, leads-append, next_line, noted, recorded, records_lead, s}

-- ---- fewer triples have no more terms

or_left : (a b : Bool) → a ≡ true → (a || b) ≡ true
or_left true b is = refl
or_left false b is = cc

-- a term of triples is one of a triple's
record OneOf (ts : List Triple) (k : Term) : Type 0 where
  triple : Triple
  there : has triple_cmp triple ts ≡ true
  own : has term_cmp k (terms_of triple) ≡ true

one_of : (ts : List Triple) (k : Term) → has term_cmp k (flat_map terms_of ts) ≡ true → OneOf ts k
one_of [] k there = cc
one_of (t ∷ ts) k there =
    by (has term_cmp k (terms_of t)) refl (λ later. one_of ts k later) (sym (has-append term_cmp k (terms_of t) (flat_map terms_of ts)) ∙ there)
  where
    by : (b : Bool) → has term_cmp k (terms_of t) ≡ b → (has term_cmp k (flat_map terms_of ts) ≡ true → OneOf ts k) → (b || has term_cmp k (flat_map terms_of ts)) ≡ true → OneOf (t ∷ ts) k
    by true here rest is = record { triple = t; there = has_itself triple_cmp-total t ts; own = here }
    by false here rest is =
        let one = rest is in
        record { triple = one.triple; there = or_true (eq_by_cmp triple_cmp one.triple t) (has triple_cmp one.triple ts) one.there; own = one.own }

terms_there : (ts : List Triple) (t : Triple) (k : Term) → has triple_cmp t ts ≡ true → has term_cmp k (terms_of t) ≡ true → has term_cmp k (flat_map terms_of ts) ≡ true
terms_there [] t k there own = cc
terms_there (u ∷ ts) t k there own = has-append term_cmp k (terms_of u) (flat_map terms_of ts) ∙ by (eq_by_cmp triple_cmp t u) refl there (λ later. terms_there ts t k later own)
  where
    by : (b : Bool) → eq_by_cmp triple_cmp t u ≡ b → (b || has triple_cmp t ts) ≡ true → (has triple_cmp t ts ≡ true → has term_cmp k (flat_map terms_of ts) ≡ true) → (has term_cmp k (terms_of u) || has term_cmp k (flat_map terms_of ts)) ≡ true
    by true tie is rest = or_left (has term_cmp k (terms_of u)) _ (ap (λ (x : Triple). has term_cmp k (terms_of x)) (sym (triple_cmp-IsAntisymmetric t u (equal _ tie))) ∙ own)
    by false other is rest = or_true (has term_cmp k (terms_of u)) _ (rest is)

few_terms : (xs ys : List Triple) → ((t : Triple) → has triple_cmp t xs ≡ true → has triple_cmp t ys ≡ true) → distinct (flat_map terms_of xs) ≤ distinct (flat_map terms_of ys)
few_terms xs ys among =
    fewer term_cmp-total term_cmp-IsAntisymmetric (flat_map terms_of xs) (flat_map terms_of ys)
    (λ k there. let one = one_of xs k there in terms_there ys one.triple k (among one.triple one.there) one.own)

-- ---- some of the records, and one more, mean no more than all

module _ {A : Type 0} (order : A → A → Ordering) (m : Meaning A) where
  from_front : (front back : List (EntityId × Record Bytes)) (t : A) → has order t (flat_map (triples_at m) front) ≡ true → has order t (flat_map (triples_at m) (front ++ back)) ≡ true
  from_front [] back t there = cc
  from_front (e ∷ front) back t there =
      has-append order t (triples_at m e) (flat_map (triples_at m) (front ++ back))
      ∙ by (has order t (triples_at m e)) (sym (has-append order t (triples_at m e) (flat_map (triples_at m) front)) ∙ there) (λ later. from_front front back t later)
    where
      by : (b : Bool) → (b || has order t (flat_map (triples_at m) front)) ≡ true
          → (has order t (flat_map (triples_at m) front) ≡ true → has order t (flat_map (triples_at m) (front ++ back)) ≡ true) → (b || has order t (flat_map (triples_at m) (front ++ back))) ≡ true
      by true is rest = refl
      by false is rest = rest is

  from_one : (front back : List (EntityId × Record Bytes)) (e : EntityId × Record Bytes) (t : A) → has order t (triples_at m e) ≡ true → has order t (flat_map (triples_at m) (front ++ e ∷ back)) ≡ true
  from_one [] back e t there = has-append order t (triples_at m e) (flat_map (triples_at m) back) ∙ or_left _ _ there
  from_one (f ∷ front) back e t there =
      has-append order t (triples_at m f) (flat_map (triples_at m) (front ++ e ∷ back)) ∙ or_true (has order t (triples_at m f)) _ (from_one front back e t there)

  module _ (total : IsTotalOrder order) (part all : Records) (front back : List (EntityId × Record Bytes)) (e : EntityId × Record Bytes) (part_is : finite.entries part ≡ front) (all_is : finite.entries all ≡ front ++ e ∷ back) where
    in_all : (t : A) → has order t (flat_map (triples_at m) (front ++ e ∷ back)) ≡ true → has order t (union order m all) ≡ true
    in_all t there = has-sorted total t (flat_map (triples_at m) (finite.entries all)) ∙ ap (λ es. has order t (flat_map (triples_at m) es)) all_is ∙ there

    part_in_all : (t : A) → has order t (union order m part) ≡ true → has order t (union order m all) ≡ true
    part_in_all t among =
        in_all t (from_front front (e ∷ back) t
        (ap (λ es. has order t (flat_map (triples_at m) es)) (sym part_is) ∙ sym (has-sorted total t (flat_map (triples_at m) (finite.entries part))) ∙ among))

    one_in_all : (t : A) → has order t (triples_at m e) ≡ true → has order t (union order m all) ≡ true
    one_in_all t there = in_all t (from_one front back e t there)

-- ---- and need no more room

module _ (part all : Records) (front back : List (EntityId × Record Bytes)) (e : EntityId × Record Bytes) (part_is : finite.entries part ≡ front) (all_is : finite.entries all ≡ front ++ e ∷ back) where
  few_of_them : (m : Meaning Triple) → room_with m part (triples_at m e) ≤ room_with m all []
  few_of_them m =
      few_terms (union triple_cmp m part ++ triples_at m e) (union triple_cmp m all ++ []) (λ t there.
      has-append triple_cmp t (union triple_cmp m all) []
      ∙ or_left _ _ (by t (has triple_cmp t (union triple_cmp m part)) refl (sym (has-append triple_cmp t (union triple_cmp m part) (triples_at m e)) ∙ there)))
    where
      by : (t : Triple) (b : Bool) → has triple_cmp t (union triple_cmp m part) ≡ b → (b || has triple_cmp t (triples_at m e)) ≡ true → has triple_cmp t (union triple_cmp m all) ≡ true
      by t true among is = part_in_all triple_cmp m triple_cmp-total part all front back e part_is all_is t among
      by t false other is = one_in_all triple_cmp m triple_cmp-total part all front back e part_is all_is t is

  -- the entities that are counted with the one more are named by all
  named_more : (m : Meaning Triple) (y : EntityId) → has entity_cmp y (counted_with (named_by m part) e.0 (triples_at m e)) ≡ true → has entity_cmp y (named_by m all) ≡ true
  named_more m y there =
      by (has entity_cmp y (strangers e.0 (triples_at m e))) refl (sym (has-append entity_cmp y (strangers e.0 (triples_at m e)) (named_by m part)) ∙ there)
    where
      by : (b : Bool) → has entity_cmp y (strangers e.0 (triples_at m e)) ≡ b → (b || has entity_cmp y (named_by m part)) ≡ true → has entity_cmp y (named_by m all) ≡ true
      by true own is = one_in_all entity_cmp (strangers_on m) entity_cmp_total part all front back e part_is all_is y (ap (has entity_cmp y) (named_held m e.0 e.1.held) ∙ own)
      by false other is = part_in_all entity_cmp (strangers_on m) entity_cmp_total part all front back e part_is all_is y is

  few_needs : (lean : Bool) (m : Meaning Triple) → needs lean m m part e.0 e.1.held ≤ room_with (stored_by lean m all) all []
  few_needs false m = few_of_them m
  few_needs true m =
      let counted : List EntityId = counted_with (named_by m part) e.0 (triples_at m e) in
      let some : needs_of m m part e.0 e.1.held ≤ room_with (stored_of counted m) all [] = few_of_them (stored_of counted m) in
      let more : room_with (stored_of counted m) all [] ≤ room_with (shared_by m all) all [] = room_more counted (named_by m all) m all (named_more m) in
      omega (arith, some, more)

-- ---- where every page is mapped by one version

-- the entities that the pages name are those by this version
names_one : (v : MappingVersion) (records : Records) → named_by (meaning_by meaning (all_by v records)) records ≡ named_by (meaning v) records
names_one v records = union-all (λ (k : MappingVersion). strangers_on (meaning k)) v records entity_cmp

-- and so is the room for what is stored
stored_one : (counted : List EntityId) (v : MappingVersion) (records : Records) (ts : List Triple)
    → room_with (stored_of counted (meaning_by meaning (all_by v records))) records ts ≡ room_with (stored_of counted (meaning v)) records ts
stored_one counted v records ts = ap (λ (us : List Triple). distinct (flat_map terms_of (us ++ ts))) (union-all (λ (k : MappingVersion). stored_of counted (meaning k)) v records triple_cmp)

needs_one : (lean : Bool) (v : MappingVersion) (records : Records) (x : EntityId) (held : Option (Held Bytes))
    → needs lean (meaning_by meaning (all_by v records)) (meaning v) records x held ≡ needs lean (meaning v) (meaning v) records x held
needs_one false v records x held = ap (λ (ts : List Triple). distinct (flat_map terms_of (ts ++ triples_held (meaning v) x held))) (union-all meaning v records triple_cmp)
needs_one true v records x held =
    ap (λ (named : List EntityId). needs_where named (meaning_by meaning (all_by v records)) (meaning v) records x held) (names_one v records)
    ∙ stored_one (counted_with (named_by (meaning v) records) x (triples_held (meaning v) x held)) v records
    (triples_held (stored_of (counted_with (named_by (meaning v) records) x (triples_held (meaning v) x held)) (meaning v)) x held)

room_one : (lean : Bool) (v : MappingVersion) (records : Records) → room_with (stored_by lean (meaning_by meaning (all_by v records)) records) records [] ≡ room_with (stored_by lean (meaning v) records) records []
room_one false v records = ap (λ (ts : List Triple). distinct (flat_map terms_of (ts ++ []))) (union-all meaning v records triple_cmp)
room_one true v records =
    ap (λ (named : List EntityId). room_with (stored_of named (meaning_by meaning (all_by v records))) records []) (names_one v records)
    ∙ stored_one (named_by (meaning v) records) v records []

-- ---- where the line of a record stands

abbrev IsOther : Line → Type 0
IsOther (Begins h) = ⊤
IsOther (Remembered e) = ⊤
IsOther (Entity x r) = ⊥
IsOther (Side entry) = ⊤
IsOther (End n) = ⊤

-- the record is among these, and the lines before its own are these and those of the records before it
record Placed (es : List (EntityId × Record Bytes)) (others done : List Line) (e : EntityId × Record Bytes) : Type 0 where
  front : List (EntityId × Record Bytes)
  back : List (EntityId × Record Bytes)
  is : es ≡ front ++ e ∷ back
  done_is : done ≡ others ++ map entity_line front

no_middle : {A : Type 0} (xs ys : List A) (y : A) → [] ≡ xs ++ y ∷ ys → ⊥
no_middle [] ys y is = cc
no_middle (x ∷ xs) ys y is = cc

behind_record : (e : EntityId × Record Bytes) (es : List (EntityId × Record Bytes)) (d : Line) (done : List Line) (one : EntityId × Record Bytes) → d ≡ entity_line e → Placed es [] done one → Placed (e ∷ es) [] (d ∷ done) one
behind_record e es d done one first p = record { front = e ∷ p.front; back = p.back; is = ap (λ l. e ∷ l) p.is; done_is = ap₂ (λ a l. a ∷ l) first p.done_is }

among_records : (es : List (EntityId × Record Bytes)) (n : ℕ) (done : List Line) (x : EntityId) (r : Record Bytes) (todo : List Line) → map entity_line es ++ End n ∷ [] ≡ done ++ Entity x r ∷ todo → Placed es [] done (x, r)
among_records [] n [] x r todo is = cc
among_records [] n (d ∷ done) x r todo is = let rest : [] ≡ done ++ Entity x r ∷ todo = cc in absurd (no_middle done todo (Entity x r) rest)
among_records (e ∷ es) n [] x r todo is =
    let id : e.0 ≡ x = cc in
    let own : e.1 ≡ r = cc in
    record { front = []; back = es; is = ap₂ (λ a b. (a, b) ∷ es) id own; done_is = refl }
among_records (e ∷ es) n (d ∷ done) x r todo is =
    let first : d ≡ entity_line e = cc in
    let rest : map entity_line es ++ End n ∷ [] ≡ done ++ Entity x r ∷ todo = cc in
    behind_record e es d done (x, r) first (among_records es n done x r todo rest)

behind_other : (o : Line) (others : List Line) (es : List (EntityId × Record Bytes)) (d : Line) (done : List Line) (one : EntityId × Record Bytes) → d ≡ o → Placed es others done one → Placed es (o ∷ others) (d ∷ done) one
behind_other o others es d done one first p = record { front = p.front; back = p.back; is = p.is; done_is = ap₂ (λ a l. a ∷ l) first p.done_is }

behind_others : (others : List Line) → Each IsOther others → (es : List (EntityId × Record Bytes)) (n : ℕ) (done : List Line) (x : EntityId) (r : Record Bytes) (todo : List Line)
    → others ++ (map entity_line es ++ End n ∷ []) ≡ done ++ Entity x r ∷ todo → Placed es others done (x, r)
behind_others [] none es n done x r todo is = among_records es n done x r todo is
behind_others (o ∷ others) none es n [] x r todo is = let same : o ≡ Entity x r = cc in absurd (subst IsOther same none.0)
behind_others (o ∷ others) none es n (d ∷ done) x r todo is =
    let first : d ≡ o = cc in
    let rest : others ++ (map entity_line es ++ End n ∷ []) ≡ done ++ Entity x r ∷ todo = cc in
    behind_other o others es d done (x, r) first (behind_others others none.1 es n done x r todo rest)

events_other : (es : List Event) → Each IsOther (map Remembered es)
events_other [] = tt
events_other (e ∷ es) = (tt, events_other es)

entries_other : (es : List Entry) → Each IsOther (map Side es)
entries_other [] = tt
entries_other (e ∷ es) = (tt, entries_other es)

-- the first of sorted entries are sorted
both : (a b : Bool) → T a → T b → T (a && b)
both true b first second = second
both false b first second = absurd first

below_front : (k : EntityId) (front back : List (EntityId × Record Bytes)) → T (below_all entity_cmp k (front ++ back)) → T (below_all entity_cmp k front)
below_front k [] back rise = tt
below_front k (e ∷ front) back rise = both _ _ (and_first _ _ rise) (below_front k front back (and_second _ _ rise))

sorted_front : (front back : List (EntityId × Record Bytes)) → T (is_sorted entity_cmp (front ++ back)) → T (is_sorted entity_cmp front)
sorted_front [] back rise = tt
sorted_front (e ∷ front) back rise = both _ _ (below_front e.0 front back (and_first _ _ rise)) (sorted_front front back (and_second _ _ rise))

-- a map of sorted entries, put in one by one or at once
sorted_map : (es : List (EntityId × Record Bytes)) → T (is_sorted entity_cmp es) → finite.from_entries {R = entity_cmp} es ≡ finite.from_sorted {R = entity_cmp} es
sorted_map es rise =
    same_map entity_cmp_total entity_cmp_same (finite.from_entries {R = entity_cmp} es) (finite.from_sorted {R = entity_cmp} es)
    (λ q. get-from_entries entity_cmp_total es q ∙ sym (get-entries (finite.from_sorted {R = entity_cmp} es) q ∙ ap (find entity_cmp q) (finite.entries-from_sorted entity_cmp es rise)))

-- ---- the world

module _ (w : WorldState) (counts : Counts) (is : IsLoadable w counts) where
  abbrev others : List Line
  others = Begins (head_of (s w counts is)) ∷ (map Remembered w.replay.buffer.kept ++ map Side w.replay.played.side)

  abbrev all : List (EntityId × Record Bytes)
  all = finite.entries w.replay.played.records

  none : Each IsOther others
  none = (tt, Each-append IsOther (map Remembered w.replay.buffer.kept) (map Side w.replay.played.side) (events_other w.replay.buffer.kept) (entries_other w.replay.played.side))

  lines_grouped : (last : Line) → lines_before_end (s w counts is) ++ last ∷ [] ≡ others ++ (map entity_line all ++ last ∷ [])
  lines_grouped last =
      let kept = map Remembered w.replay.buffer.kept in
      let side = map Side w.replay.played.side in
      ap (λ l. Begins (head_of (s w counts is)) ∷ l)
      (ap (λ l. l ++ last ∷ []) (sym (append_assoc kept side (map entity_line all))) ∙ append_assoc (kept ++ side) (map entity_line all) (last ∷ []))

  -- behind these lines and those of some records
  abbrev reached_at : ℕ
  reached_at = 1 + length w.replay.buffer.kept + length w.replay.played.side

  lead_to : (front back : List (EntityId × Record Bytes)) → all ≡ front ++ back
      → Leads unbegun (others ++ map entity_line front) (at (s w counts is) (fold recording (noted_in (s w counts is)) front) (reached_at + length front))
  lead_to front back parts = (
    is.within,
    (
      at (s w counts is) (beginning (head_of (s w counts is))).state 1,
      refl,
      leads-append _ _ (at (s w counts is) (noted_in (s w counts is)) reached_at) _ _
          (leads-append _ _ (at (s w counts is) (kept_in (s w counts is)) (1 + length w.replay.buffer.kept)) _ _
          (events_lead w.replay.buffer.kept (s w counts is) (beginning (head_of (s w counts is))).state 1)
          (entries_lead w.replay.played.side (s w counts is) (kept_in (s w counts is)) (1 + length w.replay.buffer.kept) (noted w counts is)))
          (records_lead front (s w counts is) (noted_in (s w counts is)) reached_at
          (each_front (Stands (noted_in (s w counts is)).played.side) front back (subst (Each (Stands (noted_in (s w counts is)).played.side)) parts (recorded w counts is))).0),
    ),
  )

  -- the records that went in so far are the first ones
  some_records : (front back : List (EntityId × Record Bytes)) → all ≡ front ++ back → finite.entries (fold recording (noted_in (s w counts is)) front).played.records ≡ front
  some_records front back parts =
      let rise : T (is_sorted entity_cmp (front ++ back)) = subst (λ es. T (is_sorted entity_cmp es)) parts (entries_sorted w.replay.played.records) in
      let none_before : (noted_in (s w counts is)).played.records ≡ finite.empty = ap (λ (v : ReplayState). v.played.records) (noted_again (s w counts is) is.rests) in
      ap (λ (v : ReplayState). finite.entries v.played.records) (recorded_fold front (noted_in (s w counts is)))
      ∙ ap (λ (m : Records). finite.entries (fold (λ m e. finite.insert m e.0 e.1) m front)) none_before
      ∙ ap finite.entries (records_fold [] front (sorted_front front back rise))
      ∙ ap finite.entries (sorted_map front (sorted_front front back rise))
      ∙ finite.entries-from_sorted entity_cmp front (sorted_front front back rise)

  pub full_only : (room : Limit) → IsFileOverfull room (bytes w counts is) → room.terms < room_with (stored_by room.lean (meaning_by meaning w.by_two) w.replay.played.records) w.replay.played.records []
  full_only room full = by_item next.item refl over
    where
      loading : Loading
      loading = loading_of full.world full.stage (length full.done)

      next : Next w counts is loading full.line
      next = next_line w counts is full.done loading full.first full.line full.others full.next

      over : HasNoRoomForLine full.world next.item
      over =
          let read : Some full.over.item ≡ Some next.item = sym full.over.read ∙ ap line_of next.text_is ∙ line_text_back next.item next.fit in
          let same : full.over.item ≡ next.item = cc in
          subst (HasNoRoomForLine full.world) same full.over.lacks.over

      by_item : (item : Line) → next.item ≡ item → HasNoRoomForLine full.world item → room.terms < room_with (stored_by room.lean (meaning_by meaning w.by_two) w.replay.played.records) w.replay.played.records []
      by_item (Begins h) item_is over = absurd over
      by_item (Remembered e) item_is over = absurd over
      by_item (Side entry) item_is over = absurd over
      by_item (End n) item_is over = absurd over
      by_item (Entity x r) item_is over = by_stage full.stage refl
        where
          placed : Placed all others next.done (x, r)
          placed =
              behind_others others none all (length (lines_before_end (s w counts is))) next.done x r next.todo
              (sym (lines_grouped (End (length (lines_before_end (s w counts is))))) ∙ next.lines_are ∙ ap (λ item. next.done ++ item ∷ next.todo) item_is)

          parts : all ≡ placed.front ++ (x, r) ∷ placed.back
          parts = placed.is

          there : loading ≡ at (s w counts is) (fold recording (noted_in (s w counts is)) placed.front) (reached_at + length placed.front)
          there =
              leads_same unbegun (others ++ map entity_line placed.front) loading _ (subst (λ ls. Leads unbegun ls loading) placed.done_is next.lead) (lead_to placed.front ((x, r) ∷ placed.back) parts)

          by_stage : (stage : Stage) → full.stage ≡ stage → room.terms < room_with (stored_by room.lean (meaning_by meaning w.by_two) w.replay.played.records) w.replay.played.records []
          by_stage Unbegun stage_is =
              let never : unbegun ≡ at (s w counts is) _ _ = ap (λ (g : Stage). loading_of full.world g (length full.done)) (sym stage_is) ∙ there in cc
          by_stage (Ended read) stage_is =
              let never : loading_of full.world (Ended read) (length full.done) ≡ at (s w counts is) _ _ = ap (λ (g : Stage). loading_of full.world g (length full.done)) (sym stage_is) ∙ there in cc
          by_stage (Begun read) stage_is =
              let begun_is : begun (saved_of full.world read) (length full.done) ≡ at (s w counts is) (fold recording (noted_in (s w counts is)) placed.front) (reached_at + length placed.front) =
              ap (λ (g : Stage). loading_of full.world g (length full.done)) (sym stage_is) ∙ there in
              let saved_is : saved_of full.world read ≡ record (s w counts is) { state = fold recording (noted_in (s w counts is)) placed.front } = cc in
              let version : full.world.mapping ≡ w.mapping = ap (λ (k : Saved). k.version) saved_is in
              let records : finite.entries full.world.replay.played.records ≡ placed.front =
              ap (λ (k : Saved). finite.entries k.state.played.records) saved_is ∙ some_records placed.front ((x, r) ∷ placed.back) parts in
              let few : needs room.lean (meaning w.mapping) (meaning w.mapping) full.world.replay.played.records x r.held ≤ room_with (stored_by room.lean (meaning w.mapping) w.replay.played.records) w.replay.played.records [] =
              few_needs full.world.replay.played.records w.replay.played.records placed.front placed.back (x, r) records parts room.lean (meaning w.mapping) in
              let same_limit : needs_now full.world x r.held ≡ needs room.lean (meaning_by meaning (all_by full.world.mapping full.world.replay.played.records)) (meaning full.world.mapping) full.world.replay.played.records x r.held =
              λ i. needs (full.limit i).lean (meaning_by meaning (full.ready.by_one i)) (meaning full.world.mapping) full.world.replay.played.records x r.held in
              let own : needs_now full.world x r.held ≡ needs room.lean (meaning w.mapping) (meaning w.mapping) full.world.replay.played.records x r.held =
              same_limit
              ∙ needs_one room.lean full.world.mapping full.world.replay.played.records x r.held
              ∙ ap (λ (v : MappingVersion). needs room.lean (meaning v) (meaning v) full.world.replay.played.records x r.held) version in
              let whole : room_with (stored_by room.lean (meaning_by meaning w.by_two) w.replay.played.records) w.replay.played.records []
              ≡ room_with (stored_by room.lean (meaning w.mapping) w.replay.played.records) w.replay.played.records [] =
              ap (λ (ids : List EntityId). room_with (stored_by room.lean (meaning_by meaning ids) w.replay.played.records) w.replay.played.records []) is.by_one
              ∙ room_one room.lean w.mapping w.replay.played.records in
              omega (arith, ap (λ (l : Limit). l.terms) full.limit, over, own, few, whole)
