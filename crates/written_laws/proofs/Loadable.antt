-- The bytes that are written of a world which a replay may have are read line by line, and no line is refused.
use Rattle.std.proofs.Common.{◌≡◌, ℕ, ℤ, ◌+◌, ◌<◌, T, Bool, true, false, cond, ◌||◌, List, [], ◌∷◌, ◌++◌, map, length, fold, Option, None, Some, unwrap_or, inl, inr, refl, sym, ◌∙◌, ap, ap₂, subst, arith, append_assoc}
use Rattle.std.specs.Prelude.{◌⊎◌}
use Rattle.std.specs.{Str.IsUtf8, FinMap.entries_sorted, FinMap.get-entries, FinMap.Entries.find, FinMap.Entries.is_sorted}
use Rattle.std.specs.{Ordering.eq_by_cmp, Cmp.eq_by_cmp_equiv}
use Rattle.std.specs.FinMap as finite
use Rattle.sorted_sets.specs.Rising.{Each, has}
use Rattle.sorted_sets.proofs.Bools.{and_left, or_true}
use Rattle.wq_io.specs.Lines.{lines}
use Rattle.entity_model.specs.{declared.id.EntityId.EntityId, declared.event.Event.Event, EntityId.entity_cmp, EntityId.entity_cmp_total}
use Rattle.entity_model.specs.Event.{event_cmp, event_cmp_total}
use Rattle.entity_state.specs.{Record.blank, declared.record.Record.Record}
use Rattle.entity_state.specs.declared.entry.Cause.TheVariants.{Missing, Failed, Unfit}
use Rattle.entity_state.specs.{declared.entry.Entry.Entry, declared.entry.Entry.TheVariants.Late, declared.entry.Entry.TheVariants.Revision}
use Rattle.reorder_buffer.specs.Watermarks.{is_due, reached}
use Rattle.replay_model.specs.{Records.Bytes, Records.record_of, Replies.failed_events, ReplayState.ReplayState}
use Rattle.replay_model.proofs.ToldContents.{Each-append}
use Rattle.world.specs.{Restoring.MayStand, WorldState.WorldState}
use Rattle.snapshot.specs.declared.line.Line.{Line}
use Rattle.snapshot.specs.declared.line.Line.TheVariants.{Remembered, Side, End}
use Rattle.snapshot.specs.{File.file_text, File.lines_in, Fit.HasDocument, Fit.IsFitLine, LineText.line_of, LineText.line_text}
use Rattle.snapshot.specs.Whole.{Loading, Saved, unbegun, begun, ended as whole_of, beginning, entity_line, head_of, lines_before_end, noting, recording, remembering, snapshot_lines, whole}
use Rattle.snapshot.specs.declared.counts.Counts.{Counts}
use Rattle.snapshot.proofs.{FileBack.feeds-ended, FileBack.lines-ended, FileBack.lines_back, FileBack.lines_fit, LineLength.line_length}
use Rattle.snapshot.proofs.{LineTextBack.line_text_back, LineUtf8.line_utf8}
use Rattle.snapshot.proofs.WholeBack.{counted, kept_again, kept_in, lines_counted, not_before, noted_again, noted_in, recorded_in, same_count, same_state}
use Rattle.checkpoint.specs.Causes.{EndsEarly, IsBadSnapshotLine, IsNoSnapshot, IsUnended}
use Rattle.checkpoint.specs.Loading.{BeginsWith, HasReachedFailed, IsLoadable, IsRefused, Leads, longest_line, may_note}
use Rattle.checkpoint.specs.Saved.{saved_of}
use Rattle.checkpoint.proofs.OneCause.{Comes, comes, each_front, in_place, leads_same}

-- ---- lines that lead from one place to another

pub leads-append : (a : Loading) (xs : List Line) (b : Loading) (ys : List Line) (c : Loading) → Leads a xs b → Leads b ys c → Leads a (xs ++ ys) c
leads-append a [] b ys c first second = subst (λ (l : Loading). Leads l ys c) (sym first) second
leads-append a (x ∷ xs) b ys c first second = (first.0, (first.1.0, first.1.1, leads-append first.1.0 xs b ys c first.1.2 second))

-- ---- the lines of one form

abbrev pub at : Saved → ReplayState → ℕ → Loading
at s w n = begun (record s { state = w }) n

pub events_lead : (es : List Event) (s : Saved) (w : ReplayState) (n : ℕ) → Leads (at s w n) (map Remembered es) (at s (fold remembering w es) (n + length es))
events_lead [] s w n = let same : n ≡ n + 0 = omega arith in ap (at s w) same
events_lead (e ∷ es) s w n =
    let same : n + 1 + length es ≡ n + length (e ∷ es) = omega arith in
    (tt, (at s (remembering w e) (n + 1), refl, subst (λ m. Leads (at s (remembering w e) (n + 1)) (map Remembered es) (at s (fold remembering (remembering w e) es) m)) same (events_lead es s (remembering w e) (n + 1))))

pub entries_lead : (es : List Entry) (s : Saved) (w : ReplayState) (n : ℕ) → Each (λ entry. may_note w.buffer.mark entry ≡ true) es
    → Leads (at s w n) (map Side es) (at s (fold noting w es) (n + length es))
entries_lead [] s w n may = let same : n ≡ n + 0 = omega arith in ap (at s w) same
entries_lead (e ∷ es) s w n may =
    let same : n + 1 + length es ≡ n + length (e ∷ es) = omega arith in
    (may.0, (at s (noting w e) (n + 1), refl, subst (λ m. Leads (at s (noting w e) (n + 1)) (map Side es) (at s (fold noting (noting w e) es) m)) same (entries_lead es s (noting w e) (n + 1) may.1)))

abbrev pub Stands : List Entry → EntityId × Record Bytes → Type 0
Stands side entry = MayStand side entry.0 entry.1

pub records_lead : (es : List (EntityId × Record Bytes)) (s : Saved) (w : ReplayState) (n : ℕ) → Each (Stands w.played.side) es
    → Leads (at s w n) (map entity_line es) (at s (fold recording w es) (n + length es))
records_lead [] s w n may = let same : n ≡ n + 0 = omega arith in ap (at s w) same
records_lead (e ∷ es) s w n may =
    let same : n + 1 + length es ≡ n + length (e ∷ es) = omega arith in
    (may.0, (at s (recording w e) (n + 1), refl, subst (λ m. Leads (at s (recording w e) (n + 1)) (map entity_line es) (at s (fold recording (recording w e) es) m)) same (records_lead es s (recording w e) (n + 1) may.1)))

-- ---- what may stand in a world does at its line

entries_may : (mark : Option ℤ) (side : List Entry) → HasReachedFailed mark side → Each (λ entry. may_note mark entry ≡ true) side
entries_may mark [] reach = tt
entries_may mark (Late e ∷ side) reach = (refl, entries_may mark side reach)
entries_may mark (Revision e r Missing ∷ side) reach = (refl, entries_may mark side reach)
entries_may mark (Revision e r (Unfit why) ∷ side) reach = (refl, entries_may mark side reach)
entries_may mark (Revision e r Failed ∷ side) reach = (
  reach e (ap (λ b. b || has event_cmp e (failed_events side)) ((eq_by_cmp_equiv event_cmp_total).refl e)),
  entries_may mark side (λ q there. reach q (or_true (eq_by_cmp event_cmp q e) (has event_cmp q (failed_events side)) there)),
)

-- the entries of a map are found in it
find_at : {X : Type 0} (done todo : List (EntityId × X)) (k : EntityId) (v : X) → find entity_cmp k done ≡ None → find entity_cmp k (done ++ (k, v) ∷ todo) ≡ Some v
find_at {X = X} [] todo k v none = ap (λ b. cond b (Some v) (find entity_cmp k todo)) ((eq_by_cmp_equiv entity_cmp_total).refl k)
find_at {X = X} (e ∷ done) todo k v none = by (eq_by_cmp entity_cmp k e.0) none (λ later. find_at done todo k v later)
  where
    by : (b : Bool) → cond b (Some e.1) (find entity_cmp k done) ≡ None → (find entity_cmp k done ≡ None → find entity_cmp k (done ++ (k, v) ∷ todo) ≡ Some v)
        → cond b (Some e.1) (find entity_cmp k (done ++ (k, v) ∷ todo)) ≡ Some v
    by true none rest = cc
    by false none rest = rest none

all_found : {X : Type 0} (done todo : List (EntityId × X)) → T (is_sorted entity_cmp (done ++ todo)) → Each (λ (e : EntityId × X). find entity_cmp e.0 (done ++ todo) ≡ Some e.1) todo
all_found {X = X} done [] rise = tt
all_found {X = X} done (e ∷ todo) rise =
    let grouped : (done ++ e ∷ []) ++ todo ≡ done ++ e ∷ todo = append_assoc done (e ∷ []) todo in (
      find_at done todo e.0 e.1 (not_before done todo e.0 e.1 rise),
      subst (λ es. Each (λ (x : EntityId × X). find entity_cmp x.0 es ≡ Some x.1) todo) grouped
          (all_found (done ++ e ∷ []) todo (subst (λ es. T (is_sorted entity_cmp es)) (sym grouped) rise)),
    )

each_then : {A : Type 0} (P Q : A → Type 0) → ((x : A) → P x → Q x) → (xs : List A) → Each P xs → Each Q xs
each_then P Q step [] all = tt
each_then P Q step (x ∷ xs) all = (step x all.0, each_then P Q step xs all.1)

-- ---- lists of texts

-- where a list of texts is cut, so is the list of lines
pub record Cut {A B : Type 0} (f : A → B) (xs : List A) (front : List B) (y : B) : Type 0 where
  pub done : List A
  pub next : A
  pub todo : List A
  pub is : xs ≡ done ++ next ∷ todo
  pub front_is : front ≡ map f done
  pub next_is : y ≡ f next

cut_behind : {A B : Type 0} (f : A → B) (x : A) (xs : List A) (z : B) (front : List B) (y : B) → z ≡ f x → Cut f xs front y → Cut f (x ∷ xs) (z ∷ front) y
cut_behind f x xs z front y first rest = record {
  done = x ∷ rest.done;
  next = rest.next;
  todo = rest.todo;
  is = ap (λ l. x ∷ l) rest.is;
  front_is = ap₂ (λ a l. a ∷ l) first rest.front_is;
  next_is = rest.next_is;
}

pub cut_at : {A B : Type 0} (f : A → B) (xs : List A) (front : List B) (y : B) (back : List B) → map f xs ≡ front ++ y ∷ back → Cut f xs front y
cut_at f [] [] y back is = cc
cut_at f [] (z ∷ front) y back is = cc
cut_at f (x ∷ xs) [] y back is = record { done = []; next = x; todo = xs; is = refl; front_is = refl; next_is = cc }
cut_at f (x ∷ xs) (z ∷ front) y back is =
    let first : z ≡ f x = cc in
    let others : map f xs ≡ front ++ y ∷ back = cc in
    cut_behind f x xs z front y first (cut_at f xs front y back others)

-- ---- a world that may be saved

module _ (w : WorldState) (counts : Counts) (is : IsLoadable w counts) where
  abbrev pub s : Saved
  s = saved_of w counts

  abbrev pub bytes : List ℕ
  bytes = file_text s

  pub reach : HasReachedFailed w.replay.buffer.mark w.replay.played.side
  reach e there =
      sym (ap (λ c. c || reached w.replay.buffer.mark e.time) is.rests.open_still) ∙ and_left (is_due w.replay.buffer.closed w.replay.buffer.mark e) _ (is.applied e there)

  pub stands : Each (Stands w.replay.played.side) (finite.entries w.replay.played.records)
  stands = each_then _ (Stands w.replay.played.side) one (finite.entries w.replay.played.records) (all_found [] (finite.entries w.replay.played.records) (entries_sorted w.replay.played.records))
    where
      one : (e : EntityId × Record Bytes) → find entity_cmp e.0 (finite.entries w.replay.played.records) ≡ Some e.1 → Stands w.replay.played.side e
      one e found =
          let same : record_of w.replay.played.records e.0 ≡ e.1 = ap (λ o. unwrap_or o blank) (get-entries w.replay.played.records e.0 ∙ found) in
          subst (MayStand w.replay.played.side e.0) same (record { settled = is.holds.settled e.0; empty = is.holds.empty e.0; document = is.documents e.0 })

  documents : Each HasDocument (snapshot_lines s)
  documents =
      Each-append HasDocument (lines_before_end s) (End (length (lines_before_end s)) ∷ []) (
        tt,
        Each-append HasDocument (map Remembered w.replay.buffer.kept) _ (events w.replay.buffer.kept)
            (Each-append HasDocument (map Side w.replay.played.side) _ (entries w.replay.played.side) (records (finite.entries w.replay.played.records) stands)),
      )
      (tt, tt)
    where
      events : (es : List Event) → Each HasDocument (map Remembered es)
      events [] = tt
      events (e ∷ es) = (tt, events es)

      entries : (es : List Entry) → Each HasDocument (map Side es)
      entries [] = tt
      entries (e ∷ es) = (tt, entries es)

      records : (es : List (EntityId × Record Bytes)) → Each (Stands w.replay.played.side) es → Each HasDocument (map entity_line es)
      records [] stand = tt
      records (e ∷ es) stand = (stand.0.document, records es stand.1)

  pub noted : Each (λ entry. may_note (kept_in s).buffer.mark entry ≡ true) w.replay.played.side
  noted = subst (λ (v : ReplayState). Each (λ entry. may_note v.buffer.mark entry ≡ true) w.replay.played.side) (sym (kept_again s is.rests)) (entries_may w.replay.buffer.mark w.replay.played.side reach)

  pub recorded : Each (Stands (noted_in s).played.side) (finite.entries w.replay.played.records)
  recorded = subst (λ (v : ReplayState). Each (Stands v.played.side) (finite.entries w.replay.played.records)) (sym (noted_again s is.rests)) stands

  -- the lines lead to what was saved
  lead : Leads unbegun (snapshot_lines s) (whole_of s)
  lead = (is.within, (at s (beginning (head_of s)).state 1, refl, leads-append _ _ (at s (recorded_in s) (lines_counted s)) _ (whole_of s) before last))
    where
      before : Leads (at s (beginning (head_of s)).state 1) (map Remembered w.replay.buffer.kept ++ (map Side w.replay.played.side ++ map entity_line (finite.entries w.replay.played.records))) (at s (recorded_in s) (lines_counted s))
      before =
          leads-append _ _ (at s (kept_in s) (1 + length w.replay.buffer.kept)) _ _ (events_lead w.replay.buffer.kept s (beginning (head_of s)).state 1)
          (leads-append _ _ (at s (noted_in s) (1 + length w.replay.buffer.kept + length w.replay.played.side)) _ _ (entries_lead w.replay.played.side s (kept_in s) (1 + length w.replay.buffer.kept) noted)
          (records_lead (finite.entries w.replay.played.records) s (noted_in s) (1 + length w.replay.buffer.kept + length w.replay.played.side) recorded))

      last : Leads (at s (recorded_in s) (lines_counted s)) (End (length (lines_before_end s)) ∷ []) (whole_of s)
      last = (
        tt,
        (
          whole_of (record s { state = recorded_in s }),
          same_count (length (lines_before_end s)) (lines_counted s) (record s { state = recorded_in s }) (counted s),
          ap (λ (v : ReplayState). whole_of (record s { state = v })) (same_state s is.rests),
        ),
      )

  -- the lines of the bytes
  pub lines_are : lines bytes ≡ map line_text (snapshot_lines s)
  lines_are = lines-ended (snapshot_lines s)

  -- the line behind the first ones may come
  pub record Next (loading : Loading) (text : List ℕ) : Type 0 where
    pub done : List Line
    pub item : Line
    pub todo : List Line
    pub lines_are : snapshot_lines s ≡ done ++ item ∷ todo
    pub lead : Leads unbegun done loading
    pub text_is : text ≡ line_text item
    pub fit : IsFitLine item
    pub document : HasDocument item
    pub here : Comes loading item

  pub next_line : (done : List (List ℕ)) (loading : Loading) (first : BeginsWith bytes done loading) (text : List ℕ) (others : List (List ℕ)) → first.others ≡ text ∷ others → Next loading text
  next_line done loading first text others is_next =
      let cut = cut_at line_text (snapshot_lines s) done text others (sym lines_are ∙ first.are ∙ ap (λ l. done ++ l) is_next) in
      let fit : Each IsFitLine (cut.done ++ cut.next ∷ cut.todo) = subst (Each IsFitLine) cut.is (lines_fit s is.fits) in
      let docs : Each HasDocument (cut.done ++ cut.next ∷ cut.todo) = subst (Each HasDocument) cut.is documents in
      let fits = each_front IsFitLine cut.done (cut.next ∷ cut.todo) fit in
      let read : Some first.items ≡ Some cut.done = sym first.read ∙ ap lines_in cut.front_is ∙ lines_back cut.done fits.0 in
      let items : first.items ≡ cut.done = cc in
      let lead_to : Leads unbegun cut.done loading = subst (λ ls. Leads unbegun ls loading) items first.lead in
      record {
        done = cut.done;
        item = cut.next;
        todo = cut.todo;
        lines_are = cut.is;
        lead = lead_to;
        text_is = cut.next_is;
        fit = fits.1.0;
        document = (each_front HasDocument cut.done (cut.next ∷ cut.todo) docs).1.0;
        here = comes unbegun cut.done cut.next cut.todo (whole_of s) loading (subst (λ ls. Leads unbegun ls (whole_of s)) cut.is lead) lead_to;
      }

  not_refused : (loading : Loading) (text : List ℕ) → Next loading text → IsRefused text loading → ⊥
  not_refused loading text next (inl no_text) = no_text (subst IsUtf8 (sym next.text_is) (line_utf8 next.item next.document))
  not_refused loading text next (inr out) = in_place loading next.item next.here (out next.item (ap line_of next.text_is ∙ line_text_back next.item next.fit))

  no_bad_line : (n : ℕ) → IsBadSnapshotLine bytes n → ⊥
  no_bad_line n bad = by bad.refused
    where
      next : Next bad.loading bad.line
      next = next_line bad.done bad.loading bad.first bad.line bad.others bad.next

      by : IsRefused bad.line bad.loading ⊎ (longest_line < length bad.line) → ⊥
      by (inl refused) = not_refused bad.loading bad.line next refused
      by (inr long) = absurd (omega (arith, line_length next.item next.document, ap length next.text_is, long))

  not_early : (n : ℕ) → EndsEarly bytes n → ⊥
  not_early n early =
      let read : Some early.all.items ≡ Some (snapshot_lines s) = sym early.all.read ∙ ap lines_in lines_are ∙ lines_back (snapshot_lines s) (lines_fit s is.fits) in
      let items : early.all.items ≡ snapshot_lines s = cc in
      let same : early.loading ≡ whole_of s = leads_same unbegun (snapshot_lines s) early.loading (whole_of s) (subst (λ ls. Leads unbegun ls early.loading) items early.all.lead) lead in
      let never : Some s ≡ None = sym (ap whole same) ∙ early.unended in
      cc

  not_unended : (n : ℕ) → IsUnended bytes n → ⊥
  not_unended n unended = let never : Some (map line_text (snapshot_lines s)) ≡ None = sym (feeds-ended (snapshot_lines s)) ∙ unended.unended in cc

  pub is_snapshot : (n : ℕ) → IsNoSnapshot bytes n → ⊥
  is_snapshot n (inl bad) = no_bad_line n bad
  is_snapshot n (inr (inl early)) = not_early n early
  is_snapshot n (inr (inr unended)) = not_unended n unended
