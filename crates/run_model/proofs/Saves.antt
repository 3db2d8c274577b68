-- What is kept on the way, one delivery more, and where a save stops the run.
use Rattle.std.proofs.Common.{◌≡◌, refl, sym, subst, ◌∙◌, ap, ℕ, ◌+◌, Bool, true, false, ◌&&◌, cond, List, [], ◌∷◌, ◌++◌, append_assoc, append-nil, length, length-append, map, filter, Option, None, Some, option_map, IsSome}
use Rattle.std.specs.{List.last_or, Option.option_and_then}
use Rattle.checkpoint.specs.{Archive.Archive, Keeping.with_snapshot}
use Rattle.std.proofs.{lemmas.List.map-append, lemmas.List.Elements.filter-append}
use Rattle.delivery.specs.declared.Delivery.{Delivery}
use Rattle.replay_model.specs.Transcript.{matches}
use Rattle.run_model.specs.{Course.Course, Course.course_after, Delivering.AtRest}
use Rattle.run_model.specs.Headline.{AreSnapshotsBehind, IsSnapshotBehind, KeepsOnTheWay}
use Rattle.run_model.specs.Moment.{Beginning, Run, Stage, is_mark, is_save_due, kept_last, marks, numbers_after, snapshot_text, start_in, up_to_marks, up_to_saves}
use Rattle.run_model.specs.declared.lines_taken.LinesTaken.{LinesTaken}
use Rattle.run_model.proofs.Ends.{is_played, numbers_are}

-- ---- one delivery more

pub marks-push : (ds : List Delivery) (d : Delivery) → marks (ds ++ d ∷ []) ≡ marks ds + marks (d ∷ [])
marks-push ds d = ap length (filter-append is_mark ds (d ∷ [])) ∙ length-append (filter is_mark ds) (filter is_mark (d ∷ []))

one_before : (q : Delivery) (x : List Delivery) (b : Bool) → map (λ first. q ∷ first) (cond b (x ∷ []) []) ≡ cond b ((q ∷ x) ∷ []) []
one_before q x true = refl
one_before q x false = refl

up_to_marks-push : (ds : List Delivery) (d : Delivery) → up_to_marks (ds ++ d ∷ []) ≡ up_to_marks ds ++ cond (is_mark d) ((ds ++ d ∷ []) ∷ []) []
up_to_marks-push [] d = append-nil (cond (is_mark d) ((d ∷ []) ∷ []) [])
up_to_marks-push (q ∷ ds) d =
    let here : List (List Delivery) = cond (is_mark q) ((q ∷ []) ∷ []) [] in
    let last : List (List Delivery) = cond (is_mark d) ((ds ++ d ∷ []) ∷ []) [] in
    ap (λ l. here ++ map (λ first. q ∷ first) l) (up_to_marks-push ds d)
    ∙ ap (λ l. here ++ l) (map-append (λ first. q ∷ first) (up_to_marks ds) last)
    ∙ sym (append_assoc here (map (λ first. q ∷ first) (up_to_marks ds)) (map (λ first. q ∷ first) last))
    ∙ ap (λ l. (here ++ map (λ first. q ∷ first) (up_to_marks ds)) ++ l) (one_before q (ds ++ d ∷ []) (is_mark d))

-- whether a save follows a delivery behind others
abbrev pub is_saved_behind : Option ℕ → List Delivery → Delivery → Bool
is_saved_behind every ds d = is_mark d && is_save_due every (marks (ds ++ d ∷ []))

one_chosen : (p : List Delivery → Bool) (x : List Delivery) (b : Bool) → filter p (cond b (x ∷ []) []) ≡ cond (b && p x) (x ∷ []) []
one_chosen p x true = refl
one_chosen p x false = refl

up_to_saves-push : (every : Option ℕ) (ds : List Delivery) (d : Delivery) → up_to_saves every (ds ++ d ∷ []) ≡ up_to_saves every ds ++ cond (is_saved_behind every ds d) ((ds ++ d ∷ []) ∷ []) []
up_to_saves-push every ds d =
    let p : List Delivery → Bool = λ first. is_save_due every (marks first) in
    ap (filter p) (up_to_marks-push ds d)
    ∙ filter-append p (up_to_marks ds) (cond (is_mark d) ((ds ++ d ∷ []) ∷ []) [])
    ∙ ap (λ l. filter p (up_to_marks ds) ++ l) (one_chosen p (ds ++ d ∷ []) (is_mark d))

pub save_due : (every : Option ℕ) (ds : List Delivery) (d : Delivery) → is_saved_behind every ds d ≡ true → up_to_saves every (ds ++ d ∷ []) ≡ up_to_saves every ds ++ (ds ++ d ∷ []) ∷ []
save_due every ds d due = up_to_saves-push every ds d ∙ ap (λ b. up_to_saves every ds ++ cond b ((ds ++ d ∷ []) ∷ []) []) due

no_save_due : (every : Option ℕ) (ds : List Delivery) (d : Delivery) → is_saved_behind every ds d ≡ false → up_to_saves every (ds ++ d ∷ []) ≡ up_to_saves every ds
no_save_due every ds d none = up_to_saves-push every ds d ∙ ap (λ b. up_to_saves every ds ++ cond b ((ds ++ d ∷ []) ∷ []) []) none ∙ append-nil (up_to_saves every ds)

-- ---- what is kept

kept_none : (old : Option (List (List ℕ))) → old ≡ option_map (λ snapshots. snapshots ++ []) old
kept_none None = refl
kept_none (Some l) = ap Some (sym (append-nil l))

kept_next : (old : Option (List (List ℕ))) (texts : List (List ℕ)) (text : List ℕ) →
    with_snapshot (option_map (λ snapshots. snapshots ++ texts) old) text ≡ option_map (λ snapshots. snapshots ++ (texts ++ text ∷ [])) old
kept_next None texts text = refl
kept_next (Some l) texts text = ap Some (append_assoc l texts (text ∷ []))

module _ (run : Run) (start : Beginning) where
  behind_next : (saves : List (List Delivery)) (texts : List (List ℕ)) (ds : List Delivery) (text : List ℕ) → AreSnapshotsBehind run start saves texts → IsSnapshotBehind run start ds text →
      AreSnapshotsBehind run start (saves ++ ds ∷ []) (texts ++ text ∷ [])
  behind_next [] [] ds text are is = (is, tt)
  behind_next [] (t ∷ texts) ds text never is = absurd never
  behind_next (s ∷ saves) [] ds text never is = absurd never
  behind_next (s ∷ saves) (t ∷ texts) ds text are is = (are.0, behind_next saves texts ds text are.1 is)

  -- nothing was kept before the first line
  pub keeps_nothing : (old : Option (List (List ℕ))) → KeepsOnTheWay run start (up_to_saves run.choices.every []) old old
  keeps_nothing old = record { texts = []; are = tt; kept = kept_none old }

  -- nor behind a delivery that no save follows
  pub keeps_still : (ds : List Delivery) (d : Delivery) (old now : Option (List (List ℕ))) → is_saved_behind run.choices.every ds d ≡ false → KeepsOnTheWay run start (up_to_saves run.choices.every ds) old now →
      KeepsOnTheWay run start (up_to_saves run.choices.every (ds ++ d ∷ [])) old now
  keeps_still ds d old now none so_far = subst (λ saves. KeepsOnTheWay run start saves old now) (sym (no_save_due run.choices.every ds d none)) so_far

  -- a snapshot is kept behind one that a save follows
  pub keeps_next : (ds : List Delivery) (d : Delivery) (text : List ℕ) (old now new : Option (List (List ℕ))) → is_saved_behind run.choices.every ds d ≡ true → IsSnapshotBehind run start (ds ++ d ∷ []) text →
      new ≡ with_snapshot now text → KeepsOnTheWay run start (up_to_saves run.choices.every ds) old now → KeepsOnTheWay run start (up_to_saves run.choices.every (ds ++ d ∷ [])) old new
  keeps_next ds d text old now new due is kept so_far = record {
    texts = so_far.texts ++ text ∷ [];
    are = subst (λ saves. AreSnapshotsBehind run start saves (so_far.texts ++ text ∷ [])) (sym (save_due run.choices.every ds d due)) (behind_next (up_to_saves run.choices.every ds) so_far.texts (ds ++ d ∷ []) text so_far.are is);
    kept = kept ∙ ap (λ snapshots. with_snapshot snapshots text) so_far.kept ∙ kept_next old so_far.texts text;
  }

-- the snapshot of a world at rest is one behind what it has taken
pub snapshot_behind : (run : Run) (s now : Stage) (ds : List Delivery) (taken : LinesTaken) → AtRest run.environment ds taken.reported (start_in run.numbered s) now → taken.matched ≡ run.numbered.matches + matches ds →
    taken.lines ≡ run.numbered.lines + length ds → IsSnapshotBehind run (start_in run.numbered s) ds (snapshot_text (numbers_after run.numbered run.environment.report taken.reported taken.matched taken.lines) now)
snapshot_behind run s now ds taken at_rest matched lines =
    let start : Beginning = start_in run.numbered s in
    let course : Course = course_after run.environment.routes ds start in
    record {
      stage = now;
      played = is_played run.environment course taken.reported start now at_rest.leads at_rest.rests at_rest.mapped;
      is = ap (λ n. snapshot_text n now)
          (numbers_are run.environment.report course ds taken.reported taken.matched taken.lines start now at_rest.leads.explained.replies at_rest.rests at_rest.answered
          (at_rest.leads.says at_rest.leads.explained.replies (λ q r h. refl)) matched lines);
    }

-- ---- what is kept last

last_pushed : {A : Type 0} (o : Option A) (xs : List A) (x : A) → last_or o (xs ++ x ∷ []) ≡ Some x
last_pushed o [] x = refl
last_pushed o (y ∷ xs) x = last_pushed (Some y) xs x

-- the snapshot that was kept at the end is the last
pub last_kept : (run : Run) (start : Beginning) (saves : List (List Delivery)) (old between : Option (List (List ℕ))) (new : Archive) (text : List ℕ) → IsSome old → KeepsOnTheWay run start saves old between → new.kept ≡ with_snapshot between text →
    kept_last new ≡ Some text
last_kept run start saves None between new text never keeps kept = cc
last_kept run start saves (Some l) between new text told keeps kept =
    ap (option_and_then (last_or None)) (kept ∙ ap (λ k. with_snapshot k text) keeps.kept) ∙ last_pushed None (l ++ keeps.texts) text
