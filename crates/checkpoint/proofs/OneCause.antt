-- Of a file one line decides, the first that may not come or lacks room.
use Rattle.std.proofs.Common.{◌≡◌, ℕ, zero, suc, ◌+◌, ◌<◌, ◌≤◌, List, [], ◌∷◌, ◌++◌, length, Option, None, Some, option_and_then, inl, inr, refl, sym, ◌∙◌, ap, ap₂, subst, arith, length-append}
use Rattle.std.specs.Prelude.{◌⊎◌}
use Rattle.std.specs.{Option.option_map, Str.IsUtf8}
use Rattle.sorted_sets.specs.Rising.{Each}
use Rattle.wq_io.specs.Lines.{lines}
use Rattle.replay_model.specs.Versions.{all_by, meaning_by}
use Rattle.fetched_pages.specs.Meaning.{meaning}
use Rattle.world.specs.{Limit.Limit, Limit.needs, Roomed.needs_now, WorldState.WorldState}
use Rattle.snapshot.specs.{declared.line.Line.Line, File.lines_in, LineText.line_of}
use Rattle.snapshot.specs.declared.line.Line.TheVariants.{Head as Begins, Remembered, Entity, Side, End}
use Rattle.snapshot.specs.Whole.{Loading, Saved, after_line, unbegun}
use Rattle.checkpoint.specs.declared.stage.Stage.{Stage}
use Rattle.checkpoint.specs.declared.stage.Stage.TheVariants.{Unbegun, Begun, Ended}
use Rattle.checkpoint.specs.Causes.{IsBadSnapshotLine, IsFileOverfull}
use Rattle.checkpoint.specs.Loading.{BeginsWith, HasNoRoomForLine, IsOutOfPlace, IsReadable, IsRefused, LacksRoom, Leads, MayCome, loading_of, longest_line}
use Rattle.checkpoint.specs.Saved.{saved_of}

-- ---- lines that lead from one place to another

next_same : (o : Option Loading) (a b : Loading) → o ≡ Some a → o ≡ Some b → a ≡ b
next_same o a b first second = cc

pub leads_same : (here : Loading) (items : List Line) (a b : Loading) → Leads here items a → Leads here items b → a ≡ b
leads_same here [] a b first second = sym first ∙ second
leads_same here (item ∷ items) a b first second =
    let same : second.1.0 ≡ first.1.0 = next_same (after_line here item) second.1.0 first.1.0 second.1.1 first.1.1 in
    leads_same first.1.0 items a b first.1.2 (subst (λ (l : Loading). Leads l items b) same second.1.2)

-- the line may come, and there is a place after it
pub record Comes (here : Loading) (item : Line) : Type 0 where
  pub may : MayCome here item
  pub next : Loading
  pub after : after_line here item ≡ Some next

pub in_place : (loading : Loading) (item : Line) → Comes loading item → IsOutOfPlace loading item → ⊥
in_place loading item here (inl none) = let never : Some here.next ≡ None = sym here.after ∙ none in cc
in_place loading item here (inr may) = may here.may

pub comes : (here : Loading) (front : List Line) (item : Line) (back : List Line) (there mid : Loading) → Leads here (front ++ item ∷ back) there → Leads here front mid → Comes mid item
comes here [] item back there mid all lead = subst (λ (l : Loading). Comes l item) lead (record { may = all.0; next = all.1.0; after = all.1.1 })
comes here (x ∷ front) item back there mid all lead =
    let same : all.1.0 ≡ lead.1.0 = next_same (after_line here x) all.1.0 lead.1.0 all.1.1 lead.1.1 in
    comes lead.1.0 front item back there mid (subst (λ (l : Loading). Leads l (front ++ item ∷ back) there) same all.1.2) lead.1.2

pub each_front : {A : Type 0} (P : A → Type 0) (xs ys : List A) → Each P (xs ++ ys) → Each P xs × Each P ys
each_front P [] ys all = (tt, all)
each_front P (x ∷ xs) ys all = let rest = each_front P xs ys all.1 in ((all.0, rest.0), rest.1)

-- ---- two fronts of one list

-- the shorter of two fronts, with what comes behind it
within : {A : Type 0} (done more : List A) (y : A) (ys zs : List A) → done ++ y ∷ ys ≡ more ++ zs → length done < length more → (rest : List A) × (more ≡ done ++ y ∷ rest)
within [] [] y ys zs same less = absurd (omega arith)
within [] (m ∷ more) y ys zs same less = let first : m ≡ y = cc in (more, ap (λ k. k ∷ more) first)
within (d ∷ done) [] y ys zs same less = absurd (omega arith)
within (d ∷ done) (m ∷ more) y ys zs same less =
    let first : m ≡ d = cc in
    let others : done ++ y ∷ ys ≡ more ++ zs = cc in
    let behind = within done more y ys zs others (omega arith) in
    (behind.0, ap (λ k. k ∷ more) first ∙ ap (λ l. d ∷ l) behind.1)

-- two fronts of one length
same_fronts : {A : Type 0} (a b xs ys : List A) → a ++ xs ≡ b ++ ys → length a ≡ length b → (a ≡ b) × (xs ≡ ys)
same_fronts [] [] xs ys same long = (refl, same)
same_fronts [] (y ∷ b) xs ys same long = absurd (omega (arith, long))
same_fronts (x ∷ a) [] xs ys same long = absurd (omega (arith, long))
same_fronts (x ∷ a) (y ∷ b) xs ys same long =
    let first : x ≡ y = cc in
    let others : a ++ xs ≡ b ++ ys = cc in
    let behind = same_fronts a b xs ys others (omega (arith, long)) in
    (ap₂ (λ k l. k ∷ l) first behind.0, behind.1)

-- ---- the lines of texts

-- a first line and the others
record Both (o : Option Line) (os : Option (List Line)) (items : List Line) : Type 0 where
  first : Line
  others : List Line
  first_is : o ≡ Some first
  others_are : os ≡ Some others
  are : items ≡ first ∷ others

both : (o : Option Line) (os : Option (List Line)) (items : List Line) → option_and_then (λ (line : Line). option_map (λ (ls : List Line). line ∷ ls) os) o ≡ Some items → Both o os items
both None os items is = cc
both (Some x) None items is = cc
both (Some x) (Some xs) items is = record { first = x; others = xs; first_is = refl; others_are = refl; are = cc }

-- the lines of texts in front of one, this one, and those behind it
record Parts (front : List (List ℕ)) (text : List ℕ) (items : List Line) : Type 0 where
  before : List Line
  item : Line
  behind : List Line
  before_in : lines_in front ≡ Some before
  item_in : line_of text ≡ Some item
  are : items ≡ before ++ item ∷ behind

parts : (front : List (List ℕ)) (text : List ℕ) (back : List (List ℕ)) (items : List Line) → lines_in (front ++ text ∷ back) ≡ Some items → Parts front text items
parts [] text back items is =
    let two = both (line_of text) (lines_in back) items is in
    record { before = []; item = two.first; behind = two.others; before_in = refl; item_in = two.first_is; are = two.are }
parts (t ∷ front) text back items is =
    let two = both (line_of t) (lines_in (front ++ text ∷ back)) items is in
    let others = parts front text back two.others two.others_are in
    record {
      before = two.first ∷ others.before;
      item = others.item;
      behind = others.behind;
      before_in =
          ap (option_and_then (λ (line : Line). option_map (λ (ls : List Line). line ∷ ls) (lines_in front))) two.first_is
          ∙ ap (option_map (λ (ls : List Line). two.first ∷ ls)) others.before_in;
      item_in = others.item_in;
      are = two.are ∙ ap (λ l. two.first ∷ l) others.are;
    }

-- ---- a line that is refused

-- a line that is refused behind these isn't one of others that all may come
pub not_among : (bytes : List ℕ) (number : ℕ) (bad : IsBadSnapshotLine bytes number) (more : List (List ℕ)) (there : Loading) → BeginsWith bytes more there → length bad.done < length more → ⊥
not_among bytes number bad more there all less = by bad.refused
  where
    line_among : (rest : List (List ℕ)) × (more ≡ bad.done ++ bad.line ∷ rest)
    line_among = within bad.done more bad.line bad.others all.others (ap (λ l. bad.done ++ l) (sym bad.next) ∙ sym bad.first.are ∙ all.are) less

    cut : Parts bad.done bad.line all.items
    cut = parts bad.done bad.line line_among.0 all.items (ap lines_in (sym line_among.1) ∙ all.read)

    same_items : bad.first.items ≡ cut.before
    same_items = let same : Some bad.first.items ≡ Some cut.before = sym bad.first.read ∙ cut.before_in in cc

    here : Comes bad.loading cut.item
    here =
        comes unbegun cut.before cut.item cut.behind there bad.loading (subst (λ ls. Leads unbegun ls there) cut.are all.lead)
        (subst (λ ls. Leads unbegun ls bad.loading) same_items bad.first.lead)

    readable : IsReadable bad.line
    readable = (each_front IsReadable bad.done (bad.line ∷ line_among.0) (subst (Each IsReadable) line_among.1 all.readable)).1.0

    by : IsRefused bad.line bad.loading ⊎ (longest_line < length bad.line) → ⊥
    by (inl (inl no_text)) = no_text readable.utf8
    by (inl (inr out)) = in_place bad.loading cut.item here (out cut.item cut.item_in)
    by (inr long) = absurd (omega (arith, readable.short, long))

pub neither_less : (m n : ℕ) → (m < n → ⊥) → (n < m → ⊥) → m ≡ n
neither_less zero zero left right = refl
neither_less zero (suc n) left right = absurd (left (omega arith))
neither_less (suc m) zero left right = absurd (right (omega arith))
neither_less (suc m) (suc n) left right = ap suc (neither_less m n (λ less. left (omega (arith, less))) (λ less. right (omega (arith, less))))

-- ---- a line that lacks room

-- behind as many lines of a file there is the same place
same_place : (bytes : List ℕ) (a b : List (List ℕ)) (la lb : Loading) (x : BeginsWith bytes a la) (y : BeginsWith bytes b lb) → length a ≡ length b → (la ≡ lb) × (x.others ≡ y.others)
same_place bytes a b la lb x y long =
    let same = same_fronts a b x.others y.others (sym x.are ∙ y.are) long in
    let read : Some x.items ≡ Some y.items = sym x.read ∙ ap lines_in same.0 ∙ y.read in
    let items : x.items ≡ y.items = cc in
    (leads_same unbegun x.items la lb x.lead (subst (λ ls. Leads unbegun ls lb) (sym items) y.lead), same.1)

-- worlds that the same lines put together, and that may have as many terms, have room for the same lines
same_room : (w v : WorldState) (a b : Stage) (m n : ℕ) → loading_of w a m ≡ loading_of v b n → w.by_two ≡ all_by w.mapping w.replay.played.records → v.by_two ≡ all_by v.mapping v.replay.played.records
    → w.limit ≡ v.limit → (item : Line) → LacksRoom (loading_of v b n) v item → HasNoRoomForLine w item
same_room w v a b m n is w_one v_one limit (Begins h) lacks = absurd lacks.over
same_room w v a b m n is w_one v_one limit (Remembered e) lacks = absurd lacks.over
same_room w v a b m n is w_one v_one limit (Side entry) lacks = absurd lacks.over
same_room w v a b m n is w_one v_one limit (End k) lacks = absurd lacks.over
same_room w v Unbegun b m n is w_one v_one limit (Entity x r) lacks = let never : None ≡ Some lacks.next = ap (λ (l : Loading). after_line l (Entity x r)) is ∙ lacks.after in cc
same_room w v (Ended c) b m n is w_one v_one limit (Entity x r) lacks = let never : None ≡ Some lacks.next = ap (λ (l : Loading). after_line l (Entity x r)) is ∙ lacks.after in cc
same_room w v (Begun c) Unbegun m n is w_one v_one limit (Entity x r) lacks = cc
same_room w v (Begun c) (Ended d) m n is w_one v_one limit (Entity x r) lacks = cc
same_room w v (Begun c) (Begun d) m n is w_one v_one limit (Entity x r) lacks =
    let saved : saved_of w c ≡ saved_of v d = cc in
    let version : w.mapping ≡ v.mapping = ap (λ (k : Saved). k.version) saved in
    let records : w.replay.played.records ≡ v.replay.played.records = ap (λ (k : Saved). k.state.played.records) saved in
    let ids : w.by_two ≡ v.by_two = w_one ∙ ap₂ all_by version records ∙ sym v_one in
    let same : needs_now w x r.held ≡ needs_now v x r.held =
    λ i. needs (limit i).lean (meaning_by meaning (ids i)) (meaning (version i)) (records i) x r.held in
    omega (arith, same, lacks.over, ap (λ (l : Limit). l.terms) limit)

module _ (room : Limit) (bytes : List ℕ) (over : IsFileOverfull room bytes) where
  abbrev lacking : Loading
  lacking = loading_of over.world over.stage (length over.done)

  -- it is one of the lines
  pub one_of_all : length over.done < length (lines bytes)
  one_of_all = omega (arith, ap length (over.first.are ∙ ap (λ l. over.done ++ l) over.next), length-append over.done (over.line ∷ over.others))

  -- the line behind these isn't it, if it has room
  not_next : (w : WorldState) (stage : Stage) (n : ℕ) (done : List (List ℕ)) (first : BeginsWith bytes done (loading_of w stage n)) (line : List ℕ) (others : List (List ℕ)) → first.others ≡ line ∷ others
      → w.limit ≡ room → w.by_two ≡ all_by w.mapping w.replay.played.records → ((item : Line) → line_of line ≡ Some item → HasNoRoomForLine w item → ⊥) → length done ≡ length over.done → ⊥
  not_next w stage n done first line others next limit one has_room long =
      let place = same_place bytes done over.done (loading_of w stage n) lacking first over.first long in
      let here : line ∷ others ≡ over.line ∷ over.others = sym next ∙ place.1 ∙ over.next in
      let line_is : line ≡ over.line = cc in
      has_room over.over.item (ap line_of line_is ∙ over.over.read) (same_room w over.world stage over.stage n (length over.done) place.0 one over.ready.by_one (limit ∙ sym over.limit) over.over.item over.over.lacks)

  at_least : (m n : ℕ) → m ≤ n → (m ≡ n → ⊥) → m + 1 ≤ n
  at_least zero zero least other = absurd (other refl)
  at_least zero (suc n) least other = omega arith
  at_least (suc m) zero least other = absurd (omega (arith, least))
  at_least (suc m) (suc n) least other = omega (arith, at_least m n (omega (arith, least)) (λ same. other (ap suc same)))

  -- so it comes behind that line, if it doesn't come before
  pub comes_later : (w : WorldState) (stage : Stage) (n : ℕ) (done : List (List ℕ)) (first : BeginsWith bytes done (loading_of w stage n)) (line : List ℕ) (others : List (List ℕ)) → first.others ≡ line ∷ others
      → w.limit ≡ room → w.by_two ≡ all_by w.mapping w.replay.played.records → ((item : Line) → line_of line ≡ Some item → HasNoRoomForLine w item → ⊥) → length done ≤ length over.done → length done + 1 ≤ length over.done
  comes_later w stage n done first line others next limit one has_room least =
      at_least (length done) (length over.done) least (not_next w stage n done first line others next limit one has_room)

  -- it isn't behind a line that is refused, nor that line
  pub not_behind_bad : (number : ℕ) (bad : IsBadSnapshotLine bytes number) → length bad.done ≤ length over.done → ⊥
  not_behind_bad number bad least = by bad.refused
    where
      place : (bad.loading ≡ lacking) × (bad.first.others ≡ over.first.others)
      place =
          same_place bytes bad.done over.done bad.loading lacking bad.first over.first
          (neither_less (length bad.done) (length over.done) (not_among bytes number bad over.done lacking over.first) (λ less. absurd (omega (arith, less, least))))

      line_is : bad.line ≡ over.line
      line_is = let here : bad.line ∷ bad.others ≡ over.line ∷ over.others = sym bad.next ∙ place.1 ∙ over.next in cc

      here : Comes bad.loading over.over.item
      here = subst (λ (l : Loading). Comes l over.over.item) (sym place.0) (record { may = over.over.lacks.comes; next = over.over.lacks.next; after = over.over.lacks.after })

      by : IsRefused bad.line bad.loading ⊎ (longest_line < length bad.line) → ⊥
      by (inl (inl no_text)) = no_text (subst IsUtf8 (sym line_is) over.over.utf8)
      by (inl (inr out)) = in_place bad.loading over.over.item here (out over.over.item (ap line_of line_is ∙ over.over.read))
      by (inr long) = absurd (omega (arith, over.short, ap length line_is, long))
