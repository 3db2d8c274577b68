-- How far the reading of a snapshot has come, and what that says of the file.
use Rattle.std.proofs.Common.{◌≡◌, ◌≢◌, ℕ, zero, suc, ◌+◌, ◌-◌, ◌<◌, ◌≤◌, ◌==◌, ◌^◌, false, cond, inl, inr, take, add-one, List, [], ◌∷◌, ◌++◌, length, Option, None, Some, IfSome, min, refl, sym, ◌∙◌, ap, subst, append_assoc, append-nil, arith, length-append}
use Rattle.std.specs.Prelude.{option_and_then}
use Rattle.std.specs.Option.{option_map}
use Rattle.wq_io.specs.Streams.{IsAtEnd}
use Rattle.wq_io.specs.Lines.{IsLineLong, IsOneLine, IsSound, IsTooLong, Reading, before_lines, ended_lines, fresh, input_length, input_lines, line_feed, lines, onto_first_line, room, taken, unread}
use Rattle.snapshot.specs.{declared.line.Line.Line, File.lines_in, File.saved_in_bytes, LineText.line_of}
use Rattle.snapshot.specs.Whole.{Loading, unbegun, after_line, after_lines, saved_in, whole}
use Rattle.checkpoint.specs.declared.stage.Stage.{Stage}
use Rattle.checkpoint.specs.Causes.{EndsEarly, IsBadSnapshotLine, IsFileOverfull, IsUnended, longest_file}
use Rattle.checkpoint.specs.Loading.{BeginsWith, IsReadable, IsReady, IsRefused, Leads, MayCome, Overfills, LoadsLine, loading_of, longest_line}
use Rattle.replay_model.proofs.ToldContents.{Each-append}
use Rattle.sorted_sets.specs.Rising.{Each}
use Rattle.world_snapshots.proofs.Feeds.{feeds-unended, feeds-whole}
use Rattle.wq_io.proofs.LineLists.{one_line-cons}
use Rattle.world.specs.{Limit.Limit, WorldState.WorldState}

-- ---- lines one after the other

lead-push : (here : Loading) (items : List Line) (before : Loading) (item : Line) (now : Loading) → Leads here items before → MayCome before item → after_line before item ≡ Some now → Leads here (items ++ item ∷ []) now
lead-push here [] before item now lead comes after = (subst (λ l. MayCome l item) (sym lead) comes, (now, ap (λ l. after_line l item) lead ∙ after, refl))
lead-push here (i ∷ items) before item now lead comes after = (lead.0, (lead.1.0, lead.1.1, lead-push lead.1.0 items before item now lead.1.2 comes after))

lead-lines : (here : Loading) (items : List Line) (there : Loading) → Leads here items there → after_lines here items ≡ Some there
lead-lines here [] there lead = ap Some lead
lead-lines here (item ∷ items) there lead = ap (option_and_then (λ (next : Loading). after_lines next items)) lead.1.1 ∙ lead-lines lead.1.0 items there lead.1.2

lines_in-push : (done : List (List ℕ)) (items : List Line) (text : List ℕ) (item : Line) → lines_in done ≡ Some items → line_of text ≡ Some item → lines_in (done ++ text ∷ []) ≡ Some (items ++ item ∷ [])
lines_in-push [] items text item are is = let none : [] ≡ items = cc in rw (is, ← none) refl
lines_in-push (t ∷ done) items text item are is = by (line_of t) (lines_in done) refl are (λ others found. lines_in-push done others text item found is)
  where
    by : (o : Option Line) (os : Option (List Line)) → lines_in done ≡ os → option_and_then (λ (line : Line). option_map (λ (ls : List Line). line ∷ ls) os) o ≡ Some items
        → ((others : List Line) → lines_in done ≡ Some others → lines_in (done ++ text ∷ []) ≡ Some (others ++ item ∷ []))
        → option_and_then (λ (line : Line). option_map (λ (ls : List Line). line ∷ ls) (lines_in (done ++ text ∷ []))) o ≡ Some (items ++ item ∷ [])
    by None os found are push = cc
    by (Some first) None found are push = cc
    by (Some first) (Some others) found are push =
        let both : first ∷ others ≡ items = cc in
        ap (option_map (λ (ls : List Line). first ∷ ls)) (push others found) ∙ ap (λ ls. Some (ls ++ item ∷ [])) both

-- ---- the file

-- these lines were read so far, and the others are still to come
pub record HasReadLines (start : Option (List ℕ)) (reader : Reading) (left : Option (List ℕ)) (done : List (List ℕ)) : Type 0 where
  pub are : input_lines start ≡ option_map (λ (ls : List (List ℕ)). done ++ ls) (input_lines (unread reader left))
  pub counted : reader.given ≡ length done
  pub total : input_length reader left ≡ option_map length start

-- the lines so far are the first ones of the file, and lead here
pub record Progress (start : Option (List ℕ)) (reader : Reading) (left : Option (List ℕ)) (loading : Loading) (length_so_far : ℕ) : Type 0 where
  pub done : List (List ℕ)
  pub read : HasReadLines start reader left done
  pub items : List Line
  pub are : lines_in done ≡ Some items
  pub lead : Leads unbegun items loading
  pub readable : Each IsReadable done
  pub measured : length_so_far ≡ min (length (ended_lines done)) (2 ^ 64 - 1)

pub nothing_read : (limit max_line : ℕ) (start : Option (List ℕ)) → Progress start (fresh limit max_line) start unbegun 0
nothing_read limit max_line start = record {
  done = [];
  read = record { are = same_lines start; counted = refl; total = same_length start };
  items = [];
  are = refl;
  lead = refl;
  readable = tt;
  measured = refl;
}
  where
    same_lines : (left : Option (List ℕ)) → input_lines left ≡ option_map (λ (ls : List (List ℕ)). [] ++ ls) (input_lines (unread (fresh limit max_line) left))
    same_lines None = refl
    same_lines (Some bytes) = refl

    same_length : (left : Option (List ℕ)) → input_length (fresh limit max_line) left ≡ option_map (λ (bytes : List ℕ). length bytes) left
    same_length None = refl
    same_length (Some bytes) = ap Some (let n : 0 + length bytes ≡ length bytes = omega arith in n)

-- one more line after the others
lines_grow : (start known next : Option (List (List ℕ))) (done : List (List ℕ)) (line : List ℕ) →
    start ≡ option_map (λ (ls : List (List ℕ)). done ++ ls) known → known ≡ before_lines line next → start ≡ option_map (λ (ls : List (List ℕ)). (done ++ line ∷ []) ++ ls) next
lines_grow start known None done line are first = rw (are, first) refl
lines_grow start known (Some ls) done line are first = rw (are, first) (ap Some (sym (append_assoc done (line ∷ []) ls)))

ended-push : (done : List (List ℕ)) (line : List ℕ) → length (ended_lines (done ++ line ∷ [])) ≡ length (ended_lines done) + length line + 1
ended-push [] line = omega (arith, length-append line (10 ∷ []), length-append (line ++ 10 ∷ []) [])
ended-push (l ∷ done) line =
    omega (arith, ended-push done line, length-append (l ++ 10 ∷ []) (ended_lines (done ++ line ∷ [])), length-append (l ++ 10 ∷ []) (ended_lines done))

-- the reader gave this line
pub record IsNextLine (text : List ℕ) (reader next : Reading) (left left_next : Option (List ℕ)) : Type 0 where
  pub first : input_lines (unread reader left) ≡ before_lines text (input_lines (unread next left_next))
  pub total : input_length next left_next ≡ input_length reader left
  pub given : next.given ≡ reader.given + 1

measure : (all so_far text now : ℕ) → so_far ≡ min all (2 ^ 64 - 1) → now ≡ min (so_far + text + 1) (2 ^ 64 - 1) → now ≡ min (all + text + 1) (2 ^ 64 - 1)
measure all so_far text now is next = omega arith

pub line_read : (start left left_next : Option (List ℕ)) (reader next : Reading) (before now : Loading) (n m : ℕ) (text : List ℕ) → Progress start reader left before n
    → IsNextLine text reader next left left_next → LoadsLine text before now → length text ≤ longest_line → m ≡ min (n + length text + 1) (2 ^ 64 - 1) → Progress start next left_next now m
line_read start left left_next reader next before now n m text p is takes short longer = record {
  done = p.done ++ text ∷ [];
  read = record {
    are = lines_grow (input_lines start) (input_lines (unread reader left)) (input_lines (unread next left_next)) p.done text p.read.are is.first;
    counted = let one : length (p.done ++ text ∷ []) ≡ length p.done + 1 = length-append p.done (text ∷ []) in omega (arith, is.given, p.read.counted);
    total = is.total ∙ p.read.total;
  };
  items = p.items ++ takes.item ∷ [];
  are = lines_in-push p.done p.items text takes.item p.are takes.read;
  lead = lead-push unbegun p.items before takes.item now p.lead takes.comes takes.after;
  readable = Each-append IsReadable p.done (text ∷ []) p.readable (record { utf8 = takes.utf8; short = short }, tt);
  measured = measure (length (ended_lines p.done)) n (length text) m p.measured longer ∙ ap (λ k. min k (2 ^ 64 - 1)) (sym (ended-push p.done text));
}

-- ---- where the bytes of the file are known

at_known : (known : Option (List ℕ)) (u : List ℕ) (P : List ℕ → Type 0) → known ≡ Some u → IfSome known P → P u
at_known None u P is holds = cc
at_known (Some x) u P is holds = let same : x ≡ u = cc in subst P same holds

-- a first line that is as long
record LongLine (m : ℕ) (u : List ℕ) : Type 0 where
  line : List ℕ
  others : List (List ℕ)
  is : lines u ≡ line ∷ others
  long : m < length line

-- a byte that ends no line goes into the first one
into_line : (b : ℕ) (bs : List ℕ) (ls : List (List ℕ)) → (b == line_feed) ≡ false → lines bs ≡ ls → lines (b ∷ bs) ≡ onto_first_line b ls
into_line b bs ls isnt is = ap (λ t. cond t ([] ∷ lines bs) (onto_first_line b (lines bs))) isnt ∙ ap (onto_first_line b) is

first_byte : (b : ℕ) (bs : List ℕ) (ls : List (List ℕ)) → (b == line_feed) ≡ false → lines bs ≡ ls → LongLine 0 (b ∷ bs)
first_byte b bs [] isnt is = record { line = b ∷ []; others = []; is = into_line b bs [] isnt is; long = omega arith }
first_byte b bs (l ∷ ls) isnt is = record { line = b ∷ l; others = ls; is = into_line b bs (l ∷ ls) isnt is; long = omega arith }

-- bytes that begin with so many of one line
long_front : (m : ℕ) (u : List ℕ) → IsOneLine (take (suc m) u) → m < length u → LongLine m u
long_front m [] is more = absurd (omega arith)
long_front zero (b ∷ bs) is more = first_byte b bs (lines bs) (one_line-cons b [] is).0 refl
long_front (suc m) (b ∷ bs) is more =
    let parts = one_line-cons b (take (suc m) bs) is in
    let rest : LongLine m bs = long_front m bs parts.1 (omega arith) in
    let shorter : m < length rest.line = rest.long in
    record { line = b ∷ rest.line; others = rest.others; is = into_line b bs (rest.line ∷ rest.others) parts.0 rest.is; long = omega arith }

long_line : (m : ℕ) (u : List ℕ) → IsOneLine (take (m + 1) u) → m < length u → LongLine m u
long_line m u is more = long_front m u (subst (λ k. IsOneLine (take k u)) (add-one m) is) more

-- the lines that come after these
record Others (all done : List (List ℕ)) (known : Option (List (List ℕ))) : Type 0 where
  others : List (List ℕ)
  is : known ≡ Some others
  parts : all ≡ done ++ others

others_of : (all done : List (List ℕ)) (known : Option (List (List ℕ))) → Some all ≡ option_map (λ (ls : List (List ℕ)). done ++ ls) known → Others all done known
others_of all done None are = cc
others_of all done (Some others) are = record { others = others; is = refl; parts = cc }

module _ (bytes : List ℕ) (left : Option (List ℕ)) (reader : Reading) (loading : Loading) (n : ℕ) (p : Progress (Some bytes) reader left loading n) where
  behind : Others (lines bytes) p.done (input_lines (unread reader left))
  behind = others_of (lines bytes) p.done (input_lines (unread reader left)) p.read.are

  -- the lines so far are the first ones
  first_lines : (others : List (List ℕ)) → input_lines (unread reader left) ≡ Some others → lines bytes ≡ p.done ++ others
  first_lines others is = let same : behind.others ≡ others = cc (behind.is, is) in behind.parts ∙ ap (λ ls. p.done ++ ls) same

  -- this line is the next one
  module _ (text : List ℕ) (left_next : Option (List ℕ)) (next : Reading) (is : IsNextLine text reader next left left_next) where
    after_it : (known : Option (List (List ℕ))) → input_lines (unread reader left) ≡ before_lines text known → (others : List (List ℕ)) × (input_lines (unread reader left) ≡ Some (text ∷ others))
    after_it None first = let never : Some behind.others ≡ None = sym behind.is ∙ first in cc
    after_it (Some others) first = (others, first)

    -- it comes behind the lines so far, which lead there
    pub record NextLine (there : Loading) : Type 0 where
      pub first : BeginsWith bytes p.done there
      pub others : List (List ℕ)
      pub others_are : first.others ≡ text ∷ others

    pub next_line : (there : Loading) → loading ≡ there → NextLine there
    next_line there same =
        let behind_it = after_it (input_lines (unread next left_next)) is.first in
        record {
          first = record {
            others = text ∷ behind_it.0;
            are = first_lines (text ∷ behind_it.0) behind_it.1;
            readable = p.readable;
            items = p.items;
            read = p.are;
            lead = subst (Leads unbegun p.items) same p.lead;
          };
          others = behind_it.0;
          others_are = refl;
        }

    pub refused_line : (number : ℕ) → number ≡ reader.given + 1 → IsRefused text loading → IsBadSnapshotLine bytes number
    refused_line number next_is refused =
        let line = next_line loading refl in
        record {
          done = p.done;
          loading = loading;
          first = line.first;
          counted = next_is ∙ ap (λ k. k + 1) p.read.counted;
          line = text;
          others = line.others;
          next = line.others_are;
          refused = inl refused;
        }

    pub full_line : (w : WorldState) (stage : Stage) (limit : Limit) → loading ≡ loading_of w stage reader.given → w.limit ≡ limit → IsReady w stage reader.given → length text ≤ longest_line
        → Overfills text (loading_of w stage reader.given) w → IsFileOverfull limit bytes
    full_line w stage limit stands limit_is ready short over =
        let line = next_line (loading_of w stage (length p.done)) (stands ∙ ap (loading_of w stage) p.read.counted) in
        record {
          world = w;
          stage = stage;
          done = p.done;
          limit = limit_is;
          ready = subst (IsReady w stage) p.read.counted ready;
          first = line.first;
          line = text;
          others = line.others;
          next = line.others_are;
          short = short;
          over = subst (λ k. Overfills text (loading_of w stage k) w) p.read.counted over;
        }

  -- the bytes that are unread
  unread_bytes : (known : Option (List ℕ)) → input_lines known ≡ Some behind.others → (u : List ℕ) × (known ≡ Some u) × (lines u ≡ behind.others)
  unread_bytes None is = cc
  unread_bytes (Some u) is = (u, refl, cc)

  -- the file has more bytes than it may have
  pub too_long : IsSound reader → IfSome (unread reader left) (IsTooLong (room reader) reader.max_line) → reader.max_bytes < length bytes
  too_long sound over = by (unread reader left) p.read.total over
    where
      by : (known : Option (List ℕ)) → option_map (λ (u : List ℕ). reader.consumed + length u) known ≡ Some (length bytes) → IfSome known (IsTooLong (room reader) reader.max_line) → reader.max_bytes < length bytes
      by None total over = cc
      by (Some u) total over = let sum : reader.consumed + length u ≡ length bytes = cc in omega (arith, over.more, sound.within, sum)

  -- the next line is over-long
  pub over_long : (number : ℕ) → number ≡ reader.given + 1 → reader.max_line ≡ longest_line → IfSome (unread reader left) (IsLineLong (room reader) reader.max_line) → IsBadSnapshotLine bytes number
  over_long number next_is limit over =
      let u = unread_bytes (unread reader left) behind.is in
      let long : IsLineLong (room reader) reader.max_line u.0 = at_known (unread reader left) u.0 (IsLineLong (room reader) reader.max_line) u.1 over in
      let first = long_line reader.max_line u.0 long.in_line long.more in
      record {
        done = p.done;
        loading = loading;
        first = record { others = first.line ∷ first.others; are = behind.parts ∙ ap (λ ls. p.done ++ ls) (sym u.2 ∙ first.is); readable = p.readable; items = p.items; read = p.are; lead = p.lead };
        counted = next_is ∙ ap (λ k. k + 1) p.read.counted;
        line = first.line;
        others = first.others;
        next = refl;
        refused = inr (subst (λ k. k < length first.line) limit first.long);
      }

  -- at the end of the file
  module _ (at_end : IsAtEnd (unread reader left)) where
    nothing : (known : Option (List ℕ)) → IsAtEnd known → input_lines known ≡ Some behind.others → behind.others ≡ []
    nothing None none is = cc
    nothing (Some u) none is = let same : lines u ≡ behind.others = cc in sym same ∙ ap lines none

    all_lines : lines bytes ≡ p.done
    all_lines = behind.parts ∙ ap (λ ls. p.done ++ ls) (nothing (unread reader left) at_end behind.is) ∙ append-nil p.done

    all_taken : taken reader ≡ length bytes
    all_taken = by (unread reader left) refl p.read.total at_end
      where
        by : (known : Option (List ℕ)) → unread reader left ≡ known → option_map (λ (u : List ℕ). reader.consumed + length u) known ≡ Some (length bytes) → IsAtEnd known → taken reader ≡ length bytes
        by None is total none = cc
        by (Some u) is total none =
            let held : length reader.held ≡ 0 = no_held left (is ∙ ap Some none) in
            let sum : reader.consumed + length u ≡ length bytes = cc in
            let zero : length u ≡ 0 = ap length none in
            omega (arith, held, sum, zero)
          where
            no_held : (left : Option (List ℕ)) → unread reader left ≡ Some [] → length reader.held ≡ 0
            no_held None is = cc
            no_held (Some l) is = let none : reader.held ++ l ≡ [] = cc in omega (arith, length-append reader.held l, ap length none)

    same_length : IsSound reader → reader.max_bytes ≡ longest_file → taken reader ≡ n → length bytes ≡ length (ended_lines (lines bytes))
    same_length sound limit same =
        let measured : n ≡ min (length (ended_lines (lines bytes))) (2 ^ 64 - 1) = p.measured ∙ ap (λ ls. min (length (ended_lines ls)) (2 ^ 64 - 1)) (sym all_lines) in
        omega (arith, all_taken, same, sound.bounded, limit, measured)

    -- all lines lead here
    all_begin : BeginsWith bytes (lines bytes) loading
    all_begin = record { others = []; are = sym (append-nil (lines bytes)); readable = subst (Each IsReadable) (sym all_lines) p.readable; items = p.items; read = ap lines_in all_lines ∙ p.are; lead = p.lead }

    -- what the file keeps
    pub saved : IsSound reader → reader.max_bytes ≡ longest_file → taken reader ≡ n → saved_in_bytes bytes ≡ whole loading
    saved sound limit same =
        ap (λ o. option_and_then saved_in (option_and_then lines_in o)) (feeds-whole bytes (same_length sound limit same) ∙ ap Some all_lines)
        ∙ ap (option_and_then saved_in) p.are
        ∙ ap (option_and_then whole) (lead-lines unbegun p.items loading p.lead)

    -- the last line isn't ended
    pub unended : IsSound reader → reader.max_bytes ≡ longest_file → taken reader ≢ n → IsUnended bytes reader.given
    unended sound limit other = record {
      loading = loading;
      all = all_begin;
      unended = feeds-unended bytes (λ same. other (all_taken ∙ same ∙ ap (λ ls. length (ended_lines ls)) all_lines ∙ small same));
      counted = p.read.counted ∙ ap length (sym all_lines);
    }
      where
        small : length bytes ≡ length (ended_lines (lines bytes)) → length (ended_lines p.done) ≡ n
        small same =
            let length_is : length (ended_lines (lines bytes)) ≡ length (ended_lines p.done) = ap (λ ls. length (ended_lines ls)) all_lines in
            omega (arith, all_taken, same, length_is, sound.bounded, limit, p.measured)

    -- the snapshot doesn't end
    pub ends_early : IsSound reader → reader.max_bytes ≡ longest_file → taken reader ≡ n → (number : ℕ) → number ≡ reader.given + 1 → whole loading ≡ None → EndsEarly bytes number
    ends_early sound limit same number next_is not_whole = record {
      loading = loading;
      all = all_begin;
      ended = feeds-whole bytes (same_length sound limit same);
      unended = not_whole;
      counted = next_is ∙ ap (λ k. k + 1) (p.read.counted ∙ ap length (sym all_lines));
    }
