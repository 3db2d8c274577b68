-- How far the reading of lines has come, and what that says of the input.
use Rattle.std.proofs.Common.{refl, sym, subst, ◌∙◌, ap, ap₂, inl, inr, ◌≡◌, ◌⊎◌, ℕ, ◌+◌, ◌-◌, ◌<◌, ◌≤◌, Bool, true, false, cond, List, [], ◌∷◌, ◌++◌, length, min, drop, Option, None, Some, IfSome, Result, Ok, Err, arith, append_assoc, append-nil, length-append}
use Rattle.std.proofs.{lemmas.Bool.le-leb, lemmas.Grind.flat_map-append, Math.Seq.drop-append_seam}
use Rattle.std.specs.Option.{option_map}
use Rattle.sorted_sets.specs.Rising.{Each}
use Rattle.wq_io.specs.Streams.{IsAtEnd, LastRead, before_known}
use Rattle.wq_io.specs.Lines.{GoesOn, IsLineLong, IsNeeded, IsOneLine, IsSound, IsTooLong, IsUndecided, ReadsAsNeeded, Reading, StopsInLine, TakesBytes, before_lines, ended_lines, fresh, input_length, line_feed, lines, input_lines, longest_line, longest_read, room, taken, unread, whole_lines}
use Rattle.wq_io.proofs.LineLists.{whole_lines-ended}
use Rattle.delivery.specs.declared.Delivery.{Delivery}
use Rattle.event_line.specs.{declared.faults.LineCause.LineCause, declared.faults.LineCause.TheVariants.LineLong, Line.delivery_of}
use Rattle.replay_model.proofs.ToldContents.{Each-append}
use Rattle.run_model.specs.Reading.{AreDeliveries, AreFirst, AreFirstAlone, AreWhole, AsksByNeed, HasRead, IsPastLimit, IsRefusedLine, TakesByNeed, deliveries_of, last_part, line_delivers, onto_deliveries}

-- one more line is one more delivery
pub onto-push : (r : Result Delivery LineCause) (o more : Option (List Delivery)) (ds : List Delivery) (d : Delivery) →
    ((others : List Delivery) → o ≡ Some others → more ≡ Some (others ++ d ∷ [])) → onto_deliveries r o ≡ Some ds → onto_deliveries r more ≡ Some (ds ++ d ∷ [])
onto-push (Ok first) (Some others) more ds d grows is =
    let whole : first ∷ others ≡ ds = cc in
    rw (grows others refl, ← whole) refl
onto-push (Ok first) None more ds d grows is = cc
onto-push (Err cause) o more ds d grows is = cc

-- a line that isn't over-long delivers what it is read as
short_delivers : (line : List ℕ) (d : Delivery) → length line ≤ longest_line → delivery_of line ≡ Ok d → line_delivers line ≡ Ok d
short_delivers line d short is = ap (λ b. cond b (delivery_of line) (Err LineLong)) (le-leb (length line) longest_line short) ∙ is

pub deliveries-push : (done : List (List ℕ)) (line : List ℕ) (ds : List Delivery) (d : Delivery) → deliveries_of done ≡ Some ds → line_delivers line ≡ Ok d →
    deliveries_of (done ++ line ∷ []) ≡ Some (ds ++ d ∷ [])
deliveries-push [] line ds d done_is line_is =
    let none : [] ≡ ds = cc in
    rw (line_is, ← none) refl
deliveries-push (l ∷ ls) line ds d done_is line_is =
    onto-push (line_delivers l) (deliveries_of ls) (deliveries_of (ls ++ line ∷ [])) ds d (λ others is. deliveries-push ls line others d is line_is) done_is

-- there are as many deliveries as lines
onto-length : (r : Result Delivery LineCause) (o : Option (List Delivery)) (n : ℕ) (ds : List Delivery) → ((others : List Delivery) → o ≡ Some others → length others ≡ n) → onto_deliveries r o ≡ Some ds → length ds ≡ n + 1
onto-length (Ok first) (Some others) n ds as_many is =
    let whole : first ∷ others ≡ ds = cc in
    let same : length (first ∷ others) ≡ length ds = ap length whole in
    omega (arith, as_many others refl, same)
onto-length (Ok first) None n ds as_many is = cc
onto-length (Err cause) o n ds as_many is = cc

pub as_many : (done : List (List ℕ)) (ds : List Delivery) → deliveries_of done ≡ Some ds → length ds ≡ length done
as_many [] ds is =
    let none : [] ≡ ds = cc in
    ap length (sym none)
as_many (l ∷ ls) ds is =
    let more : length ds ≡ length ls + 1 = onto-length (line_delivers l) (deliveries_of ls) (length ls) ds (as_many ls) is in
    omega arith

same_lines : (limit : ℕ) (left : Option (List ℕ)) → input_lines left ≡ option_map (λ (ls : List (List ℕ)). [] ++ ls) (input_lines (unread (fresh limit longest_line) left))
same_lines limit None = refl
same_lines limit (Some bytes) = refl

same_length : (limit : ℕ) (left : Option (List ℕ)) → input_length (fresh limit longest_line) left ≡ option_map (λ (bytes : List ℕ). length bytes) left
same_length limit None = refl
same_length limit (Some bytes) = ap Some (let n : 0 + length bytes ≡ length bytes = omega arith in n)

same_bytes : (limit : ℕ) (left : Option (List ℕ)) → left ≡ before_known [] (unread (fresh limit longest_line) left)
same_bytes limit None = refl
same_bytes limit (Some bytes) = refl

-- before the first line
pub nothing_read : (limit : ℕ) (left : Option (List ℕ)) → HasRead left (fresh limit longest_line) left []
nothing_read limit left = record {
  done = [];
  are = same_lines limit left;
  delivered = refl;
  counted = refl;
  total = same_length limit left;
  read = [];
  bytes = same_bytes limit left;
  whole = λ _. refl;
  are_lines = tt;
}

-- nothing was taken
pub still : (left : Option (List ℕ)) → left ≡ before_known [] left
still None = refl
still (Some bytes) = refl

-- no bytes decide nothing
nothing_undecided : (room : ℕ) → IsUndecided room longest_line []
nothing_undecided room = record { in_line = refl; within = omega arith; short = omega arith }

pub nothing_taken_of : (limit : ℕ) (left : Option (List ℕ)) (read : Option LastRead) → IfSome left (λ bytes. TakesByNeed limit bytes left read read)
nothing_taken_of limit None read = tt
nothing_taken_of limit (Some bytes) read = record {
  done = [];
  part = [];
  last = [];
  is = refl;
  are_lines = tt;
  ds = [];
  delivered = refl;
  undecided = nothing_undecided (limit - 0);
  piece = omega arith;
  bounded = omega arith;
  needed = inl (refl, refl);
}

-- what was asked for and given, together
asks_by_need : (limit most before before_is gave : ℕ) (read : Option LastRead) → most ≡ limit → before ≡ before_is → IfSome read (λ r. r.asked ≡ min longest_read (most + 1 - before)) → IfSome read (λ r. r.gave ≡ gave) →
    AsksByNeed limit before_is gave read
asks_by_need limit most before before_is gave None limit_is is asked given = tt
asks_by_need limit most before before_is gave (Some r) limit_is is asked given = (asked ∙ ap₂ (λ n m. min longest_read (n + 1 - m)) limit_is is, given)

-- and the first lines are none
pub nothing_first : (limit : ℕ) (left : Option (List ℕ)) → AreFirst limit left left []
nothing_first limit None = record {
  before = [];
  read = [];
  part = [];
  last = [];
  all = refl;
  are_lines = refl;
  within = tt;
  delivered = refl;
  undecided = nothing_undecided (limit - 0);
  piece = omega arith;
}
nothing_first limit (Some bytes) = record {
  before = [];
  read = [];
  part = [];
  last = [];
  all = refl;
  are_lines = refl;
  within = omega arith;
  delivered = refl;
  undecided = nothing_undecided (limit - 0);
  piece = omega arith;
}

-- where the bytes aren't told, those that are left aren't either
unknown : (xs : List ℕ) (known : Option (List ℕ)) → None ≡ before_known xs known → None ≡ known
unknown xs None is = refl
unknown xs (Some ys) is = cc

-- if the bytes aren't told, nothing is said of what was taken after the lines
first_unknown : (limit : ℕ) (left_now : Option (List ℕ)) (done : List (List ℕ)) (ds : List Delivery) → deliveries_of done ≡ Some ds → None ≡ left_now → AreFirst limit None left_now ds
first_unknown limit None done ds delivered is = record {
  before = done;
  read = [];
  part = [];
  last = [];
  all = refl;
  are_lines = refl;
  within = tt;
  delivered = delivered;
  undecided = nothing_undecided (limit - 0);
  piece = omega arith;
}
first_unknown limit (Some bytes) done ds delivered is = cc

-- bytes behind others
before_both : (xs ys : List ℕ) (known : Option (List ℕ)) → before_known xs (before_known ys known) ≡ before_known (xs ++ ys) known
before_both xs ys None = refl
before_both xs ys (Some zs) = ap Some (sym (append_assoc xs ys zs))

read_length : (bytes read u : List ℕ) (consumed : ℕ) → bytes ≡ read ++ u → consumed + length u ≡ length bytes → length read ≡ consumed
read_length bytes read u consumed all total =
    let both : length bytes ≡ length read + length u = ap length all ∙ length-append read u in
    omega arith

-- where the input is known: what is unread, the lines before it, and the bytes before it
record Known (bytes : List ℕ) (done : List (List ℕ)) (read : List ℕ) (consumed : ℕ) (known : Option (List ℕ)) : Type 0 where
  u : List ℕ
  is : known ≡ Some u
  are_lines : lines bytes ≡ done ++ lines u
  total : consumed + length u ≡ length bytes
  all : bytes ≡ read ++ u
  read_is : length read ≡ consumed

known_parts : (bytes : List ℕ) (done : List (List ℕ)) (read : List ℕ) (consumed : ℕ) (known : Option (List ℕ)) →
    Some (lines bytes) ≡ option_map (λ (ls : List (List ℕ)). done ++ ls) (input_lines known) → option_map (λ (u : List ℕ). consumed + length u) known ≡ Some (length bytes) →
    Some bytes ≡ before_known read known → Known bytes done read consumed known
known_parts bytes done read consumed None are total all = cc
known_parts bytes done read consumed (Some u) are total all =
    let sum : consumed + length u ≡ length bytes = cc in
    let whole : bytes ≡ read ++ u = cc in
    record { u = u; is = refl; are_lines = cc; total = sum; all = whole; read_is = read_length bytes read u consumed whole sum }

pub at_known : (known : Option (List ℕ)) (u : List ℕ) (P : List ℕ → Type 0) → known ≡ Some u → IfSome known P → P u
at_known None u P is holds = cc
at_known (Some x) u P is holds = let same : x ≡ u = cc in subst P same holds

same_room : (limit : ℕ) (reader : Reading) (read : List ℕ) → reader.max_bytes ≡ limit → length read ≡ reader.consumed → room reader ≡ limit - length read
same_room limit reader read max is = ap (λ n. n - reader.consumed) max ∙ ap (λ n. limit - n) (sym is)

too_long : (bytes : List ℕ) (u : List ℕ) (max consumed : ℕ) → IsTooLong (max - consumed) longest_line u → consumed ≤ max → consumed + length u ≡ length bytes → max < length bytes
too_long bytes u max consumed over within total = omega (arith, over.more)

-- one more line after the others
lines_grow : (start known next : Option (List (List ℕ))) (done : List (List ℕ)) (line : List ℕ) →
    start ≡ option_map (λ (ls : List (List ℕ)). done ++ ls) known → known ≡ before_lines line next → start ≡ option_map (λ (ls : List (List ℕ)). (done ++ line ∷ []) ++ ls) next
lines_grow start known None done line are first = rw (are, first) refl
lines_grow start known (Some ls) done line are first = rw (are, first) (ap Some (sym (append_assoc done (line ∷ []) ls)))

-- the bytes behind the last line feed are the part behind the lines
last_part-ended : (done : List (List ℕ)) (part : List ℕ) → Each IsOneLine done → IsOneLine part → last_part (ended_lines done ++ part) ≡ part
last_part-ended done part are is =
    ap (λ ls. drop (length (ended_lines ls)) (ended_lines done ++ part)) (whole_lines-ended done part are is) ∙ drop-append_seam (ended_lines done) part

whole_grows : (done : List (List ℕ)) (line read moved : List ℕ) → read ≡ ended_lines done → moved ≡ line ++ line_feed ∷ [] → read ++ moved ≡ ended_lines (done ++ line ∷ [])
whole_grows done line read moved is ends =
    rw (is, ends) (sym (flat_map-append (λ l. l ++ line_feed ∷ []) done (line ∷ []) ∙ ap (λ xs. ended_lines done ++ xs) (append-nil (line ++ line_feed ∷ []))))

not_ended : (before now : Bool) → (before ≡ true → now ≡ true) → now ≡ false → before ≡ false
not_ended true now still is = sym (still refl) ∙ is
not_ended false now still is = refl

-- the reader took this line
pub record IsNextLine (line : List ℕ) (reader next : Reading) (left left_next : Option (List ℕ)) (last last_next : Option LastRead) : Type 0 where
  pub first : input_lines (unread reader left) ≡ before_lines line (input_lines (unread next left_next))
  pub total : input_length next left_next ≡ input_length reader left
  pub takes : TakesBytes next.ended (unread reader left) (unread next left_next) line
  pub goes : GoesOn reader next line
  pub reads : ReadsAsNeeded reader next left left_next last last_next

-- the reader has these limits on the bytes of the input and of a line
pub record HasLimits (limit : ℕ) (reader : Reading) : Type 0 where
  pub bytes : reader.max_bytes ≡ limit
  pub line : reader.max_line ≡ longest_line

module _ (limit : ℕ) (reader : Reading) (left : Option (List ℕ)) (ds : List Delivery) (limits : HasLimits limit reader) (sound : IsSound reader) where
  known_now : (bytes : List ℕ) (read : HasRead (Some bytes) reader left ds) → Known bytes read.done read.read reader.consumed (unread reader left)
  known_now bytes read = known_parts bytes read.done read.read reader.consumed (unread reader left) read.are read.total read.bytes

  -- what decides nothing by the reader's limit on a line
  undecided_as : {bytes : List ℕ} → IsUndecided (room reader) reader.max_line bytes → IsUndecided (room reader) longest_line bytes
  undecided_as {bytes} is = subst (λ n. IsUndecided (room reader) n bytes) limits.line is

  -- the bytes that went into lines are within the limit
  lines_within : (start : Option (List ℕ)) (read : HasRead start reader left ds) → IfSome start (λ _. length read.read ≤ limit)
  lines_within None read = tt
  lines_within (Some bytes) read =
      let parts = known_now bytes read in
      omega (arith, limits.bytes, sound.within, parts.read_is)

  -- the lines so far are the first ones, where a part of a line that decided nothing and what one read gives are behind them
  first_before : (bytes : List ℕ) (left_now : Option (List ℕ)) (part last : List ℕ) → (read : HasRead (Some bytes) reader left ds) → unread reader left ≡ before_known (part ++ last) left_now →
      IsUndecided (room reader) longest_line part → length last ≤ longest_read → AreFirst limit (Some bytes) left_now ds
  first_before bytes left_now part last read behind undecided piece =
      let parts = known_now bytes read in
      record {
        before = read.done;
        read = read.read;
        part = part;
        last = last;
        all = read.bytes ∙ ap (λ (o : Option (List ℕ)). before_known read.read o) behind;
        are_lines = read.are ∙ ap (λ (o : Option (List ℕ)). option_map (λ (ls : List (List ℕ)). read.done ++ ls) (input_lines o)) behind;
        within = lines_within (Some bytes) read;
        delivered = read.delivered;
        undecided = subst (λ n. IsUndecided n longest_line part) (same_room limit reader read.read limits.bytes parts.read_is) undecided;
        piece = piece;
      }

  -- the lines so far are the first ones, after a call of the reader, whatever it answered
  pub first_lines : (start : Option (List ℕ)) (next : Reading) (left_next : Option (List ℕ)) (last last_next : Option LastRead) → ReadsAsNeeded reader next left left_next last last_next →
      HasRead start reader left ds → AreFirst limit start left_next ds
  first_lines None next left_next last last_next reads read =
      first_unknown limit left_next read.done ds read.delivered (unknown (reads.before ++ reads.last) left_next (unknown reader.held left (unknown read.read (unread reader left) read.bytes) ∙ reads.told))
  first_lines (Some bytes) next left_next last last_next reads read = by reads.needed
    where
      behind : unread reader left ≡ before_known (reader.held ++ (reads.before ++ reads.last)) left_next
      behind = ap (λ (o : Option (List ℕ)). before_known reader.held o) reads.told ∙ before_both reader.held (reads.before ++ reads.last) left_next

      by : IsNeeded reader reads.before reads.last last last_next ⊎ ((reads.before ++ reads.last ≡ []) × (last_next ≡ last)) → AreFirst limit (Some bytes) left_next ds
      by (inl is) =
          first_before bytes left_next (reader.held ++ reads.before) reads.last read (behind ∙ ap (λ xs. before_known xs left_next) (sym (append_assoc reader.held reads.before reads.last))) (undecided_as is.undecided) reads.piece
      by (inr none) =
          first_before bytes left_next [] reader.held read (behind ∙ ap (λ xs. before_known (reader.held ++ xs) left_next) none.0 ∙ ap (λ xs. before_known xs left_next) (append-nil reader.held)) (nothing_undecided (room reader)) sound.buffered

  -- a call of the reader took what it needed
  needed : (bytes : List ℕ) (next : Reading) (left_next : Option (List ℕ)) (first last last_next : Option LastRead) → HasRead (Some bytes) reader left ds →
      (reads : ReadsAsNeeded reader next left left_next last last_next) → IsNeeded reader reads.before reads.last last last_next → TakesByNeed limit bytes left_next first last_next
  needed bytes next left_next first last last_next read reads is =
      let parts = known_now bytes read in
      let ends : read.read ≡ ended_lines read.done = read.whole is.going in
      let size : length (read.read ++ (reader.held ++ reads.before) ++ reads.last) ≡ length read.read + (length reader.held + length (reads.before ++ reads.last)) =
      omega (
        arith,
        length-append (read.read ++ (reader.held ++ reads.before)) reads.last,
        length-append read.read (reader.held ++ reads.before),
        length-append reader.held reads.before,
        length-append reads.before reads.last,
      ) in
      let at : left ≡ before_known reads.before (before_known reads.last left_next) = reads.told ∙ sym (before_both reads.before reads.last left_next) in
      let Fits : List ℕ → Type 0 = λ xs. length (xs ++ (reader.held ++ reads.before) ++ reads.last) ≤ limit + 1 in
      let before_is : taken reader + length reads.before ≡ length (ended_lines read.done ++ (reader.held ++ reads.before)) =
      omega (arith, length-append read.read (reader.held ++ reads.before), length-append reader.held reads.before, parts.read_is) ∙ ap (λ xs. length (xs ++ (reader.held ++ reads.before))) ends in
      let fits : length (read.read ++ (reader.held ++ reads.before) ++ reads.last) ≤ limit + 1 = omega (arith, size, parts.read_is, reads.counted, reads.sound.bounded, reads.limit, limits.bytes) in
      record {
        done = read.done;
        part = reader.held ++ reads.before;
        last = reads.last;
        is = read.bytes ∙ ap (λ (o : Option (List ℕ)). before_known read.read (before_known reader.held o)) at
            ∙ ap (λ (o : Option (List ℕ)). before_known read.read o) (before_both reader.held reads.before (before_known reads.last left_next))
            ∙ before_both read.read (reader.held ++ reads.before) (before_known reads.last left_next)
            ∙ before_both (read.read ++ (reader.held ++ reads.before)) reads.last left_next
            ∙ ap (λ xs. before_known (xs ++ (reader.held ++ reads.before) ++ reads.last) left_next) ends;
        are_lines = read.are_lines;
        ds = ds;
        delivered = read.delivered;
        undecided = subst (λ n. IsUndecided n longest_line (reader.held ++ reads.before)) (same_room limit reader read.read limits.bytes parts.read_is ∙ ap (λ xs. limit - length xs) ends) (undecided_as is.undecided);
        piece = reads.piece;
        bounded = subst Fits ends fits;
        needed = inr (asks_by_need limit reader.max_bytes (taken reader + length reads.before) _ (length reads.last) last_next limits.bytes before_is is.asked is.gave);
      }

  -- what was taken, after a call of the reader, whatever it answered
  pub takes_on : (start : Option (List ℕ)) (next : Reading) (left_next : Option (List ℕ)) (first last last_next : Option LastRead) → HasRead start reader left ds →
      ReadsAsNeeded reader next left left_next last last_next → IfSome start (λ bytes. TakesByNeed limit bytes left first last) → IfSome start (λ bytes. TakesByNeed limit bytes left_next first last_next)
  takes_on None next left_next first last last_next read reads so_far = tt
  takes_on (Some bytes) next left_next first last last_next read reads so_far = by reads.needed
    where
      by : IsNeeded reader reads.before reads.last last last_next ⊎ ((reads.before ++ reads.last ≡ []) × (last_next ≡ last)) → TakesByNeed limit bytes left_next first last_next
      by (inl is) = needed bytes next left_next first last last_next read reads is
      by (inr none) = subst (λ o. TakesByNeed limit bytes o first last_next) (reads.told ∙ ap (λ xs. before_known xs left_next) none.0 ∙ sym (still left_next)) (subst (λ r. TakesByNeed limit bytes left first r) (sym none.1) so_far)

  -- what was read and a part of a line within the limit are within it
  part_within : (start : Option (List ℕ)) (read : HasRead start reader left ds) (part : List ℕ) → length part ≤ room reader → IfSome start (λ bytes. length (read.read ++ part) ≤ limit)
  part_within None read part few = tt
  part_within (Some bytes) read part few =
      let parts = known_now bytes read in
      omega (arith, length-append read.read part, parts.read_is, limits.bytes, sound.within, few)

  -- what was read and a part of a line are the bytes that were read
  pub whole_read : (start left_now : Option (List ℕ)) (read : HasRead start reader left ds) → StopsInLine reader left left_now → AreWhole limit start left_now ds
  whole_read start left_now read stops = record {
    read = read.read ++ stops.part;
    within = part_within start read stops.part stops.within;
    is = read.bytes ∙ ap (λ (o : Option (List ℕ)). before_known read.read o) stops.front ∙ before_both read.read stops.part left_now;
    delivered =
        ap (λ xs. deliveries_of (whole_lines (xs ++ stops.part))) (read.whole stops.going)
        ∙ ap deliveries_of (whole_lines-ended read.done stops.part read.are_lines stops.in_line) ∙ read.delivered;
    short = subst (λ (xs : List ℕ). length xs ≤ longest_line)
        (sym (ap (λ xs. last_part (xs ++ stops.part)) (read.whole stops.going) ∙ last_part-ended read.done stops.part read.are_lines stops.in_line)) (subst (λ n. length stops.part ≤ n) limits.line stops.short);
  }

  -- the input goes past the limit
  pub past_limit : (start : Option (List ℕ)) → HasRead start reader left ds → IfSome (unread reader left) (IsTooLong (room reader) reader.max_line) → IfSome start (λ bytes. IsPastLimit limit bytes ds)
  past_limit None read over = tt
  past_limit (Some bytes) read over =
      let parts = known_now bytes read in
      let here : IsTooLong (room reader) longest_line parts.u =
      subst (λ n. IsTooLong (room reader) n parts.u) limits.line (at_known (unread reader left) parts.u (IsTooLong (room reader) reader.max_line) parts.is over) in
      let above : reader.max_bytes < length bytes = too_long bytes parts.u reader.max_bytes reader.consumed here sound.within parts.total in
      record {
        more = omega (arith, limits.bytes);
        before = read.done;
        read_bytes = read.read;
        unread_bytes = parts.u;
        all = parts.all;
        are_lines = parts.are_lines;
        delivered = read.delivered;
        within = omega (arith, limits.bytes, sound.within, parts.read_is);
        past = subst (λ n. IsTooLong n longest_line parts.u) (same_room limit reader read.read limits.bytes parts.read_is) here;
      }

  -- the next line is over-long
  pub over_long : (start : Option (List ℕ)) (number : ℕ) → HasRead start reader left ds → number ≡ reader.given + 1 → IfSome (unread reader left) (IsLineLong (room reader) reader.max_line) →
      IfSome start (λ bytes. IsRefusedLine limit bytes ds number LineLong)
  over_long None number read next over = tt
  over_long (Some bytes) number read next over =
      let parts = known_now bytes read in
      let here : IsLineLong (room reader) longest_line parts.u =
      subst (λ n. IsLineLong (room reader) n parts.u) limits.line (at_known (unread reader left) parts.u (IsLineLong (room reader) reader.max_line) parts.is over) in
      inr (
        refl,
        record {
          before = read.done;
          read_bytes = read.read;
          unread_bytes = parts.u;
          all = parts.all;
          are_lines = parts.are_lines;
          delivered = read.delivered;
          counted = next ∙ ap (λ n. n + 1) read.counted;
          over = subst (λ n. IsLineLong n longest_line parts.u) (same_room limit reader read.read limits.bytes parts.read_is) here;
        },
      )

  -- at the end of the input all lines were read
  pub all_read : (start : Option (List ℕ)) → HasRead start reader left ds → IsAtEnd (unread reader left) → IfSome start (λ bytes. AreDeliveries limit bytes ds)
  all_read None read at_end = tt
  all_read (Some bytes) read at_end =
      let parts = known_now bytes read in
      let none : parts.u ≡ [] = at_known (unread reader left) parts.u (λ u. u ≡ []) parts.is at_end in
      let all : lines bytes ≡ read.done = parts.are_lines ∙ ap (λ u. read.done ++ lines u) none ∙ append-nil read.done in
      let nothing : length parts.u ≡ 0 = ap length none in
      record { within = omega (arith, parts.total, limits.bytes, sound.within); delivered = rw all read.delivered }

  module _ (line : List ℕ) (next : Reading) (left_next : Option (List ℕ)) (last last_next : Option LastRead) (is : IsNextLine line reader next left left_next last last_next) where
    bytes_grow : (start : Option (List ℕ)) (read : HasRead start reader left ds) → start ≡ before_known (read.read ++ is.takes.moved) (unread next left_next)
    bytes_grow start read = read.bytes ∙ ap (λ (o : Option (List ℕ)). before_known read.read o) is.takes.front ∙ before_both read.read is.takes.moved (unread next left_next)

    -- the line isn't over-long
    short_line : length line ≤ longest_line
    short_line = subst (λ n. length line ≤ n) limits.line is.goes.short

    known_next : (bytes : List ℕ) (read : HasRead (Some bytes) reader left ds) → Known bytes (read.done ++ line ∷ []) (read.read ++ is.takes.moved) next.consumed (unread next left_next)
    known_next bytes read =
        known_parts bytes (read.done ++ line ∷ []) (read.read ++ is.takes.moved) next.consumed (unread next left_next)
        (lines_grow (Some (lines bytes)) (input_lines (unread reader left)) (input_lines (unread next left_next)) read.done line read.are is.first) (is.total ∙ read.total) (bytes_grow (Some bytes) read)

    -- the bytes that went into the lines so far and this one are within the limit
    line_within : (start : Option (List ℕ)) (read : HasRead start reader left ds) → IfSome start (λ _. length (read.read ++ is.takes.moved) ≤ limit)
    line_within None read = tt
    line_within (Some bytes) read =
        let parts = known_next bytes read in
        omega (arith, parts.read_is, is.goes.sound.within, is.goes.limit, limits.bytes)

    -- the lines so far and this one are the first ones, and nothing behind them was judged
    pub first_with : (start : Option (List ℕ)) (d : Delivery) → HasRead start reader left ds → delivery_of line ≡ Ok d → AreFirstAlone limit start left_next (ds ++ d ∷ [])
    first_with start d read delivers = record {
      first = record {
        before = read.done ++ line ∷ [];
        read = read.read ++ is.takes.moved;
        part = [];
        last = next.held;
        all = bytes_grow start read;
        are_lines = lines_grow (input_lines start) (input_lines (unread reader left)) (input_lines (unread next left_next)) read.done line read.are is.first;
        within = line_within start read;
        delivered = deliveries-push read.done line ds d read.delivered (short_delivers line d short_line delivers);
        undecided = nothing_undecided (limit - length (read.read ++ is.takes.moved));
        piece = is.goes.sound.buffered;
      };
      alone = refl;
    }

    -- this line is refused
    pub bad_line : (start : Option (List ℕ)) (number : ℕ) (cause : LineCause) → HasRead start reader left ds → number ≡ reader.given + 1 → delivery_of line ≡ Err cause →
        IfSome start (λ bytes. IsRefusedLine limit bytes ds number cause)
    bad_line None number cause read counted refused = tt
    bad_line (Some bytes) number cause read counted refused =
        let parts = known_next bytes read in
        inl (record {
          before = read.done;
          line = line;
          read_bytes = read.read ++ is.takes.moved;
          unread_bytes = parts.u;
          all = parts.all;
          are_lines = parts.are_lines ∙ append_assoc read.done (line ∷ []) (lines parts.u);
          within = omega (arith, parts.read_is, is.goes.sound.within, is.goes.limit, limits.bytes);
          delivered = read.delivered;
          counted = counted ∙ ap (λ n. n + 1) read.counted;
          short = short_line;
          refused = refused;
        })

    -- this line was read too
    pub read_more : (start : Option (List ℕ)) (d : Delivery) → HasRead start reader left ds → next.given ≡ reader.given + 1 → delivery_of line ≡ Ok d → HasRead start next left_next (ds ++ d ∷ [])
    read_more start d read given delivers = record {
      done = read.done ++ line ∷ [];
      are = lines_grow (input_lines start) (input_lines (unread reader left)) (input_lines (unread next left_next)) read.done line read.are is.first;
      delivered = deliveries-push read.done line ds d read.delivered (short_delivers line d short_line delivers);
      counted = given ∙ omega (arith, read.counted, length-append read.done (line ∷ []));
      total = is.total ∙ read.total;
      read = read.read ++ is.takes.moved;
      bytes = bytes_grow start read;
      whole = λ going. whole_grows read.done line read.read is.takes.moved (read.whole (not_ended reader.ended next.ended is.goes.still going)) (is.takes.whole going);
      are_lines = Each-append IsOneLine read.done (line ∷ []) read.are_lines (is.takes.in_line, tt);
    }

-- at the end nothing is left of the source
pub nothing_left : (held : List ℕ) (left : Option (List ℕ)) → IsAtEnd (before_known held left) → IsAtEnd left
nothing_left held None at_end = tt
nothing_left [] (Some xs) at_end = at_end
nothing_left (b ∷ bs) (Some xs) at_end = cc
