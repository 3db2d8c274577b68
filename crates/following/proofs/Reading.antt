-- How far the reading of lines has come, and what that says of the input.
use Rattle.std.proofs.Common.{refl, sym, subst, ◌∙◌, ap, ◌≡◌, ◌≢◌, ◌⊎◌, inl, inr, ℕ, ◌+◌, ◌-◌, ◌<◌, ◌≤◌, Bool, true, false, List, [], ◌∷◌, ◌++◌, length, Option, None, Some, IfSome, arith, append_assoc, append-nil, length-append}
use Rattle.std.proofs.lemmas.Grind.{flat_map-append}
use Rattle.std.specs.Option.{option_map}
use Rattle.sorted_sets.specs.Rising.{Each}
use Rattle.wq_io.specs.Streams.{IsAtEnd, LastRead, before_known}
use Rattle.wq_io.specs.Lines.{GoesOn, IsLineLong, IsNeeded, IsOneLine, IsSound, IsTooLong, IsUndecided, ReadsAsNeeded, Reading, StopsInLine, TakesBytes, before_lines, ended_lines, fresh, input_length, line_feed, lines, input_lines, room, unread}
use Rattle.replica.specs.{declared.reader.Begun.Begun, declared.reader.PatchFault.PatchFault, declared.record.PatchRecord.PatchRecord}
use Rattle.replica.specs.Reader.{HasCause}
use Rattle.following.specs.Reading.{AreFirstLines, AreLinesOf, AreRecords, BeginsWith, EndsInLine, EndsInside, HasReadLines, IsBadRecordLine, IsOverLong, RecordsPastLimit, TakesLinesByNeed, longest_line}
use Rattle.following.proofs.KnownBytes.{Each-push, Known, at_known, before_both, known_parts, lines_grow, not_ended, same_room, still, too_long, whole_grows}

-- the reader took this line
pub record IsNextLine (line : List ℕ) (reader next : Reading) (left left_next : Option (List ℕ)) : Type 0 where
  pub first : input_lines (unread reader left) ≡ before_lines line (input_lines (unread next left_next))
  pub total : input_length next left_next ≡ input_length reader left
  pub takes : TakesBytes next.ended (unread reader left) (unread next left_next) line
  pub goes : GoesOn reader next line

-- the reader has these limits on the bytes of the input and of a line
pub record HasLimits (limit : ℕ) (reader : Reading) : Type 0 where
  pub bytes : reader.max_bytes ≡ limit
  pub line : reader.max_line ≡ longest_line

module _ (limit : ℕ) (reader : Reading) (left : Option (List ℕ)) (done : List (List ℕ)) (limits : HasLimits limit reader) (sound : IsSound reader) where
  known_now : (bytes : List ℕ) (read : HasReadLines (Some bytes) reader left done) → Known bytes done read.read reader.consumed (unread reader left)
  known_now bytes read = known_parts bytes done read.read reader.consumed (unread reader left) read.are read.total read.bytes

  -- the lines so far are the first ones
  first_lines : (bytes : List ℕ) → HasReadLines (Some bytes) reader left done → BeginsWith limit bytes done
  first_lines bytes read =
      let parts = known_now bytes read in
      record {
        read_bytes = read.read;
        unread_bytes = parts.u;
        all = parts.all;
        are_lines = parts.are_lines;
        within = omega (arith, limits.bytes, sound.within, parts.read_is);
      }

  -- what decides nothing by the reader's limit on a line
  undecided_as : {bytes : List ℕ} → IsUndecided (room reader) reader.max_line bytes → IsUndecided (room reader) longest_line bytes
  undecided_as {bytes} is = subst (λ n. IsUndecided (room reader) n bytes) limits.line is

  -- a call of the reader took what it needed
  needed : (items : List PatchRecord) (begun : Option Begun) → AreLinesOf done items begun → (bytes : List ℕ) (next : Reading) (left_next : Option (List ℕ)) (last last_next : Option LastRead) →
      HasReadLines (Some bytes) reader left done → (reads : ReadsAsNeeded reader next left left_next last last_next) → IsNeeded reader reads.before reads.last last last_next → TakesLinesByNeed limit bytes left_next
  needed items begun are bytes next left_next last last_next read reads is =
      let parts = known_now bytes read in
      let ends : read.read ≡ ended_lines done = read.whole is.going in
      let size : length (read.read ++ (reader.held ++ reads.before) ++ reads.last) ≡ length read.read + (length reader.held + length (reads.before ++ reads.last)) =
      omega (
        arith,
        length-append (read.read ++ (reader.held ++ reads.before)) reads.last,
        length-append read.read (reader.held ++ reads.before),
        length-append reader.held reads.before,
        length-append reads.before reads.last,
      ) in
      let at : left ≡ before_known reads.before (before_known reads.last left_next) = reads.told ∙ sym (before_both reads.before reads.last left_next) in
      let Fits : List ℕ → Type 0 = λ xs. length (xs ++ (reader.held ++ reads.before) ++ reads.last) ≤ limit + 1 in
      let fits : length (read.read ++ (reader.held ++ reads.before) ++ reads.last) ≤ limit + 1 = omega (arith, size, parts.read_is, reads.counted, reads.sound.bounded, reads.limit, limits.bytes) in
      record {
        done = done;
        part = reader.held ++ reads.before;
        last = reads.last;
        is = read.bytes ∙ ap (λ (o : Option (List ℕ)). before_known read.read (before_known reader.held o)) at
            ∙ ap (λ (o : Option (List ℕ)). before_known read.read o) (before_both reader.held reads.before (before_known reads.last left_next))
            ∙ before_both read.read (reader.held ++ reads.before) (before_known reads.last left_next)
            ∙ before_both (read.read ++ (reader.held ++ reads.before)) reads.last left_next
            ∙ ap (λ xs. before_known (xs ++ (reader.held ++ reads.before) ++ reads.last) left_next) ends;
        are_lines = read.are_lines;
        items = items;
        begun = begun;
        are = are;
        undecided = subst (λ n. IsUndecided n longest_line (reader.held ++ reads.before)) (same_room limit reader read.read limits.bytes parts.read_is ∙ ap (λ xs. limit - length xs) ends) (undecided_as is.undecided);
        piece = reads.piece;
        bounded = subst Fits ends fits;
      }

  -- what was taken, after a call of the reader, whatever it answered
  pub takes_on : (items : List PatchRecord) (begun : Option Begun) → AreLinesOf done items begun → (start : Option (List ℕ)) (next : Reading) (left_next : Option (List ℕ)) (last last_next : Option LastRead) →
      HasReadLines start reader left done → ReadsAsNeeded reader next left left_next last last_next → IfSome start (λ bytes. TakesLinesByNeed limit bytes left) → IfSome start (λ bytes. TakesLinesByNeed limit bytes left_next)
  takes_on items begun are None next left_next last last_next read reads so_far = tt
  takes_on items begun are (Some bytes) next left_next last last_next read reads so_far = by reads.needed
    where
      by : IsNeeded reader reads.before reads.last last last_next ⊎ ((reads.before ++ reads.last ≡ []) × (last_next ≡ last)) → TakesLinesByNeed limit bytes left_next
      by (inl is) = needed items begun are bytes next left_next last last_next read reads is
      by (inr none) = subst (λ o. TakesLinesByNeed limit bytes o) (reads.told ∙ ap (λ xs. before_known xs left_next) none.0 ∙ sym (still left_next)) so_far

  -- what was read and a part of a line within the limit are within it
  part_within : (start : Option (List ℕ)) (read : HasReadLines start reader left done) (part : List ℕ) → length part ≤ room reader → IfSome start (λ bytes. length (read.read ++ part) ≤ limit)
  part_within None read part few = tt
  part_within (Some bytes) read part few =
      let parts = known_now bytes read in
      omega (arith, length-append read.read part, parts.read_is, limits.bytes, sound.within, few)

  -- what was read are the lines so far and a part of a line
  pub whole_read : (start left_now : Option (List ℕ)) (read : HasReadLines start reader left done) → StopsInLine reader left left_now → EndsInLine limit start left_now done
  whole_read start left_now read stops =
      let ends : read.read ≡ ended_lines done = read.whole stops.going in
      let Fits : List ℕ → Type 0 = λ xs. IfSome start (λ _. length (xs ++ stops.part) ≤ limit) in
      record {
        part = stops.part;
        is = read.bytes ∙ ap (λ (o : Option (List ℕ)). before_known read.read o) stops.front ∙ before_both read.read stops.part left_now ∙ ap (λ xs. before_known (xs ++ stops.part) left_now) ends;
        are_lines = read.are_lines;
        in_line = stops.in_line;
        short = subst (λ n. length stops.part ≤ n) limits.line stops.short;
        within = subst Fits ends (part_within start read stops.part stops.within);
      }

  -- the input goes past the limit
  pub past_limit : (start : Option (List ℕ)) → HasReadLines start reader left done → IfSome (unread reader left) (IsTooLong (room reader) reader.max_line) → IfSome start (λ bytes. RecordsPastLimit limit bytes done)
  unfolding first_lines known_now
  past_limit None read over = tt
  past_limit (Some bytes) read over =
      let parts = known_now bytes read in
      let here : IsTooLong (room reader) longest_line parts.u =
      subst (λ n. IsTooLong (room reader) n parts.u) limits.line (at_known (unread reader left) parts.u (IsTooLong (room reader) reader.max_line) parts.is over) in
      let above : reader.max_bytes < length bytes = too_long bytes parts.u reader.max_bytes reader.consumed here sound.within parts.total in
      record {
        more = omega (arith, limits.bytes);
        first = first_lines bytes read;
        past = subst (λ n. IsTooLong n longest_line parts.u) (same_room limit reader read.read limits.bytes parts.read_is) here;
      }

  -- the next line is over-long
  pub over_long : (start : Option (List ℕ)) → HasReadLines start reader left done → IfSome (unread reader left) (IsLineLong (room reader) reader.max_line) → IfSome start (λ bytes. IsOverLong limit bytes done)
  unfolding first_lines
  over_long None read over = tt
  over_long (Some bytes) read over =
      let parts = known_now bytes read in
      let here : IsLineLong (room reader) longest_line parts.u =
      subst (λ n. IsLineLong (room reader) n parts.u) limits.line (at_known (unread reader left) parts.u (IsLineLong (room reader) reader.max_line) parts.is over) in
      record {
        first = first_lines bytes read;
        over = subst (λ n. IsLineLong n longest_line parts.u) (same_room limit reader read.read limits.bytes parts.read_is) here;
      }

  -- at the end of the input all lines were read
  all_lines : (bytes : List ℕ) (read : HasReadLines (Some bytes) reader left done) → IsAtEnd (unread reader left) → lines bytes ≡ done
  all_lines bytes read at_end =
      let parts = known_now bytes read in
      let none : parts.u ≡ [] = at_known (unread reader left) parts.u (λ u. u ≡ []) parts.is at_end in
      parts.are_lines ∙ ap (λ u. done ++ lines u) none ∙ append-nil done

  -- and all is within the limit
  all_within : (bytes : List ℕ) → HasReadLines (Some bytes) reader left done → IsAtEnd (unread reader left) → length bytes ≤ limit
  all_within bytes read at_end =
      let parts = known_now bytes read in
      let none : parts.u ≡ [] = at_known (unread reader left) parts.u (λ u. u ≡ []) parts.is at_end in
      let nothing : length parts.u ≡ 0 = ap length none in
      omega (arith, parts.total, limits.bytes, sound.within)

  pub all_read : (items : List PatchRecord) (begun : Option Begun) → AreLinesOf done items begun → (start : Option (List ℕ)) → HasReadLines start reader left done → IsAtEnd (unread reader left) →
      IfSome start (λ bytes. AreRecords limit bytes items begun)
  all_read items begun are None read at_end = tt
  all_read items begun are (Some bytes) read at_end =
      record { within = all_within bytes read at_end; are = subst (λ ls. AreLinesOf ls items begun) (sym (all_lines bytes read at_end)) are }

  -- the input ends inside a record
  pub cut_off_inside : (begun : Option Begun) → begun ≢ None → (start : Option (List ℕ)) → HasReadLines start reader left done → IsAtEnd (unread reader left) → IfSome start (λ bytes. EndsInside limit bytes done begun)
  cut_off_inside begun inside None read at_end = tt
  cut_off_inside begun inside (Some bytes) read at_end = record { within = all_within bytes read at_end; are = all_lines bytes read at_end; inside = inside }

  module _ (line : List ℕ) (next : Reading) (left_next : Option (List ℕ)) (is : IsNextLine line reader next left left_next) where
    bytes_grow : (start : Option (List ℕ)) (read : HasReadLines start reader left done) → start ≡ before_known (read.read ++ is.takes.moved) (unread next left_next)
    bytes_grow start read = read.bytes ∙ ap (λ (o : Option (List ℕ)). before_known read.read o) is.takes.front ∙ before_both read.read is.takes.moved (unread next left_next)

    -- the line isn't over-long
    short_line : length line ≤ longest_line
    short_line = subst (λ n. length line ≤ n) limits.line is.goes.short

    known_next : (bytes : List ℕ) (read : HasReadLines (Some bytes) reader left done) → Known bytes (done ++ line ∷ []) (read.read ++ is.takes.moved) next.consumed (unread next left_next)
    known_next bytes read =
        known_parts bytes (done ++ line ∷ []) (read.read ++ is.takes.moved) next.consumed (unread next left_next)
        (lines_grow (Some (lines bytes)) (input_lines (unread reader left)) (input_lines (unread next left_next)) done line read.are is.first) (is.total ∙ read.total) (bytes_grow (Some bytes) read)

    next_bytes : (u v : List ℕ) → unread reader left ≡ Some u → unread next left_next ≡ Some v → u ≡ is.takes.moved ++ v
    next_bytes u v here there = let same : Some u ≡ Some (is.takes.moved ++ v) = sym here ∙ is.takes.front ∙ ap (λ (o : Option (List ℕ)). before_known is.takes.moved o) there in cc

    next_lines : (u v : List ℕ) → unread reader left ≡ Some u → unread next left_next ≡ Some v → lines u ≡ line ∷ lines v
    next_lines u v here there = let same : Some (lines u) ≡ Some (line ∷ lines v) = ap input_lines (sym here) ∙ is.first ∙ ap (λ (o : Option (List ℕ)). before_lines line (input_lines o)) there in cc

    -- this line is refused
    pub bad_line : (begun : Option Begun) (start : Option (List ℕ)) (fault : PatchFault) → HasReadLines start reader left done → HasCause fault begun line → IfSome start (λ bytes. IsBadRecordLine fault limit bytes done begun)
    unfolding first_lines
    bad_line begun None fault read refused = tt
    bad_line begun (Some bytes) fault read refused =
        let here = known_now bytes read in
        let there = known_next bytes read in
        record {
          first = first_lines bytes read;
          line = line;
          line_bytes = is.takes.moved;
          others = there.u;
          next = next_bytes here.u there.u here.is there.is;
          is_line = next_lines here.u there.u here.is there.is;
          within = omega (arith, length-append read.read is.takes.moved, there.read_is, is.goes.sound.within, is.goes.limit, limits.bytes);
          short = short_line;
          refused = refused;
        }

    -- the bytes that went into the lines so far and this one are within the limit
    line_within : (start : Option (List ℕ)) (read : HasReadLines start reader left done) → IfSome start (λ _. length (read.read ++ is.takes.moved) ≤ limit)
    line_within None read = tt
    line_within (Some bytes) read =
        let there = known_next bytes read in
        omega (arith, there.read_is, is.goes.sound.within, is.goes.limit, limits.bytes)

    -- the lines so far and this one are the first ones
    pub first_with : (start : Option (List ℕ)) → HasReadLines start reader left done → AreFirstLines limit start left_next (done ++ line ∷ [])
    first_with start read = record {
      read = read.read ++ is.takes.moved;
      last = next.held;
      all = bytes_grow start read;
      are_lines = lines_grow (input_lines start) (input_lines (unread reader left)) (input_lines (unread next left_next)) done line read.are is.first;
      within = line_within start read;
      piece = is.goes.sound.buffered;
    }

    -- this line was read too
    pub read_more : (start : Option (List ℕ)) → HasReadLines start reader left done → next.given ≡ reader.given + 1 → HasReadLines start next left_next (done ++ line ∷ [])
    read_more start read given = record {
      are = lines_grow (input_lines start) (input_lines (unread reader left)) (input_lines (unread next left_next)) done line read.are is.first;
      counted = given ∙ omega (arith, read.counted, length-append done (line ∷ []));
      total = is.total ∙ read.total;
      read = read.read ++ is.takes.moved;
      bytes = bytes_grow start read;
      whole = λ going. whole_grows done line read.read is.takes.moved (read.whole (not_ended reader.ended next.ended is.goes.still going)) (is.takes.whole going);
      are_lines = Each-push IsOneLine done line read.are_lines is.takes.in_line;
    }

-- at the end nothing is left of the source
pub nothing_left : (held : List ℕ) (left : Option (List ℕ)) → IsAtEnd (before_known held left) → IsAtEnd left
nothing_left held None at_end = tt
nothing_left [] (Some xs) at_end = at_end
nothing_left (b ∷ bs) (Some xs) at_end = cc
