-- The search for the next line: what stands between its start and each read, and what follows at its ends.
use Rattle.std.proofs.Common.{refl, sym, ◌∙◌, ap, ◌≡◌, ◌↔◌, ℕ, ◌+◌, ◌<◌, ◌≤◌, Bool, true, false, List, [], ◌∷◌, Option, Some, None, IfSome, IsNone, MatchOption, ◌++◌, length, arith, append_assoc, length-append}
use Rattle.std.proofs.lemmas.List.{take-append-le, append-nil}
use Rattle.wq_io.specs.Streams.{AreFewEmpty, before_known, IsAtEnd, LastRead}
use Rattle.wq_io.specs.Lines.{Reading, IsSound, IsOneLine, IsPartOfLine, IsLineLong, StopsInLine, GivesLine, HasCause, ReadsAsNeeded, TakesBytes, line_feed, lines, input_lines, before_lines, unread, room}
use Rattle.wq_io.specs.Taking.{HasByte, IsUnreadable, IsOverLong, IsLeftHeld, ReadsByNeed, TakesHeld}
use Rattle.wq_io.specs.declared.lines.LineFault.{LineFault}
use Rattle.wq_io.specs.declared.lines.LineFault.TheVariants.{ReadFault, TooLong, LineLong, OutOfMemory}
use Rattle.wq_io.proofs.NeededReads.{HasRead, read_more, reads_as_needed, still_few, went_by}
use Rattle.wq_io.proofs.LineLists.{lines-line, lines-last, one_line-append, one_line-take}

-- the line so far was taken from the front of what was unread, and it is one line that isn't too long
pub record Going (start now : Reading) (left_start left : Option (List ℕ)) (line : List ℕ) (faults_start faults : ℕ)
    (most_start most : Option ℕ) (read_start read : Option LastRead) : Type 0 where
  pub front : unread start left_start ≡ before_known line (unread now left)
  pub in_line : IsOneLine line
  pub short : length line ≤ start.max_line
  pub others : now ≡ record start { held = now.held; consumed = start.consumed + length line; ended = now.ended; failed = true }
  pub sound : IsSound now
  pub counted : start.given ≤ start.consumed
  pub ended : now.ended ≡ true → IsAtEnd left
  pub still : start.ended ≡ true → now.ended ≡ true
  pub later : faults_start ≤ faults
  pub reads : HasRead start now left_start left read_start read line
  pub told_most : most ≡ most_start
  pub few : AreFewEmpty read_start read 0

nothing_before : (line : List ℕ) (left : Option (List ℕ)) → before_known line (before_known [] left) ≡ before_known line left
nothing_before line None = refl
nothing_before line (Some xs) = refl

pub not_true : (old new : Bool) → (old ≡ true → new ≡ true) → new ≡ false → old ≡ false
not_true true new still is = sym (still refl) ∙ is
not_true false new still is = refl

module _ (start now : Reading) (left_start left : Option (List ℕ)) (line : List ℕ) (faults_start faults : ℕ) (most_start most : Option ℕ)
    (read_start read : Option LastRead) (going : Going start now left_start left line faults_start faults most_start most read_start read) where
  line_within : length line ≤ room start
  line_within = omega (arith, going.sound.within, ap (λ (r : Reading). r.consumed) going.others, ap (λ (r : Reading). r.max_bytes) going.others)

  -- the line so far is a first part of a line
  pub part_so_far : IsPartOfLine start left_start line
  part_so_far = record { others = unread now left; front = going.front; in_line = going.in_line; within = line_within; short = going.short }

  -- a read that failed left the rest
  pub stops_here : (left_now : Option (List ℕ)) → IsUnreadable now left left_now → StopsInLine start left_start left_now
  stops_here left_now failed = record {
    part = line;
    front = going.front ∙ ap (λ (h : List ℕ). before_known line (before_known h left)) failed.empty ∙ nothing_before line left ∙ ap (before_known line) (sym failed.same);
    in_line = going.in_line;
    within = line_within;
    short = going.short;
    going = not_true start.ended now.ended going.still failed.going;
  }

last_line : (u left line : List ℕ) (n : ℕ) → u ≡ line ++ left → left ≡ [] → IsOneLine line → (line ≡ [] → IsNone {T = ℕ} (Some n)) →
    lines u ≡ line ∷ lines left
last_line u left [] n front empty in_line none = let no = none refl in cc
last_line u left (b ∷ bs) n front empty in_line none =
    rw (front, empty) (ap lines (append-nil (b ∷ bs)) ∙ lines-last b bs in_line)

nothing_left : (u left line : List ℕ) → u ≡ line ++ left → left ≡ [] → line ≡ [] → u ≡ []
nothing_left u left line front empty none = rw (front, empty, none) refl

-- at the end: the line so far is the last one, or there is none
pub at_end : (unread_start left : Option (List ℕ)) (line : List ℕ) (number : Option ℕ) →
    unread_start ≡ before_known line (before_known [] left) → IsAtEnd left → IsOneLine line → (IsNone number ↔ (line ≡ [])) →
    GivesLine unread_start (before_known [] left) number line
at_end unread_start None line None front end in_line none = rw front (tt, refl)
at_end unread_start (Some xs) line None front end in_line none =
    let is : line ≡ [] = none.0 refl in
    rw front (nothing_left (line ++ xs) xs line refl end is, ap Some (rw is refl))
at_end unread_start None line (Some n) front end in_line none = rw front refl
at_end unread_start (Some xs) line (Some n) front end in_line none =
    rw front (ap Some (last_line (line ++ xs) xs line n refl end in_line none.1))

-- the line ended: it is the first one of what was unread
pub line_ended : (unread_start left : Option (List ℕ)) (line moved held held_now : List ℕ) →
    unread_start ≡ before_known line (before_known held left) → held ≡ moved ++ line_feed ∷ held_now → IsOneLine line → IsOneLine moved →
    input_lines unread_start ≡ before_lines (line ++ moved) (input_lines (before_known held_now left))
line_ended unread_start None line moved held held_now front is in_line in_moved = rw front refl
line_ended unread_start (Some xs) line moved held held_now front is in_line in_moved =
    let grouped : line ++ ((moved ++ line_feed ∷ held_now) ++ xs) ≡ (line ++ moved) ++ line_feed ∷ (held_now ++ xs) =
    ap (λ ys. line ++ ys) (append_assoc moved (line_feed ∷ held_now) xs) ∙ sym (append_assoc line moved (line_feed ∷ (held_now ++ xs))) in
    rw (front, is) (ap Some (ap lines grouped ∙ lines-line (line ++ moved) (held_now ++ xs) (one_line-append line moved in_line in_moved)))

-- the line ended: it and its line feed are the next bytes
pub line_bytes : (ended : Bool) (unread_start left : Option (List ℕ)) (line moved held held_now : List ℕ) →
    unread_start ≡ before_known line (before_known held left) → held ≡ moved ++ line_feed ∷ held_now → IsOneLine line → IsOneLine moved →
    TakesBytes ended unread_start (before_known held_now left) (line ++ moved)
line_bytes ended unread_start None line moved held held_now front is in_line in_moved =
    record { moved = (line ++ moved) ++ line_feed ∷ []; front = front; whole = λ _. refl; in_line = one_line-append line moved in_line in_moved }
line_bytes ended unread_start (Some xs) line moved held held_now front is in_line in_moved =
    let grouped : line ++ ((moved ++ line_feed ∷ held_now) ++ xs) ≡ ((line ++ moved) ++ line_feed ∷ []) ++ (held_now ++ xs) =
    ap (λ ys. line ++ ys) (append_assoc moved (line_feed ∷ held_now) xs) ∙ sym (append_assoc line moved (line_feed ∷ (held_now ++ xs)))
    ∙ sym (append_assoc (line ++ moved) (line_feed ∷ []) (held_now ++ xs)) in
    record { moved = (line ++ moved) ++ line_feed ∷ []; front = rw (front, is) (ap Some grouped); whole = λ _. refl; in_line = one_line-append line moved in_line in_moved }

-- bytes moved: they stand behind the line so far
pub moved_behind : (unread_start left : Option (List ℕ)) (line moved held held_now : List ℕ) →
    unread_start ≡ before_known line (before_known held left) → held ≡ moved ++ held_now →
    unread_start ≡ before_known (line ++ moved) (before_known held_now left)
moved_behind unread_start None line moved held held_now front is = front
moved_behind unread_start (Some xs) line moved held held_now front is =
    rw (front, is) (ap Some (ap (λ ys. line ++ ys) (append_assoc moved held_now xs) ∙ sym (append_assoc line moved (held_now ++ xs))))

long_line : (line moved others xs : List ℕ) (room_start room_now max_line : ℕ) → IsOneLine line → IsOneLine moved → length line ≤ max_line →
    max_line < length line + length moved → length moved ≤ room_now → (0 < room_now → room_start ≡ room_now + length line) →
    IsLineLong room_start max_line (line ++ ((moved ++ others) ++ xs))
long_line line moved others xs room_start room_now max_line in_line in_moved short over within rooms =
    let some : 0 < room_now = omega arith in
    let grouped : line ++ ((moved ++ others) ++ xs) ≡ (line ++ moved) ++ (others ++ xs) =
    ap (λ ys. line ++ ys) (append_assoc moved others xs) ∙ sym (append_assoc line moved (others ++ xs)) in
    let both : length (line ++ moved) ≡ length line + length moved = length-append line moved in
    let behind : length ((line ++ moved) ++ (others ++ xs)) ≡ length (line ++ moved) + length (others ++ xs) = length-append (line ++ moved) (others ++ xs) in
    let reaches : max_line + 1 ≤ length (line ++ moved) = omega arith in
    rw grouped (record {
      more = omega arith;
      within = omega (arith, rooms some);
      in_line = rw (take-append-le (max_line + 1) (line ++ moved) (others ++ xs) reaches) (one_line-take (max_line + 1) (line ++ moved) (one_line-append line moved in_line in_moved));
    })

-- a line that gets too long is too long where it began
pub over_long : (unread_start left : Option (List ℕ)) (line : List ℕ) (start now : Reading) →
    unread_start ≡ before_known line (before_known now.held left) → IsOneLine line → length line ≤ start.max_line →
    now.consumed ≡ start.consumed + length line → now.max_bytes ≡ start.max_bytes → now.max_line ≡ start.max_line → IsOverLong now line →
    IfSome unread_start (IsLineLong (room start) start.max_line)
over_long unread_start None line start now front in_line short consumed limit longest over = rw front tt
over_long unread_start (Some xs) line start now front in_line short consumed limit longest over =
    let rooms : 0 < room now → room start ≡ room now + length line = λ some. omega (arith, consumed, limit) in
    rw (front, over.held) (long_line line over.moved over.others xs (room start) (room now) start.max_line in_line over.in_line short (rw longest at over.over) over.within rooms)

-- a refusal of the held bytes is a fault of the line where it began
pub cause_of : (fault : LineFault) (start now : Reading) (left_start left : Option (List ℕ)) (line : List ℕ) (before after : ℕ) →
    unread start left_start ≡ before_known line (unread now left) → IsOneLine line → length line ≤ start.max_line →
    now.consumed ≡ start.consumed + length line → now.max_bytes ≡ start.max_bytes → now.max_line ≡ start.max_line → now.given ≡ start.given →
    IsLeftHeld fault now line → HasCause fault start left_start before after
cause_of ReadFault start now left_start left line before after front in_line short consumed limit longest given cause = absurd cause
cause_of TooLong start now left_start left line before after front in_line short consumed limit longest given cause = absurd cause
cause_of (LineLong number) start now left_start left line before after front in_line short consumed limit longest given cause =
    (cause.0 ∙ ap (λ n. n + 1) given, over_long (unread start left_start) left line start now front in_line short consumed limit longest cause.1)
cause_of OutOfMemory start now left_start left line before after front in_line short consumed limit longest given cause = tt

-- the reads of a call with one more, which may have been needed
pub going_reads : (start now next : Reading) (left_start left left_next : Option (List ℕ)) (line : List ℕ) (faults_start faults : ℕ) (most_start most : Option ℕ)
    (read_start read read_next : Option LastRead) → Going start now left_start left line faults_start faults most_start most read_start read →
    ReadsByNeed now next left left_next read read_next → HasRead start next left_start left_next read_start read_next line
going_reads start now next left_start left left_next line faults_start faults most_start most read_start read read_next going by_need =
    let consumed : now.consumed ≡ start.consumed + length line = ap (λ (r : Reading). r.consumed) going.others in
    let limit : now.max_bytes ≡ start.max_bytes = ap (λ (r : Reading). r.max_bytes) going.others in
    let within : length line ≤ room start = omega (arith, consumed, limit, going.sound.within) in
    read_more start now next left_start left left_next read_start read read_next line going.reads going.in_line going.short within consumed limit
    (not_true start.ended now.ended going.still) going.few by_need

-- the call ends after it
pub going_stops : (start now next : Reading) (left_start left left_next : Option (List ℕ)) (line : List ℕ) (faults_start faults : ℕ) (most_start most : Option ℕ)
    (read_start read read_next : Option LastRead) → Going start now left_start left line faults_start faults most_start most read_start read →
    ReadsByNeed now next left left_next read read_next → next ≡ record now { held = next.held; ended = next.ended } → IsSound next →
    ReadsAsNeeded start next left_start left_next read_start read_next
going_stops start now next left_start left left_next line faults_start faults most_start most read_start read read_next going by_need others sound =
    let consumed : next.consumed ≡ start.consumed + length line = ap (λ (r : Reading). r.consumed) others ∙ ap (λ (r : Reading). r.consumed) going.others in
    let limit : next.max_bytes ≡ start.max_bytes = ap (λ (r : Reading). r.max_bytes) others ∙ ap (λ (r : Reading). r.max_bytes) going.others in
    let so_far = going_reads start now next left_start left left_next line faults_start faults most_start most read_start read read_next going by_need in
    reads_as_needed start next left_start left_next read_start read_next line so_far consumed limit sound

-- the call ends with a line
pub going_gives : (start now next after : Reading) (left_start left left_next : Option (List ℕ)) (line line_now : List ℕ) (faults_start faults : ℕ)
    (most_start most : Option ℕ) (read_start read read_next : Option LastRead) → Going start now left_start left line faults_start faults most_start most read_start read →
    ReadsByNeed now next left left_next read read_next → next ≡ record now { held = next.held; ended = next.ended } → TakesHeld next after line line_now true →
    ReadsAsNeeded start after left_start left_next read_start read_next
going_gives start now next after left_start left left_next line line_now faults_start faults most_start most read_start read read_next going by_need others takes =
    let gone : List ℕ = takes.moved ++ line_feed ∷ [] in
    let so_far = going_reads start now next left_start left left_next line faults_start faults most_start most read_start read read_next going by_need in
    let held : next.held ≡ gone ++ after.held = takes.held ∙ sym (append_assoc takes.moved (line_feed ∷ []) after.held) in
    let long : length (line ++ gone) ≡ length line + length gone = length-append line gone in
    let longer : length gone ≡ length takes.moved + 1 = length-append takes.moved (line_feed ∷ []) in
    let before : next.consumed ≡ start.consumed + length line = ap (λ (r : Reading). r.consumed) others ∙ ap (λ (r : Reading). r.consumed) going.others in
    let consumed : after.consumed ≡ start.consumed + length (line ++ gone) = omega (arith, takes.consumed, before, long, longer) in
    let limit : after.max_bytes ≡ start.max_bytes = ap (λ (r : Reading). r.max_bytes) takes.others ∙ ap (λ (r : Reading). r.max_bytes) others ∙ ap (λ (r : Reading). r.max_bytes) going.others in
    let went = went_by start next after left_start left_next read_start read_next line gone so_far held in
    reads_as_needed start after left_start left_next read_start read_next (line ++ gone) went consumed limit takes.sound

-- a line that is counted takes nothing
pub line_counted : (start after : Reading) (left_start left : Option (List ℕ)) (read_start read : Option LastRead) (number : ℕ) →
    ReadsAsNeeded start after left_start left read_start read → IsSound (record after { given = number; failed = false }) →
    ReadsAsNeeded start (record after { given = number; failed = false }) left_start left read_start read
line_counted start after left_start left read_start read number reads sound = record {
  before = reads.before;
  last = reads.last;
  told = reads.told;
  counted = reads.counted;
  needed = reads.needed;
  piece = reads.piece;
  limit = reads.limit;
  sound = sound;
}

-- nor does the last line, where there is one
pub last_counted : (number : Option ℕ) (start next after : Reading) (left_start left : Option (List ℕ)) (read_start read : Option LastRead) →
    ReadsAsNeeded start next left_start left read_start read →
    MatchOption number (after ≡ record next { failed = false }) (λ n. (n ≡ next.given + 1) × (after ≡ record next { given = next.given + 1; failed = false })) → IsSound after →
    ReadsAsNeeded start after left_start left read_start read
last_counted None start next after left_start left read_start read reads is sound = rw is (line_counted start next left_start left read_start read next.given reads (rw is at sound))
last_counted (Some n) start next after left_start left read_start read reads is sound =
    rw is.1 (line_counted start next left_start left read_start read (next.given + 1) reads (rw is.1 at sound))

-- the call goes on with more of the line
pub going_on : (start now next after : Reading) (left_start left left_next : Option (List ℕ)) (line line_now : List ℕ) (faults_start faults faults_next : ℕ)
    (most_start most most_next : Option ℕ) (read_start read read_next : Option LastRead) →
    Going start now left_start left line faults_start faults most_start most read_start read → HasByte now next left left_next →
    ReadsByNeed now next left left_next read read_next → TakesHeld next after line line_now false → faults ≤ faults_next → most_next ≡ most →
    Going start after left_start left_next line_now faults_start faults_next most_start most_next read_start read_next
going_on start now next after left_start left left_next line line_now faults_start faults faults_next most_start most most_next read_start read read_next going has by_need takes later same =
    let so_far = going_reads start now next left_start left left_next line faults_start faults most_start most read_start read read_next going by_need in
    let moved : List ℕ = takes.moved in
    let ended : after.ended ≡ next.ended = ap (λ (r : Reading). r.ended) takes.others in
    let before : next.consumed ≡ start.consumed + length line = ap (λ (r : Reading). r.consumed) has.others ∙ ap (λ (r : Reading). r.consumed) going.others in
    let long : length line_now ≡ length line + length moved = ap length takes.line ∙ length-append line moved in
    let longest : next.max_line ≡ start.max_line = ap (λ (r : Reading). r.max_line) has.others ∙ ap (λ (r : Reading). r.max_line) going.others in
    let consumed : after.consumed ≡ start.consumed + length line_now = omega (arith, takes.consumed, before, long) in
    let front = going.front ∙ ap (λ (u : Option (List ℕ)). before_known line u) (sym has.same) in
    record {
      front = rw takes.line (moved_behind (unread start left_start) left_next line moved next.held after.held front takes.held);
      in_line = rw takes.line (one_line-append line moved going.in_line takes.in_line);
      short = rw longest at takes.short;
      others = cc;
      sound = takes.sound;
      counted = going.counted;
      ended = λ is. has.ended (sym ended ∙ is);
      still = λ is. ended ∙ has.still (going.still is);
      later = omega arith;
      reads = rw takes.line (went_by start next after left_start left_next read_start read_next line moved so_far takes.held);
      told_most = same ∙ going.told_most;
      few = still_few now next left left_next read_start read read_next by_need has.some going.few;
    }
