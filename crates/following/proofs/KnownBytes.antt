-- Bytes of an input that are known: those that went into lines, and those that are unread.
use Rattle.std.proofs.Common.{refl, sym, subst, ◌∙◌, ap, ◌≡◌, ◌≢◌, ◌⊎◌, inl, inr, ℕ, ◌+◌, ◌-◌, ◌<◌, ◌≤◌, Bool, true, false, List, [], ◌∷◌, ◌++◌, length, Option, None, Some, IfSome, arith, append_assoc, append-nil, length-append}
use Rattle.std.proofs.lemmas.Grind.{flat_map-append}
use Rattle.std.specs.Option.{option_map}
use Rattle.sorted_sets.specs.Rising.{Each}
use Rattle.wq_io.specs.Streams.{IsAtEnd, LastRead, before_known}
use Rattle.wq_io.specs.Lines.{GoesOn, IsLineLong, IsNeeded, IsOneLine, IsSound, IsTooLong, IsUndecided, ReadsAsNeeded, Reading, StopsInLine, TakesBytes, before_lines, ended_lines, fresh, input_length, line_feed, lines, input_lines, room, unread}
use Rattle.replica.specs.{declared.reader.Begun.Begun, declared.reader.PatchFault.PatchFault, declared.record.PatchRecord.PatchRecord}
use Rattle.replica.specs.Reader.{HasCause}
use Rattle.following.specs.Reading.{AreFirstLines, AreLinesOf, AreRecords, BeginsWith, EndsInLine, EndsInside, HasReadLines, IsBadRecordLine, IsOverLong, RecordsPastLimit, TakesLinesByNeed, longest_line}

pub same_lines : (limit : ℕ) (left : Option (List ℕ)) → input_lines left ≡ option_map (λ (ls : List (List ℕ)). [] ++ ls) (input_lines (unread (fresh limit longest_line) left))
same_lines limit None = refl
same_lines limit (Some bytes) = refl

pub same_length : (limit : ℕ) (left : Option (List ℕ)) → input_length (fresh limit longest_line) left ≡ option_map (λ (bytes : List ℕ). length bytes) left
same_length limit None = refl
same_length limit (Some bytes) = ap Some (let n : 0 + length bytes ≡ length bytes = omega arith in n)

pub same_bytes : (limit : ℕ) (left : Option (List ℕ)) → left ≡ before_known [] (unread (fresh limit longest_line) left)
same_bytes limit None = refl
same_bytes limit (Some bytes) = refl

-- before the first line
pub nothing_read : (limit : ℕ) (left : Option (List ℕ)) → HasReadLines left (fresh limit longest_line) left []
nothing_read limit left = record {
  are = same_lines limit left;
  counted = refl;
  total = same_length limit left;
  read = [];
  bytes = same_bytes limit left;
  whole = λ _. refl;
  are_lines = tt;
}

-- nothing was taken
pub still : (left : Option (List ℕ)) → left ≡ before_known [] left
still None = refl
still (Some bytes) = refl

-- no bytes decide nothing
pub nothing_undecided : (room : ℕ) → IsUndecided room longest_line []
nothing_undecided room = record { in_line = refl; within = omega arith; short = omega arith }

pub nothing_taken_of : (limit : ℕ) (left : Option (List ℕ)) → IfSome left (λ bytes. TakesLinesByNeed limit bytes left)
nothing_taken_of limit None = tt
nothing_taken_of limit (Some bytes) = record {
  done = [];
  part = [];
  last = [];
  is = refl;
  are_lines = tt;
  items = [];
  begun = None;
  are = record { are = refl; sound = tt; unfinished = tt };
  undecided = nothing_undecided (limit - 0);
  piece = omega arith;
  bounded = omega arith;
}

-- bytes behind others
pub before_both : (xs ys : List ℕ) (known : Option (List ℕ)) → before_known xs (before_known ys known) ≡ before_known (xs ++ ys) known
before_both xs ys None = refl
before_both xs ys (Some zs) = ap Some (sym (append_assoc xs ys zs))

pub read_length : (bytes read u : List ℕ) (consumed : ℕ) → bytes ≡ read ++ u → consumed + length u ≡ length bytes → length read ≡ consumed
read_length bytes read u consumed all total =
    let both : length bytes ≡ length read + length u = ap length all ∙ length-append read u in
    omega arith

-- where the input is known: what is unread, the lines before it, and the bytes before it
pub record Known (bytes : List ℕ) (done : List (List ℕ)) (read : List ℕ) (consumed : ℕ) (known : Option (List ℕ)) : Type 0 where
  pub u : List ℕ
  pub is : known ≡ Some u
  pub are_lines : lines bytes ≡ done ++ lines u
  pub total : consumed + length u ≡ length bytes
  pub all : bytes ≡ read ++ u
  pub read_is : length read ≡ consumed

pub known_parts : (bytes : List ℕ) (done : List (List ℕ)) (read : List ℕ) (consumed : ℕ) (known : Option (List ℕ)) →
    Some (lines bytes) ≡ option_map (λ (ls : List (List ℕ)). done ++ ls) (input_lines known) → option_map (λ (u : List ℕ). consumed + length u) known ≡ Some (length bytes) →
    Some bytes ≡ before_known read known → Known bytes done read consumed known
known_parts bytes done read consumed None are total all = cc
known_parts bytes done read consumed (Some u) are total all =
    let sum : consumed + length u ≡ length bytes = cc in
    let whole : bytes ≡ read ++ u = cc in
    record { u = u; is = refl; are_lines = cc; total = sum; all = whole; read_is = read_length bytes read u consumed whole sum }

pub at_known : (known : Option (List ℕ)) (u : List ℕ) (P : List ℕ → Type 0) → known ≡ Some u → IfSome known P → P u
at_known None u P is holds = cc
at_known (Some x) u P is holds = let same : x ≡ u = cc in subst P same holds

pub same_room : (limit : ℕ) (reader : Reading) (read : List ℕ) → reader.max_bytes ≡ limit → length read ≡ reader.consumed → room reader ≡ limit - length read
same_room limit reader read max is = ap (λ n. n - reader.consumed) max ∙ ap (λ n. limit - n) (sym is)

pub too_long : (bytes : List ℕ) (u : List ℕ) (max consumed : ℕ) → IsTooLong (max - consumed) longest_line u → consumed ≤ max → consumed + length u ≡ length bytes → max < length bytes
too_long bytes u max consumed over within total = omega (arith, over.more)

-- one more line after the others
pub lines_grow : (start known next : Option (List (List ℕ))) (done : List (List ℕ)) (line : List ℕ) →
    start ≡ option_map (λ (ls : List (List ℕ)). done ++ ls) known → known ≡ before_lines line next → start ≡ option_map (λ (ls : List (List ℕ)). (done ++ line ∷ []) ++ ls) next
lines_grow start known None done line are first = rw (are, first) refl
lines_grow start known (Some ls) done line are first = rw (are, first) (ap Some (sym (append_assoc done (line ∷ []) ls)))

pub whole_grows : (done : List (List ℕ)) (line read moved : List ℕ) → read ≡ ended_lines done → moved ≡ line ++ line_feed ∷ [] → read ++ moved ≡ ended_lines (done ++ line ∷ [])
whole_grows done line read moved is ends =
    rw (is, ends) (sym (flat_map-append (λ l. l ++ line_feed ∷ []) done (line ∷ []) ∙ ap (λ xs. ended_lines done ++ xs) (append-nil (line ++ line_feed ∷ []))))

pub not_ended : (before now : Bool) → (before ≡ true → now ≡ true) → now ≡ false → before ≡ false
not_ended true now still is = sym (still refl) ∙ is
not_ended false now still is = refl

pub Each-push : (P : List ℕ → Type 0) (xs : List (List ℕ)) (x : List ℕ) → Each P xs → P x → Each P (xs ++ x ∷ [])
Each-push P [] x all one = (one, tt)
Each-push P (y ∷ ys) x all one = (all.0, Each-push P ys x all.1 one)
