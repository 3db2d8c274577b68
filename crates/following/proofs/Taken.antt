-- How far the taking of lines has come, and what follows where it goes on, stops or ends.
use Rattle.std.proofs.Common.{refl, sym, subst, ◌∙◌, ap, ⊎_elim, ◌≡◌, ℕ, ◌+◌, ◌≤◌, true, false, List, [], ◌∷◌, ◌++◌, Option, None, Some, IfSome, IsTrue, ◌↔◌, arith, true≢false}
use Rattle.wq_io.specs.Streams.{IsAtEnd, LastRead, Rose}
use Rattle.wq_io.specs.Lines.{HasCause as HasLineCause, IsSound, Leaves, Reading, ReadsAsNeeded, fresh, unread}
use Rattle.wq_io.specs.declared.lines.LineFault.{LineFault}
use Rattle.wq_io.specs.declared.lines.LineFault.TheVariants.{ReadFault as NotRead, TooLong as PastLimit, LineLong as OverLong, OutOfMemory as LineOutOfMemory}
use Rattle.replica.specs.{declared.reader.Begun.Begun, declared.reader.PatchFault.PatchFault}
use Rattle.replica.specs.declared.reader.PatchFault.TheVariants.{Head as NoHead, Triple as NoTriple, Order as OutOfOrder, OutOfMemory as PatchOutOfMemory}
use Rattle.replica.specs.{declared.record.PatchRecord.PatchRecord, Reader.HasCause, Reader.lines_read as lines_begun}
use Rattle.replica.specs.Replica.{ReplicaState, nothing_received}
use Rattle.following.specs.{declared.stop.FollowStop.FollowStop, declared.stop.FollowStop.TheVariants.BadLine}
use Rattle.following.specs.{declared.stop.RecordCause.TheVariants.Short, Input.Input}
use Rattle.following.specs.Reading.{AreLinesOf, HasReadLines, TakesLinesByNeed, longest_line}
use Rattle.following.specs.Stop.{HasNoRoomForRecord, TakingStopped, StopsAtLine, stop_of_line, stop_of_record}
use Rattle.following.specs.Taking.{AppliesLine, HadRoom, HasApplied, HasTakenRecords, OverfillsByLine, TakenLines}
use Rattle.following.proofs.KnownBytes.{nothing_read, nothing_taken_of}
use Rattle.following.proofs.Reading.{HasLimits, IsNextLine, all_read, bad_line, cut_off_inside, first_with, over_long, past_limit, read_more, takes_on, whole_read}
use Rattle.following.proofs.Received.{none_applied}

-- the lines so far were read, are those of records, and the replica took these
pub record Progress (limit : ℕ) (before now : Input) (reader : Reading) (begun : Option Begun) (state : ReplicaState) (count : ℕ) : Type 0 where
  pub done : List (List ℕ)
  pub items : List PatchRecord
  pub read : HasReadLines before.left reader now.left done
  pub are : AreLinesOf done items begun
  pub applied : HasApplied items state
  pub limits : HasLimits limit reader
  pub sound : IsSound reader
  pub going : reader.failed ≡ false
  pub ended : reader.ended ≡ true → IsAtEnd now.left
  pub earlier : before.faults ≤ now.faults
  pub taken : IfSome before.left (λ bytes. TakesLinesByNeed limit bytes now.left)
  pub count_is : count ≡ reader.given

-- before the first line
pub nothing_taken : (limit : ℕ) (input : Input) (state : ReplicaState) → state ≡ nothing_received state.limit → Progress limit input input (fresh limit longest_line) None state 0
nothing_taken limit input state new = record {
  done = [];
  items = [];
  read = nothing_read limit input.left;
  are = record { are = refl; sound = tt; unfinished = tt };
  applied = subst (HasApplied []) (sym new) (none_applied state.limit);
  limits = record { bytes = refl; line = refl };
  sound = record { within = omega arith; counted = omega arith; bounded = omega arith; buffered = omega arith };
  going = refl;
  ended = λ never. cc;
  earlier = omega arith;
  taken = nothing_taken_of limit input.left;
  count_is = refl;
}

rose_since : (first before now : ℕ) → first ≤ before → Rose before now → Rose first now
rose_since first before now earlier rose = omega (arith, rose)

module _ (limit : ℕ) (before now : Input) (reader : Reading) (begun : Option Begun) (state : ReplicaState) (count : ℕ) (so_far : Progress limit before now reader begun state count) where
  -- what was taken before it
  standing : (room : ℕ) → state.limit ≡ room → TakenLines room
  standing room same = record {
    done = so_far.done;
    items = so_far.items;
    begun = begun;
    are = so_far.are;
    applied = state.applied;
    greatest = so_far.applied.greatest;
    roomed = subst (λ n. HadRoom n so_far.items state.applied) same so_far.applied.received.roomed;
  }

  -- what was taken, after a call of the reader of lines, whatever it answered
  pub taken_on : (next : Reading) (left_next : Option (List ℕ)) (last last_next : Option LastRead) → ReadsAsNeeded reader next now.left left_next last last_next → IfSome before.left (λ bytes. TakesLinesByNeed limit bytes left_next)
  taken_on next left_next last last_next reads = takes_on limit reader now.left so_far.done so_far.limits so_far.sound so_far.items begun so_far.are before.left next left_next last last_next so_far.read reads so_far.taken

  -- a fault of the reader of lines
  pub fault_stops : (fault : LineFault) (room : ℕ) (input : Input) → state.limit ≡ room → HasLineCause fault reader now.left now.faults input.faults → Leaves fault reader now.left input.left →
      TakingStopped (stop_of_line fault) limit room before input
  unfolding standing
  fault_stops NotRead room input same cause leaves = record {
    rose = rose_since before.faults now.faults input.faults so_far.earlier cause;
    taken = standing room same;
    whole = whole_read limit reader now.left so_far.done so_far.limits so_far.sound before.left input.left so_far.read leaves;
  }
  fault_stops PastLimit room input same cause leaves = record {
    taken = standing room same;
    past = past_limit limit reader now.left so_far.done so_far.limits so_far.sound before.left so_far.read cause;
  }
  fault_stops (OverLong number) room input same cause leaves = record {
    taken = standing room same;
    counted = cause.0 ∙ ap (λ n. n + 1) so_far.read.counted;
    refused = over_long limit reader now.left so_far.done so_far.limits so_far.sound before.left so_far.read cause.1;
  }
  fault_stops LineOutOfMemory room input same cause leaves = tt

  -- at the end all lines were taken, if no record lacks lines
  pub end_reached : (input : Input) → (IsTrue false ↔ (lines_begun begun ≡ [] → ⊥)) → IsAtEnd input.left → IsAtEnd (unread reader now.left) → HasTakenRecords limit before input state
  end_reached input inside read at_end = record {
    items = so_far.items;
    read = read;
    are = all_read limit reader now.left so_far.done so_far.limits so_far.sound so_far.items None (by begun inside so_far.are) before.left so_far.read at_end;
    applied = so_far.applied;
  }
    where
      by : (o : Option Begun) → (IsTrue false ↔ (lines_begun o ≡ [] → ⊥)) → AreLinesOf so_far.done so_far.items o → AreLinesOf so_far.done so_far.items None
      by None inside are = are
      by (Some b) inside are = absurd (true≢false (sym (inside.1 (λ none. cc))))

  -- a record lacks lines there
  pub cut_off : (input : Input) (room number : ℕ) → state.limit ≡ room → (lines_begun begun ≡ [] → ⊥) → IsAtEnd (unread reader now.left) → number ≡ count + 1 → TakingStopped (BadLine number Short) limit room before input
  unfolding standing
  cut_off input room number same inside at_end next = record {
    taken = standing room same;
    counted = next ∙ ap (λ n. n + 1) (so_far.count_is ∙ so_far.read.counted);
    refused = cut_off_inside limit reader now.left so_far.done so_far.limits so_far.sound begun (λ none. inside (ap lines_begun none)) before.left so_far.read at_end;
  }

  module _ (line : List ℕ) (next : Reading) (input : Input) (is : IsNextLine line reader next now.left input.left) where
    -- the reader of records refused the line
    record_stops : (fault : PatchFault) (room number : ℕ) → state.limit ≡ room → number ≡ reader.given + 1 → HasCause fault begun line → TakingStopped (stop_of_record number fault) limit room before input
    unfolding standing
    record_stops NoHead room number same counted cause = record {
      taken = standing room same;
      counted = counted ∙ ap (λ n. n + 1) so_far.read.counted;
      refused = bad_line limit reader now.left so_far.done so_far.limits so_far.sound line next input.left is begun before.left NoHead so_far.read cause;
    }
    record_stops NoTriple room number same counted cause = record {
      taken = standing room same;
      counted = counted ∙ ap (λ n. n + 1) so_far.read.counted;
      refused = bad_line limit reader now.left so_far.done so_far.limits so_far.sound line next input.left is begun before.left NoTriple so_far.read cause;
    }
    record_stops OutOfOrder room number same counted cause = record {
      taken = standing room same;
      counted = counted ∙ ap (λ n. n + 1) so_far.read.counted;
      refused = bad_line limit reader now.left so_far.done so_far.limits so_far.sound line next input.left is begun before.left OutOfOrder so_far.read cause;
    }
    record_stops PatchOutOfMemory room number same counted cause = tt

    read_now : next.given ≡ reader.given + 1 → HasReadLines before.left next input.left (so_far.done ++ line ∷ [])
    read_now given = read_more limit reader now.left so_far.done so_far.limits so_far.sound line next input.left is before.left so_far.read given

    limits_now : HasLimits limit next
    limits_now = record { bytes = is.goes.limit ∙ so_far.limits.bytes; line = is.goes.longest ∙ so_far.limits.line }

    -- there is no room for a record that the line makes due
    no_room : OverfillsByLine line begun state → HasNoRoomForRecord limit state.limit before input
    unfolding standing
    no_room full =
        let over = full so_far.items so_far.done so_far.are so_far.applied in
        record {
          taken = standing state.limit refl;
          line = line;
          item = over.0;
          are = over.1;
          full = over.2;
          first = first_with limit reader now.left so_far.done so_far.limits so_far.sound line next input.left is before.left so_far.read;
        }

    -- a line isn't taken
    pub line_stops : (stop : FollowStop) (room number : ℕ) → state.limit ≡ room → number ≡ reader.given + 1 → StopsAtLine stop number line begun state → TakingStopped stop limit room before input
    line_stops stop room number same counted why = subst (λ n. TakingStopped stop limit n before input) same (⊎_elim
        (λ bad. subst (λ s. TakingStopped s limit state.limit before input) (sym bad.1) (record_stops bad.0 state.limit number refl counted bad.2))
        (⊎_elim
        (λ full. subst (λ s. TakingStopped s limit state.limit before input) (sym full.0) (no_room full.1))
        (λ refused. subst (λ s. TakingStopped s limit state.limit before input) (sym refused) tt))
        why)

    -- a line is taken
    pub line_taken : (further : Option Begun) (after : ReplicaState) (number : ℕ) (last last_next : Option LastRead) → number ≡ next.given → next.given ≡ reader.given + 1 → now.faults ≤ input.faults → (next.ended ≡ true → IsAtEnd input.left) →
        ReadsAsNeeded reader next now.left input.left last last_next → AppliesLine line begun further state after → Progress limit before input next further after number
    line_taken further after number last last_next counted given later ended reads takes =
        let taken = takes so_far.items so_far.done so_far.are so_far.applied in
        record {
          done = so_far.done ++ line ∷ [];
          items = taken.0;
          read = read_now given;
          are = taken.1;
          applied = taken.2;
          limits = limits_now;
          sound = is.goes.sound;
          going = is.goes.going;
          ended = ended;
          earlier = omega (arith, so_far.earlier, later);
          taken = taken_on next input.left last last_next reads;
          count_is = counted;
        }
