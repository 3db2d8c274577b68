-- A loading from its first line to its last.
use Rattle.std.proofs.Common.{◌≡◌, ◌≢◌, ℕ, ◌+◌, ◌-◌, ◌<◌, ◌≤◌, ◌^◌, true, false, List, [], ◌∷◌, ◌++◌, length, Option, None, Some, IfSome, min, inl, inr, refl, sym, ◌∙◌, ap, subst, arith}
use Rattle.std.specs.Option.{option_map}
use Rattle.wq_io.specs.Streams.{before_known, IsAtEnd}
use Rattle.wq_io.specs.Lines.{GoesOn, HasCause as HasReadCause, IsSound, Reading, fresh, input_length, input_lines, lines, taken, unread}
use Rattle.wq_io.specs.declared.lines.LineFault.{LineFault}
use Rattle.wq_io.specs.declared.lines.LineFault.TheVariants.{ReadFault as NotRead, TooLong as OverLong, LineLong, OutOfMemory as LineOutOfMemory}
use Rattle.world.specs.{Limit.Limit, WorldState.WorldState}
use Rattle.snapshot.specs.{File.saved_in_bytes, LineText.line_of, Whole.whole, declared.line.Line.Line, declared.counts.Counts.Counts}
use Rattle.checkpoint.specs.declared.fault.LoadFault.{LoadFault}
use Rattle.checkpoint.specs.declared.fault.LoadFault.TheVariants.{ReadFault, TooLong, BadLine, Full, OutOfMemory}
use Rattle.checkpoint.specs.declared.stage.Stage.{Stage}
use Rattle.checkpoint.specs.declared.stage.Stage.TheVariants.{Unbegun, Ended}
use Rattle.checkpoint.specs.{Causes.HasCause, Causes.IsBadSnapshotLine, Causes.IsFileOverfull, Causes.IsNoSnapshotWithin, Causes.IsUnended, Causes.longest_file, Fault.fault_of}
use Rattle.checkpoint.specs.Loading.{HasNoRoomForLine, IsReady, IsRefused, Overfills, LoadsLine, loading_of, longest_line}
use Rattle.checkpoint.specs.Saved.{saved_of}
use Rattle.checkpoint.proofs.OneCause.{comes_later, not_behind_bad, one_of_all}
use Rattle.world_snapshots.proofs.Progress.{IsNextLine, Progress, ends_early, full_line, line_read, next_line, nothing_read, over_long, refused_line, saved, too_long, unended}

-- the lines so far were read and went into the world
pub record UnderWay (room : Limit) (start : Option (List ℕ)) (reader : Reading) (left : Option (List ℕ)) (w : WorldState) (stage : Stage) (given so_far : ℕ) : Type 0 where
  pub progress : Progress start reader left (loading_of w stage given) so_far
  pub ready : IsReady w stage given
  pub limit : w.limit ≡ room
  -- none of them lacks room
  pub roomy : IfSome start (λ bytes. (over : IsFileOverfull room bytes) → given ≤ length over.done)
  pub given_is : given ≡ reader.given
  pub max_bytes : reader.max_bytes ≡ longest_file
  pub max_line : reader.max_line ≡ longest_line
  pub sound : IsSound reader
  pub going : reader.failed ≡ false
  pub ended : reader.ended ≡ true → IsAtEnd left

fresh_sound : IsSound (fresh longest_file longest_line)
fresh_sound = record { within = omega arith; counted = omega arith; bounded = omega arith; buffered = omega arith }

pub begins : (room : Limit) (start : Option (List ℕ)) (w : WorldState) (stage : Stage) → stage ≡ Unbegun → IsReady w stage 0 → w.limit ≡ room → UnderWay room start (fresh longest_file longest_line) start w stage 0 0
begins room start w stage is ready limit = record {
  progress = subst (λ (s : Stage). Progress start (fresh longest_file longest_line) start (loading_of w s 0) 0) (sym is) (nothing_read longest_file longest_line start);
  ready = ready;
  limit = limit;
  roomy = none_yet start;
  given_is = refl;
  max_bytes = refl;
  max_line = refl;
  sound = fresh_sound;
  going = refl;
  ended = λ never. cc;
}
  where
    none_yet : (known : Option (List ℕ)) → IfSome known (λ bytes. (over : IsFileOverfull room bytes) → 0 ≤ length over.done)
    none_yet None = tt
    none_yet (Some bytes) = λ over. omega arith

-- one more line
pub goes_on : (room : Limit) (start left left_next : Option (List ℕ)) (reader next : Reading) (w w2 : WorldState) (stage stage2 : Stage) (given number n m : ℕ) (text : List ℕ)
    → UnderWay room start reader left w stage given n → IsNextLine text reader next left left_next → GoesOn reader next text → number ≡ given + 1
    → (next.ended ≡ true → IsAtEnd left_next)
    → LoadsLine text (loading_of w stage (number - 1)) (loading_of w2 stage2 number) → IsReady w2 stage2 number → w2.limit ≡ w.limit
    → ((item : Line) → line_of text ≡ Some item → HasNoRoomForLine w item → ⊥) → m ≡ min (n + length text + 1) (2 ^ 64 - 1) → UnderWay room start next left_next w2 stage2 number m
goes_on room start left left_next reader next w w2 stage stage2 given number n m text u is goes next_is ended takes ready limit has_room longer =
    let before : number - 1 ≡ given = omega arith in
    record {
      progress = line_read start left left_next reader next (loading_of w stage given) (loading_of w2 stage2 number) n m text u.progress is
          (subst (λ k. LoadsLine text (loading_of w stage k) (loading_of w2 stage2 number)) before takes) (subst (λ k. length text ≤ k) u.max_line goes.short) longer;
      ready = ready;
      limit = limit ∙ u.limit;
      roomy = subst (λ k. IfSome start (λ bytes. (over : IsFileOverfull room bytes) → k ≤ length over.done)) (sym next_is) (still_roomy start u is);
      given_is = next_is ∙ ap (λ k. k + 1) u.given_is ∙ sym is.given;
      max_bytes = goes.limit ∙ u.max_bytes;
      max_line = goes.longest ∙ u.max_line;
      sound = goes.sound;
      going = goes.going;
      ended = ended;
    }
  where
    still_roomy : (known : Option (List ℕ)) → UnderWay room known reader left w stage given n → IsNextLine text reader next left left_next
        → IfSome known (λ bytes. (over : IsFileOverfull room bytes) → given + 1 ≤ length over.done)
    still_roomy None u is = tt
    still_roomy (Some bytes) u is = λ over.
        let counted : given ≡ length u.progress.done = u.given_is ∙ u.progress.read.counted in
        let line = next_line bytes left reader (loading_of w stage given) n u.progress text left_next next is (loading_of w stage given) refl in
        omega (
          arith,
          counted,
          comes_later room bytes over w stage given u.progress.done line.first text line.others line.others_are u.limit u.ready.by_one has_room
              (subst (λ k. k ≤ length over.done) counted (u.roomy over)),
        )

-- where no line is left all stays
pub none_left : (room : Limit) (start left left_next : Option (List ℕ)) (reader next : Reading) (w : WorldState) (stage : Stage) (given n : ℕ) (text : List ℕ)
    → UnderWay room start reader left w stage given n → unread next left_next ≡ unread reader left → input_length next left_next ≡ input_length reader left → next.given ≡ reader.given
    → GoesOn reader next text → (next.ended ≡ true → IsAtEnd left_next) → UnderWay room start next left_next w stage given n
none_left room start left left_next reader next w stage given n text u same total no_more goes ended = record {
  progress = record {
    done = u.progress.done;
    read = record {
      are = u.progress.read.are ∙ ap (λ (known : Option (List ℕ)). option_map (λ (ls : List (List ℕ)). u.progress.done ++ ls) (input_lines known)) (sym same);
      counted = no_more ∙ u.progress.read.counted;
      total = total ∙ u.progress.read.total;
    };
    items = u.progress.items;
    are = u.progress.are;
    lead = u.progress.lead;
    readable = u.progress.readable;
    measured = u.progress.measured;
  };
  ready = u.ready;
  limit = u.limit;
  roomy = u.roomy;
  given_is = u.given_is ∙ sym no_more;
  max_bytes = goes.limit ∙ u.max_bytes;
  max_line = goes.longest ∙ u.max_line;
  sound = goes.sound;
  going = goes.going;
  ended = ended;
}

-- nothing is left of the source
pub nothing_left : (held : List ℕ) (left : Option (List ℕ)) → IsAtEnd (before_known held left) → IsAtEnd left
nothing_left held None at_end = tt
nothing_left held (Some bytes) at_end = no_second held bytes at_end
  where
    no_second : (xs ys : List ℕ) → xs ++ ys ≡ [] → ys ≡ []
    no_second [] ys none = none
    no_second (x ∷ xs) ys none = cc

-- a line that is refused, where no line before lacks room
bad_within : (room : Limit) (bytes : List ℕ) (number given : ℕ) → number ≡ given + 1 → IsBadSnapshotLine bytes number → ((over : IsFileOverfull room bytes) → given ≤ length over.done) → IsNoSnapshotWithin room bytes number
bad_within room bytes number given next_is bad roomy = (inl bad, λ over. not_behind_bad room bytes over number bad (omega (arith, next_is, bad.counted, roomy over)))

-- where all lines came, none lacks room
none_lacks : (room : Limit) (bytes : List ℕ) (given : ℕ) → given ≡ length (lines bytes) → ((over : IsFileOverfull room bytes) → given ≤ length over.done) → IsFileOverfull room bytes → ⊥
none_lacks room bytes given all roomy over = absurd (omega (arith, all, roomy over, one_of_all room bytes over))

-- the reader gives no line
pub fault_stops : (room : Limit) (start left : Option (List ℕ)) (reader : Reading) (w : WorldState) (stage : Stage) (given n : ℕ) → UnderWay room start reader left w stage given n
    → (fault : LineFault) (before now first : ℕ) → first ≤ before → HasReadCause fault reader left before now → HasCause (fault_of fault) room start first now
fault_stops room start left reader w stage given n u NotRead before now first later cause = omega arith
fault_stops room None left reader w stage given n u OverLong before now first later cause = tt
fault_stops room (Some bytes) left reader w stage given n u OverLong before now first later cause =
    subst (λ k. k < length bytes) u.max_bytes (too_long bytes left reader (loading_of w stage given) n u.progress u.sound cause)
fault_stops room None left reader w stage given n u (LineLong number) before now first later cause = tt
fault_stops room (Some bytes) left reader w stage given n u (LineLong number) before now first later cause =
    bad_within room bytes number given (cause.0 ∙ ap (λ k. k + 1) (sym u.given_is)) (over_long bytes left reader (loading_of w stage given) n u.progress number cause.0 u.max_line cause.1) u.roomy
fault_stops room start left reader w stage given n u LineOutOfMemory before now first later cause = tt

-- a line isn't taken
pub line_stops : (room : Limit) (start left left_next : Option (List ℕ)) (reader next : Reading) (w : WorldState) (stage : Stage) (given number n : ℕ) (text : List ℕ)
    → UnderWay room start reader left w stage given n → IsNextLine text reader next left left_next → number ≡ given + 1
    → (fault : LoadFault) → ((k : ℕ) → fault ≡ BadLine k → (k ≡ number) × IsRefused text (loading_of w stage (number - 1))) → (fault ≡ Full → Overfills text (loading_of w stage (number - 1)) w) → length text ≤ longest_line
    → (fault ≡ ReadFault → ⊥) → (fault ≡ TooLong → ⊥) → (first now : ℕ) → HasCause fault room start first now
line_stops room start left left_next reader next w stage given number n text u is next_is ReadFault bad full short no_read no_long first now = absurd (no_read refl)
line_stops room start left left_next reader next w stage given number n text u is next_is TooLong bad full short no_read no_long first now = absurd (no_long refl)
line_stops room None left left_next reader next w stage given number n text u is next_is (BadLine k) bad full short no_read no_long first now = tt
line_stops room (Some bytes) left left_next reader next w stage given number n text u is next_is (BadLine k) bad full short no_read no_long first now =
    let before : number - 1 ≡ given = omega arith in
    let why = bad k refl in
    bad_within room bytes k given (why.0 ∙ next_is)
    (refused_line bytes left reader (loading_of w stage given) n u.progress text left_next next is k (why.0 ∙ next_is ∙ ap (λ m. m + 1) u.given_is)
    (subst (λ m. IsRefused text (loading_of w stage m)) before why.1))
    u.roomy
line_stops room None left left_next reader next w stage given number n text u is next_is Full bad full short no_read no_long first now = tt
line_stops room (Some bytes) left left_next reader next w stage given number n text u is next_is Full bad full short no_read no_long first now =
    full_line bytes left reader (loading_of w stage given) n u.progress text left_next next is w stage room (ap (loading_of w stage) u.given_is) u.limit
    (subst (IsReady w stage) u.given_is u.ready) short
    (subst (λ k. Overfills text (loading_of w stage k) w) (let before : number - 1 ≡ reader.given = omega (arith, next_is, u.given_is) in before) (full refl))
line_stops room start left left_next reader next w stage given number n text u is next_is OutOfMemory bad full short no_read no_long first now = tt

-- the last line isn't ended
pub unended_stops : (room : Limit) (start left : Option (List ℕ)) (reader : Reading) (w : WorldState) (stage : Stage) (given n : ℕ) → UnderWay room start reader left w stage given n
    → IsAtEnd (unread reader left) → taken reader ≢ n → (first now : ℕ) → HasCause (BadLine given) room start first now
unended_stops room None left reader w stage given n u at_end other first now = tt
unended_stops room (Some bytes) left reader w stage given n u at_end other first now =
    let last = subst (IsUnended bytes) (sym u.given_is) (unended bytes left reader (loading_of w stage given) n u.progress at_end u.sound u.max_bytes other) in
    (inr (inr last), none_lacks room bytes given last.counted u.roomy)

-- the lines end before the snapshot does
pub early_stops : (room : Limit) (start left : Option (List ℕ)) (reader : Reading) (w : WorldState) (stage : Stage) (given n : ℕ) → UnderWay room start reader left w stage given n
    → IsAtEnd (unread reader left) → taken reader ≡ n → whole (loading_of w stage given) ≡ None → (first now : ℕ) → HasCause (BadLine (given + 1)) room start first now
early_stops room None left reader w stage given n u at_end same short first now = tt
early_stops room (Some bytes) left reader w stage given n u at_end same short first now =
    let early = ends_early bytes left reader (loading_of w stage given) n u.progress at_end u.sound u.max_bytes same (given + 1) (ap (λ k. k + 1) u.given_is) short in
    (inr (inl early), none_lacks room bytes given (omega (arith, early.counted)) u.roomy)

-- the snapshot is whole
pub all_loaded : (room : Limit) (start left : Option (List ℕ)) (reader : Reading) (w : WorldState) (stage : Stage) (counts : Counts) (given n : ℕ) → UnderWay room start reader left w stage given n
    → IsAtEnd (unread reader left) → taken reader ≡ n → stage ≡ Ended counts → IfSome start (λ bytes. saved_in_bytes bytes ≡ Some (saved_of w counts))
all_loaded room None left reader w stage counts given n u at_end same is = tt
all_loaded room (Some bytes) left reader w stage counts given n u at_end same is =
    saved bytes left reader (loading_of w stage given) n u.progress at_end u.sound u.max_bytes same ∙ ap (λ (s : Stage). whole (loading_of w s given)) is
