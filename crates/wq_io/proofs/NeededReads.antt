-- What the reads of a call took so far, and that each was needed.
use Rattle.std.proofs.Common.{refl, sym, subst, ◌∙◌, ap, ◌≡◌, ◌⊎◌, inl, inr, ℕ, ◌+◌, ◌-◌, ◌<◌, ◌≤◌, ◌==◌, Bool, true, false, cond, List, [], Option, Some, None, IfSome, ◌++◌, length, min, arith, append_assoc, length-append}
use Rattle.std.proofs.lemmas.Bool.Decides.{nat_tests}
use Rattle.std.proofs.lemmas.List.{append-nil}
use Rattle.wq_io.specs.Streams.{AreFewEmpty, LastRead, after_read, before_known, counted}
use Rattle.wq_io.specs.Lines.{Reading, IsNeeded, IsOneLine, IsSound, ReadsAsNeeded, longest_read, room, taken}
use Rattle.wq_io.specs.Taking.{ReadsByNeed}

-- the bytes that were held at the start and what the reads gave went by, but for those that are held
pub record HasRead (start now : Reading) (left_start left : Option (List ℕ)) (read_start read : Option LastRead) (gone : List ℕ) : Type 0 where
  pub before : List ℕ
  pub last : List ℕ
  pub told : left_start ≡ before_known (before ++ last) left
  pub all : start.held ++ (before ++ last) ≡ gone ++ now.held
  pub needed : IsNeeded start before last read_start read ⊎ ((before ++ last ≡ []) × (read ≡ read_start))
  pub piece : length last ≤ longest_read

nothing_told : (known : Option (List ℕ)) → known ≡ before_known [] known
nothing_told None = refl
nothing_told (Some bytes) = refl

told_more : (start left left_now : Option (List ℕ)) (bytes piece : List ℕ) → start ≡ before_known bytes left → left ≡ before_known piece left_now →
    start ≡ before_known (bytes ++ piece) left_now
told_more start left None bytes piece first then = rw (first, then) refl
told_more start left (Some others) bytes piece first then = rw (first, then) (ap Some (sym (append_assoc bytes piece others)))

-- what is told of one more read
asked_for : (old new : Option LastRead) (asked gave : ℕ) → new ≡ after_read asked gave old → IfSome new (λ r. r.asked ≡ asked)
asked_for None new asked gave is = rw is tt
asked_for (Some r) new asked gave is = rw is refl

all_given : (old new : Option LastRead) (asked gave : ℕ) → new ≡ after_read asked gave old → IfSome new (λ r. r.gave ≡ gave)
all_given None new asked gave is = rw is tt
all_given (Some r) new asked gave is = rw is refl

-- with it there is one more that gave nothing, or none more
empty_one : (n gave : ℕ) (none : Bool) → (gave == 0) ≡ none → cond none (counted n) n ≤ n + (1 - gave)
empty_one n gave true is = grind (arith, nat_tests)
empty_one n gave false is = omega arith

one_more : (start old new : Option LastRead) (asked gave : ℕ) → new ≡ after_read asked gave old → AreFewEmpty start old 0 → AreFewEmpty start new (1 - gave)
one_more None old new asked gave is few = tt
one_more (Some s) None new asked gave is few = rw is tt
one_more (Some s) (Some r) new asked gave is few = rw is (omega (arith, few, empty_one r.empty gave (gave == 0) refl))

-- no read was made yet, or each gave a byte
pub none_empty : (read : Option LastRead) → AreFewEmpty read read 0
none_empty None = tt
none_empty (Some r) = omega arith

-- where a byte is held after a step, no read gave nothing
pub still_few : (now next : Reading) (left left_next : Option (List ℕ)) (read_start read read_next : Option LastRead) →
    ReadsByNeed now next left left_next read read_next → 0 < length next.held → AreFewEmpty read_start read 0 → AreFewEmpty read_start read_next 0
still_few now next left left_next read_start read read_next (inl refills) some few =
    let all : 1 - length next.held ≡ 0 = omega (arith, some) in
    subst (λ n. AreFewEmpty read_start read_next n) all (one_more read_start read read_next _ _ refills.last few)
still_few now next left left_next read_start read read_next (inr uncalled) some few = rw uncalled.read few

-- no read was made yet
pub none_read : (start : Reading) (left : Option (List ℕ)) (read : Option LastRead) → HasRead start start left left read read []
none_read start left read = record {
  before = [];
  last = [];
  told = nothing_told left;
  all = append-nil start.held;
  needed = inr (refl, refl);
  piece = omega arith;
}

-- another read, where it was needed
pub read_more : (start now next : Reading) (left_start left left_next : Option (List ℕ)) (read_start read read_next : Option LastRead) (line : List ℕ) →
    HasRead start now left_start left read_start read line → IsOneLine line → length line ≤ start.max_line → length line ≤ room start →
    now.consumed ≡ start.consumed + length line → now.max_bytes ≡ start.max_bytes → (now.ended ≡ false → start.ended ≡ false) →
    AreFewEmpty read_start read 0 → ReadsByNeed now next left left_next read read_next → HasRead start next left_start left_next read_start read_next line
read_more start now next left_start left left_next read_start read read_next line so_far in_line short within consumed limit ended few (inl refills) =
    let bytes : List ℕ = so_far.before ++ so_far.last in
    let whole : start.held ++ bytes ≡ line = so_far.all ∙ ap (λ h. line ++ h) refills.empty ∙ append-nil line in
    let up_to : now.max_bytes + 1 - now.consumed ≡ start.max_bytes + 1 - (taken start + length bytes) =
    omega (arith, consumed, limit, ap length whole, length-append start.held bytes) in
    record {
      before = bytes;
      last = next.held;
      told = told_more left_start left left_next bytes next.held so_far.told refills.told;
      all = sym (append_assoc start.held bytes next.held) ∙ ap (λ xs. xs ++ next.held) whole;
      needed = inl (record {
        undecided = rw whole (record { in_line = in_line; within = within; short = short });
        going = ended refills.going;
        asked = subst (λ n. IfSome read_next (λ r. r.asked ≡ min longest_read n)) up_to (asked_for read read_next _ _ refills.last);
        gave = all_given read read_next _ _ refills.last;
        few = one_more read_start read read_next _ _ refills.last few;
      });
      piece = refills.piece;
    }
read_more start now next left_start left left_next read_start read read_next line so_far in_line short within consumed limit ended few (inr uncalled) = record {
  before = so_far.before;
  last = so_far.last;
  told = so_far.told ∙ ap (λ (l : Option (List ℕ)). before_known (so_far.before ++ so_far.last) l) (sym uncalled.left);
  all = so_far.all ∙ ap (λ h. line ++ h) (sym uncalled.held);
  needed = rw uncalled.read so_far.needed;
  piece = so_far.piece;
}

-- held bytes went by
pub went_by : (start now next : Reading) (left_start left : Option (List ℕ)) (read_start read : Option LastRead) (line moved : List ℕ) →
    HasRead start now left_start left read_start read line → now.held ≡ moved ++ next.held → HasRead start next left_start left read_start read (line ++ moved)
went_by start now next left_start left read_start read line moved so_far held = record {
  before = so_far.before;
  last = so_far.last;
  told = so_far.told;
  all = so_far.all ∙ ap (λ h. line ++ h) held ∙ sym (append_assoc line moved next.held);
  needed = so_far.needed;
  piece = so_far.piece;
}

-- what was taken is counted
pub reads_as_needed : (start now : Reading) (left_start left : Option (List ℕ)) (read_start read : Option LastRead) (gone : List ℕ) →
    HasRead start now left_start left read_start read gone → now.consumed ≡ start.consumed + length gone → now.max_bytes ≡ start.max_bytes → IsSound now →
    ReadsAsNeeded start now left_start left read_start read
reads_as_needed start now left_start left read_start read gone so_far consumed limit sound =
    let both = length-append start.held (so_far.before ++ so_far.last) in
    let others = length-append gone now.held in
    record {
      before = so_far.before;
      last = so_far.last;
      told = so_far.told;
      counted = omega (arith, both, others, ap length so_far.all);
      needed = so_far.needed;
      piece = so_far.piece;
      limit = limit;
      sound = sound;
    }
