-- A line that is refused is none of a record.
use Rattle.std.proofs.Common.{◌≡◌, ◌≢◌, ◌⊎◌, inl, inr, ⊎_elim, refl, sym, subst, ◌∙◌, ap, ℕ, ◌<◌, true≢false, List, [], ◌∷◌, ◌++◌, length, Option, None, Some, append_assoc, append-nil, length-append, arith}
use Rattle.std.proofs.lemmas.List.{append_cancel_left}
use Rattle.sorted_sets.specs.Rising.{Each}
use Rattle.wq_io.specs.Lines.{lines}
use Rattle.replica.specs.declared.reader.Begun.{Begun}
use Rattle.replica.specs.declared.reader.PatchFault.TheVariants.{Head as NoHead, Triple as NoTriple, Order as OutOfOrder}
use Rattle.replica.specs.{declared.record.PatchRecord.PatchRecord, Laws.IsReadAs, Reader.HasCause, Reader.TakesLine, Reader.may_come_next}
use Rattle.replica.proofs.Determined.{read_parts, read_same, read_through, triples_same}
use Rattle.replica.proofs.{LineLengths.IsShort, LineLengths.lines_short, ReadLines.reads_lines}
use Rattle.following.specs.declared.stop.RecordCause.{RecordCause}
use Rattle.following.specs.declared.stop.RecordCause.TheVariants.{LineLong, Head, Triple, Order, Short}
use Rattle.following.specs.{Reading.AreLinesOf, Reading.longest_line, Stop.IsRefused}
use Rattle.following.proofs.FirstLines.{goes_on_for}

-- ---- lines of records

-- they are read as these
read_as : (ls : List (List ℕ)) (items : List PatchRecord) (begun : Option Begun) → AreLinesOf ls items begun → IsReadAs None ls items begun
read_as ls items begun are = subst (λ l. IsReadAs None l items begun) (sym are.are) (reads_lines items begun are.sound are.unfinished)

-- and none is over-long
are_short : (ls : List (List ℕ)) (items : List PatchRecord) (begun : Option Begun) → AreLinesOf ls items begun → Each IsShort ls
are_short ls items begun are = subst (Each IsShort) (sym are.are) (lines_short items begun are.sound are.unfinished)

-- they are those of one list of records alone
pub one_list : (ls : List (List ℕ)) (items others : List PatchRecord) (begun other : Option Begun) → AreLinesOf ls items begun → AreLinesOf ls others other → (items ≡ others) × (begun ≡ other)
one_list ls items others begun other first second = read_same None begun other ls items others (read_as ls items begun first) (read_as ls others other second)

-- where more lines follow, records follow
pub record ReadsOn (items : List PatchRecord) (begun : Option Begun) (others : List (List ℕ)) (all : List PatchRecord) (end : Option Begun) : Type 0 where
  pub behind : List PatchRecord
  pub read : IsReadAs begun others behind end
  pub are : all ≡ items ++ behind

pub reads_on : (done others : List (List ℕ)) (items all : List PatchRecord) (begun end : Option Begun) → AreLinesOf done items begun → AreLinesOf (done ++ others) all end → ReadsOn items begun others all end
reads_on done others items all begun end some whole =
    let parts = read_through None end done others all (read_as (done ++ others) all end whole) in
    let same = read_same None begun parts.middle done items parts.before (read_as done items begun some) parts.first_read in
    record {
      behind = parts.behind;
      read = subst (λ b. IsReadAs b others parts.behind end) (sym same.1) parts.second_read;
      are = parts.are ∙ ap (λ l. l ++ parts.behind) (sym same.0);
    }

short_there : (xs : List (List ℕ)) (line : List ℕ) (ys : List (List ℕ)) → Each IsShort (xs ++ line ∷ ys) → IsShort line
short_there [] line ys all = all.0
short_there (x ∷ xs) line ys all = short_there xs line ys all.1

-- ---- a line that is refused

-- why a line is refused where so much of a record was read
abbrev RefusesLine : RecordCause → Option Begun → List ℕ → Type 0
RefusesLine LineLong begun line = longest_line < length line
RefusesLine Head begun line = IsShort line × HasCause NoHead begun line
RefusesLine Triple begun line = IsShort line × HasCause NoTriple begun line
RefusesLine Order begun line = IsShort line × HasCause OutOfOrder begun line
RefusesLine Short begun line = ⊥

-- the line behind these is there, and is refused
pub record RefusedThere (cause : RecordCause) (bytes : List ℕ) (done : List (List ℕ)) (begun : Option Begun) : Type 0 where
  pub line : List ℕ
  pub rest : List (List ℕ)
  pub are : lines bytes ≡ done ++ line ∷ rest
  pub refused : RefusesLine cause begun line

-- or there is none, and a record lacks lines
pub record CutOffThere (cause : RecordCause) (bytes : List ℕ) (done : List (List ℕ)) (begun : Option Begun) : Type 0 where
  pub cause_is : cause ≡ Short
  pub are : lines bytes ≡ done
  pub inside : begun ≢ None

pub refused_there : (cause : RecordCause) (limit : ℕ) (bytes : List ℕ) (done : List (List ℕ)) (begun : Option Begun) → IsRefused cause limit bytes done begun → CutOffThere cause bytes done begun ⊎ RefusedThere cause bytes done begun
refused_there LineLong limit bytes done begun is =
    let first = goes_on_for longest_line is.first.unread_bytes is.over.in_line (omega (arith, is.over.more)) in
    inr (record { line = first.first; rest = first.others; are = is.first.are_lines ∙ ap (λ l. done ++ l) first.is; refused = omega (arith, first.more) })
refused_there Head limit bytes done begun is = inr (record { line = is.line; rest = lines is.others; are = is.first.are_lines ∙ ap (λ l. done ++ l) is.is_line; refused = (is.short, is.refused) })
refused_there Triple limit bytes done begun is = inr (record { line = is.line; rest = lines is.others; are = is.first.are_lines ∙ ap (λ l. done ++ l) is.is_line; refused = (is.short, is.refused) })
refused_there Order limit bytes done begun is = inr (record { line = is.line; rest = lines is.others; are = is.first.are_lines ∙ ap (λ l. done ++ l) is.is_line; refused = (is.short, is.refused) })
refused_there Short limit bytes done begun is = inl (record { cause_is = refl; are = is.are; inside = is.inside })

-- a line that is taken isn't refused
module _ {G : Type 0} (new : Option Begun) (line : List ℕ) (found : Option PatchRecord) where
  head_taken : (begun : Option Begun) → TakesLine begun line new found → HasCause NoHead begun line → G
  head_taken None takes cause = absurd (cause.1 takes.begun.head takes.grows.0)
  head_taken (Some b) takes cause = let never : Some b ≡ None = cause.0 in cc

  triple_taken : (begun : Option Begun) → TakesLine begun line new found → HasCause NoTriple begun line → G
  triple_taken None takes cause = absurd (cause.0 refl)
  triple_taken (Some b) takes cause = absurd (cause.1 takes.grows.0 takes.grows.1)

  order_taken : (begun : Option Begun) → TakesLine begun line new found → HasCause OutOfOrder begun line → G
  order_taken None takes cause = absurd cause
  order_taken (Some b) takes cause =
      let same = triples_same line takes.grows.0 cause.0 takes.grows.1 cause.1 in
      absurd (true≢false (sym takes.grows.2 ∙ ap (may_come_next b) same ∙ cause.2))

  taken_clash : (cause : RecordCause) (begun : Option Begun) → TakesLine begun line new found → IsShort line → RefusesLine cause begun line → G
  taken_clash LineLong begun takes short refused = absurd (omega (arith, short, refused))
  taken_clash Head begun takes short refused = head_taken begun takes refused.1
  taken_clash Triple begun takes short refused = triple_taken begun takes refused.1
  taken_clash Order begun takes short refused = order_taken begun takes refused.1
  taken_clash Short begun takes short refused = absurd refused

-- no further lines are taken where one is refused
pub more_clash : {G : Type 0} (cause : RecordCause) (limit : ℕ) (bytes : List ℕ) (done : List (List ℕ)) (items all : List PatchRecord) (begun end : Option Begun) → AreLinesOf done items begun → IsRefused cause limit bytes done begun →
    (line : List ℕ) (rest more : List (List ℕ)) → AreLinesOf (done ++ line ∷ rest) all end → lines bytes ≡ (done ++ line ∷ rest) ++ more → G
more_clash {G} cause limit bytes done items all begun end some is line rest more whole at = ⊎_elim
    (λ (cut : CutOffThere cause bytes done begun).
    let long : length done ≡ length ((done ++ line ∷ rest) ++ more) = ap length (sym cut.are ∙ at) in
    absurd (omega (arith, long, length-append (done ++ line ∷ rest) more, length-append done (line ∷ rest))))
    (λ (there : RefusedThere cause bytes done begun).
    let both : there.line ∷ there.rest ≡ line ∷ (rest ++ more) = append_cancel_left done (there.line ∷ there.rest) (line ∷ (rest ++ more)) (sym there.are ∙ at ∙ append_assoc done (line ∷ rest) more) in
    let same : there.line ≡ line = cc in
    let on = reads_on done (line ∷ rest) items all begun end some whole in
    let first = read_parts begun end (line ∷ rest) on.behind on.read in
    taken_clash first.new line first.found cause begun first.takes (short_there done line rest (are_short (done ++ line ∷ rest) all end whole)) (subst (RefusesLine cause begun) same there.refused))
    (refused_there cause limit bytes done begun is)

-- nor are all lines those of records
pub all_clash : {G : Type 0} (cause : RecordCause) (limit : ℕ) (bytes : List ℕ) (done : List (List ℕ)) (items all : List PatchRecord) (begun : Option Begun) → AreLinesOf done items begun → IsRefused cause limit bytes done begun →
    AreLinesOf (lines bytes) all None → G
all_clash {G} cause limit bytes done items all begun some is whole = ⊎_elim
    (λ (cut : CutOffThere cause bytes done begun).
    let same = one_list done items all begun None some (subst (λ l. AreLinesOf l all None) cut.are whole) in
    absurd (cut.inside same.1))
    (λ (there : RefusedThere cause bytes done begun).
    more_clash cause limit bytes done items all begun None some is there.line there.rest [] (subst (λ l. AreLinesOf l all None) there.are whole) (there.are ∙ sym (append-nil (done ++ there.line ∷ there.rest))))
    (refused_there cause limit bytes done begun is)

-- ---- one cause

long_or_short : {G : Type 0} (line : List ℕ) → longest_line < length line → IsShort line → G
long_or_short line long short = absurd (omega (arith, long, short))

head_or_triple : {G : Type 0} (begun : Option Begun) (line : List ℕ) → HasCause NoHead begun line → HasCause NoTriple begun line → G
head_or_triple begun line one other = absurd (other.0 one.0)

head_or_order : {G : Type 0} (begun : Option Begun) (line : List ℕ) → HasCause NoHead begun line → HasCause OutOfOrder begun line → G
head_or_order None line one other = absurd other
head_or_order (Some b) line one other = let never : Some b ≡ None = one.0 in cc

triple_or_order : {G : Type 0} (begun : Option Begun) (line : List ℕ) → HasCause NoTriple begun line → HasCause OutOfOrder begun line → G
triple_or_order None line one other = absurd other
triple_or_order (Some b) line one other = absurd (one.1 other.0 other.1)

-- a line is refused for one cause
one_cause : (first second : RecordCause) (begun : Option Begun) (line : List ℕ) → RefusesLine first begun line → RefusesLine second begun line → first ≡ second
one_cause LineLong LineLong begun line one other = refl
one_cause LineLong Head begun line one other = long_or_short line one other.0
one_cause LineLong Triple begun line one other = long_or_short line one other.0
one_cause LineLong Order begun line one other = long_or_short line one other.0
one_cause Head LineLong begun line one other = long_or_short line other one.0
one_cause Head Head begun line one other = refl
one_cause Head Triple begun line one other = head_or_triple begun line one.1 other.1
one_cause Head Order begun line one other = head_or_order begun line one.1 other.1
one_cause Triple LineLong begun line one other = long_or_short line other one.0
one_cause Triple Head begun line one other = head_or_triple begun line other.1 one.1
one_cause Triple Triple begun line one other = refl
one_cause Triple Order begun line one other = triple_or_order begun line one.1 other.1
one_cause Order LineLong begun line one other = long_or_short line other one.0
one_cause Order Head begun line one other = head_or_order begun line other.1 one.1
one_cause Order Triple begun line one other = triple_or_order begun line other.1 one.1
one_cause Order Order begun line one other = refl
one_cause Short second begun line one other = absurd one
one_cause first Short begun line one other = absurd other

-- behind the same lines the input is refused for one cause
pub same_cause : (first second : RecordCause) (limit : ℕ) (bytes : List ℕ) (done : List (List ℕ)) (begun : Option Begun) → IsRefused first limit bytes done begun → IsRefused second limit bytes done begun → first ≡ second
same_cause first second limit bytes done begun one other = by (refused_there first limit bytes done begun one) (refused_there second limit bytes done begun other)
  where
    ends_or_goes_on : {G : Type 0} (line : List ℕ) (rest : List (List ℕ)) → lines bytes ≡ done → lines bytes ≡ done ++ line ∷ rest → G
    ends_or_goes_on line rest ends goes = absurd (omega (arith, ap length (sym ends ∙ goes), length-append done (line ∷ rest)))

    by : CutOffThere first bytes done begun ⊎ RefusedThere first bytes done begun → CutOffThere second bytes done begun ⊎ RefusedThere second bytes done begun → first ≡ second
    by (inl a) (inl b) = a.cause_is ∙ sym b.cause_is
    by (inl a) (inr b) = ends_or_goes_on b.line b.rest a.are b.are
    by (inr a) (inl b) = ends_or_goes_on a.line a.rest b.are a.are
    by (inr a) (inr b) =
        let both : a.line ∷ a.rest ≡ b.line ∷ b.rest = append_cancel_left done (a.line ∷ a.rest) (b.line ∷ b.rest) (sym a.are ∙ b.are) in
        let same : a.line ≡ b.line = cc in
        one_cause first second begun b.line (subst (RefusesLine first begun) same a.refused) b.refused
