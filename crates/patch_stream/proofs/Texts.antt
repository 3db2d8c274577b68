-- A text is printed line by line, and the record of a step.
use Rattle.std.proofs.Common.{◌≡◌, ◌↔◌, refl, sym, ◌∙◌, ap, subst, ℕ, zero, suc, ◌+◌, ◌<◌, Bool, true, false, not, ◌&&◌, ◌||◌, cond, nat_lt, List, [], ◌∷◌, ◌++◌, length, Ok, Err, append_assoc, arith, length-append, true≢false}
use Rattle.std.proofs.lemmas.Bool.Decides.{Decides-ltb}
use Rattle.wq_io.specs.Streams.{after_known}
use Rattle.sorted_sets.specs.Rising.{IsRising, difference, has}
use Rattle.sorted_sets.proofs.{Bools.clash, Filtering.has-difference, Rising.has_itself, Rising.same_rising}
use Rattle.rdf_term.specs.{declared.triple.Triple.Triple, Order.triple_cmp, Order.triple_cmp-total}
use Rattle.rdf_term.proofs.Texts.{triple_cmp-IsAntisymmetric}
use Rattle.triple_store.specs.{declared.telling.Change.Change, declared.telling.Telling.Telling, declared.telling.Told.Told, Telling.is_changed, Telling.tells_change}
use Rattle.triple_store.specs.declared.telling.Telling.TheVariants.{Nothing}
use Rattle.triple_store.specs.declared.telling.Told.TheVariants.{Nothing as NothingTold, Whether as ToldWhether, Change as ToldChange}
use Rattle.holders.specs.Changing.{IsChangeOf, Tells}
use Rattle.replica.specs.{Head.head_line, Record.record_text}
use Rattle.replica.proofs.Records.{record_parts}
use Rattle.text_output.specs.{declared.write.Unwritten.Unwritten, declared.write.Unwritten.TheVariants.OutOfMemory}
use Rattle.text_output.specs.Printing.{Output, Prints, Puts}
use Rattle.text_output.proofs.Parts.{IsWriting, after_nothing, cut_short_at_once, prints_both, prints_first}
use Rattle.patch_stream.specs.Stream.{Step, TellsStep, change_text, is_change, record_of_step, step}

-- ---- lines

-- a record has a byte
pub some_record : (number : ℕ) (change : Change) → 0 < length (change_text number change)
some_record number change =
    let head : List ℕ = head_line (record { number = number; adds = change.came.count; removes = change.gone.count }) in
    omega (arith, length-append (head ++ 10 ∷ []) (change.came.text.items ++ change.gone.text.items), length-append head (10 ∷ []))

-- the next line was written
pub writing_line : (whole line rest : List ℕ) (old between new : Output) → IsWriting whole (line ++ rest) old between → Puts line between new (Ok tt) → IsWriting whole rest old new
writing_line whole line rest old between new x y = record {
  written = x.written ++ line;
  is = x.is ∙ sym (append_assoc x.written line rest);
  puts = prints_both (Ok tt) x.written line old between new x.puts y;
}

-- the next line wasn't written wholly
pub writing_cut_short : (why : Unwritten) (whole line rest : List ℕ) (old between new : Output) → IsWriting whole (line ++ rest) old between → Puts line between new (Err why) → Puts whole old new (Err why)
writing_cut_short why whole line rest old between new x y =
    rw x.is (prints_both (Err why) x.written (line ++ rest) old between new x.puts (prints_first why line rest between new y))

-- ---- the change of a step

no_triples : (ts : List Triple) → length ts ≡ 0 → ts ≡ []
no_triples [] none = refl
no_triples (t ∷ ts) none = absurd (omega arith)

none_in : (ts : List Triple) → ((t : Triple) → has triple_cmp t ts ≡ false) → ts ≡ []
none_in [] none = refl
none_in (t ∷ ts) none = clash (has_itself triple_cmp-total t ts) (none t)

not_both : (a : Bool) → (not a && a) ≡ false
not_both true = refl
not_both false = refl

both_ways : (a b : Bool) → (not a && b) ≡ false → (not b && a) ≡ false → b ≡ a
both_ways true true more fewer = refl
both_ways true false more fewer = sym fewer
both_ways false true more fewer = more
both_ways false false more fewer = refl

-- nothing is in a set and not in it
nothing_new : (ts : List Triple) → difference triple_cmp ts ts ≡ []
nothing_new ts = none_in _ (λ t. has-difference triple_cmp-total t ts ts ∙ not_both (has triple_cmp t ts))

-- where what is stored is what was stored, nothing changes
pub still : (before after : List Triple) → after ≡ before → is_change (step before after) ≡ false
still before after same =
    let none : is_change (step before before) ≡ false = ap (λ (ts : List Triple). nat_lt 0 (length ts) || nat_lt 0 (length ts)) (nothing_new before) in
    subst (λ ts. is_change (step before ts) ≡ false) (sym same) none

neither : (a b : Bool) → (a || b) ≡ false → (a ≡ false) × (b ≡ false)
neither true b is = absurd (true≢false is)
neither false b is = (refl, is)

not_above : (n : ℕ) → nat_lt 0 n ≡ false → n ≡ 0
not_above zero is = refl
not_above (suc n) is =
    let above : nat_lt 0 (suc n) ≡ true = (Decides-ltb 0 (suc n)).1 (omega arith) in
    absurd (true≢false (sym above ∙ is))

-- and the other way round
same_stored : (before after : List Triple) → IsRising triple_cmp before → IsRising triple_cmp after → is_change (step before after) ≡ false → after ≡ before
same_stored before after rises rises_after is =
    let none = neither _ _ is in
    same_rising triple_cmp-total triple_cmp-IsAntisymmetric after before rises_after rises (λ t. both_ways (has triple_cmp t before) (has triple_cmp t after)
    (sym (has-difference triple_cmp-total t after before) ∙ ap (has triple_cmp t) (no_triples _ (not_above _ none.0)))
    (sym (has-difference triple_cmp-total t before after) ∙ ap (has triple_cmp t) (no_triples _ (not_above _ none.1))))

pub differs : (before after : List Triple) → IsRising triple_cmp before → IsRising triple_cmp after → (is_change (step before after) ≡ false) ↔ (after ≡ before)
differs before after rises rises_after = (same_stored before after rises rises_after, still before after)

-- the lines tell whether something changes
pub by_lines : (before after : List Triple) (change : Change) → IsChangeOf before after change → is_change (step before after) ≡ (nat_lt 0 change.came.count || nat_lt 0 change.gone.count)
by_lines before after change is = λ i. nat_lt 0 (sym is.came.count i) || nat_lt 0 (sym is.gone.count i)

-- the text of a change is that of the record of its step
pub told_text : (number : ℕ) (before after : List Triple) (change : Change) → IsChangeOf before after change → change_text number change ≡ record_text (record_of_step number (step before after))
told_text number before after change is =
    (λ i. (head_line (record { number = number; adds = is.came.count i; removes = is.gone.count i }) ++ 10 ∷ []) ++ (is.came.text i ++ is.gone.text i))
    ∙ sym (record_parts (record_of_step number (step before after)))

-- what is told of a step says whether it changed something, where anything was asked
pub told_changed : (telling : Telling) (before after : List Triple) (told : Told) → Tells telling before after told → (telling ≡ Nothing → ⊥) → tells_change told ≡ is_changed before after
told_changed telling before after NothingTold tells asked = sym (still before after (tells asked))
told_changed telling before after (ToldWhether changed) tells asked = tells.1
told_changed telling before after (ToldChange change) tells asked = sym (by_lines before after change tells.1)

-- ---- the record of a step

module _ (told : ℕ) (s : Step) (old : Output) where
  -- nothing changes, and nothing is printed
  pub step_silent : is_change s ≡ false → TellsStep told s old old (Ok told)
  step_silent still = record {
    later = omega arith;
    most = refl;
    outcome = (
      ap (λ b. cond b (told + 1) told) (sym still),
      sym (after_nothing old.bytes) ∙ ap (λ b. after_known old.bytes (cond b (record_text (record_of_step (told + 1) s)) [])) (sym still),
    );
    handed = λ quiet. quiet;
  }

  -- the record is printed
  pub step_printed : (new : Output) → is_change s ≡ true → Prints (record_text (record_of_step (told + 1) s)) old new (Ok tt) → TellsStep told s old new (Ok (told + 1))
  step_printed new changes prints = record {
    later = prints.later;
    most = prints.most;
    outcome = (
      ap (λ b. cond b (told + 1) told) (sym changes),
      prints.outcome ∙ ap (λ b. after_known old.bytes (cond b (record_text (record_of_step (told + 1) s)) [])) (sym changes),
    );
    handed = prints.leaves;
  }

  -- it isn't begun
  pub step_not_begun : is_change s ≡ true → TellsStep told s old old (Err OutOfMemory)
  step_not_begun changes = record {
    later = omega arith;
    most = refl;
    outcome = (changes, (cut_short_at_once {handed = true} (record_text (record_of_step (told + 1) s)) old).outcome);
    handed = λ _. tt;
  }

  -- it isn't printed wholly
  pub step_cut_short : (why : Unwritten) (new : Output) → is_change s ≡ true → Prints (record_text (record_of_step (told + 1) s)) old new (Err why) → TellsStep told s old new (Err why)
  step_cut_short why new changes prints = record { later = prints.later; most = prints.most; outcome = (changes, prints.outcome); handed = λ _. tt }
