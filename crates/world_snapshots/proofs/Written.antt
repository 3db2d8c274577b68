-- What is written of a snapshot in parts is written as a whole, and is kept.
use Rattle.std.proofs.Common.{◌≡◌, ℕ, ◌+◌, ◌≤◌, List, [], ◌++◌, take, flat_map, Option, None, Some, Result, Ok, Err, refl, sym, ◌∙◌, ap, arith}
use Rattle.std.specs.Prelude.{MatchResult}
use Rattle.wq_io.specs.Streams.{Rose, after_known}
use Rattle.text_output.specs.declared.write.Unwritten.{Unwritten}
use Rattle.text_output.specs.declared.write.Unwritten.TheVariants.{WriteFault, OutOfMemory}
use Rattle.text_output.proofs.Parts.{after_nothing, after_twice}
use Rattle.checkpoint.specs.Archive.{Archive, Keeps, Writes}
use Rattle.checkpoint.specs.Keeping.{nothing_written, with_snapshot, with_written}

-- nothing is written
pub writes_nothing : (old : Archive) → Writes [] old old (Ok tt)
writes_nothing old = record { same = refl; later = omega arith; most = refl; outcome = sym (after_nothing old.written) }

-- want of memory before the first byte
pub fails_at_once : (whole : List ℕ) (old : Archive) → Writes whole old old (Err OutOfMemory)
fails_at_once whole old = record { same = refl; later = omega arith; most = refl; outcome = λ never. cc }

-- the first part was written, and then the second
pub writes_both : (result : Result (Unit {0}) Unwritten) (first second : List ℕ) (old between new : Archive) → Writes first old between (Ok tt) → Writes second between new result → Writes (first ++ second) old new result
writes_both (Ok done) first second old between new x y = record {
  same = y.same ∙ x.same;
  later = omega (arith, x.later, y.later);
  most = y.most ∙ x.most;
  outcome = y.outcome ∙ ap (λ b. after_known b second) x.outcome ∙ after_twice old.written first second;
}
writes_both (Err why) first second old between new x y = record {
  same = y.same ∙ x.same;
  later = omega (arith, x.later, y.later);
  most = y.most ∙ x.most;
  outcome = λ fault. omega (arith, x.later, y.outcome fault);
}

-- the first part was written, and then there was a failure
pub fails_then : (why : Unwritten) (first second whole : List ℕ) (old between new : Archive) → Writes first old between (Ok tt) → Writes second between new (Err why) → Writes whole old new (Err why)
fails_then why first second whole old between new x y = record {
  same = y.same ∙ x.same;
  later = omega (arith, x.later, y.later);
  most = y.most ∙ x.most;
  outcome = λ fault. omega (arith, x.later, y.outcome fault);
}

-- the text of the next element was written
pub text_written : {X : Type 0} (f : X → List ℕ) (xs : List X) (index : ℕ) (text : List ℕ) (old between new : Archive) →
    flat_map f (take (index + 1) xs) ≡ flat_map f (take index xs) ++ text → Writes (flat_map f (take index xs)) old between (Ok tt) → Writes text between new (Ok tt) → Writes (flat_map f (take (index + 1) xs)) old new (Ok tt)
text_written f xs index text old between new more before x = rw more (writes_both (Ok tt) (flat_map f (take index xs)) text old between new before x)

-- ---- keeping

-- what is written from nothing on is all
all_of : (kept : Option (List (List ℕ))) (bytes : List ℕ) → with_written kept (after_known (nothing_written kept) bytes) ≡ with_snapshot kept bytes
all_of None bytes = refl
all_of (Some snapshots) bytes = refl

-- a snapshot wasn't begun
pub unbegun : (why : Unwritten) (bytes : List ℕ) (old new : Archive) → new.kept ≡ old.kept → old.faults ≤ new.faults → new.most_faults ≡ old.most_faults → (why ≡ WriteFault → Rose old.faults new.faults) → Keeps bytes old new (Err why)
unbegun why bytes old new same later most cause = record { later = later; most = most; outcome = (same, cause) }

-- a snapshot was begun, and it is written and kept
module _ (bytes : List ℕ) (old begun : Archive) (begins : begun.written ≡ nothing_written old.kept) (same : begun.kept ≡ old.kept) (later : old.faults ≤ begun.faults) (most : begun.most_faults ≡ old.most_faults) where
  -- it wasn't written whole
  pub unwritten : (why : Unwritten) (new : Archive) → Writes bytes begun new (Err why) → Keeps bytes old new (Err why)
  unwritten why new x = record { later = omega (arith, later, x.later); most = x.most ∙ most; outcome = (x.same ∙ same, λ fault. omega (arith, later, x.outcome fault)) }

  -- it was written whole, and the port was asked to keep it
  pub kept_whole : (result : Result (Unit {0}) Unwritten) (filled new : Archive) → Writes bytes begun filled (Ok tt) → filled.faults ≤ new.faults → new.most_faults ≡ filled.most_faults →
      MatchResult result (λ _. new.kept ≡ with_written filled.kept filled.written) (λ why. (new.kept ≡ filled.kept) × (why ≡ WriteFault → Rose filled.faults new.faults)) → Keeps bytes old new result
  kept_whole (Ok done) filled new x after unchanged outcome = record {
    later = omega (arith, later, x.later, after);
    most = unchanged ∙ x.most ∙ most;
    outcome = outcome ∙ ap (λ k. with_written k filled.written) (x.same ∙ same) ∙ ap (with_written old.kept) (x.outcome ∙ ap (λ b. after_known b bytes) begins) ∙ all_of old.kept bytes;
  }
  kept_whole (Err why) filled new x after unchanged outcome = record {
    later = omega (arith, later, x.later, after);
    most = unchanged ∙ x.most ∙ most;
    outcome = (outcome.0 ∙ x.same ∙ same, λ fault. omega (arith, later, x.later, outcome.1 fault));
  }

-- what isn't kept is let go
pub let_go : (why : Unwritten) (bytes : List ℕ) (old left new : Archive) → Keeps bytes old left (Err why) → new.kept ≡ left.kept → new.faults ≡ left.faults → new.most_faults ≡ left.most_faults → Keeps bytes old new (Err why)
let_go why bytes old left new x same quiet most = record {
  later = omega (arith, x.later, quiet);
  most = most ∙ x.most;
  outcome = (same ∙ x.outcome.0, λ fault. omega (arith, quiet, x.outcome.1 fault));
}
