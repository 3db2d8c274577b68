-- Of a file one line is refused.
use Rattle.std.proofs.Common.{◌≡◌, ℕ, ◌<◌, List, ◌∷◌, ◌++◌, length, None, Some, inl, inr, sym, ◌∙◌, ap, arith, length-append}
use Rattle.wq_io.specs.Lines.{lines}
use Rattle.snapshot.specs.Whole.{Loading}
use Rattle.checkpoint.specs.{Causes.EndsEarly, Causes.IsBadSnapshotLine, Causes.IsNoSnapshot, Causes.IsUnended, Loading.BeginsWith}
use Rattle.checkpoint.proofs.OneCause.{neither_less, not_among}

-- the line is one of all
fewer : (bytes : List ℕ) (number : ℕ) (bad : IsBadSnapshotLine bytes number) → length bad.done < length (lines bytes)
fewer bytes number bad = omega (arith, ap length (bad.first.are ∙ ap (λ l. bad.done ++ l) bad.next), length-append bad.done (bad.line ∷ bad.others))

two_bad : (bytes : List ℕ) (m n : ℕ) → IsBadSnapshotLine bytes m → IsBadSnapshotLine bytes n → m ≡ n
two_bad bytes m n a b =
    let same : length a.done ≡ length b.done = neither_less (length a.done) (length b.done) (not_among bytes m a b.done b.loading b.first) (not_among bytes n b a.done a.loading a.first) in
    omega (arith, a.counted, b.counted, same)

no_bad : (bytes : List ℕ) (number : ℕ) → IsBadSnapshotLine bytes number → (there : Loading) → BeginsWith bytes (lines bytes) there → ⊥
no_bad bytes number bad there all = not_among bytes number bad (lines bytes) there all (fewer bytes number bad)

not_both : (bytes : List ℕ) (m n : ℕ) → EndsEarly bytes m → IsUnended bytes n → ⊥
not_both bytes m n early unended = let never : Some (lines bytes) ≡ None = sym early.ended ∙ unended.unended in cc

pub one_number : (bytes : List ℕ) (m n : ℕ) → IsNoSnapshot bytes m → IsNoSnapshot bytes n → m ≡ n
one_number bytes m n (inl a) (inl b) = two_bad bytes m n a b
one_number bytes m n (inl a) (inr (inl b)) = absurd (no_bad bytes m a b.loading b.all)
one_number bytes m n (inl a) (inr (inr b)) = absurd (no_bad bytes m a b.loading b.all)
one_number bytes m n (inr (inl a)) (inl b) = absurd (no_bad bytes n b a.loading a.all)
one_number bytes m n (inr (inr a)) (inl b) = absurd (no_bad bytes n b a.loading a.all)
one_number bytes m n (inr (inl a)) (inr (inl b)) = a.counted ∙ sym b.counted
one_number bytes m n (inr (inr a)) (inr (inr b)) = a.counted ∙ sym b.counted
one_number bytes m n (inr (inl a)) (inr (inr b)) = absurd (not_both bytes m n a b)
one_number bytes m n (inr (inr a)) (inr (inl b)) = absurd (not_both bytes n m b a)
