-- Lists that begin with others, and the first records of a text.
use Rattle.std.proofs.Common.{◌≡◌, ◌⊎◌, refl, sym, ◌∙◌, ap, inl, inr, ⊎_elim, ℕ, ◌<◌, List, [], ◌∷◌, ◌++◌, append_assoc, append-nil, length, flat_map, Option, None, Some, arith}
use Rattle.wq_io.specs.Streams.{after_known}
use Rattle.replica.specs.{declared.record.PatchRecord.PatchRecord, Record.record_text}
use Rattle.session_laws.specs.Reruns.{IsPartOfFirst, WritesFirst, WritesPrefix}

-- the second list begins with the first
pub record IsFront {A : Type 0} (front whole : List A) : Type 0 where
  pub rest : List A
  pub is : whole ≡ front ++ rest

pub front_all : {A : Type 0} (xs : List A) → IsFront xs xs
front_all xs = record { rest = []; is = sym (append-nil xs) }

pub front_with : {A : Type 0} (xs ys : List A) → IsFront xs (xs ++ ys)
front_with xs ys = record { rest = ys; is = refl }

pub front_on : {A : Type 0} (xs ys zs : List A) → IsFront xs ys → IsFront ys zs → IsFront xs zs
front_on xs ys zs one two = record { rest = one.rest ++ two.rest; is = two.is ∙ ap (λ l. l ++ two.rest) one.is ∙ append_assoc xs one.rest two.rest }

-- a front of a text was written
pub writes : (text front : List ℕ) (old new : Option (List ℕ)) → IsFront front text → new ≡ after_known old front → WritesPrefix text old new
writes text front old new begins is = record { written = front; unwritten = begins.rest; is = begins.is; bytes = is }

-- ---- records

-- where two texts are one in two ways, the second part begins within the first, or behind it
both_ways : (a b c d : List ℕ) → a ++ b ≡ c ++ d → ((e : List ℕ) × (c ≡ a ++ e) × (b ≡ e ++ d)) ⊎ ((e : List ℕ) × (0 < length e) × (a ≡ c ++ e))
both_ways [] b c d same = inl (c, refl, same)
both_ways (x ∷ xs) b [] d same = inr (x ∷ xs, omega arith, refl)
both_ways (x ∷ xs) b (y ∷ ys) d same =
    let first : x ≡ y = cc in
    let others : xs ++ b ≡ ys ++ d = cc in
    ⊎_elim
    (λ behind. inl (behind.0, (λ i. sym first i ∷ behind.1 i), behind.2))
    (λ within. inr (within.0, within.1, (λ i. first i ∷ within.2 i)))
    (both_ways xs b ys d others)

nothing_before : (xs ys : List ℕ) → [] ≡ xs ++ ys → xs ≡ []
nothing_before [] ys same = refl
nothing_before (x ∷ xs) ys same = cc

-- a prefix of records' texts is the texts of the first of them and a part of the next one
record Split (items : List PatchRecord) (text : List ℕ) : Type 0 where
  written : List PatchRecord
  unwritten : List PatchRecord
  part : List ℕ
  are : items ≡ written ++ unwritten
  cut : IsPartOfFirst unwritten part
  is : text ≡ flat_map record_text written ++ part

split : (items : List PatchRecord) (text rest : List ℕ) → flat_map record_text items ≡ text ++ rest → Split items text
split [] text rest same = record { written = []; unwritten = []; part = []; are = refl; cut = refl; is = nothing_before text rest same }
split (item ∷ items) text rest same = ⊎_elim
    (λ behind.
    let others = split items behind.0 rest behind.2 in
    record {
      written = item ∷ others.written;
      unwritten = others.unwritten;
      part = others.part;
      are = ap (λ l. item ∷ l) others.are;
      cut = others.cut;
      is = behind.1 ∙ ap (λ l. record_text item ++ l) others.is ∙ sym (append_assoc (record_text item) (flat_map record_text others.written) others.part);
    })
    (λ within. record { written = []; unwritten = item ∷ items; part = text; are = refl; cut = (within.0, within.1, within.2); is = refl })
    (both_ways (record_text item) (flat_map record_text items) text rest same)

pub writes_first : (items : List PatchRecord) (old new : Option (List ℕ)) → WritesPrefix (flat_map record_text items) old new → WritesFirst items old new
writes_first items old new prefix =
    let parts = split items prefix.written prefix.unwritten prefix.is in
    record {
      written = parts.written;
      unwritten = parts.unwritten;
      part = parts.part;
      are = parts.are;
      cut = parts.cut;
      bytes = prefix.bytes ∙ ap (after_known old) parts.is;
    }

-- ---- what is told

pub append_same : (xs ys zs : List ℕ) → xs ++ ys ≡ xs ++ zs → ys ≡ zs
append_same [] ys zs same = same
append_same (x ∷ xs) ys zs same = let others : xs ++ ys ≡ xs ++ zs = cc in append_same xs ys zs others

-- where it is told what was there before, the text that was written behind it is one
pub one_text : (old : Option (List ℕ)) (bytes text other : List ℕ) → old ≡ Some bytes → after_known old text ≡ after_known old other → text ≡ other
one_text None bytes text other told same = cc
one_text (Some before) bytes text other told same = let both : before ++ text ≡ before ++ other = cc in append_same before text other both
