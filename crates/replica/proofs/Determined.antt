-- Lines are read in one way alone.
use Rattle.std.proofs.Common.{◌≡◌, ℕ, suc, ◌<◌, ◌^◌, true, List, [], ◌∷◌, ◌++◌, Option, None, Some, codes, refl, sym, ◌∙◌, ap, subst, append_assoc, arith}
use Rattle.std.specs.{Fmt.decimal, Option.option_to_list}
use Rattle.std.proofs.lemmas.Fmt.{decimal_injective}
use Rattle.rdf_term.specs.{declared.term.Term.Term, declared.triple.Triple.Triple, Fit.is_fit, Text.term_text}
use Rattle.term_reading.specs.Reader.{read}
use Rattle.term_reading.proofs.ReadBack.{reads_back}
use Rattle.replica.specs.{declared.head.Head.Head, declared.reader.Begun.Begun, declared.record.PatchRecord.PatchRecord}
use Rattle.replica.specs.{declared.term_end.TermState.TheVariants.Outside, Head.HasNoSpace, Head.IsHead}
use Rattle.replica.specs.Laws.{IsReadAs, ReadsOneWay, last, nothing, within}
use Rattle.replica.specs.{Reader.Grows, Reader.TakesLine, Reader.given, Reader.left, Reader.opened, Reader.with_triple, TermEnd.split_term}
use Rattle.replica.specs.TripleLine.{IsTripleLine}
use Rattle.replica.proofs.Heads.{line_words, no_space_in_decimal, no_space_in_mark, no_space_in_name, no_space_in_sign}
use Rattle.replica.proofs.{TermEnds.term_ends, TripleLines.joined, TripleLines.line_joins}

-- ---- heads

-- the word before the first space is one alone
word_same : (xs ys rest others : List ℕ) → HasNoSpace xs → HasNoSpace ys → xs ++ 32 ∷ rest ≡ ys ++ 32 ∷ others → (xs ≡ ys) × (rest ≡ others)
word_same [] [] rest others none other same =
    let tails : rest ≡ others = cc in
    (refl, tails)
word_same [] (y ∷ ys) rest others none other same =
    let first : y ≡ 32 = cc in
    absurd (other 0 (omega arith) first)
word_same (x ∷ xs) [] rest others none other same =
    let first : x ≡ 32 = cc in
    absurd (none 0 (omega arith) first)
word_same (x ∷ xs) (y ∷ ys) rest others none other same =
    let first : x ≡ y = cc in
    let more : xs ++ 32 ∷ rest ≡ ys ++ 32 ∷ others = cc in
    let tails = word_same xs ys rest others (λ i below. none (suc i) (omega (arith, below))) (λ i below. other (suc i) (omega (arith, below))) more in
    ((λ i. first i ∷ tails.0 i), tails.1)

-- what stands behind each word of a head's line
abbrev behind_adds : Head → List ℕ
behind_adds head = 45 ∷ decimal head.removes

abbrev behind_number : Head → List ℕ
behind_number head = (43 ∷ decimal head.adds) ++ 32 ∷ behind_adds head

abbrev behind_name : Head → List ℕ
behind_name head = decimal head.number ++ 32 ∷ behind_number head

abbrev behind_mark : Head → List ℕ
behind_mark head = codes "patch" ++ 32 ∷ behind_name head

number_same : (m n : ℕ) → m < 2 ^ 64 → n < 2 ^ 64 → (b : ℕ) → b ∷ decimal m ≡ b ∷ decimal n → m ≡ n
number_same m n small other b same =
    let digits : decimal m ≡ decimal n = cc in
    decimal_injective m n small other digits

pub heads_same : (line : List ℕ) (a b : Head) → IsHead line a → IsHead line b → a ≡ b
heads_same line a b one other =
    let words : (35 ∷ []) ++ 32 ∷ behind_mark a ≡ (35 ∷ []) ++ 32 ∷ behind_mark b = sym (line_words a) ∙ sym one.text ∙ other.text ∙ line_words b in
    let marks = word_same (35 ∷ []) (35 ∷ []) (behind_mark a) (behind_mark b) no_space_in_mark no_space_in_mark words in
    let names = word_same (codes "patch") (codes "patch") (behind_name a) (behind_name b) no_space_in_name no_space_in_name marks.1 in
    let numbers = word_same (decimal a.number) (decimal b.number) (behind_number a) (behind_number b) (no_space_in_decimal a.number one.number) (no_space_in_decimal b.number other.number) names.1 in
    let adds = word_same (43 ∷ decimal a.adds) (43 ∷ decimal b.adds) (behind_adds a) (behind_adds b)
    (no_space_in_sign 43 a.adds (λ e. absurd (omega arith)) one.adds) (no_space_in_sign 43 b.adds (λ e. absurd (omega arith)) other.adds) numbers.1 in
    let number_is : a.number ≡ b.number = decimal_injective a.number b.number one.number other.number numbers.0 in
    let adds_is : a.adds ≡ b.adds = number_same a.adds b.adds one.adds other.adds 43 adds.0 in
    let removes_is : a.removes ≡ b.removes = number_same a.removes b.removes one.removes other.removes 45 adds.1 in
    λ i. record { number = number_is i; adds = adds_is i; removes = removes_is i }

-- ---- triples

term_same : (a b : Term) → is_fit a ≡ true → is_fit b ≡ true → term_text a ≡ term_text b → a ≡ b
term_same a b fit other same =
    let both : Some a ≡ Some b = sym (reads_back a fit) ∙ ap read same ∙ reads_back b other in
    cc

text_same : (a b : Term) (rest others : List ℕ) → is_fit a ≡ true → is_fit b ≡ true → term_text a ++ 32 ∷ rest ≡ term_text b ++ 32 ∷ others → (a ≡ b) × (rest ≡ others)
text_same a b rest others fit other same =
    let both : ◌≡◌ {A = Option (List ℕ × List ℕ)} (Some (term_text a, rest)) (Some (term_text b, others)) = sym (term_ends a rest fit) ∙ ap (split_term Outside) same ∙ term_ends b others other in
    let parts : ◌≡◌ {A = List ℕ × List ℕ} (term_text a, rest) (term_text b, others) = cc in
    (term_same a b fit other (ap (λ p. p.0) parts), ap (λ p. p.1) parts)

pub triples_same : (line : List ℕ) (a b : Triple) → IsTripleLine line a → IsTripleLine line b → a ≡ b
triples_same line a b one other =
    let lines : joined (term_text a.subject) (term_text a.predicate) (term_text a.object) ≡ joined (term_text b.subject) (term_text b.predicate) (term_text b.object) =
    sym (line_joins a) ∙ sym one.text ∙ other.text ∙ line_joins b in
    let subjects = text_same a.subject b.subject (term_text a.predicate ++ 32 ∷ (term_text a.object ++ 32 ∷ 46 ∷ [])) (term_text b.predicate ++ 32 ∷ (term_text b.object ++ 32 ∷ 46 ∷ []))
    one.readable.subject.canonical.fit other.readable.subject.canonical.fit lines in
    let predicates = text_same a.predicate b.predicate (term_text a.object ++ 32 ∷ 46 ∷ []) (term_text b.object ++ 32 ∷ 46 ∷ [])
    one.readable.predicate.canonical.fit other.readable.predicate.canonical.fit subjects.1 in
    let objects = text_same a.object b.object (46 ∷ []) (46 ∷ []) one.readable.object.canonical.fit other.readable.object.canonical.fit predicates.1 in
    λ i. record { subject = subjects.0 i; predicate = predicates.0 i; object = objects.0 i }

-- ---- lines

grows_same : (old : Option Begun) (line : List ℕ) (first second : Begun) → Grows old line first → Grows old line second → first ≡ second
grows_same None line first second one other = one.1 ∙ ap opened (heads_same line first.head second.head one.0 other.0) ∙ sym other.1
grows_same (Some before) line first second one other = one.3 ∙ ap (with_triple before) (triples_same line one.0 other.0 one.1 other.1) ∙ sym other.3

takes_same : (old new other : Option Begun) (line : List ℕ) (found others : Option PatchRecord) → TakesLine old line new found → TakesLine old line other others → (new ≡ other) × (found ≡ others)
takes_same old new other line found others first second =
    let same : first.begun ≡ second.begun = grows_same old line first.begun second.begun first.grows second.grows in
    (first.left_is ∙ ap left same ∙ sym second.left_is, first.found_is ∙ ap given same ∙ sym second.found_is)

-- the first of some lines is taken, and the others are read behind it
pub record ReadsFirst (old : Option Begun) (line : List ℕ) (lines : List (List ℕ)) (items : List PatchRecord) (end : Option Begun) : Type 0 where
  pub new : Option Begun
  pub found : Option PatchRecord
  pub rest : List PatchRecord
  pub takes : TakesLine old line new found
  pub are : items ≡ option_to_list found ++ rest
  pub others : IsReadAs new lines rest end

abbrev ReadsParts : Option Begun → List (List ℕ) → List PatchRecord → Option Begun → Type 0
ReadsParts old [] items end = (items ≡ []) × (end ≡ old)
ReadsParts old (line ∷ lines) items end = ReadsFirst old line lines items end

pub read_parts : (old end : Option Begun) (lines : List (List ℕ)) (items : List PatchRecord) → IsReadAs old lines items end → ReadsParts old lines items end
read_parts old _ _ _ (nothing _) = (refl, refl)
read_parts old end _ items (within _ new _ line lines _ takes others) = record { new = new; found = None; rest = items; takes = takes; are = refl; others = others }
read_parts old end _ _ (last _ new _ line lines item items takes others) = record { new = new; found = Some item; rest = items; takes = takes; are = refl; others = others }

-- the same lines give the same records, and leave the same
pub read_same : (old end other : Option Begun) (lines : List (List ℕ)) (items others : List PatchRecord) → IsReadAs old lines items end → IsReadAs old lines others other → (items ≡ others) × (end ≡ other)
read_same old end other [] items others first second =
    let one = read_parts old end [] items first in
    let two = read_parts old other [] others second in
    (one.0 ∙ sym two.0, one.1 ∙ sym two.1)
read_same old end other (line ∷ lines) items others first second =
    let one = read_parts old end (line ∷ lines) items first in
    let two = read_parts old other (line ∷ lines) others second in
    let same = takes_same old one.new two.new line one.found two.found one.takes two.takes in
    let rest = read_same one.new end other lines one.rest two.rest one.others (subst (λ o. IsReadAs o lines two.rest other) (sym same.0) two.others) in
    (one.are ∙ ap (λ f. option_to_list f ++ one.rest) same.1 ∙ ap (λ l. option_to_list two.found ++ l) rest.0 ∙ sym two.are, rest.1)

pub reads_one_way : ReadsOneWay
reads_one_way lines items others end other first second = read_same None end other lines items others first second

-- ---- lines in two parts

read_before : (old new end : Option Begun) (line : List ℕ) (lines : List (List ℕ)) (found : Option PatchRecord) (items : List PatchRecord) → TakesLine old line new found → IsReadAs new lines items end →
    IsReadAs old (line ∷ lines) (option_to_list found ++ items) end
read_before old new end line lines None items takes others = within old new end line lines items takes others
read_before old new end line lines (Some item) items takes others = last old new end line lines item items takes others

-- lines are read up to a place, and on from there
pub record ReadsThrough (old : Option Begun) (first second : List (List ℕ)) (items : List PatchRecord) (end : Option Begun) : Type 0 where
  pub before : List PatchRecord
  pub middle : Option Begun
  pub behind : List PatchRecord
  pub first_read : IsReadAs old first before middle
  pub second_read : IsReadAs middle second behind end
  pub are : items ≡ before ++ behind

pub read_through : (old end : Option Begun) (first second : List (List ℕ)) (items : List PatchRecord) → IsReadAs old (first ++ second) items end → ReadsThrough old first second items end
read_through old end [] second items read = record { before = []; middle = old; behind = items; first_read = nothing old; second_read = read; are = refl }
read_through old end (line ∷ lines) second items read =
    let one = read_parts old end (line ∷ (lines ++ second)) items read in
    let rest = read_through one.new end lines second one.rest one.others in
    record {
      before = option_to_list one.found ++ rest.before;
      middle = rest.middle;
      behind = rest.behind;
      first_read = read_before old one.new rest.middle line lines one.found rest.before one.takes rest.first_read;
      second_read = rest.second_read;
      are = one.are ∙ ap (λ l. option_to_list one.found ++ l) rest.are ∙ sym (append_assoc (option_to_list one.found) rest.before rest.behind);
    }
