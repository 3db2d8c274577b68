-- Steps that append bytes one after the other. The first lemma is that of `base`, for the crates that name it here.
use Rattle.std.proofs.Common.{◌≡◌, ℕ, ◌+◌, ◌<◌, List, [], ◌∷◌, ◌++◌, Result, Ok, Err, is_err, true, length, take, get_or, sym, ap, ◌∙◌, subst, append_assoc, append-nil}
use Rattle.std.proofs.lemmas.Bool.{false≢true}
use Rattle.std.proofs.lemmas.List.{take_more}
use Rattle.std.proofs.lemmas.List.Concat.{flat_map-append}
use Rattle.base.specs.Append.{Appends}
use Rattle.base.specs.declared.memory.OutOfMemory.{OutOfMemory}
use Rattle.rdf_term.specs.Text.{escaped, escaped_byte, quoted}
pub use Rattle.base.proofs.Appending.{still_front}

-- what stood there before a step is still there if memory is refused to the next one
pub still_old : (old mid new xs : List ℕ) → mid ≡ old ++ xs → take (length mid) new ≡ mid → take (length old) new ≡ old
still_old old mid new xs first next = still_front old xs new (rw (← first) next)

-- one step that appends after another
pub appends_on : (old mid new xs ys : List ℕ) (r : Result (Unit {0}) OutOfMemory) → mid ≡ old ++ xs → Appends mid new ys r → Appends old new (xs ++ ys) r
appends_on old mid new xs ys (Ok done) first next = next ∙ ap (λ l. l ++ ys) first ∙ append_assoc old xs ys
appends_on old mid new xs ys (Err refused) first next = still_old old mid new xs first next

-- the same of what a call answers that gives up there
pub refused_on : (old mid new xs all : List ℕ) (r : Result (Unit {0}) OutOfMemory) → is_err r ≡ true → mid ≡ old ++ xs → take (length mid) new ≡ mid → Appends old new all r
refused_on old mid new xs all (Ok done) refused first next = absurd (false≢true refused)
refused_on old mid new xs all (Err fault) refused first next = still_old old mid new xs first next

-- what appends after a text in its quotes
pub behind_quoted : (old mid new text rest : List ℕ) (r : Result (Unit {0}) OutOfMemory) → mid ≡ old ++ quoted text [] → Appends mid new rest r → Appends old new (quoted text rest) r
behind_quoted old mid new text rest r first next =
    subst (λ l. Appends old new (34 ∷ l) r) (append_assoc (escaped text) (34 ∷ []) rest) (appends_on old mid new (quoted text []) rest r first next)

-- one byte more of a literal's text
pub escaped_more : (old mid new text : List ℕ) (i : ℕ) → i < length text → mid ≡ old ++ escaped (take i text) → new ≡ mid ++ escaped_byte (get_or text i 0) → new ≡ old ++ escaped (take (i + 1) text)
escaped_more old mid new text i within first next =
    let byte = get_or text i 0 in
    let more : escaped (take (i + 1) text) ≡ escaped (take i text) ++ escaped_byte byte =
    ap escaped (take_more text i 0 within) ∙ flat_map-append escaped_byte (take i text) (byte ∷ []) ∙ ap (λ l. escaped (take i text) ++ l) (append-nil (escaped_byte byte)) in
    next ∙ ap (λ l. l ++ escaped_byte byte) first ∙ append_assoc old (escaped (take i text)) (escaped_byte byte) ∙ ap (λ l. old ++ l) (sym more)
