-- Two objects gone over in step, whose members have the same names in the same order.
use Rattle.std.proofs.Common.{◌≡◌, ℕ, false, true, ◌==◌, List, [], ◌∷◌, ◌++◌, map, Option, Some, None, refl, sym, ap, subst, ◌∙◌}
use Rattle.std.proofs.lemmas.List.{map-append}
use Rattle.sorted_sets.specs.Rising.{Each}
use Rattle.json_spell.specs.declared.json.Member.{Member}
use Rattle.json_differing.specs.declared.differing.Texts.{Texts}
use Rattle.json_differing.specs.declared.differing.Found.{Found}
use Rattle.json_differing.specs.declared.differing.Paired.{Paired}
use Rattle.json_spell.specs.Tree.{Tree, object, no_pairs}
use Rattle.json_spell.specs.View.{json_view, member_view, pairs_of}
use Rattle.json_spell.specs.Grammar.{is_ws}
use Rattle.json_spell.specs.Reading.{add_pair, after_byte, closed, list_by, member_by, members_at, read_map, skip, value_at}
use Rattle.json_spell.specs.Nesting.{MembersNest}
use Rattle.json_differing.specs.Readable.{HasMembers, HasMore}
use Rattle.json_differing.specs.Differing.{Differ, InTurn, Row}
use Rattle.json_differing.specs.Found.{MemberFound, MembersFound}
use Rattle.json_spell.proofs.ListSteps.{onto, so-closed, so-more}
use Rattle.json_spell.proofs.Nested.{members-push}
use Rattle.json_differing.proofs.Readables.{open_has}
use Rattle.json_differing.proofs.SpelledLists.{pairs-onto}
use Rattle.json_spell.proofs.ValueSteps.{members_at-is}

-- what rows give each object
abbrev pub olds_of : List Row → List (List ℕ × Tree)
olds_of rows = map (λ (r : Row). (r.name, r.old)) rows

abbrev pub news_of : List Row → List (List ℕ × Tree)
news_of rows = map (λ (r : Row). (r.name, r.new)) rows

abbrev pub gones_of : List Row → List (List ℕ × Tree)
gones_of rows = map (λ (r : Row). (r.name, r.gone)) rows

abbrev pub comes_of : List Row → List (List ℕ × Tree)
comes_of rows = map (λ (r : Row). (r.name, r.come)) rows

abbrev pub AreRows : ℕ → List Row → Type 0
AreRows depth rows = Each (λ (r : Row). Differ depth r.old r.new r.gone r.come) rows

-- the members so far, and what is left of both texts
pub record Turns (depth levels : ℕ) (inside left : Texts) (olds news : List Member) : Type 0 where
  pub rows : List Row
  pub old_same : read_map (onto add_pair (olds_of rows)) (members_at left.old.now) ≡ members_at inside.old.now
  pub new_same : read_map (onto add_pair (news_of rows)) (members_at left.new.now) ≡ members_at inside.new.now
  pub gone_is : map member_view olds ≡ gones_of rows
  pub come_is : map member_view news ≡ comes_of rows
  pub holds : AreRows depth rows
  pub nest : MembersNest levels (pairs_of (news_of rows))

each-push : {A : Type 0} (P : A → Type 0) (xs : List A) (x : A) → Each P xs → P x → Each P (xs ++ x ∷ [])
each-push P [] x h p = (p, tt)
each-push P (y ∷ xs) x h p = (h.0, each-push P xs x h.1 p)

nothing-before : {L : Type 0} (o : Option (L × List ℕ)) → read_map (λ (l : L). l) o ≡ o
nothing-before None = refl
nothing-before (Some p) = refl

turns_none : (depth levels : ℕ) (inside : Texts) → Turns depth levels inside inside [] []
turns_none depth levels inside =
    record {
      rows = [];
      old_same = nothing-before (members_at inside.old.now);
      new_same = nothing-before (members_at inside.new.now);
      gone_is = refl;
      come_is = refl;
      holds = tt;
      nest = tt;
    }

-- before the first member
pub turns_begin : (depth levels : ℕ) (inside : Texts) → after_byte 0x7D (skip is_ws inside.old.now) ≡ None → HasMembers levels inside.old.now
    → Turns depth levels inside inside [] [] × HasMore levels inside.old.now
turns_begin depth levels inside more has = (turns_none depth levels inside, open_has levels inside.old.now more has)

-- a list that doesn't close at once
pub open-list : (s : List ℕ) → after_byte 0x7D (skip is_ws s) ≡ None → list_by no_pairs 0x7D members_at s ≡ members_at s
open-list s e = ap (closed no_pairs (members_at s)) e

module _ (depth levels : ℕ) (inside left : Texts) (olds news : List Member) (paired : Paired) (h : Turns depth levels inside left olds news) (f : MemberFound depth levels left paired) where
  abbrev row : Row
  row = record { name = f.name; old = f.old; new = f.new; gone = f.gone; come = f.come }

  abbrev rows : List Row
  rows = h.rows ++ row ∷ []

  gones : map member_view (olds ++ paired.old ∷ []) ≡ gones_of rows
  gones =
      map-append member_view olds (paired.old ∷ []) ∙ ap (λ l. l ++ member_view paired.old ∷ []) h.gone_is ∙ ap (λ v. gones_of h.rows ++ v ∷ []) f.gone_is
      ∙ sym (map-append (λ (r : Row). (r.name, r.gone)) h.rows (row ∷ []))

  comes : map member_view (news ++ paired.new ∷ []) ≡ comes_of rows
  comes =
      map-append member_view news (paired.new ∷ []) ∙ ap (λ l. l ++ member_view paired.new ∷ []) h.come_is ∙ ap (λ v. comes_of h.rows ++ v ∷ []) f.come_is
      ∙ sym (map-append (λ (r : Row). (r.name, r.come)) h.rows (row ∷ []))

  old_rows : olds_of rows ≡ olds_of h.rows ++ (f.name, f.old) ∷ []
  old_rows = map-append (λ (r : Row). (r.name, r.old)) h.rows (row ∷ [])

  new_rows : news_of rows ≡ news_of h.rows ++ (f.name, f.new) ∷ []
  new_rows = map-append (λ (r : Row). (r.name, r.new)) h.rows (row ∷ [])

  nests : MembersNest levels (pairs_of (news_of rows))
  nests = subst (λ (l : List (List ℕ × Tree)). MembersNest levels (pairs_of l)) (sym new_rows) (members-push levels (news_of h.rows) (f.name, f.new) h.nest f.nests)

  -- a separator follows both
  pub turns_more : (byte : ℕ) (rests : Texts) (olds' news' : List Member) → paired.rests.old.now ≡ byte ∷ rests.old.now → paired.rests.new.now ≡ byte ∷ rests.new.now
      → (byte == 0x2C) ≡ true → olds' ≡ olds ++ paired.old ∷ [] → news' ≡ news ++ paired.new ∷ [] → Turns depth levels inside rests olds' news'
  turns_more byte rests olds' news' old_next new_next is olds_are news_are =
      record {
        rows = rows;
        old_same = ap (λ l. read_map (onto add_pair l) (members_at rests.old.now)) old_rows
            ∙ so-more (member_by value_at) add_pair no_pairs 0x7D members_at members_at-is (olds_of h.rows) left.old.now inside.old.now (f.name, f.old) paired.rests.old.now byte rests.old.now h.old_same f.old_read old_next is;
        new_same = ap (λ l. read_map (onto add_pair l) (members_at rests.new.now)) new_rows
            ∙ so-more (member_by value_at) add_pair no_pairs 0x7D members_at members_at-is (news_of h.rows) left.new.now inside.new.now (f.name, f.new) paired.rests.new.now byte rests.new.now h.new_same f.new_read new_next is;
        gone_is = ap (map member_view) olds_are ∙ gones;
        come_is = ap (map member_view) news_are ∙ comes;
        holds = each-push (λ (r : Row). Differ depth r.old r.new r.gone r.come) h.rows row h.holds f.differ;
        nest = nests;
      }

  -- the closing brace follows both
  pub turns_closed : (byte : ℕ) (found : Found) → paired.rests.old.now ≡ byte ∷ found.rests.old.now → paired.rests.new.now ≡ byte ∷ found.rests.new.now
      → (byte == 0x2C) ≡ false → (byte == 0x7D) ≡ true → after_byte 0x7D (skip is_ws inside.old.now) ≡ None → after_byte 0x7D (skip is_ws inside.new.now) ≡ None
      → json_view found.old ≡ object (pairs_of (map member_view (olds ++ paired.old ∷ []))) → json_view found.new ≡ object (pairs_of (map member_view (news ++ paired.new ∷ [])))
      → MembersFound (InTurn (Differ depth)) levels inside found
  turns_closed byte found old_next new_next no_separator is old_open new_open gone_is come_is =
      record {
        olds = pairs_of (olds_of rows);
        news = pairs_of (news_of rows);
        gones = pairs_of (gones_of rows);
        comes = pairs_of (comes_of rows);
        old_read = open-list inside.old.now old_open
            ∙ so-closed (member_by value_at) add_pair no_pairs 0x7D members_at members_at-is (olds_of h.rows) left.old.now inside.old.now (f.name, f.old) paired.rests.old.now byte found.rests.old.now h.old_same f.old_read old_next no_separator is
            ∙ ap (λ l. Some (l, found.rests.old.now)) (sym (pairs-onto (olds_of rows) ∙ ap (λ l. onto add_pair l no_pairs) old_rows));
        new_read = open-list inside.new.now new_open
            ∙ so-closed (member_by value_at) add_pair no_pairs 0x7D members_at members_at-is (news_of h.rows) left.new.now inside.new.now (f.name, f.new) paired.rests.new.now byte found.rests.new.now h.new_same f.new_read new_next no_separator is
            ∙ ap (λ l. Some (l, found.rests.new.now)) (sym (pairs-onto (news_of rows) ∙ ap (λ l. onto add_pair l no_pairs) new_rows));
        gone_is = gone_is ∙ ap (λ l. object (pairs_of l)) gones;
        come_is = come_is ∙ ap (λ l. object (pairs_of l)) comes;
        holds = record {
          rows = rows;
          old_is = refl;
          new_is = refl;
          gone_is = refl;
          come_is = refl;
          holds = each-push (λ (r : Row). Differ depth r.old r.new r.gone r.come) h.rows row h.holds f.differ;
        };
        nests = nests;
      }
