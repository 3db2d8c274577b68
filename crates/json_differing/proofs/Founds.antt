-- What the readers of two texts find, by what they read.
use Rattle.std.proofs.Common.{◌≡◌, ℕ, suc, All, List, [], ◌∷◌, map, Some, option_map, inl, inr, refl, sym, ap, subst, ◌∙◌}
use Rattle.sorted_sets.specs.Merging.{Changes}
use Rattle.json_spell.specs.declared.json.Member.{Member}
use Rattle.json_differing.specs.declared.spelled.Spelled.{Spelled}
use Rattle.json_differing.specs.declared.differing.Texts.{Texts}
use Rattle.json_differing.specs.declared.differing.Found.{Found}
use Rattle.json_differing.specs.declared.differing.Named.{Named}
use Rattle.json_differing.specs.declared.differing.Paired.{Paired}
use Rattle.json_spell.specs.Tree.{Tree, object, Pairs, no_pairs}
use Rattle.json_spell.specs.View.{json_view, member_view, pairs_of}
use Rattle.json_spell.specs.Grammar.{is_ws}
use Rattle.json_spell.specs.Reading.{key_at, list_by, member_by, members_at, read_map, skip, spaced, value_at}
use Rattle.json_spell.specs.Nesting.{Nests}
use Rattle.json_differing.specs.Differing.{AreApart, AreLess, Inside}
use Rattle.json_differing.specs.Found.{AreDiffering, AreFound, AreNamed, MemberFound, MembersFound}
use Rattle.json_differing.specs.Readable.{HasMember, HasMembers, HasValue}
use Rattle.json_differing.specs.Spelled.{SpelledNests, spelled_view}
use Rattle.json_spell.proofs.Complete.{text-sound}
use Rattle.json_spell.proofs.Levels.{reads_low}
use Rattle.json_differing.proofs.Readables.{member_has, object_has}
use Rattle.json_differing.proofs.SpelledLists.{members_nest}
use Rattle.json_spell.proofs.ValueSteps.{member-key, value_at-object}

-- two maps, each less the members that both have
pub less_found : (levels : ℕ) (inside : Texts) (found : Found) (olds news own_old own_new : List Spelled) (gone come : List Member)
    → list_by no_pairs 0x7D members_at inside.old.now ≡ Some (pairs_of (map spelled_view olds), found.rests.old.now)
    → list_by no_pairs 0x7D members_at inside.new.now ≡ Some (pairs_of (map spelled_view news), found.rests.new.now)
    → json_view found.old ≡ object (pairs_of (map member_view gone)) → json_view found.new ≡ object (pairs_of (map member_view come))
    → AreApart (map spelled_view olds) → AreApart (map spelled_view news)
    → Changes (map spelled_view olds) (map spelled_view news) (map spelled_view own_old) (map spelled_view own_new)
    → map member_view gone ≡ map spelled_view own_old → map member_view come ≡ map spelled_view own_new → All (SpelledNests levels) news
    → MembersFound AreLess levels inside found
less_found levels inside found olds news own_old own_new gone come old_read new_read gone_is come_is old_apart new_apart changes gone_read come_read nest =
    record {
      olds = pairs_of (map spelled_view olds);
      news = pairs_of (map spelled_view news);
      gones = pairs_of (map member_view gone);
      comes = pairs_of (map member_view come);
      old_read = old_read;
      new_read = new_read;
      gone_is = gone_is;
      come_is = come_is;
      holds = record {
        old = map spelled_view olds;
        new = map spelled_view news;
        gone = map spelled_view own_old;
        come = map spelled_view own_new;
        old_is = refl;
        new_is = refl;
        gone_is = ap pairs_of gone_read;
        come_is = ap pairs_of come_read;
        changes = changes;
        old_apart = old_apart;
        new_apart = new_apart;
      };
      nests = members_nest levels news nest;
    }

-- two values whole
pub whole_found : (depth levels : ℕ) (texts : Texts) (found : Found) → spaced value_at texts.old.now ≡ Some (json_view found.old, found.rests.old.now)
    → spaced value_at texts.new.now ≡ Some (json_view found.new, found.rests.new.now) → Nests levels (json_view found.new) → AreFound depth levels texts found
whole_found depth levels texts found old_read new_read nests =
    record {
      old = json_view found.old;
      new = json_view found.new;
      old_read = old_read;
      new_read = new_read;
      differ = inl (refl, refl);
      nests = nests;
    }

-- an object, by its members
object-read : (s inside : List ℕ) (ps : Pairs) (r : List ℕ) → skip is_ws s ≡ 0x7B ∷ inside → list_by no_pairs 0x7D members_at inside ≡ Some (ps, r) → spaced value_at s ≡ Some (object ps, skip is_ws r)
object-read s inside ps r opened read =
    let at : value_at (skip is_ws s) ≡ Some (object ps, r) = value_at-object (skip is_ws s) 0x7B inside opened refl ∙ ap (read_map object) read in
    ap (option_map (λ (p : Tree × List ℕ). (p.0, skip is_ws p.1))) at

-- two objects, by what their members have of their own; `ended` is what was found, without the white space behind it
pub object_found : (depth levels n : ℕ) (texts inside : Texts) (found ended : Found) → levels ≡ suc n → skip is_ws texts.old.now ≡ 0x7B ∷ inside.old.now → skip is_ws texts.new.now ≡ 0x7B ∷ inside.new.now
    → (HasMembers n inside.old.now → MembersFound (Inside depth) n inside found) → json_view ended.old ≡ json_view found.old → json_view ended.new ≡ json_view found.new
    → ended.rests.old.now ≡ skip is_ws found.rests.old.now → ended.rests.new.now ≡ skip is_ws found.rests.new.now → HasValue levels texts.old.now → AreFound depth levels texts ended
object_found depth levels n texts inside found ended deeper old_opened new_opened told old_is new_is old_rest new_rest has =
    let f = told (object_has n texts.old.now inside.old.now old_opened (subst (λ (m : ℕ). HasValue m texts.old.now) deeper has)) in
    record {
      old = object f.olds;
      new = object f.news;
      old_read = object-read texts.old.now inside.old.now f.olds found.rests.old.now old_opened f.old_read ∙ ap (λ q. Some (object f.olds, q)) (sym old_rest);
      new_read = object-read texts.new.now inside.new.now f.news found.rests.new.now new_opened f.new_read ∙ ap (λ q. Some (object f.news, q)) (sym new_rest);
      differ = inr (record {
        olds = f.olds;
        news = f.news;
        gones = f.gones;
        comes = f.comes;
        old_is = refl;
        new_is = refl;
        gone_is = old_is ∙ f.gone_is;
        come_is = new_is ∙ f.come_is;
        holds = f.holds;
      });
      nests = subst (λ (m : ℕ). Nests m (object f.news)) (sym deeper) f.nests;
    }

-- a member, by its name with the colon and its value
member-read : (s rest q name : List ℕ) (t : Tree) → key_at s ≡ Some (name, rest) → spaced value_at rest ≡ Some (t, q) → member_by value_at s ≡ Some ((name, t), q)
member-read s rest q name t key read = member-key value_at s name rest key ∙ ap (read_map (λ (u : Tree). (name, u))) read

pub member_found : (depth levels : ℕ) (texts : Texts) (named : Named) (found : Found) (paired : Paired) → AreNamed texts named → (HasValue levels named.rests.old.now → AreFound depth levels named.rests found)
    → member_view paired.old ≡ (named.name.now, json_view found.old) → member_view paired.new ≡ (named.name.now, json_view found.new)
    → paired.rests.old.now ≡ found.rests.old.now → paired.rests.new.now ≡ found.rests.new.now → HasMember levels texts.old.now → MemberFound depth levels texts paired
member_found depth levels texts named found paired n told old_is new_is old_rest new_rest has =
    let f = told (member_has levels texts.old.now named.rests.old.now named.name.now n.old_key has) in
    record {
      name = named.name.now;
      old = f.old;
      new = f.new;
      gone = json_view found.old;
      come = json_view found.new;
      old_read = member-read texts.old.now named.rests.old.now found.rests.old.now named.name.now f.old n.old_key f.old_read
          ∙ ap (λ q. Some ((named.name.now, f.old), q)) (sym old_rest);
      new_read = member-read texts.new.now named.rests.new.now found.rests.new.now named.name.now f.new n.new_key f.new_read
          ∙ ap (λ q. Some ((named.name.now, f.new), q)) (sym new_rest);
      gone_is = old_is;
      come_is = new_is;
      differ = f.differ;
      nests = f.nests;
    }

-- two whole texts
pub texts_differ : (depth : ℕ) (texts : Texts) (found : Found) → AreFound depth 64 texts found → found.rests.old.now ≡ [] → found.rests.new.now ≡ []
    → AreDiffering depth texts.old.now texts.new.now (record { old = found.old; new = found.new })
texts_differ depth texts found f old_ends new_ends =
    let old_reads = text-sound texts.old.now f.old (f.old_read ∙ ap (λ q. Some (f.old, q)) old_ends) in
    let new_reads = text-sound texts.new.now f.new (f.new_read ∙ ap (λ q. Some (f.new, q)) new_ends) in
    record {
      old = f.old;
      new = f.new;
      old_reads = old_reads;
      new_reads = new_reads;
      not_deep = reads_low texts.new.now f.new new_reads f.nests;
      differ = f.differ;
    }
