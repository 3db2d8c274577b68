-- The document of the second page, by what both pages have of their own.
use Rattle.std.proofs.Common.{◌≡◌, ℕ, List, [], Option, Some, None, inl, inr, refl, sym, ap, subst, ◌∙◌}
use Rattle.std.specs.Prelude.{codes}
use Rattle.sorted_sets.specs.Merging.{Changes, Merges}
use Rattle.sorted_sets.proofs.Merged.{merges-none}
use Rattle.json_spell.specs.Tree.{Tree, member_of}
use Rattle.json_differing.specs.Differing.{Differ}
use Rattle.json_spell.proofs.Opened.{some_is}
use Rattle.entity_model.specs.declared.id.IdKind.{IdKind}
use Rattle.entity_model.specs.declared.id.IdKind.TheVariants.{P, Q, L}
use Rattle.entity_model.specs.declared.id.EntityId.{EntityId}
use Rattle.entity_model.specs.declared.value.Tagged.{Tagged}
use Rattle.entity_model.specs.declared.entity.Entity.{Entity}
use Rattle.entity_model.specs.declared.entity.Link.{Link}
use Rattle.entity_model.specs.declared.document.Document.TheVariants.{Entity as AnEntity}
use Rattle.entity_model.specs.Changes.{EntityChanges}
use Rattle.entity_json.specs.Joined.{One}
use Rattle.entity_json.specs.Leaves.{◌>>=◌, optional, text_at, text_of}
use Rattle.entity_json.specs.Links.{IsLink}
use Rattle.entity_json.specs.Members.{HasOptionalText}
use Rattle.entity_json.specs.Pages.{HasDatatype, HasLinks, IsDocument}
use Rattle.entity_json.specs.Reading.Links.{link_step}
use Rattle.entity_json.specs.Reading.Statements.{statements_step}
use Rattle.entity_json.specs.Reading.Terms.{aliases_step, label_step}
use Rattle.entity_json.specs.Tagged.{IsTagged}
use Rattle.entity_json.specs.Properties.{UnderProperty}
use Rattle.entity_json.proofs.AgreeLeaves.{optional_text_at-complete}
use Rattle.entity_json.proofs.AgreePages.{link_walks}
use Rattle.entity_json.proofs.AgreeStatements.{IsStatementIn, statements_walk}
use Rattle.entity_json.proofs.AgreeTagged.{AreAliasesUnder, aliases_walk, label_walks}
use Rattle.entity_documents.proofs.ChangedMaps.{MemberDiffers, member_differs, new_list, statements_changed}

-- texts under a name are never left out
pub text_same : (name : List ℕ) (old new gone come : Tree) → MemberDiffers name old new gone come → (text_at name gone ≡ text_at name old) × (text_at name come ≡ text_at name new)
text_same name old new gone come (inl e) = (ap (λ m. m >>= text_of) e.0, ap (λ m. m >>= text_of) e.1)
text_same name old new gone come (inr m) = (
  ap (λ o. o >>= text_of) m.gone_at ∙ sym (ap (λ o. o >>= text_of) m.old_at),
  ap (λ o. o >>= text_of) m.come_at ∙ sym (ap (λ o. o >>= text_of) m.new_at),
)

same_datatype : (kind : IdKind) (old gone : Tree) (a b : Option (List ℕ)) → text_at (codes "datatype") gone ≡ text_at (codes "datatype") old → HasDatatype kind old a → HasDatatype kind gone b → b ≡ a
same_datatype P old gone None b e h k = absurd h
same_datatype P old gone (Some x) None e h k = absurd k
same_datatype P old gone (Some x) (Some y) e h k = sym k ∙ e ∙ h
same_datatype Q old gone a b e h k = k ∙ sym h
same_datatype L old gone a b e h k = absurd h

moved_datatype : (kind : IdKind) (new come : Tree) (a : Option (List ℕ)) → text_at (codes "datatype") come ≡ text_at (codes "datatype") new → HasDatatype kind come a → HasDatatype kind new a
moved_datatype P new come None e h = h
moved_datatype P new come (Some x) e h = sym e ∙ h
moved_datatype Q new come a e h = h
moved_datatype L new come a e h = h

same_optional : (name : List ℕ) (old new gone come : Tree) (a b : Option (List ℕ)) → MemberDiffers name old new gone come → HasOptionalText name old a → HasOptionalText name gone b → b ≡ a
same_optional name old new gone come a b (inl e) h k =
    some_is (sym (optional_text_at-complete name gone b k) ∙ ap (optional text_of) e.0 ∙ optional_text_at-complete name old a h)
same_optional name old new gone come a b (inr m) h k =
    let none = sym (optional_text_at-complete name old a h) ∙ ap (optional text_of) m.old_at in absurd cc

moved_optional : (name : List ℕ) (old new gone come : Tree) (a : Option (List ℕ)) → MemberDiffers name old new gone come → HasOptionalText name come a → HasOptionalText name new a
moved_optional name old new gone come None (inl e) h = sym e.1 ∙ h
moved_optional name old new gone come None (inr m) h = let none = sym h ∙ m.come_at in absurd cc
moved_optional name old new gone come (Some x) d h = sym (text_same name old new gone come d).1 ∙ h

moved_none : (name : List ℕ) (old new gone come : Tree) → MemberDiffers name old new gone come → member_of name come ≡ None → member_of name new ≡ None
moved_none name old new gone come (inl e) h = sym e.1 ∙ h
moved_none name old new gone come (inr m) h = let none = sym h ∙ m.come_at in absurd cc

-- links, which an item alone has
record NewLinks (kind : IdKind) (new : Tree) (olds gones comes : List Link) : Type 0 where
  news : List Link
  has_links : HasLinks kind new news
  changes : Changes olds news gones comes

none_changed : (olds gones comes : List Link) → olds ≡ [] → gones ≡ [] → comes ≡ [] → Changes olds [] gones comes
none_changed olds gones comes a b c =
    record {
      common = [];
      was = subst (λ (l : List Link). Merges [] gones l) (b ∙ sym a) (merges-none gones);
      is = (refl, c);
    }

new_links : (kind : IdKind) (old new gone come : Tree) (olds gones comes : List Link) → Differ 1 old new gone come
    → HasLinks kind old olds → HasLinks kind gone gones → HasLinks kind come comes → NewLinks kind new olds gones comes
new_links P old new gone come olds gones comes d h k l = record { news = []; has_links = refl; changes = none_changed olds gones comes h k l }
new_links L old new gone come olds gones comes d h k l = record { news = []; has_links = refl; changes = none_changed olds gones comes h k l }
new_links Q old new gone come olds gones comes d h k l =
    let n =
    new_list link_step (One (λ member x. IsLink member.1 x)) link_walks (codes "sitelinks") old new gone come (member_differs (codes "sitelinks") old new gone come d) olds gones comes h k l in
    record { news = n.news; has_links = n.in_map; changes = record { common = n.common; was = n.was; is = n.is } }

abbrev IsLabel : List ℕ × Tree → List Tagged → Type 0
IsLabel = One (λ member x. IsTagged (codes "value") member.1 x)

-- the document of the second page
pub record NewEntity (id : EntityId) (new : Tree) (old gone come : Entity) : Type 0 where
  pub entity : Entity
  pub holds : IsDocument new id (AnEntity entity)
  pub changes : EntityChanges old entity gone come

pub new_entity : (id : EntityId) (old new gone come : Tree) (e g c : Entity) → Differ 1 old new gone come
    → IsDocument old id (AnEntity e) → IsDocument gone id (AnEntity g) → IsDocument come id (AnEntity c) → NewEntity id new e g c
new_entity id old new gone come e g c d h k l =
    let at : (name : List ℕ) → MemberDiffers name old new gone come = λ name. member_differs name old new gone come d in
    let texts : (name : List ℕ) → (text_at name gone ≡ text_at name old) × (text_at name come ≡ text_at name new) = λ name. text_same name old new gone come (at name) in
    let e_kind : e.id.kind ≡ c.id.kind = ap (λ (x : EntityId). x.kind) (sym h.2 ∙ l.2) in
    let g_kind : g.id.kind ≡ c.id.kind = ap (λ (x : EntityId). x.kind) (sym k.2 ∙ l.2) in
    let old_datatype = subst (λ (q : IdKind). HasDatatype q old e.datatype) e_kind h.1.datatype in
    let gone_datatype = subst (λ (q : IdKind). HasDatatype q gone g.datatype) g_kind k.1.datatype in
    let old_links = subst (λ (q : IdKind). HasLinks q old e.links) e_kind h.1.links in
    let gone_links = subst (λ (q : IdKind). HasLinks q gone g.links) g_kind k.1.links in
    let new_datatype : HasDatatype c.id.kind new c.datatype = moved_datatype c.id.kind new come c.datatype (texts (codes "datatype")).1 l.1.datatype in
    let labels = new_list label_step IsLabel label_walks (codes "labels") old new gone come (at (codes "labels")) e.labels g.labels c.labels h.1.labels k.1.labels l.1.labels in
    let descriptions =
    new_list label_step IsLabel label_walks (codes "descriptions") old new gone come (at (codes "descriptions")) e.descriptions g.descriptions c.descriptions
    h.1.descriptions k.1.descriptions l.1.descriptions in
    let aliases = new_list aliases_step AreAliasesUnder aliases_walk (codes "aliases") old new gone come (at (codes "aliases")) e.aliases g.aliases c.aliases h.1.aliases k.1.aliases l.1.aliases in
    let statements =
    new_list statements_step (UnderProperty IsStatementIn) statements_walk (codes "claims") old new gone come (at (codes "claims")) e.statements g.statements c.statements
    h.1.statements k.1.statements l.1.statements in
    let links = new_links c.id.kind old new gone come e.links g.links c.links d old_links gone_links l.1.links in
    record {
      entity = record {
        id = c.id;
        datatype = c.datatype;
        modified = c.modified;
        labels = labels.news;
        descriptions = descriptions.news;
        aliases = aliases.news;
        statements = statements.news;
        links = links.news;
      };
      holds = (
        moved_none (codes "redirect") old new gone come (at (codes "redirect")) l.0,
        record {
          type = sym (texts (codes "type")).1 ∙ l.1.type;
          id = record { is_id = l.1.id.is_id; text = sym (texts (codes "id")).1 ∙ l.1.id.text };
          datatype = new_datatype;
          modified = moved_optional (codes "modified") old new gone come c.modified (at (codes "modified")) l.1.modified;
          labels = labels.in_map;
          descriptions = descriptions.in_map;
          aliases = aliases.in_map;
          statements = statements.in_map;
          links = links.has_links;
        },
        l.2,
      );
      changes = record {
        old_datatype = same_datatype c.id.kind old gone e.datatype g.datatype (texts (codes "datatype")).0 old_datatype gone_datatype;
        new_datatype = refl;
        old_modified = same_optional (codes "modified") old new gone come e.modified g.modified (at (codes "modified")) h.1.modified k.1.modified;
        new_modified = refl;
        labels = record { common = labels.common; was = labels.was; is = labels.is };
        descriptions = record { common = descriptions.common; was = descriptions.was; is = descriptions.is };
        aliases = record { common = aliases.common; was = aliases.was; is = aliases.is };
        statements = statements_changed (codes "claims") new e.statements g.statements c.statements statements;
        links = links.changes;
      };
    }

-- a document that is given for its own, and another one
own_changed : (xs ys : List Tagged) → Changes xs ys xs ys
own_changed xs ys = record { common = []; was = merges-none xs; is = merges-none ys }

pub unchanged : (e c : Entity) → EntityChanges e c e c
unchanged e c =
    record {
      old_datatype = refl;
      new_datatype = refl;
      old_modified = refl;
      new_modified = refl;
      labels = own_changed e.labels c.labels;
      descriptions = own_changed e.descriptions c.descriptions;
      aliases = own_changed e.aliases c.aliases;
      statements = record {
        common = [];
        was = merges-none e.statements;
        is = merges-none c.statements;
        from_gone = λ s other here there same. here;
        from_come = λ s other here there same. here;
      };
      links = record { common = []; was = merges-none e.links; is = merges-none c.links };
    }
