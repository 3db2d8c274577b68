-- The site that is looked up is the one that the rules name.
use Rattle.std.proofs.Common.{◌≡◌, ℕ, ◌+◌, ◌-◌, ◌≤◌, ◌⊎◌, inl, inr, Bool, true, false, cond, List, [], ◌∷◌, ◌++◌, length, drop, take, Option, Some, None, IfSome, refl, subst, sym, ap, ◌∙◌, arith, lit≤}
use Rattle.std.proofs.Math.Seq.{drop-append-add}
use Rattle.std.proofs.lemmas.List.{append_cancel_right, length-append, take-append-drop}
use Rattle.std.proofs.lemmas.Slice.Eq.{bytes_eq-Decides}
use Rattle.std.specs.Prelude.{codes}
use Rattle.std.specs.Str.{bytes_eq}
use Rattle.sorted_sets.specs.Rising.{In}
use Rattle.sitelinks.specs.declared.project.Project.{Project}
use Rattle.sitelinks.specs.declared.project.Project.TheVariants.{Wikibooks, Wikinews, Wikiquote, Wikisource, Wikiversity, Wikivoyage, Wiktionary, Wikipedia}
use Rattle.sitelinks.specs.declared.sites.Site.{Site}
use Rattle.sitelinks.specs.declared.special.SpecialSite.{SpecialSite}
use Rattle.sitelinks.specs.Language.{is_language}
use Rattle.sitelinks.specs.Names.{NamesSite, IsNamed}
use Rattle.sitelinks.specs.Names.NamesSite.{special as by_special, coded as by_code}
use Rattle.sitelinks.specs.Project.{coded, coded_or, first_coded, project_suffix, projects}
use Rattle.sitelinks.specs.Site.{coded_site, language_of, site_in, site_of, special_or, special_site}
use Rattle.sitelinks.specs.Special.{special_of}
use Rattle.sitelinks.proofs.Suffixes.{drop-behind}

-- what the last two letters of an id say of its project
abbrev project_of_end : List ℕ → Project
project_of_end end =
    cond (bytes_eq end (codes "ks")) Wikibooks
    (cond (bytes_eq end (codes "ws")) Wikinews
    (cond (bytes_eq end (codes "te")) Wikiquote
    (cond (bytes_eq end (codes "ce")) Wikisource
    (cond (bytes_eq end (codes "ty")) Wikiversity
    (cond (bytes_eq end (codes "ge")) Wikivoyage
    (cond (bytes_eq end (codes "ry")) Wiktionary Wikipedia))))))

abbrev end_of : List ℕ → List ℕ
end_of text = drop (length text - 2) text

suffix_end : (project : Project) → (2 ≤ length (project_suffix project)) × (project_of_end (end_of (project_suffix project)) ≡ project)
unfolding project_suffix
suffix_end Wikibooks = (lit≤ tt, refl)
suffix_end Wikinews = (lit≤ tt, refl)
suffix_end Wikiquote = (lit≤ tt, refl)
suffix_end Wikisource = (lit≤ tt, refl)
suffix_end Wikiversity = (lit≤ tt, refl)
suffix_end Wikivoyage = (lit≤ tt, refl)
suffix_end Wiktionary = (lit≤ tt, refl)
suffix_end Wikipedia = (lit≤ tt, refl)

end-append : (front back : List ℕ) → 2 ≤ length back → end_of (front ++ back) ≡ end_of back
end-append front back h =
    let n : length (front ++ back) - 2 ≡ length front + (length back - 2) = omega (arith, length-append front back) in
    ap (λ (k : ℕ). drop k (front ++ back)) n ∙ drop-append-add front back (length back - 2)

project-is : (id code : List ℕ) (project : Project) → id ≡ code ++ project_suffix project → project_of_end (end_of id) ≡ project
project-is id code project e =
    let s = suffix_end project in
    ap (λ (t : List ℕ). project_of_end (end_of t)) e ∙ ap project_of_end (end-append code (project_suffix project) s.0) ∙ s.1

-- the code that an id is taken apart into stands before the project's suffix
sound : (ps : List Project) (id : List ℕ) → IfSome (first_coded ps id) (λ p. id ≡ p.0 ++ project_suffix p.1)
sound [] id = tt
sound (project ∷ more) id = by (bytes_eq tail suffix) refl (sound more id)
  where
    suffix : List ℕ
    suffix = project_suffix project

    front : List ℕ
    front = take (length id - length suffix) id

    tail : List ℕ
    tail = drop (length id - length suffix) id

    by : (b : Bool) → bytes_eq tail suffix ≡ b → IfSome (first_coded more id) (λ p. id ≡ p.0 ++ project_suffix p.1) → IfSome (coded_or (first_coded more id) project (cond b (Some front) None)) (λ p. id ≡ p.0 ++ project_suffix p.1)
    by true e h = sym (take-append-drop (length id - length suffix) id) ∙ ap (λ t. front ++ t) ((bytes_eq-Decides tail suffix).0 e)
    by false e h = h

behind : (id code suffix : List ℕ) → id ≡ code ++ suffix → bytes_eq (drop (length id - length suffix) id) suffix ≡ true
behind id code suffix e =
    let n : length code ≡ length id - length suffix = omega (arith, ap length e, length-append code suffix) in
    (bytes_eq-Decides (drop (length id - length suffix) id) suffix).1
    (ap (λ (t : List ℕ). drop (length id - length suffix) t) e ∙ drop-behind code suffix (length id - length suffix) n)

-- an id with a project's suffix is taken apart
found : (ps : List Project) (id code : List ℕ) (project : Project) → In project ps → id ≡ code ++ project_suffix project → (p : List ℕ × Project) × (first_coded ps id ≡ Some p)
found [] id code project h e = absurd h
found (first ∷ more) id code project h e = by (bytes_eq tail suffix) refl (λ k. found more id code project k e) h
  where
    suffix : List ℕ
    suffix = project_suffix first

    front : List ℕ
    front = take (length id - length suffix) id

    tail : List ℕ
    tail = drop (length id - length suffix) id

    there : project ≡ first → bytes_eq tail suffix ≡ true
    there same = subst (λ (q : Project). bytes_eq (drop (length id - length (project_suffix q)) id) (project_suffix q) ≡ true) same (behind id code (project_suffix project) e)

    by : (b : Bool) → bytes_eq tail suffix ≡ b → (In project more → (p : List ℕ × Project) × (first_coded more id ≡ Some p)) → (project ≡ first) ⊎ In project more → (p : List ℕ × Project) × (coded_or (first_coded more id) first (cond b (Some front) None) ≡ Some p)
    by true t rest k = ((front, first), refl)
    by false t rest (inl same) = let yes = there same in cc
    by false t rest (inr k) = rest k

listed : (project : Project) → In project projects
listed Wikibooks = inl refl
listed Wikinews = inr (inl refl)
listed Wikiquote = inr (inr (inl refl))
listed Wikisource = inr (inr (inr (inl refl)))
listed Wikiversity = inr (inr (inr (inr (inl refl))))
listed Wikivoyage = inr (inr (inr (inr (inr (inl refl)))))
listed Wiktionary = inr (inr (inr (inr (inr (inr (inl refl))))))
listed Wikipedia = inr (inr (inr (inr (inr (inr (inr (inl refl)))))))

-- and in one way alone
coded-is : (id code : List ℕ) (project : Project) → id ≡ code ++ project_suffix project → coded id ≡ Some (code, project)
coded-is id code project e =
    let f = found projects id code project (listed project) e in
    let is : id ≡ f.0.0 ++ project_suffix f.0.1 = rw f.1 at (sound projects id) in
    let same : f.0.1 ≡ project = sym (project-is id f.0.0 f.0.1 is) ∙ project-is id code project e in
    let behind_code : id ≡ f.0.0 ++ project_suffix project = subst (λ (q : Project). id ≡ f.0.0 ++ project_suffix q) same is in
    let front : f.0.0 ≡ code = append_cancel_right f.0.0 code (project_suffix project) (sym behind_code ∙ e) in
    f.1 ∙ ap Some (λ i. (front i, same i))

named_coded : (id : List ℕ) (site : Site) (c : Option (List ℕ × Project)) → special_of id ≡ None → IfSome c (λ p. id ≡ p.0 ++ project_suffix p.1) → coded_site c ≡ Some site → NamesSite id site
named_coded id site None none h e = cc
named_coded id site (Some (code, project)) none h e = by (is_language (language_of code)) refl e
  where
    by : (b : Bool) → is_language (language_of code) ≡ b → cond b (Some (site_in (language_of code) project)) None ≡ Some site → NamesSite id site
    by true l e = by_code code project none h l (let is : site_in (language_of code) project ≡ site = cc in sym is)
    by false l e = cc

named : (id : List ℕ) (site : Site) → site_of id ≡ Some site → NamesSite id site
named id site e = by (special_of id) refl e
  where
    by : (s : Option SpecialSite) → special_of id ≡ s → special_or s (coded_site (coded id)) ≡ Some site → NamesSite id site
    by None s e = named_coded id site (coded id) s (sound projects id) e
    by (Some row) s e = by_special row s (let is : special_site row ≡ site = cc in sym is)

looked_up : (id : List ℕ) (site : Site) → NamesSite id site → site_of id ≡ Some site
looked_up id site (by_special row s is) = rw s (ap Some (sym is))
looked_up id site (by_code code project s e l is) = rw (s, coded-is id code project e, l) (ap Some (sym is))

-- a site is looked up where the rules name it, and only there
pub site_is_named : (id : List ℕ) → IsNamed id (site_of id)
site_is_named id site = (named id site, looked_up id site)

pub IsNamed-looked_up : (id : List ℕ) (found : Option Site) → found ≡ site_of id → IsNamed id found
IsNamed-looked_up id found e = rw e (site_is_named id)
