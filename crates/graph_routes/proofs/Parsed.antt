-- The routes that are computed of a text are those whose text it is.
use Rattle.std.proofs.Common.{◌≡◌, ℕ, ◌+◌, ◌-◌, ◌*◌, ◌<◌, ◌≤◌, ◌==◌, Bool, true, false, cond, ◌&&◌, nat_le, List, [], ◌∷◌, ◌++◌, length, Option, None, Some, refl, sym, ◌∙◌, ap, subst, append-nil, arith, rules}
use Rattle.std.specs.Prelude.{◌↔◌}
use Rattle.std.specs.Prelude.{map as mapped}
use Rattle.std.specs.Fmt.{decimal}
use Rattle.std.specs.List.{AllByRecursion, flat_map, join_by, list_all}
use Rattle.std.specs.Str.{all_ascii_digits}
use Rattle.std.proofs.lemmas.Bool.{and_parts}
use Rattle.std.proofs.lemmas.Bool.Decides.{nat_tests}
use Rattle.std.proofs.lemmas.Fmt.{digits_decimal}
use Rattle.std.proofs.lemmas.Str.Parse.{IsNumeralModel, numerals_by_fold}
use Rattle.std.proofs.lemmas.List.{length-map}
use Rattle.entity_model.specs.declared.id.EntityId.{EntityId}
use Rattle.entity_model.specs.declared.id.IdKind.{IdKind}
use Rattle.entity_model.specs.declared.id.IdKind.TheVariants.{P, Q, L}
use Rattle.entity_model.specs.EntityId.{IsId, id_text}
use Rattle.entity_model.specs.IdOf.{id_of}
use Rattle.entity_model.proofs.IdReading.{id_of-sound, id_of-text}
use Rattle.graph_routes.specs.declared.routes.Route.{Route}
use Rattle.graph_routes.specs.Reading.{classes_of, if_item, if_own_names, in_first, is_q, item_of, pieces, read_each, route_in, route_named, route_of_parts, routes_in, with_first}
use Rattle.graph_routes.specs.Routes.{AreClasses, AreRoutesIn, IsItem, IsRoute, classes_text, have_own_names, is_letter, is_name, route_text, routes_text}

-- ---- texts without a byte

-- no byte of the text is this one
abbrev pub Lacks : ℕ → List ℕ → Type 0
Lacks c text = AllByRecursion (λ b. (b == c) ≡ false) text

lacks-append : (c : ℕ) (xs ys : List ℕ) → Lacks c xs → Lacks c ys → Lacks c (xs ++ ys)
lacks-append c [] ys h k = k
lacks-append c (x ∷ xs) ys h k = (h.0, lacks-append c xs ys h.1 k)

lacks-joined : {A : Type 0} (c : ℕ) (f : A → List ℕ) (sep : List ℕ) (xs : List A) → Lacks c sep → AllByRecursion (λ x. Lacks c (f x)) xs → Lacks c (join_by f sep xs)
lacks-joined c f sep [] none each = tt
lacks-joined {A} c f sep (x ∷ xs) none each = lacks-append c (f x) (flat_map (λ y. sep ++ f y) xs) each.0 (others xs each.1)
  where
    others : (ys : List A) → AllByRecursion (λ y. Lacks c (f y)) ys → Lacks c (flat_map (λ y. sep ++ f y) ys)
    others [] h = tt
    others (y ∷ ys) h = lacks-append c (sep ++ f y) (flat_map (λ z. sep ++ f z) ys) (lacks-append c sep (f y) none h.0) (others ys h.1)

-- ---- the pieces of a text

pub pieces_whole : (c : ℕ) (text : List ℕ) → Lacks c text → pieces c text ≡ text ∷ []
pieces_whole c [] none = refl
pieces_whole c (b ∷ bs) none = rw (none.0, pieces_whole c bs none.1) refl

itself : (c : ℕ) → (c == c) ≡ true
itself c = grind (arith, nat_tests)

pub pieces_first : (c : ℕ) (front back : List ℕ) → Lacks c front → pieces c (front ++ c ∷ back) ≡ front ∷ pieces c back
pieces_first c [] back none = rw (itself c) refl
pieces_first c (b ∷ bs) back none = rw (none.0, pieces_first c bs back none.1) refl

pub some_piece : (c : ℕ) (text : List ℕ) → 1 ≤ length (pieces c text)
some_piece c [] = omega arith
some_piece c (b ∷ bs) = by (b == c) (pieces c bs)
  where
    by : (is : Bool) (ps : List (List ℕ)) → 1 ≤ length (cond is ([] ∷ ps) (in_first b ps))
    by true ps = omega arith
    by false [] = omega arith
    by false (p ∷ ps) = omega arith

joined : (c : ℕ) (text : List ℕ) → join_by (λ p. p) (c ∷ []) (pieces c text) ≡ text
joined c [] = refl
joined c (b ∷ bs) = by (b == c) refl (pieces c bs) (some_piece c bs) (joined c bs)
  where
    by : (is : Bool) → (b == c) ≡ is → (ps : List (List ℕ)) → 1 ≤ length ps → join_by (λ p. p) (c ∷ []) ps ≡ bs → join_by (λ p. p) (c ∷ []) (cond is ([] ∷ ps) (in_first b ps)) ≡ b ∷ bs
    by true same [] some rest = absurd (omega (arith, some))
    by true same (p ∷ ps) some rest = let one : b ≡ c = grind (arith, nat_tests) in ap (λ bytes. c ∷ bytes) rest ∙ ap (λ byte. byte ∷ bs) (sym one)
    by false other [] some rest = absurd (omega (arith, some))
    by false other (p ∷ ps) some rest = ap (λ bytes. b ∷ bytes) rest

joined-mapped : {A : Type 0} (f : A → List ℕ) (sep : List ℕ) (xs : List A) → join_by f sep xs ≡ join_by (λ p. p) sep (mapped f xs)
joined-mapped f sep [] = refl
joined-mapped {A} f sep (x ∷ xs) = ap (λ bytes. f x ++ bytes) (others xs)
  where
    others : (ys : List A) → flat_map (λ y. sep ++ f y) ys ≡ flat_map (λ p. sep ++ p) (mapped f ys)
    others [] = refl
    others (y ∷ ys) = ap (λ bytes. (sep ++ f y) ++ bytes) (others ys)

-- a text is that of what its pieces are
joined_back : {A : Type 0} (c : ℕ) (f : A → List ℕ) (xs : List A) (text : List ℕ) → mapped f xs ≡ pieces c text → join_by f (c ∷ []) xs ≡ text
joined_back c f xs text are = joined-mapped f (c ∷ []) xs ∙ ap (join_by (λ p. p) (c ∷ [])) are ∙ joined c text

-- the pieces of a text are what it was made of
pieces-joined : {A : Type 0} (c : ℕ) (f : A → List ℕ) (xs : List A) → 1 ≤ length xs → AllByRecursion (λ x. Lacks c (f x)) xs → pieces c (join_by f (c ∷ []) xs) ≡ mapped f xs
pieces-joined c f [] some none = absurd (omega (arith, some))
pieces-joined c f (x ∷ []) some none = ap (pieces c) (append-nil (f x)) ∙ pieces_whole c (f x) none.0
pieces-joined c f (x ∷ y ∷ ys) some none =
    pieces_first c (f x) (join_by f (c ∷ []) (y ∷ ys)) none.0 ∙ ap (λ ps. f x ∷ ps) (pieces-joined c f (y ∷ ys) (omega arith) none.1)

-- ---- what is read of each piece

module _ {A B : Type 0} (read : A → Option B) (f : B → A) (P : B → Type 0) where
  each_back : ((x : A) (y : B) → read x ≡ Some y → P y × (f y ≡ x)) → (xs : List A) (ys : List B) → read_each read xs ≡ Some ys → AllByRecursion P ys × (mapped f ys ≡ xs)
  each_back sound [] ys is = by ys is
    where
      by : (ys : List B) → Some [] ≡ Some ys → AllByRecursion P ys × (mapped f ys ≡ [])
      by [] h = (tt, refl)
      by (y ∷ ys) h = cc
  each_back sound (x ∷ xs) ys is = by (read x) (read_each read xs) refl refl (each_back sound xs) ys is
    where
      by : (first : Option B) (others : Option (List B)) → read x ≡ first → read_each read xs ≡ others → ((zs : List B) → read_each read xs ≡ Some zs → AllByRecursion P zs × (mapped f zs ≡ xs))
          → (ys : List B) → with_first first others ≡ Some ys → AllByRecursion P ys × (mapped f ys ≡ x ∷ xs)
      by None others one rest back ys h = cc
      by (Some y) None one rest back ys h = cc
      by (Some y) (Some zs) one rest back [] h = cc
      by (Some y) (Some zs) one rest back (w ∷ ws) h =
          let same : y ≡ w = cc in
          let others : zs ≡ ws = cc in
          let first : P w × (f w ≡ x) = sound x w (one ∙ ap (λ v. Some v) same) in
          let after : AllByRecursion P ws × (mapped f ws ≡ xs) = back ws (rest ∙ ap (λ vs. Some vs) others) in
          ((first.0, after.0), λ i. first.1 i ∷ after.1 i)

  each_there : ((y : B) → P y → read (f y) ≡ Some y) → (ys : List B) → AllByRecursion P ys → read_each read (mapped f ys) ≡ Some ys
  each_there complete [] h = refl
  each_there complete (y ∷ ys) h = rw (complete y h.0, each_there complete ys h.1) refl

-- ---- items

item_there : (id : EntityId) → IsItem id → item_of (id_text id) ≡ Some id
item_there id is = ap if_item (id_of-text id is.0) ∙ ap (λ k. cond (is_q k) (Some id) None) is.1

item_back : (text : List ℕ) (id : EntityId) → item_of text ≡ Some id → IsItem id × (id_text id ≡ text)
item_back text id is = by (id_of text) refl is
  where
    by_kind : (x : EntityId) (k : IdKind) → x.kind ≡ k → id_of text ≡ Some x → cond (is_q k) (Some x) None ≡ Some id → IsItem id × (id_text id ≡ text)
    by_kind x P kind read h = cc
    by_kind x L kind read h = cc
    by_kind x Q kind read h =
        let same : x ≡ id = cc in
        let sound : IsId x × (id_text x ≡ text) = id_of-sound text x read in
        ((subst IsId same sound.0, ap (λ (y : EntityId). y.kind) (sym same) ∙ kind), ap id_text (sym same) ∙ sound.1)

    by : (read : Option EntityId) → id_of text ≡ read → if_item read ≡ Some id → IsItem id × (id_text id ≡ text)
    by None read h = cc
    by (Some x) read h = by_kind x x.kind refl read h

-- ---- bytes that ids and names lack

abbrev read_on : ℕ → List ℕ → ℕ
read_on n [] = n
read_on n (c ∷ cs) = read_on (10 * n + (c - 48)) cs

numerals : IsNumeralModel (λ ds. all_ascii_digits ds ≡ true) (read_on 0)
numerals = numerals_by_fold _ (search rules) read_on (search rules)

digits_lack : (c : ℕ) (ds : List ℕ) → 57 < c → all_ascii_digits ds ≡ true → Lacks c ds
digits_lack c [] high digits = tt
digits_lack c (d ∷ ds) high digits =
    let parts = and_parts (nat_le 48 d && nat_le d 57) (all_ascii_digits ds) digits in
    let one = and_parts (nat_le 48 d) (nat_le d 57) parts.0 in
    (let t = one.1 in grind (arith, nat_tests), digits_lack c ds high parts.1)

digits_lack_low : (c : ℕ) (ds : List ℕ) → c < 48 → all_ascii_digits ds ≡ true → Lacks c ds
digits_lack_low c [] low digits = tt
digits_lack_low c (d ∷ ds) low digits =
    let parts = and_parts (nat_le 48 d && nat_le d 57) (all_ascii_digits ds) digits in
    let one = and_parts (nat_le 48 d) (nat_le d 57) parts.0 in
    (let t = one.0 in grind (arith, nat_tests), digits_lack_low c ds low parts.1)

decimal_digits : (id : EntityId) → IsId id → all_ascii_digits (decimal id.number) ≡ true
decimal_digits id is = digits_decimal numerals id.number (omega (arith, is.1))

id_lacks_high : (c : ℕ) (id : EntityId) → 57 < c → c < 80 → IsItem id → Lacks c (id_text id)
id_lacks_high c id high low is = (rw is.1 (grind (arith, nat_tests)), digits_lack c (decimal id.number) high (decimal_digits id is.0))

id_lacks_low : (c : ℕ) (id : EntityId) → c < 48 → IsItem id → Lacks c (id_text id)
id_lacks_low c id low is = (rw is.1 (grind (arith, nat_tests)), digits_lack_low c (decimal id.number) low (decimal_digits id is.0))

each_lacks : (c : ℕ) (ids : List EntityId) → ((id : EntityId) → IsItem id → Lacks c (id_text id)) → AllByRecursion IsItem ids → AllByRecursion (λ id. Lacks c (id_text id)) ids
each_lacks c [] lacks h = tt
each_lacks c (id ∷ ids) lacks h = (lacks id h.0, each_lacks c ids lacks h.1)

classes_lack : (c : ℕ) (classes : List EntityId) → 57 < c → c < 80 → AreClasses classes → Lacks c (classes_text classes)
classes_lack c classes high low h =
    lacks-joined c id_text (44 ∷ []) classes (grind (arith, nat_tests), tt) (each_lacks c classes (λ id. id_lacks_high c id high low) h.items)

letters_lack : (c : ℕ) (text : List ℕ) → c < 97 → list_all is_letter text ≡ true → Lacks c text
letters_lack c [] low letters = tt
letters_lack c (b ∷ bs) low letters =
    let parts = and_parts (is_letter b) (list_all is_letter bs) letters in
    let one = and_parts (nat_le 97 b) (nat_le b 122) parts.0 in
    (let t = one.0 in grind (arith, nat_tests), letters_lack c bs low parts.1)

name_lacks : (c : ℕ) (name : List ℕ) → c < 97 → is_name name ≡ true → Lacks c name
name_lacks c name low is =
    let parts = and_parts (nat_le 1 (length name) && nat_le (length name) 16) _ is in
    letters_lack c name low (and_parts (list_all is_letter name) _ parts.1).0

-- ---- classes

within : (m n : ℕ) → nat_le m n ≡ true → m ≤ n
within m n h = grind (arith, nat_tests)

fits : (m n : ℕ) → m ≤ n → nat_le m n ≡ true
fits m n h = grind (arith, nat_tests)

chosen : {A : Type 0} (b : Bool) (o : Option A) (x : A) → cond b o None ≡ Some x → (b ≡ true) × (o ≡ Some x)
chosen true o x is = (refl, is)
chosen false o x is = cc

classes_back : (text : List ℕ) (classes : List EntityId) → classes_of text ≡ Some classes → AreClasses classes × (classes_text classes ≡ text)
classes_back text classes is =
    let choice = chosen (nat_le (length (pieces 44 text)) 64) (read_each item_of (pieces 44 text)) classes is in
    let back : AllByRecursion IsItem classes × (mapped id_text classes ≡ pieces 44 text) = each_back item_of id_text IsItem item_back (pieces 44 text) classes choice.1 in
    let long : length classes ≡ length (pieces 44 text) = sym (length-map classes id_text) ∙ ap length back.1 in (
      record {
        some = omega (arith, some_piece 44 text, long);
        few = omega (arith, within (length (pieces 44 text)) 64 choice.0, long);
        items = back.0;
      },
      joined_back 44 id_text classes text back.1,
    )

classes_there : (classes : List EntityId) → AreClasses classes → classes_of (classes_text classes) ≡ Some classes
classes_there classes h =
    let are : pieces 44 (classes_text classes) ≡ mapped id_text classes = pieces-joined 44 id_text classes h.some (each_lacks 44 classes (λ id. id_lacks_low 44 id (omega arith)) h.items) in
    let few : nat_le (length (pieces 44 (classes_text classes))) 64 ≡ true = fits (length (pieces 44 (classes_text classes))) 64 (omega (arith, h.few, ap length are, length-map classes id_text)) in
    ap (λ b. cond b (read_each item_of (pieces 44 (classes_text classes))) None) few
    ∙ ap (read_each item_of) are ∙ each_there item_of id_text IsItem item_there classes h.items

-- ---- one route

route_there : (route : Route) → IsRoute route → route_in (route_text route) ≡ Some route
route_there route h =
    ap route_of_parts
    (pieces_first 58 route.name (classes_text route.classes) (name_lacks 58 route.name (omega arith) h.name)
    ∙ ap (λ ps. route.name ∷ ps) (pieces_whole 58 (classes_text route.classes) (classes_lack 58 route.classes (omega arith) (omega arith) h.classes)))
    ∙ ap (route_named route.name) (classes_there route.classes h.classes)
    ∙ ap (λ b. cond b (Some route) None) h.name

route_back : (text : List ℕ) (route : Route) → route_in text ≡ Some route → IsRoute route × (route_text route ≡ text)
route_back text route is = by (pieces 58 text) refl is
  where
    named : (name classes : List ℕ) (o : Option (List EntityId)) → pieces 58 text ≡ name ∷ classes ∷ [] → classes_of classes ≡ o → route_named name o ≡ Some route → IsRoute route × (route_text route ≡ text)
    named name classes None are read h = cc
    named name classes (Some ids) are read h =
        let made : Route = record { name = name; classes = ids } in
        let choice = chosen (is_name name) (Some made) route h in
        let same : made ≡ route = cc in
        let back : AreClasses ids × (classes_text ids ≡ classes) = classes_back classes ids read in
        let whole : name ++ 58 ∷ classes ≡ text =
        ap (λ rest. name ++ 58 ∷ rest) (sym (append-nil classes)) ∙ ap (join_by (λ p. p) (58 ∷ [])) (sym are) ∙ joined 58 text in
        subst (λ (r : Route). IsRoute r × (route_text r ≡ text)) same
        (record { name = choice.0; classes = back.0 }, ap (λ rest. name ++ 58 ∷ rest) back.1 ∙ whole)

    by : (ps : List (List ℕ)) → pieces 58 text ≡ ps → route_of_parts ps ≡ Some route → IsRoute route × (route_text route ≡ text)
    by [] are h = cc
    by (name ∷ []) are h = cc
    by (name ∷ classes ∷ []) are h = named name classes (classes_of classes) are refl h
    by (name ∷ classes ∷ more ∷ others) are h = cc

route_lacks : (route : Route) → IsRoute route → Lacks 59 (route_text route)
route_lacks route h =
    lacks-append 59 route.name (58 ∷ classes_text route.classes) (name_lacks 59 route.name (omega arith) h.name)
    (refl, classes_lack 59 route.classes (omega arith) (omega arith) h.classes)

routes_lack : (routes : List Route) → AllByRecursion IsRoute routes → AllByRecursion (λ r. Lacks 59 (route_text r)) routes
routes_lack [] h = tt
routes_lack (route ∷ routes) h = (route_lacks route h.0, routes_lack routes h.1)

-- ---- all routes

own_names : (o : Option (List Route)) (routes : List Route) → if_own_names o ≡ Some routes → (have_own_names routes ≡ true) × (o ≡ Some routes)
own_names None routes is = cc
own_names (Some found) routes is =
    let choice = chosen (have_own_names found) (Some found) routes is in
    let same : found ≡ routes = cc in
    (ap have_own_names (sym same) ∙ choice.0, choice.1)

pub routes_are : (text : List ℕ) (routes : List Route) → (routes_in text ≡ Some routes) ↔ AreRoutesIn text routes
routes_are text routes = (back, there)
  where
    back : routes_in text ≡ Some routes → AreRoutesIn text routes
    back is =
        let choice = chosen (nat_le (length (pieces 59 text)) 16) (if_own_names (read_each route_in (pieces 59 text))) routes is in
        let names = own_names (read_each route_in (pieces 59 text)) routes choice.1 in
        let each : AllByRecursion IsRoute routes × (mapped route_text routes ≡ pieces 59 text) = each_back route_in route_text IsRoute route_back (pieces 59 text) routes names.1 in
        let long : length routes ≡ length (pieces 59 text) = sym (length-map routes route_text) ∙ ap length each.1 in
        record {
          routes_are = record {
            some = omega (arith, some_piece 59 text, long);
            few = omega (arith, within (length (pieces 59 text)) 16 choice.0, long);
            each = each.0;
            names = names.0;
          };
          text_is = joined_back 59 route_text routes text each.1;
        }

    there : AreRoutesIn text routes → routes_in text ≡ Some routes
    there h =
        let are : pieces 59 (routes_text routes) ≡ mapped route_text routes = pieces-joined 59 route_text routes h.routes_are.some (routes_lack routes h.routes_are.each) in
        let few : nat_le (length (pieces 59 (routes_text routes))) 16 ≡ true = fits (length (pieces 59 (routes_text routes))) 16 (omega (arith, h.routes_are.few, ap length are, length-map routes route_text)) in
        let read : read_each route_in (pieces 59 (routes_text routes)) ≡ Some routes = ap (read_each route_in) are ∙ each_there route_in route_text IsRoute route_there routes h.routes_are.each in
        ap routes_in (sym h.text_is)
        ∙ ap (λ b. cond b (if_own_names (read_each route_in (pieces 59 (routes_text routes)))) None) few
        ∙ ap if_own_names read
        ∙ ap (λ b. cond b (Some routes) None) h.routes_are.names
