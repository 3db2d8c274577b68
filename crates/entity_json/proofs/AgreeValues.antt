-- Data values: how they are read agrees with the rule.
use Rattle.std.proofs.Common.{◌≡◌, ℕ, ◌<◌, ◌≤◌, ◌^◌, true, false, ◌&&◌, nat_lt, List, ◌∷◌, Option, Some, None, option_map, inl, inr, ⊎_elim, refl, sym, ap, ◌∙◌, arith}
use Rattle.std.specs.Prelude.{codes}
use Rattle.std.specs.Str.{bytes_eq}
use Rattle.std.specs.Str.Parse.{digits_value}
use Rattle.std.specs.Fmt.{decimal}
use Rattle.std.proofs.lemmas.Bool.{and_parts}
use Rattle.std.proofs.lemmas.Bool.Decides.{nat_tests}
use Rattle.std.proofs.lemmas.Fmt.{decimal_is_IsNumeral}
use Rattle.json_spell.specs.Tree.{Tree, null, boolean, number, string, array, object, member_of}
use Rattle.json_spell.proofs.Opened.{some_is, bind_some, map_some, chosen, guarded}
use Rattle.entity_model.specs.declared.id.IdKind.TheVariants.{P, Q}
use Rattle.entity_model.specs.declared.id.EntityId.{EntityId}
use Rattle.entity_model.specs.IdOf.{id_of}
use Rattle.entity_model.specs.Value.{is_entity_text}
use Rattle.entity_model.proofs.IdReading.{id_of-sound, id_of-text}
use Rattle.entity_model.specs.declared.value.TimeParts.{TimeParts}
use Rattle.entity_model.specs.declared.value.QuantityParts.{QuantityParts}
use Rattle.entity_model.specs.declared.value.GlobeParts.{GlobeParts}
use Rattle.entity_model.specs.declared.value.Value.{Value}
use Rattle.entity_model.specs.declared.value.Value.TheVariants.{Entity, Str, Time, Quantity, Globe, Mono, Other}
use Rattle.entity_json.specs.declared.values.NumberedType.{NumberedType}
use Rattle.entity_json.specs.declared.values.NumberedType.TheVariants.{Property, Item}
use Rattle.entity_json.specs.Leaves.{◌>>=◌, text_of, text_at, number_of, number_at, number_or_null, optional_text_at, nullable_number_at, is_whole, small_of}
use Rattle.entity_json.specs.Values.{numbered_word, numbered_letter, IsNumericId, IsEntityValue, IsTime, IsQuantity, HasPrecision, IsGlobe, IsValue}
use Rattle.entity_json.specs.Reading.Terms.{tagged_under}
use Rattle.entity_json.specs.Reading.Values.{numbered_type, numeric_id, numbered_entity, entity_by, entity_value, time_of, quantity_of, globe_of, value_of_type}
use Rattle.entity_json.proofs.AgreeLeaves.{same-from_test, test-from_same, differ-from_test, test-from_differ, optional_text_at-sound, optional_text_at-complete}
use Rattle.entity_json.proofs.AgreeTagged.{tagged-sound, tagged-complete}

-- the type that a word stands for
numbered_type-sound : (word : List ℕ) (type : NumberedType) → numbered_type word ≡ Some type → word ≡ numbered_word type
numbered_type-sound word type e =
    ⊎_elim
    (λ h. same-from_test word (codes "item") h.0 ∙ ap numbered_word (some_is h.1))
    (λ h. let other = guarded (bytes_eq word (codes "property")) h.1 in same-from_test word (codes "property") other.0 ∙ ap numbered_word (some_is other.1))
    (chosen (bytes_eq word (codes "item")) e)

numbered_type-complete : (type : NumberedType) → numbered_type (numbered_word type) ≡ Some type
numbered_type-complete Property = refl
numbered_type-complete Item = refl

-- an entity by its type and number
numeric_id-complete : (type : NumberedType) (n : ℕ) → 0 < n → n < 2 ^ 32 → numeric_id type (decimal n) ≡ Some (numbered_letter type ∷ decimal n)
unfolding numeric_id
numeric_id-complete Property n low high =
    let id : EntityId = record { kind = P; number = n } in
    ap (λ o. o >>= λ x. Some (80 ∷ decimal n)) (id_of-text id (low, high))
numeric_id-complete Item n low high =
    let id : EntityId = record { kind = Q; number = n } in
    ap (λ o. o >>= λ x. Some (81 ∷ decimal n)) (id_of-text id (low, high))

numeric-sound : (t : Tree) (text : List ℕ) → numbered_entity t ≡ Some text → IsNumericId t text
unfolding numbered_entity numeric_id
numeric-sound t text e =
    let word = bind_some (text_at (codes "entity-type") t) _ e in
    let type = bind_some (numbered_type word.0) _ word.1.1 in
    let spelling = bind_some (number_at (codes "numeric-id") t) _ type.1.1 in
    let read = bind_some (id_of (numbered_letter type.0 ∷ spelling.0)) _ spelling.1.1 in
    let id = id_of-sound (numbered_letter type.0 ∷ spelling.0) read.0 read.1.0 in
    let digits : decimal read.0.number ≡ spelling.0 = cc in
    record {
      type = type.0;
      number = read.0.number;
      positive = id.0.0;
      small = id.0.1;
      has_type = word.1.0 ∙ ap Some (numbered_type-sound word.0 type.0 type.1.0);
      has_number = spelling.1.0 ∙ ap Some (sym digits);
      is = sym (some_is read.1.1) ∙ ap (λ ds. numbered_letter type.0 ∷ ds) (sym digits);
    }

numeric-complete : (t : Tree) (text : List ℕ) → IsNumericId t text → numbered_entity t ≡ Some text
unfolding numbered_entity
numeric-complete t text h =
    rw (h.has_type, numbered_type-complete h.type, h.has_number, numeric_id-complete h.type h.number h.positive h.small) (ap Some (sym h.is))

entity-sound : (o : Option Tree) (t : Tree) (text : List ℕ) → entity_by o t ≡ Some text → IsEntityValue o t text
entity-sound None t text e = numeric-sound t text e
entity-sound (Some id) t text e =
    let found = bind_some (text_of id) _ e in
    let test = guarded (is_entity_text found.0) found.1.1 in
    let same = some_is test.1 in
    (found.1.0 ∙ ap Some same, ap is_entity_text (sym same) ∙ test.0)

entity-complete : (o : Option Tree) (t : Tree) (text : List ℕ) → IsEntityValue o t text → entity_by o t ≡ Some text
entity-complete None t text h = numeric-complete t text h
entity-complete (Some id) t text h = rw (h.0, h.1) refl

-- a time
small-sound : (spelling : List ℕ) (n : ℕ) → small_of spelling ≡ Some n → (spelling ≡ decimal n) × (n ≤ 255)
small-sound spelling n e =
    let test = guarded (nat_lt (digits_value 10 spelling) 256 && bytes_eq (decimal (digits_value 10 spelling)) spelling) e in
    let parts = and_parts (nat_lt (digits_value 10 spelling) 256) (bytes_eq (decimal (digits_value 10 spelling)) spelling) test.0 in
    let is : digits_value 10 spelling ≡ n = some_is test.1 in
    let written = same-from_test (decimal (digits_value 10 spelling)) spelling parts.1 in
    let below = parts.0 in
    let less : digits_value 10 spelling < 256 = grind (arith, nat_tests) in
    (sym written ∙ ap decimal is, omega arith)

small-complete : (spelling : List ℕ) (n : ℕ) → spelling ≡ decimal n → n ≤ 255 → small_of spelling ≡ Some n
small-complete spelling n is most =
    let value : digits_value 10 (decimal n) ≡ n = (decimal_is_IsNumeral n (omega arith)).1 in
    let below : nat_lt n 256 ≡ true = grind (arith, nat_tests) in
    let same : bytes_eq (decimal n) (decimal n) ≡ true = test-from_same (decimal n) (decimal n) refl in
    ap small_of is ∙ rw (value, below, same) refl

time-sound : (t : Tree) (x : TimeParts) → time_of t ≡ Some x → IsTime t x
unfolding time_of
time-sound t x e =
    let time = bind_some (text_at (codes "time") t) _ e in
    let calendar = bind_some (text_at (codes "calendarmodel") t) _ time.1.1 in
    let spelling = bind_some (number_at (codes "precision") t) _ calendar.1.1 in
    let precision = bind_some (small_of spelling.0) _ spelling.1.1 in
    let timezone = bind_some (number_at (codes "timezone") t) _ precision.1.1 in
    let test = guarded (is_whole timezone.0) timezone.1.1 in
    let is = some_is test.1 in
    let small = small-sound spelling.0 precision.0 precision.1.0 in
    let same_precision : precision.0 ≡ x.precision = ap (λ (r : TimeParts). r.precision) is in
    let same_text : spelling.0 ≡ x.precision_text = ap (λ (r : TimeParts). r.precision_text) is in
    record {
      time = time.1.0 ∙ ap (λ (r : TimeParts). Some r.time) is;
      precision_text = spelling.1.0 ∙ ap Some same_text;
      precision = sym same_text ∙ small.0 ∙ ap decimal same_precision;
      precision_most = omega (arith, small.1, same_precision);
      timezone = timezone.1.0 ∙ ap (λ (r : TimeParts). Some r.timezone) is;
      timezone_whole = ap (λ (r : TimeParts). is_whole r.timezone) (sym is) ∙ test.0;
      calendar = calendar.1.0 ∙ ap (λ (r : TimeParts). Some r.calendar) is;
    }

time-complete : (t : Tree) (x : TimeParts) → IsTime t x → time_of t ≡ Some x
unfolding time_of
time-complete t x h =
    let small = small-complete x.precision_text x.precision h.precision h.precision_most in
    rw (h.time, h.calendar, h.precision_text, small, h.timezone, h.timezone_whole) refl

-- a quantity
quantity-sound : (t : Tree) (x : QuantityParts) → quantity_of t ≡ Some x → IsQuantity t x
unfolding quantity_of
quantity-sound t x e =
    let amount = bind_some (text_at (codes "amount") t) _ e in
    let unit = bind_some (text_at (codes "unit") t) _ amount.1.1 in
    let upper = bind_some (optional_text_at (codes "upperBound") t) _ unit.1.1 in
    let lower = bind_some (optional_text_at (codes "lowerBound") t) _ upper.1.1 in
    let is = some_is lower.1.1 in
    record {
      amount = amount.1.0 ∙ ap (λ (r : QuantityParts). Some r.amount) is;
      unit = unit.1.0 ∙ ap (λ (r : QuantityParts). Some r.unit) is;
      upper = optional_text_at-sound (codes "upperBound") t x.upper (upper.1.0 ∙ ap (λ (r : QuantityParts). Some r.upper) is);
      lower = optional_text_at-sound (codes "lowerBound") t x.lower (lower.1.0 ∙ ap (λ (r : QuantityParts). Some r.lower) is);
    }

quantity-complete : (t : Tree) (x : QuantityParts) → IsQuantity t x → quantity_of t ≡ Some x
unfolding quantity_of
quantity-complete t x h =
    let upper = optional_text_at-complete (codes "upperBound") t x.upper h.upper in
    let lower = optional_text_at-complete (codes "lowerBound") t x.lower h.lower in
    rw (h.amount, h.unit, upper, lower) refl

-- a point on a globe
precision-none : (t : Tree) → member_of (codes "precision") t ≡ None → nullable_number_at (codes "precision") t ≡ Some None
precision-none t is = rw is refl

precision-some : (t u : Tree) → member_of (codes "precision") t ≡ Some u → nullable_number_at (codes "precision") t ≡ number_or_null u
precision-some t u is = rw is refl

number-sound : (t u : Tree) → member_of (codes "precision") t ≡ Some u → (o : Option (List ℕ)) → number_or_null u ≡ Some o → HasPrecision t o
number-sound t null is None e = inr is
number-sound t null is (Some s) e = let no = some_is e in absurd cc
number-sound t (boolean b) is o e = absurd cc
number-sound t (number c) is None e = let no = some_is e in absurd cc
number-sound t (number c) is (Some s) e = ap (λ o. o >>= number_of) is ∙ some_is e
number-sound t (string c) is o e = absurd cc
number-sound t (array ts) is o e = absurd cc
number-sound t (object ps) is o e = absurd cc

number-complete : (t u : Tree) (s : List ℕ) → number_of u ≡ Some s → number_or_null u ≡ Some (Some s)
number-complete t null s e = absurd cc
number-complete t (boolean b) s e = absurd cc
number-complete t (number c) s e = ap Some e
number-complete t (string c) s e = absurd cc
number-complete t (array ts) s e = absurd cc
number-complete t (object ps) s e = absurd cc

precision-sound : (t : Tree) (m : Option Tree) → member_of (codes "precision") t ≡ m → (o : Option (List ℕ)) → nullable_number_at (codes "precision") t ≡ Some o → HasPrecision t o
precision-sound t None is None e = inl is
precision-sound t None is (Some s) e = let no = some_is (sym (precision-none t is) ∙ e) in absurd cc
precision-sound t (Some u) is o e = number-sound t u is o (sym (precision-some t u is) ∙ e)

precision-complete : (t : Tree) (o : Option (List ℕ)) → HasPrecision t o → nullable_number_at (codes "precision") t ≡ Some o
precision-complete t None h = ⊎_elim (λ is. precision-none t is) (λ is. precision-some t null is) h
precision-complete t (Some s) h =
    let found = bind_some (member_of (codes "precision") t) number_of h in
    precision-some t found.0 found.1.0 ∙ number-complete t found.0 s found.1.1

globe-sound : (t : Tree) (x : GlobeParts) → globe_of t ≡ Some x → IsGlobe t x
unfolding globe_of
globe-sound t x e =
    let latitude = bind_some (number_at (codes "latitude") t) _ e in
    let longitude = bind_some (number_at (codes "longitude") t) _ latitude.1.1 in
    let precision = bind_some (nullable_number_at (codes "precision") t) _ longitude.1.1 in
    let globe = bind_some (text_at (codes "globe") t) _ precision.1.1 in
    let is = some_is globe.1.1 in
    record {
      latitude = latitude.1.0 ∙ ap (λ (r : GlobeParts). Some r.latitude) is;
      longitude = longitude.1.0 ∙ ap (λ (r : GlobeParts). Some r.longitude) is;
      precision = precision-sound t (member_of (codes "precision") t) refl x.precision (precision.1.0 ∙ ap (λ (r : GlobeParts). Some r.precision) is);
      globe = globe.1.0 ∙ ap (λ (r : GlobeParts). Some r.globe) is;
    }

globe-complete : (t : Tree) (x : GlobeParts) → IsGlobe t x → globe_of t ≡ Some x
unfolding globe_of
globe-complete t x h =
    let precision = precision-complete t x.precision h.precision in
    rw (h.latitude, h.longitude, precision, h.globe) refl

-- a value, by the type
entity_value-sound : (t : Tree) (text : List ℕ) → entity_value t ≡ Some text → IsEntityValue (member_of (codes "id") t) t text
unfolding entity_value
entity_value-sound t text e = entity-sound (member_of (codes "id") t) t text e

entity_value-complete : (t : Tree) (text : List ℕ) → IsEntityValue (member_of (codes "id") t) t text → entity_value t ≡ Some text
unfolding entity_value
entity_value-complete t text h = entity-complete (member_of (codes "id") t) t text h

-- a value of a type that is read
of_type : {A : Type 0} (name type : List ℕ) (make : A → Value) (o : Option A) (t : Tree) (x : Value)
    → ((a : A) → o ≡ Some a → IsValue name t (make a)) → bytes_eq type name ≡ true → option_map make o ≡ Some x → IsValue type t x
of_type name type make o t x sound test e =
    let found = map_some make o e in
    rw (← found.1.1, same-from_test type name test) (sound found.0 found.1.0)

pub value-sound : (type : List ℕ) (t : Tree) (x : Value) → value_of_type type t ≡ Some x → IsValue type t x
unfolding value_of_type
value-sound type t x e =
    ⊎_elim (λ h. of_type (codes "string") type Str (text_of t) t x (λ a f. (refl, f)) h.0 h.1)
    (λ n1. ⊎_elim (λ h. of_type (codes "wikibase-entityid") type Entity (entity_value t) t x (λ a f. (refl, entity_value-sound t a f)) h.0 h.1)
    (λ n2. ⊎_elim (λ h. of_type (codes "time") type Time (time_of t) t x (λ a f. (refl, time-sound t a f)) h.0 h.1)
    (λ n3. ⊎_elim (λ h. of_type (codes "quantity") type Quantity (quantity_of t) t x (λ a f. (refl, quantity-sound t a f)) h.0 h.1)
    (λ n4. ⊎_elim (λ h. of_type (codes "globecoordinate") type Globe (globe_of t) t x (λ a f. (refl, globe-sound t a f)) h.0 h.1)
    (λ n5. ⊎_elim (λ h. of_type (codes "monolingualtext") type Mono (tagged_under (codes "text") t) t x (λ a f. (refl, tagged-sound (codes "text") t a f)) h.0 h.1)
    (λ n6. other n1.0 n2.0 n3.0 n4.0 n5.0 n6.0 (some_is n6.1))
    (chosen (bytes_eq type (codes "monolingualtext")) n5.1)) (chosen (bytes_eq type (codes "globecoordinate")) n4.1))
    (chosen (bytes_eq type (codes "quantity")) n3.1)) (chosen (bytes_eq type (codes "time")) n2.1))
    (chosen (bytes_eq type (codes "wikibase-entityid")) n1.1)) (chosen (bytes_eq type (codes "string")) e)
  where
    other : bytes_eq type (codes "string") ≡ false → bytes_eq type (codes "wikibase-entityid") ≡ false → bytes_eq type (codes "time") ≡ false
        → bytes_eq type (codes "quantity") ≡ false → bytes_eq type (codes "globecoordinate") ≡ false → bytes_eq type (codes "monolingualtext") ≡ false
        → Other ≡ x → IsValue type t x
    other a b c d f g is = rw (← is) (record {
      no_entity = differ-from_test type (codes "wikibase-entityid") b;
      no_string = differ-from_test type (codes "string") a;
      no_time = differ-from_test type (codes "time") c;
      no_quantity = differ-from_test type (codes "quantity") d;
      no_globe = differ-from_test type (codes "globecoordinate") f;
      no_mono = differ-from_test type (codes "monolingualtext") g;
    })

pub value-complete : (type : List ℕ) (t : Tree) (x : Value) → IsValue type t x → value_of_type type t ≡ Some x
unfolding value_of_type
value-complete type t (Entity text) h = ap (λ n. value_of_type n t) h.0 ∙ ap (option_map Entity) (entity_value-complete t text h.1)
value-complete type t (Str text) h = ap (λ n. value_of_type n t) h.0 ∙ ap (option_map Str) h.1
value-complete type t (Time x) h = ap (λ n. value_of_type n t) h.0 ∙ ap (option_map Time) (time-complete t x h.1)
value-complete type t (Quantity x) h = ap (λ n. value_of_type n t) h.0 ∙ ap (option_map Quantity) (quantity-complete t x h.1)
value-complete type t (Globe x) h = ap (λ n. value_of_type n t) h.0 ∙ ap (option_map Globe) (globe-complete t x h.1)
value-complete type t (Mono x) h = ap (λ n. value_of_type n t) h.0 ∙ ap (option_map Mono) (tagged-complete (codes "text") t x h.1)
value-complete type t Other h =
    let a = test-from_differ type (codes "string") h.no_string in
    let b = test-from_differ type (codes "wikibase-entityid") h.no_entity in
    let c = test-from_differ type (codes "time") h.no_time in
    let d = test-from_differ type (codes "quantity") h.no_quantity in
    let f = test-from_differ type (codes "globecoordinate") h.no_globe in
    let g = test-from_differ type (codes "monolingualtext") h.no_mono in
    rw (a, b, c, d, f, g) refl
