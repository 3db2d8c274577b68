-- What a line delivers is fit: its entity has a number from 1, and its time and its revision have 64 bits.
use Rattle.std.proofs.Common.{◌≡◌, ℕ, ◌+◌, ◌-◌, ◌*◌, ◌^◌, ◌<◌, ◌≤◌, ◌&&◌, ◌==◌, Bool, true, false, cond, nat_lt, nat_le, List, [], ◌∷◌, length, drop, fold, slice_index, Option, None, Some, option_and_then, Result, Ok, Err, ℤ, pos, refl, sym, ◌∙◌, ap, subst, codes, FitsSigned, arith}
use Rattle.std.specs.Prelude.{⊤}
use Rattle.std.specs.{Int.w64, Float.binary64, Float.float_is_finite, Ordering.match_ordering, Ordering.nat_cmp}
use Rattle.std.specs.declared.cmp.Ordering.{Ordering}
use Rattle.std.specs.declared.cmp.Ordering.TheVariants.{Less, Equal, Greater}
use Rattle.std.specs.{Cmp.Lexicographic.slice_cmp, Char.is_ascii_digit, List.list_all, Str.is_utf8}
use Rattle.std.proofs.{lemmas.Bool.Decides.nat_tests, lemmas.Bool.and_parts, lemmas.Int.ints}
use Rattle.jiff_core.specs.Calendar.{IsYear, day_count, days_from_civil}
use Rattle.jiff_core.proofs.{CalendarLemmas.day_count_bounds, CalendarLemmas.days_from_civil-day_count, SignedLemmas.signed_arith}
use Rattle.fast_float.specs.Text.{Parts, digits_of, minus, nearest, scan, with_sign}
use Rattle.json.specs.Json as json
use Rattle.json.specs.Lex.{tokens}
use Rattle.serde_json.specs.Data.{Data, Members, Num, array, boolean, float, member, negative, no_members, null, number, object, put, string, unsigned}
use Rattle.serde_json.specs.Find.{as_number, as_u64, get, get_member}
use Rattle.serde_json.specs.Read.{float_of, is_integer, max_depth, number_from, number_of, of_items, of_json, of_members, read}
use Rattle.digits.specs.Number.{decimal_value}
use Rattle.digits.proofs.{Choices.chained, Choices.guarded, Choices.mapped, Places.more_places}
use Rattle.entity_model.specs.{declared.id.EntityId.EntityId, declared.event.Event.Event, EntityId.IsId, IdOf.id_of}
use Rattle.entity_model.proofs.IdReading.{id_of-sound}
use Rattle.delivery.specs.declared.Delivery.{Delivery}
use Rattle.delivery.specs.declared.Delivery.TheVariants.{Event as Told, Watermark, Ask, Mapping, Match}
use Rattle.event_line.specs.declared.faults.LineCause.{LineCause}
use Rattle.event_line.specs.Line.{by_form, data_of, delivered, delivery_in, delivery_of, else_cause, entity_of, event_in, from_one, kind_name, pattern_of, rev_of, text_at, time_at, version_of, watermark_in, whole_kind}
use Rattle.event_line.specs.{Query.query_in, Time.in_microseconds, Time.is_fraction, Time.microsecond_of, Time.time_of}
use Rattle.event_line.proofs.{TimeLemmas.scaled, TimeReading.time_sound}
use borrow.Author.Differences.{up, down}
use Rattle.snapshot.specs.{Deliveries.IsFitDelivery, Fit.IsFitEvent}

-- ---- times

-- digits write less than a one with as many zeros
digits_small : (digits : List ℕ) (before places : ℕ) → before < 10 ^ places → list_all is_ascii_digit digits ≡ true → fold (λ n digit. 10 * n + (digit - 48)) before digits < 10 ^ (places + length digits)
digits_small [] before places low all = let same : places ≡ places + 0 = omega arith in subst (λ n. before < 10 ^ n) same low
digits_small (d ∷ ds) before places low all =
    let tests = and_parts (is_ascii_digit d) (list_all is_ascii_digit ds) all in
    let digit : d - 48 < 10 = grind (arith, nat_tests, tests.0) in
    let same : (places + 1) + length ds ≡ places + length (d ∷ ds) = omega arith in
    subst (λ n. fold (λ n digit. 10 * n + (digit - 48)) before (d ∷ ds) < 10 ^ n) same
    (digits_small ds (10 * before + (d - 48)) (places + 1) (more_places places before (d - 48) low digit) tests.1)

-- a fraction is less than a second
fraction_small : (fraction : List ℕ) (n : ℕ) → microsecond_of fraction ≡ Some n → n < 1_000_000
fraction_small [] n is = let same : 0 ≡ n = cc in omega (arith, same)
fraction_small (point ∷ digits) n is =
    let chosen = guarded ((point == 46) && is_fraction digits) (Some (decimal_value digits * 10 ^ (6 - length digits))) n is in
    let tests = and_parts (point == 46) (is_fraction digits) chosen.0 in
    let parts = and_parts (nat_le 1 (length digits) && nat_le (length digits) 6) (list_all is_ascii_digit digits) tests.1 in
    let lengths = and_parts (nat_le 1 (length digits)) (nat_le (length digits) 6) parts.0 in
    let short : length digits ≤ 6 = grind (arith, nat_tests, lengths.1) in
    let whole = chosen.1 in
    let places : 0 + length digits ≡ length digits = omega arith in
    let low : decimal_value digits < 10 ^ length digits = subst (λ n. decimal_value digits < 10 ^ n) places (digits_small digits 0 0 (omega arith) parts.1) in
    let same : decimal_value digits * 10 ^ (6 - length digits) ≡ n = cc in
    subst (λ m. m < 1_000_000) same (scaled (decimal_value digits) (length digits) (10 ^ (6 - length digits)) low short refl)

-- a time from the year 1 to the year 9999 has 64 bits with a sign
time_fits : (text : List ℕ) (time : ℤ) → time_of text ≡ Some time → FitsSigned w64 time
time_fits text time is =
    let told = time_sound text time is in
    let year : IsYear (pos told.year) = year_within told.year told.year_in.1 in
    let days = day_count_bounds (pos told.year) told.month told.day (year, told.month_in, told.day_in) in
    let day = days_from_civil-day_count (pos told.year) told.month told.day in
    let small = fraction_small told.fraction told.microsecond told.fraction_is in
    subst (FitsSigned w64) (sym told.time_is)
    (microseconds_fit (days_from_civil (pos told.year) told.month told.day) (day_count (pos told.year) told.month told.day) (3600 * told.hour + 60 * told.minute + told.second) told.microsecond day days
    (omega (arith, told.hour_in, told.minute_in, told.second_in)) small)
  where
    year_within : (y : ℕ) → y ≤ 9999 → IsYear (pos y)
    year_within y low = omega (arith, signed_arith, low)

    microseconds_fit : (day : ℤ) (count second microsecond : ℕ) → up day + 4_371_953 ≡ down day + count → (366 ≤ count) × (count ≤ 7_304_849) → second < 86_400 → microsecond < 1_000_000 → FitsSigned w64 (in_microseconds day second microsecond)
    microseconds_fit day count second microsecond is bounds low small = omega (arith, ints, is, bounds.0, bounds.1, low, small)

-- ---- numbers

-- a value that is a number without a sign has 64 bits
abbrev IsShort : Data → Type 0
IsShort null = ⊤
IsShort (boolean b) = ⊤
IsShort (number (unsigned n)) = n < 2 ^ 64
IsShort (number (negative z)) = ⊤
IsShort (number (float x)) = ⊤
IsShort (string s) = ⊤
IsShort (array ds) = ⊤
IsShort (object ms) = ⊤

abbrev AreShort : Members → Type 0
AreShort no_members = ⊤
AreShort (member k d ms) = IsShort d × AreShort ms

abbrev HasShort : Data → Type 0
HasShort null = ⊤
HasShort (boolean b) = ⊤
HasShort (number n) = ⊤
HasShort (string s) = ⊤
HasShort (array ds) = ⊤
HasShort (object ms) = AreShort ms

float_short : (sign : Bool) (p : Parts) (n : Num) → float_of sign p ≡ Some n → IsShort (number n)
float_short sign p (unsigned m) is = let found = guarded (float_is_finite (nearest binary64 sign p)) (Some (float (nearest binary64 sign p))) (unsigned m) is in let same = found.1 in cc
float_short sign p (negative z) is = tt
float_short sign p (float x) is = tt

from_short : (sign : Bool) (p : Parts) (n : Num) → number_from sign p ≡ Some n → IsShort (number n)
from_short false p n is = by (is_integer p) (nat_lt (digits_of p) (2 ^ 64)) refl is
  where
    by : (whole small : Bool) → nat_lt (digits_of p) (2 ^ 64) ≡ small → cond (whole && small) (Some (unsigned (digits_of p))) (float_of false p) ≡ Some n → IsShort (number n)
    by true true test same =
        let low : digits_of p < 2 ^ 64 = grind (arith, nat_tests) in
        let one : unsigned (digits_of p) ≡ n = cc in
        subst (λ m. IsShort (number m)) one low
    by true false test other = float_short false p n other
    by false small test other = float_short false p n other
from_short true p n is = by (is_integer p && nat_lt 0 (digits_of p)) (nat_le (digits_of p) (2 ^ 63)) is
  where
    by : (whole small : Bool) → cond (whole && small) (Some (negative (with_sign true (digits_of p)))) (float_of true p) ≡ Some n → IsShort (number n)
    by true true same = let one : negative (with_sign true (digits_of p)) ≡ n = cc in subst (λ m. IsShort (number m)) one tt
    by true false other = float_short true p n other
    by false small other = float_short true p n other

number_short : (s : List ℕ) (n : Num) → number_of s ≡ Some n → IsShort (number n)
unfolding number_of
number_short s n is = by (slice_index s 0 == minus) is
  where
    by : (b : Bool) → cond b (number_from true (scan (drop 1 s))) (number_from false (scan s)) ≡ Some n → IsShort (number n)
    by true one = from_short true (scan (drop 1 s)) n one
    by false one = from_short false (scan s) n one

json_short : (j : json.Json) (d : Data) → of_json j ≡ Some d → IsShort d
json_short json.null d is = let same : null ≡ d = cc in subst IsShort same tt
json_short (json.boolean b) d is = let same : boolean b ≡ d = cc in subst IsShort same tt
json_short (json.number s) d is =
    let one = mapped number (number_of s) d is in
    subst IsShort one.2 (number_short s one.0 one.1)
json_short (json.string s) d is = let same : string s ≡ d = cc in subst IsShort same tt
json_short (json.array js) d is = let one = mapped array (of_items js) d is in subst IsShort one.2 tt
json_short (json.object ms) d is = let one = mapped object (of_members ms no_members) d is in subst IsShort one.2 tt

put_short : (k : List ℕ) (d : Data) (ms : Members) → IsShort d → AreShort ms → AreShort (put k d ms)
put_short k d no_members one all = (one, tt)
put_short k d (member l e ms) one all = by (slice_cmp nat_cmp k l) (put_short k d ms one all.1)
  where
    by : (o : Ordering) → AreShort (put k d ms) → AreShort (match_ordering o (member k d (member l e ms)) (member l d ms) (member l e (put k d ms)))
    by Less later = (one, all)
    by Equal later = (one, all.1)
    by Greater later = (all.0, later)

members_short : (ms : json.Members) (found all : Members) → AreShort found → of_members ms found ≡ Some all → AreShort all
members_short json.no_members found all short is = let same : found ≡ all = cc in subst AreShort same short
members_short (json.member k j ms) found all short is =
    let one = chained (λ d. of_members ms (put k d found)) (of_json j) all is in
    members_short ms (put k one.0 found) all (put_short k one.0 found (json_short j one.0 one.1) short) one.2

object_short : (j : json.Json) (d : Data) → of_json j ≡ Some d → HasShort d
object_short json.null d is = let same : null ≡ d = cc in subst HasShort same tt
object_short (json.boolean b) d is = let same : boolean b ≡ d = cc in subst HasShort same tt
object_short (json.number s) d is = let one = mapped number (number_of s) d is in subst HasShort one.2 tt
object_short (json.string s) d is = let same : string s ≡ d = cc in subst HasShort same tt
object_short (json.array js) d is = let one = mapped array (of_items js) d is in subst HasShort one.2 tt
object_short (json.object ms) d is =
    let one = mapped object (of_members ms no_members) d is in
    subst HasShort one.2 (members_short ms no_members one.0 tt one.1)

read_short : (line : List ℕ) (d : Data) → data_of line ≡ Some d → HasShort d
read_short line d is =
    let valid = guarded (is_utf8 line) (read line) d is in
    let one = chained of_json (option_and_then (λ p. json.if_last p.0 p.1) (json.value max_depth (tokens line))) d valid.1 in
    object_short one.0 d one.2

member_short : (k : List ℕ) (ms : Members) (d : Data) → AreShort ms → get_member k ms ≡ Some d → IsShort d
member_short k no_members d all is = cc
member_short k (member l e ms) d all is = by (slice_cmp nat_cmp k l) is (member_short k ms d all.1)
  where
    by : (o : Ordering) → match_ordering o (get_member k ms) (Some e) (get_member k ms) ≡ Some d → (get_member k ms ≡ Some d → IsShort d) → IsShort d
    by Less there later = later there
    by Equal here later = let same : e ≡ d = cc in subst IsShort same all.0
    by Greater there later = later there

got_short : (k : List ℕ) (json d : Data) → HasShort json → get k json ≡ Some d → IsShort d
got_short k null d all is = cc
got_short k (boolean b) d all is = cc
got_short k (number n) d all is = cc
got_short k (string s) d all is = cc
got_short k (array ds) d all is = cc
got_short k (object ms) d all is = member_short k ms d all is

number_at : (d : Data) (n : ℕ) → IsShort d → option_and_then as_u64 (as_number d) ≡ Some n → n < 2 ^ 64
number_at null n short is = cc
number_at (boolean b) n short is = cc
number_at (number (unsigned m)) n short is = let same : m ≡ n = cc in subst (λ k. k < 2 ^ 64) same short
number_at (number (negative z)) n short is = cc
number_at (number (float x)) n short is = cc
number_at (string s) n short is = cc
number_at (array ds) n short is = cc
number_at (object ms) n short is = cc

-- a revision has 64 bits
rev_fits : (json : Data) (n : ℕ) → HasShort json → rev_of json ≡ Some n → n < 2 ^ 64
rev_fits json n short is =
    let digits = chained from_one (option_and_then as_u64 (option_and_then as_number (get (codes "rev") json))) n is in
    let whole = guarded (nat_lt 0 digits.0) (Some digits.0) n digits.2 in
    let written = chained as_u64 (option_and_then as_number (get (codes "rev") json)) digits.0 digits.1 in
    let there = chained as_number (get (codes "rev") json) written.0 written.1 in
    let some = whole.1 in
    let same : digits.0 ≡ n = cc in
    subst (λ k. k < 2 ^ 64) same (number_at there.0 digits.0 (got_short (codes "rev") json there.0 short there.1) (ap (option_and_then as_u64) there.2 ∙ written.2))

-- ---- deliveries

-- what comes next gave it
else_given : {A B : Type 0} (cause : LineCause) (o : Option A) (next : A → Result B LineCause) (b : B) → else_cause cause o next ≡ Ok b → (a : A) × (o ≡ Some a) × (next a ≡ Ok b)
else_given cause None next b is = cc
else_given cause (Some a) next b is = (a, refl, is)

time_at-fits : (key : List ℕ) (json : Data) (time : ℤ) → time_at key json ≡ Some time → FitsSigned w64 time
time_at-fits key json time is = let one = chained time_of (text_at key json) time is in time_fits one.0 time one.2

entity_of-fits : (json : Data) (id : EntityId) → entity_of json ≡ Some id → IsId id
entity_of-fits json id is = let one = chained id_of (text_at (codes "entity") json) id is in (id_of-sound one.0 id one.2).0

event_fits : (json : Data) (e : Event) → HasShort json → event_in json ≡ Ok e → IsFitEvent e
event_fits json e short is =
    let name = else_given _ (kind_name json) _ e is in
    let entity = else_given _ (entity_of json) _ e name.2 in
    let rev = else_given _ (rev_of json) _ e entity.2 in
    let time = else_given _ (time_at (codes "time") json) _ e rev.2 in
    let kind = else_given _ (whole_kind json name.0) _ e time.2 in
    let made = kind.2 in
    let same : record { entity = entity.0; time = time.0; rev = rev.0; kind = kind.0 } ≡ e = cc in
    subst IsFitEvent same (record { id = entity_of-fits json entity.0 entity.1; time = time_at-fits (codes "time") json time.0 time.1; rev = rev_fits json rev.0 short rev.1 })

told_fits : (r : Result Event LineCause) (d : Delivery) → ((e : Event) → r ≡ Ok e → IsFitEvent e) → delivered r ≡ Ok d → IsFitDelivery d
told_fits (Ok e) d fit is = let same : Told e ≡ d = cc in subst IsFitDelivery same (fit e refl)
told_fits (Err cause) d fit is = cc

mark_fits : (json : Data) (d : Delivery) → watermark_in json ≡ Ok d → IsFitDelivery d
mark_fits json d is =
    let time = else_given _ (time_at (codes "watermark") json) _ d is in
    let made = time.2 in
    let same : Watermark time.0 ≡ d = cc in
    subst IsFitDelivery same (time_at-fits (codes "watermark") json time.0 time.1)

form_fits : (json : Data) (kind watermark ask mapping shapes : Option Data) (d : Delivery) → HasShort json → by_form json kind watermark ask mapping shapes ≡ Ok d → IsFitDelivery d
form_fits json (Some kind) None None None None d short is = told_fits (event_in json) d (λ e made. event_fits json e short made) is
form_fits json (Some kind) None None None (Some q) d short is = cc
form_fits json (Some kind) None None (Some m) q d short is = cc
form_fits json (Some kind) None (Some a) m q d short is = cc
form_fits json (Some kind) (Some w) a m q d short is = cc
form_fits json None (Some w) None None None d short is = mark_fits json d is
form_fits json None (Some w) None None (Some q) d short is = cc
form_fits json None (Some w) None (Some m) q d short is = cc
form_fits json None (Some w) (Some a) m q d short is = cc
form_fits json None None (Some a) None None d short is =
    let one = else_given _ (pattern_of a) _ d is in
    let made = one.2 in
    let same : Ask one.0 ≡ d = cc in
    subst IsFitDelivery same tt
form_fits json None None (Some a) None (Some q) d short is = cc
form_fits json None None (Some a) (Some m) q d short is = cc
form_fits json None None None (Some m) None d short is =
    let one = else_given _ (version_of m) _ d is in
    let made = one.2 in
    let same : Mapping one.0 ≡ d = cc in
    subst IsFitDelivery same tt
form_fits json None None None (Some m) (Some q) d short is = cc
form_fits json None None None None (Some q) d short is =
    let one = else_given _ (query_in q) _ d is in
    let made = one.2 in
    let same : Match one.0 ≡ d = cc in
    subst IsFitDelivery same tt
form_fits json None None None None None d short is = cc

pub line_fits : (line : List ℕ) (d : Delivery) → delivery_of line ≡ Ok d → IsFitDelivery d
line_fits line d is =
    let value = else_given _ (data_of line) delivery_in d is in
    form_fits value.0 (get (codes "kind") value.0) (get (codes "watermark") value.0) (get (codes "ask") value.0) (get (codes "mapping") value.0) (get (codes "match") value.0) d (read_short line value.0 value.1) value.2
