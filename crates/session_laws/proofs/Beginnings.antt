-- The first lines of an input are a beginning of its deliveries, with their events and their versions of the mapping.
use Rattle.std.proofs.Common.{◌≡◌, refl, sym, subst, ◌∙◌, ap, inl, inr, ℕ, List, [], ◌∷◌, ◌++◌, append_assoc, append-nil, ◌||◌, Option, None, Some, IfSome, Result, Ok, Err, filter_map, unwrap_or}
use Rattle.std.specs.{List.last_or, Option.option_map}
use Rattle.std.proofs.lemmas.List.Elements.{filter_map-append}
use Rattle.sorted_sets.specs.Rising.{In, has}
use Rattle.sorted_sets.proofs.Rising.{has-append}
use Rattle.wq_io.specs.{Lines.lines, Lines.input_lines, Streams.before_known}
use Rattle.delivery.specs.{declared.Delivery.Delivery, declared.Delivery.TheVariants.Mapping}
use Rattle.entity_model.specs.{declared.mapping.MappingVersion.MappingVersion, declared.mapping.MappingVersion.TheVariants.One}
use Rattle.entity_model.specs.Event.{event_cmp}
use Rattle.event_line.specs.declared.faults.LineCause.{LineCause}
use Rattle.replay_model.specs.Acceptance.{event_of, events, mapping_of, version_in_force}
use Rattle.drill_replay.specs.Told.{versions_told}
use Rattle.run_model.specs.Reading.{AreDeliveries, AreFirst, deliveries_of, line_delivers, onto_deliveries}
use Rattle.drill_replay.proofs.{Gathered.in_front, Gathered.in_rest, Named.AreAmong}

-- the deliveries begin with these
pub record Begins (ds first : List Delivery) : Type 0 where
  pub rest : List Delivery
  pub is : ds ≡ first ++ rest

-- and so with the first of these
pub begins-fewer : (ds first more : List Delivery) → Begins ds (first ++ more) → Begins ds first
begins-fewer ds first more b = record { rest = more ++ b.rest; is = b.is ∙ append_assoc first more b.rest }

-- they begin with all of themselves
pub begins-all : (ds : List Delivery) → Begins ds ds
begins-all ds = record { rest = []; is = sym (append-nil ds) }

-- ---- lines

-- a delivery before others, all of which are there
pub record IsOnto (r : Result Delivery LineCause) (o : Option (List Delivery)) (ds : List Delivery) : Type 0 where
  pub head : Delivery
  pub tail : List Delivery
  pub line : r ≡ Ok head
  pub others : o ≡ Some tail
  pub is : ds ≡ head ∷ tail

pub onto_parts : (r : Result Delivery LineCause) (o : Option (List Delivery)) (ds : List Delivery) → onto_deliveries r o ≡ Some ds → IsOnto r o ds
onto_parts (Ok d) (Some others) ds is = let same : d ∷ others ≡ ds = cc in record { head = d; tail = others; line = refl; others = refl; is = sym same }
onto_parts (Ok d) None ds is = cc
onto_parts (Err cause) o ds is = cc

-- the deliveries of the first lines are the first deliveries
pub first_deliveries : (before others : List (List ℕ)) (first ds : List Delivery) → deliveries_of before ≡ Some first → deliveries_of (before ++ others) ≡ Some ds → Begins ds first
first_deliveries [] others first ds is all = let none : [] ≡ first = cc in record { rest = ds; is = ap (λ l. l ++ ds) none }
first_deliveries (line ∷ before) others first ds is all =
    let a = onto_parts (line_delivers line) (deliveries_of before) first is in
    let b = onto_parts (line_delivers line) (deliveries_of (before ++ others)) ds all in
    let later = first_deliveries before others a.tail b.tail a.others b.others in
    let same : Ok b.head ≡ Ok a.head = sym b.line ∙ a.line in
    let head : b.head ≡ a.head = cc in
    record { rest = later.rest; is = b.is ∙ (λ i. head i ∷ later.is i) ∙ ap (λ l. l ++ later.rest) (sym a.is) }

pub first_begins : (limit : ℕ) (left left_now : Option (List ℕ)) (bytes : List ℕ) (first ds : List Delivery) → left ≡ Some bytes → AreDeliveries limit bytes ds → AreFirst limit left left_now first → Begins ds first
first_begins limit left left_now bytes first ds known are taken = by (input_lines (before_known (taken.part ++ taken.last) left_now)) taken.are_lines
  where
    by : (o : Option (List (List ℕ))) → input_lines left ≡ option_map (λ (ls : List (List ℕ)). taken.before ++ ls) o → Begins ds first
    by None is = let never : Some (lines bytes) ≡ None = sym (ap input_lines known) ∙ is in cc
    by (Some others) is =
        let same : Some (lines bytes) ≡ Some (taken.before ++ others) = sym (ap input_lines known) ∙ is in
        let all : lines bytes ≡ taken.before ++ others = cc in
        first_deliveries taken.before others first ds taken.delivered (subst (λ l. deliveries_of l ≡ Some ds) all are.delivered)

-- ---- events and versions

-- the events of a beginning are among the events
pub begins-events : (ds first : List Delivery) → Begins ds first → AreAmong (events first) (events ds)
begins-events ds first b e h =
    ap (λ l. has event_cmp e (events l)) b.is
    ∙ ap (has event_cmp e) (filter_map-append event_of first b.rest)
    ∙ has-append event_cmp e (events first) (events b.rest)
    ∙ ap (λ t. t || has event_cmp e (events b.rest)) h

begins-versions : (ds first : List Delivery) (v : MappingVersion) → Begins ds first → In v (filter_map mapping_of first) → In v (versions_told ds)
begins-versions ds first v b there =
    inr (subst (In v) (sym (ap (filter_map mapping_of) b.is ∙ filter_map-append mapping_of first b.rest)) (in_front v (filter_map mapping_of first) (filter_map mapping_of b.rest) there))

last_told : (all : List MappingVersion) (o : Option MappingVersion) (vs : List MappingVersion) → IfSome o (λ v. In v all) → ((v : MappingVersion) → In v vs → In v all) → In One all → In (unwrap_or (last_or o vs) One) all
last_told all None [] so_far told one = one
last_told all (Some v) [] so_far told one = so_far
last_told all o (v ∷ vs) so_far told one = last_told all (Some v) vs (told v (inl refl)) (λ w there. told w (inr there)) one

-- the version in force after a beginning is one of those that are told
pub begins-in_force : (ds first : List Delivery) → Begins ds first → In (version_in_force first) (versions_told ds)
begins-in_force ds first b = last_told (versions_told ds) None (filter_map mapping_of first) tt (λ v there. begins-versions ds first v b there) (inl refl)

-- and so is the one that its last delivery brings
pub begins-mapping : (ds first : List Delivery) (v : MappingVersion) → Begins ds (first ++ Mapping v ∷ []) → In v (versions_told ds)
begins-mapping ds first v b =
    begins-versions ds (first ++ Mapping v ∷ []) v b
    (subst (In v) (sym (filter_map-append mapping_of first (Mapping v ∷ []))) (in_rest v (filter_map mapping_of first) (v ∷ []) (inl refl)))
