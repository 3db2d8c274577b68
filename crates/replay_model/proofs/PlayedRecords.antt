-- The records of a replay are those that the due events leave, applied in order.
use Rattle.std.proofs.Common.{◌≡◌, Bool, true, false, List, [], ◌∷◌, ◌++◌, fold, refl, sym, ◌∙◌, ap, Option, ℕ}
use Rattle.std.specs.FinMap as map
use Rattle.std.proofs.lemmas.List.Sums.{fold-append}
use Rattle.entity_model.specs.declared.event.Event.{Event}
use Rattle.delivery.specs.declared.Delivery.{Delivery}
use Rattle.delivery.specs.declared.Delivery.TheVariants.{Event as Told, Watermark, Ask, Mapping, Match}
use Rattle.sorted_sets.proofs.Pushes.{by_pushes}
use Rattle.replay_model.specs.Acceptance.{due}
use Rattle.replay_model.specs.Fate.{in_order}
use Rattle.replay_model.specs.Records.{Records}
use Rattle.replay_model.specs.Play.{Replies, Played, records_after, apply, apply_all, newly_due, happens, play, played}
use Rattle.replay_model.proofs.Arrivals.{play-push}
use Rattle.replay_model.proofs.Deliveries.{due-told, due-kept}
use Rattle.replay_model.proofs.DueParts.{due-watermark, due-end}

pub records-apply_all : (replies : Replies) (p : Played) (es : List Event) → (apply_all replies p es).records ≡ fold (records_after replies) p.records es
records-apply_all replies p [] = refl
records-apply_all replies p (e ∷ es) = records-apply_all replies (apply replies p e) es

-- the records that these events leave
abbrev pub records_of : Replies → List Event → Records
records_of replies es = fold (records_after replies) map.empty es

records-more : (replies : Replies) (p : Played) (es fs gs : List Event) → p.records ≡ records_of replies es → gs ≡ es ++ fs → (apply_all replies p fs).records ≡ records_of replies gs
records-more replies p es fs gs before parts =
    records-apply_all replies p fs
    ∙ ap (λ m. fold (records_after replies) m fs) before
    ∙ sym (fold-append (records_after replies) map.empty es fs)
    ∙ ap (records_of replies) (sym parts)

records-delivery : (hz : Option ℕ) (replies : Replies) (ds : List Delivery) (d : Delivery) → (play hz replies ds).records ≡ records_of replies (in_order (due hz false ds)) → (happens hz replies ds d (play hz replies ds)).records ≡ records_of replies (in_order (due hz false (ds ++ d ∷ [])))
records-delivery hz replies ds (Told e) before = before ∙ ap (λ l. records_of replies (in_order l)) (sym (due-told hz ds e))
records-delivery hz replies ds (Ask q) before = before ∙ ap (λ l. records_of replies (in_order l)) (sym (due-kept hz false ds (Ask q) refl refl))
records-delivery hz replies ds (Mapping v) before = before ∙ ap (λ l. records_of replies (in_order l)) (sym (due-kept hz false ds (Mapping v) refl refl))
records-delivery hz replies ds (Match q) before = before ∙ ap (λ l. records_of replies (in_order l)) (sym (due-kept hz false ds (Match q) refl refl))
records-delivery hz replies ds (Watermark w) before = records-more replies (play hz replies ds) (in_order (due hz false ds)) (newly_due hz ds false (ds ++ Watermark w ∷ [])) _ before (due-watermark hz ds w)

records-play : (hz : Option ℕ) (replies : Replies) (ds : List Delivery) → (play hz replies ds).records ≡ records_of replies (in_order (due hz false ds))
records-play hz replies = by_pushes (λ ds. (play hz replies ds).records ≡ records_of replies (in_order (due hz false ds))) refl
    (λ ds d before. ap (λ p. p.records) (play-push hz replies ds d) ∙ records-delivery hz replies ds d before)

pub records-played : (hz : Option ℕ) (closed : Bool) (replies : Replies) (ds : List Delivery) → (played hz closed replies ds).records ≡ records_of replies (in_order (due hz closed ds))
records-played hz false replies ds = records-play hz replies ds
records-played hz true replies ds = records-more replies (play hz replies ds) (in_order (due hz false ds)) (newly_due hz ds true ds) _ (records-play hz replies ds) (due-end hz ds)
