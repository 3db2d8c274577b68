-- The texts begin with none, so they are those of what is left of each triple.
use Rattle.std.proofs.Common.{◌≡◌, [], ◌∷◌, ◌++◌, Result, Ok, Err, ap, ◌∙◌}
use Rattle.std.specs.Prelude.{IfOk}
use Rattle.std.specs.List.{flat_map}
use Rattle.rdf_term.specs.declared.triple.Triple.{Triple}
use Rattle.munger.specs.Munging.{munged}
use Rattle.munger.proofs.Kept.{kept_is}
use Rattle.entity_rdf.specs.Counted.{counted_triples}
use Rattle.entity_rdf.proofs.counted.counted_texts.Goals as goal

weaker : {A B : Type 0} (r : Result A B) (P Q : A → Type 0) → ((x : A) → P x → Q x) → IfOk r P → IfOk r Q
weaker (Ok x) P Q f h = f x h
weaker (Err e) P Q f h = tt

pub returns : goal.returns
returns c =
    let all = counted_triples c.args.setting.version c.args.id c.args.counted.rev c.args.counted.counts c.args.counted.entity.now in
    let kept = flat_map (λ (t : Triple). flat_map (λ (x : Triple). x ∷ []) (munged c.args.id t)) all in
    weaker c.munge_counted_into.result (λ texts. texts ≡ c.new.result ++ kept) (λ texts. texts ≡ flat_map (munged c.args.id) all)
    (λ texts is. is ∙ ap (λ front. front ++ kept) c.new.ensures ∙ kept_is c.args.id all) c.munge_counted_into.ensures
