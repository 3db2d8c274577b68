-- A world has the limit that is asked for, and is lean if that is asked for, unless memory was refused.
use Rattle.std.proofs.Common.{◌≡◌, ◌⊎◌, ◌∙◌, inl, inr, refl, sym, ap, subst, true≢false, ℕ, Bool, true, false, Option, Result, Ok, Err, OnErr, OnOk}
use Rattle.std.specs.FinMap as map
use Rattle.std.specs.FinMap.{len-empty}
use Rattle.replay_model.specs.{Play.Played, Play.nothing_played, ReplayState.ReplayState, ReplayState.nothing_delivered_within}
use Rattle.holders.proofs.Rooming.{nothing_held}
use Rattle.arguments.specs.Options.{Choices, max_terms_of}
use Rattle.run_model.specs.{Moment.limit_of, Remapping.HoldsWithin}
use Rattle.run_model.specs.declared.status.Status.TheVariants.{OutOfMemory}
use Rattle.session.specs.Plans.{KeepsLimit}
use Rattle.world.specs.{Limit.Limit, Limit.whole, WorldState.WorldState}

-- nothing else has changed
pub record IsLimited {E : Type 0} (choices : Choices) (old now : WorldState) (result : Result (Unit {0}) E) : Type 0 where
  pub rest : now ≡ record old { limit = now.limit }
  pub limit : OnOk result (now.limit ≡ limit_of choices)
  pub terms : now.limit.terms ≡ max_terms_of choices
  pub whole : choices.lean ≡ false → now.limit ≡ limit_of choices

-- a limit was set
set_to : (old now : WorldState) (limit : Limit) → now ≡ record old { limit = limit } → now ≡ record old { limit = now.limit }
set_to old now limit is = is ∙ ap (λ (l : Limit). record old { limit = l }) (sym (ap (λ (w : WorldState). w.limit) is))

-- the world was made lean, or wasn't, since memory was refused
pub made_lean : {E : Type 0} (choices : Choices) (terms : ℕ) (old between now : WorldState) (result : Result (Unit {0}) E) → between ≡ record old { limit = whole terms } → terms ≡ max_terms_of choices → true ≡ choices.lean →
    OnOk result (now ≡ record between { limit = record { terms = terms; lean = true } }) → OnErr result (now ≡ between) → IsLimited choices old now result
made_lean choices terms old between now (Ok done) was many lean ok err =
    let limit : Limit = record { terms = terms; lean = true } in
    let is : now ≡ record old { limit = limit } = ok ∙ ap (λ (w : WorldState). record w { limit = limit }) was in
    let limit_is : now.limit ≡ limit_of choices = ap (λ (w : WorldState). w.limit) is ∙ (λ i. record { terms = many i; lean = lean i }) in
    record { rest = set_to old now limit is; limit = limit_is; terms = ap (λ (w : WorldState). w.limit.terms) is ∙ many; whole = λ _. limit_is }
made_lean choices terms old between now (Err refused) was many lean ok err =
    let is : now ≡ record old { limit = whole terms } = err ∙ was in
    record { rest = set_to old now (whole terms) is; limit = tt; terms = ap (λ (w : WorldState). w.limit.terms) is ∙ many; whole = λ no. absurd (true≢false (lean ∙ no)) }

-- it has the limit, and isn't lean
pub left_whole : (choices : Choices) (terms : ℕ) (old now : WorldState) → now ≡ record old { limit = whole terms } → terms ≡ max_terms_of choices → false ≡ choices.lean → IsLimited {E = Unit {0}} choices old now (Ok tt)
left_whole choices terms old now is many lean =
    let limit_is : now.limit ≡ limit_of choices = ap (λ (w : WorldState). w.limit) is ∙ (λ i. record { terms = many i; lean = lean i }) in
    record { rest = set_to old now (whole terms) is; limit = limit_is; terms = ap (λ (w : WorldState). w.limit.terms) is ∙ many; whole = λ _. limit_is }

-- a world that was prepared as far as there was memory for it keeps its limit
pub kept_limit : (limit : Limit) (world : WorldState) → world.limit.terms ≡ limit.terms → HoldsWithin world.limit world → (limit.lean ≡ false → world.limit ≡ limit) → KeepsLimit OutOfMemory limit world
kept_limit limit world terms held whole = record { terms = terms; held = held; is = by limit.lean refl }
  where
    by : (b : Bool) → limit.lean ≡ b → (world.limit ≡ limit) ⊎ ((limit.lean ≡ true) × (OutOfMemory ≡ OutOfMemory))
    by true is = inr (is, refl)
    by false is = inl (whole is)

-- where nothing was delivered, nothing was within the horizon that it has
pub still_unplayed : (w : WorldState) (h : Option ℕ) → w.replay ≡ nothing_delivered_within h → w.replay ≡ nothing_delivered_within w.replay.buffer.horizon
still_unplayed w h is = is ∙ ap (λ (s : ReplayState). nothing_delivered_within s.buffer.horizon) (sym is)

-- and where nothing is held, it stays within any limit
pub holds_nothing : (w : WorldState) → w.replay.played ≡ nothing_played → HoldsWithin w.limit w
holds_nothing w is = nothing_held _ w.replay.played.records _ (subst (λ (p : Played). map.len p.records ≡ 0) (sym is) (len-empty _ _))
