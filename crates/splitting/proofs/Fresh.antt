-- Graphs without entities follow a world to which nothing was delivered.
use Rattle.std.proofs.Common.{◌≡◌, true≢false, ℕ, List, [], Option, None, Some, IfSome, sym, ◌∙◌, ap, subst}
use Rattle.std.specs.FinMap as map
use Rattle.entity_model.specs.{declared.mapping.MappingVersion.MappingVersion, declared.id.EntityId.EntityId}
use Rattle.entity_state.specs.declared.record.Record.{Record}
use Rattle.replay_model.specs.{Records.Bytes, Records.Records, ReplayState.nothing_delivered_within, Versions.meaning_by}
use Rattle.replay_model.proofs.RecordOf.{record_of-empty}
use Rattle.subgraph.specs.{Entries.Entries, Laws.IsSplitOf, Laws.entry_held}
use Rattle.graph_routes.specs.declared.routes.Route.{Route}
use Rattle.fetched_pages.specs.Meaning.{meaning}
use Rattle.holders.specs.Holding.{AreHolders}
use Rattle.world.specs.{Limit.Limit, Limit.whole, Routed.routing_by, WorldState.WorldState}
use Rattle.splitting.specs.Graphs.{AreEntriesOf, Follow, GraphsState, MayFollow}

-- a world to which nothing was delivered
abbrev pub blank_world : Option ℕ → Limit → MappingVersion → WorldState
blank_world h limit version = record { replay = nothing_delivered_within h; limit = limit; mapping = version; by_two = [] }

pub fresh_follow : (g : GraphsState) (h : Option ℕ) (limit : Limit) (version : MappingVersion) → g.entries ≡ Some map.empty → limit ≡ whole g.limit → Follow g (blank_world h limit version)
fresh_follow g h limit version fresh same =
    subst (λ (o : Option Entries). IfSome o (AreEntriesOf g.routes g.limit (blank_world h limit version))) (sym fresh) (record {
      split = record {
        entry_is = λ x. map.get-empty _ x ∙ sym (ap (λ (r : Record Bytes). entry_held (routing_by g.routes) (meaning_by meaning []) x r.held) (record_of-empty x));
      };
      holders = record { rising = tt; holding = λ x there. absurd (true≢false (sym there)) };
      limit_is = same;
    })

-- the same, where there may be graphs
pub fresh_may_follow : (graphs : Option GraphsState) (h : Option ℕ) (limit : Limit) (version : MappingVersion) → IfSome graphs (λ (g : GraphsState). (g.entries ≡ Some map.empty) × (limit ≡ whole g.limit)) → MayFollow graphs (blank_world h limit version)
fresh_may_follow None h limit version fresh = tt
fresh_may_follow (Some g) h limit version fresh = fresh_follow g h limit version fresh.0 fresh.1

still_of : (routes : List Route) (limit : ℕ) (entries : Option Entries) (before after : WorldState) → after.replay.played.records ≡ before.replay.played.records → after.by_two ≡ before.by_two → after.limit ≡ before.limit
    → IfSome entries (AreEntriesOf routes limit before) → IfSome entries (AreEntriesOf routes limit after)
still_of routes limit None before after records by_two same follows = tt
still_of routes limit (Some entries) before after records by_two same follows =
    let There : Records → List EntityId → Type 0 = λ r ids. IsSplitOf (routing_by routes) (meaning_by meaning ids) entries r in
    record {
      split = subst (λ r. There r after.by_two) (sym records) (subst (There before.replay.played.records) (sym by_two) follows.split);
      holders = subst (AreHolders after.by_two) (sym records) (subst (λ ids. AreHolders ids before.replay.played.records) (sym by_two) follows.holders);
      limit_is = same ∙ follows.limit_is;
    }

-- graphs follow a world where what is held, by which versions it is mapped, and how many terms there may be, stays the same
pub follow_same : (graphs : Option GraphsState) (before after : WorldState) → after.replay.played.records ≡ before.replay.played.records → after.by_two ≡ before.by_two → after.limit ≡ before.limit → MayFollow graphs before → MayFollow graphs after
follow_same None before after records by_two same follows = tt
follow_same (Some g) before after records by_two same follows = still_of g.routes g.limit g.entries before after records by_two same follows
