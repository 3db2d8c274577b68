-- One delivery after the other, in the part and in the whole.
use Rattle.std.proofs.Common.{ap, ◌∙◌}
use Rattle.std.specs.FinMap as map
use Rattle.replay_model.specs.Entries.{is_open_in}
use Rattle.replay_model.specs.Play.{Played, played}
use Rattle.replay_model.specs.Records.{record_of}
use Rattle.replay_parts.proofs.Routed.{mark-routed, version-routed, asks-routed, matches-routed}
use Rattle.replay_parts.proofs.PlayedParts.{following-routed, following_to_end-routed, played-routed, record_of-part, get-part, is_open-own}
use Rattle.replay_parts.proofs.PartFetches.{fetches-routed, fetches_to_end-routed}
use Rattle.replay_parts.proofs.parts.replay_of_a_part_is_the_part_of_a_replay.Goals as goal

pub returns-clause-state : goal.returns-clause-state
returns-clause-state c contains own replies agree = following-routed contains own replies agree

pub returns-clause-the_end : goal.returns-clause-the_end
returns-clause-the_end c contains own replies agree = following_to_end-routed contains own replies agree

pub returns-clause-played : goal.returns-clause-played
returns-clause-played c contains own replies agree = played-routed contains own replies agree

pub returns-clause-record : goal.returns-clause-record
returns-clause-record c contains own replies agree h closed ds x =
    ap (λ (p : Played). record_of p.records x) (played-routed contains own replies agree h closed ds) ∙ record_of-part contains (played h closed replies ds).records x

pub returns-clause-entry : goal.returns-clause-entry
returns-clause-entry c contains own replies agree h closed ds x =
    ap (λ (p : Played). map.get p.records x) (played-routed contains own replies agree h closed ds) ∙ get-part contains (played h closed replies ds).records x

pub returns-clause-side : goal.returns-clause-side
returns-clause-side c contains own replies agree h closed ds = ap (λ (p : Played). p.side) (played-routed contains own replies agree h closed ds)

pub returns-clause-open : goal.returns-clause-open
returns-clause-open c contains own replies agree h closed ds entry is =
    ap (λ (p : Played). is_open_in p.records entry) (played-routed contains own replies agree h closed ds) ∙ is_open-own contains (played h closed replies ds).records entry is

pub returns-clause-mark : goal.returns-clause-mark
returns-clause-mark c = mark-routed

pub returns-clause-version : goal.returns-clause-version
returns-clause-version c = version-routed

pub returns-clause-asked : goal.returns-clause-asked
returns-clause-asked c = asks-routed

pub returns-clause-matched : goal.returns-clause-matched
returns-clause-matched c = matches-routed

pub returns-clause-fetches : goal.returns-clause-fetches
returns-clause-fetches c contains own replies agree = fetches-routed contains own replies agree

pub returns-clause-fetches_to_end : goal.returns-clause-fetches_to_end
returns-clause-fetches_to_end c contains own replies agree = fetches_to_end-routed contains own replies agree
