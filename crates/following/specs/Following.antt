-- What a follower prints, and what it leaves.
use Rattle.std.specs.Prelude.{◌≡◌, ◌⊎◌, ℕ, Bool, false, cond, List, [], ◌++◌, None, IfSome, codes, decimal}
use Rattle.wq_io.specs.{Streams.IsAtEnd, Streams.after_known, declared.source.Source.Ghosts as SourceOf}
use Rattle.wq_io.specs.declared.sink.Sink.{Ghosts as SinkOf}
use Rattle.rdf_term.specs.declared.triple.Triple.{Triple}
use Rattle.rdf_term.specs.Limits.{default_max_terms}
use Rattle.replica.specs.{declared.record.PatchRecord.PatchRecord, Laws.IsGreatest, Replica.after}
use Rattle.replay_model.specs.Transcript.{export_section}
use Rattle.text_output.specs.{declared.write.Unwritten.Unwritten, Printing.IsCutShort, Printing.Output, Printing.output}
use Rattle.arguments.specs.Options.{FollowChoices, follow_max_bytes_of}
use Rattle.following.specs.{declared.stop.FollowStop.FollowStop, Input.Input, Input.input, Reading.AreRecords}
use Rattle.following.specs.{Stop.TakingStopped, Stop.stop_of_unwritten, Taking.HadRoom}

-- the line `# replica <applied>`
unfoldable pub replica_line : ℕ → List ℕ
replica_line applied = codes "# replica " ++ decimal applied ++ codes "\n"

-- what is printed at the end: how many records were applied, and, where it is asked for, the section of the triples
abbrev pub replica_text : Bool → ℕ → List Triple → List ℕ
replica_text export applied triples = replica_line applied ++ cond export (export_section triples) []

-- for how many distinct terms a follower has room
abbrev pub follower_limit : ℕ
follower_limit = default_max_terms

-- what stands at a moment
pub record FollowMoment : Type 0 where
  pub input : Input
  pub output : Output

-- the moment that these are
abbrev pub follow_moment : {S K : Type 0} → SourceOf S → SinkOf K → S → K → FollowMoment
follow_moment source sink events out = record { input = input source events; output = output sink out }

-- the whole input was read and its lines are those of these records; the number is the greatest such that those up to it are there,
-- and there was room for them
pub record HasFollowed (choices : FollowChoices) (items : List PatchRecord) (applied : ℕ) (before now : Input) : Type 0 where
  pub read : IsAtEnd now.left
  pub are : IfSome before.left (λ bytes. AreRecords (follow_max_bytes_of choices) bytes items None)
  pub greatest : IsGreatest items applied
  pub roomed : HadRoom follower_limit items applied

-- a follower ended with Ok: the triples after these records were printed, if they were asked for; and if nothing waited before to be handed on
-- to the outside, nothing waits
pub record Ending (choices : FollowChoices) (before now : FollowMoment) : Type 0 where
  pub items : List PatchRecord
  pub applied : ℕ
  pub followed : HasFollowed choices items applied before.input now.input
  pub printed : now.output.bytes ≡ after_known before.output.bytes (replica_text choices.export applied (after items applied))
  pub handed : before.output.waits ≡ false → now.output.waits ≡ false

-- all records were followed, and then a prefix of what is printed was written, and nothing else
pub record BrokenOff (why : Unwritten) (choices : FollowChoices) (before now : FollowMoment) : Type 0 where
  pub items : List PatchRecord
  pub applied : ℕ
  pub followed : HasFollowed choices items applied before.input now.input
  pub cut_short : IsCutShort why (replica_text choices.export applied (after items applied)) before.output now.output

-- a follower stopped before it printed anything, the output being as it was, or while it printed
abbrev pub StoppedFollowing : FollowStop → FollowChoices → FollowMoment → FollowMoment → Type 0
StoppedFollowing stop choices before now =
    (TakingStopped stop (follow_max_bytes_of choices) follower_limit before.input now.input × (now.output ≡ before.output))
    ⊎ ((why : Unwritten) × (stop ≡ stop_of_unwritten why) × BrokenOff why choices before now)
