-- Which lines the types of the code hold, and ids of entities with numbers from 1.
use Rattle.std.specs.Prelude.{⊤, ◌<◌, ◌^◌, IfSome, FitsSigned}
use Rattle.std.specs.Int.{w64}
use Rattle.entity_model.specs.{declared.event.Event.Event, EntityId.IsId}
use Rattle.entity_state.specs.declared.record.Record.{Record}
use Rattle.entity_state.specs.{declared.entry.Entry.Entry, declared.entry.Entry.TheVariants.Late, declared.entry.Entry.TheVariants.Revision}
use Rattle.entity_json.specs.Document.{unfit_of}
use Rattle.replay_model.specs.{Records.Bytes, Replies.HoldsDocument}
use Rattle.snapshot.specs.{declared.counts.Counts.Counts, declared.line.Head.Head, declared.line.Line.Line}
use Rattle.snapshot.specs.declared.line.Line.TheVariants.{Head as Begins, Remembered, Entity, Side, End}

-- the event's entity is one, its time has 64 bits with a sign, and its revision 64 bits
pub record IsFitEvent (e : Event) : Type 0 where
  pub id : IsId e.entity
  pub time : FitsSigned w64 e.time
  pub rev : e.rev < 2 ^ 64

-- each count has 64 bits
pub record AreFitCounts (c : Counts) : Type 0 where
  pub asks : c.asks < 2 ^ 64
  pub matches : c.matches < 2 ^ 64
  pub patches : c.patches < 2 ^ 64
  pub lines : c.lines < 2 ^ 64

pub record IsFitHead (h : Head) : Type 0 where
  pub mark : IfSome h.mark (FitsSigned w64)
  pub horizon : IfSome h.horizon (λ n. n < 2 ^ 64)
  pub counts : AreFitCounts h.counts

pub record IsFitRecord (r : Record Bytes) : Type 0 where
  pub rev : r.state.rev < 2 ^ 64
  pub held : IfSome r.held (λ h. h.revision < 2 ^ 64)
  pub reconciled : IfSome r.reconciled IsFitEvent

abbrev pub IsFitEntry : Entry → Type 0
IsFitEntry (Late e) = IsFitEvent e
IsFitEntry (Revision e r cause) = IsFitEvent e × (r < 2 ^ 64)

-- what the line of a record holds is a document of its entity
abbrev pub HasDocument : Line → Type 0
HasDocument (Begins h) = ⊤
HasDocument (Remembered e) = ⊤
HasDocument (Entity x r) = HoldsDocument unfit_of x r.held
HasDocument (Side entry) = ⊤
HasDocument (End n) = ⊤

abbrev pub IsFitLine : Line → Type 0
IsFitLine (Begins h) = IsFitHead h
IsFitLine (Remembered e) = IsFitEvent e
IsFitLine (Entity x r) = IsId x × IsFitRecord r
IsFitLine (Side entry) = IsFitEntry entry
IsFitLine (End n) = n < 2 ^ 64
