-- After each line the world may take more.
use Rattle.std.proofs.Common.{◌-◌, refl, sym, subst}
use Rattle.std.specs.Result.{OnOk}
use Rattle.snapshot.specs.declared.line.Line.TheVariants.{Entity}
use Rattle.checkpoint.specs.declared.stage.Stage.TheVariants.{Begun}
use Rattle.checkpoint.specs.{declared.stage.Stage.Stage, Loading.IsReady, Loading.LacksRoom, Loading.loading_of, Saved.AreWithin}
use Rattle.world_snapshots.proofs.Steps.{entry_ready, event_ready, head_ready, on_ok_both, record_ready}
use Rattle.world_snapshots.proofs.loader.Loader.take.Goals as goal

pub returns-else-not-are_within-clause-ready : goal.returns-else-not-are_within-clause-ready
returns-else-not-are_within-clause-ready c =
    let within : AreWithin c.in-Unbegun-Head.head.counts = c.are_within.ensures.0 c.if-not-are_within.false in
    subst (λ (s : Stage). IsReady c.begin.new.self.world s c.args.number) (sym c.begin.ensures.stage)
    (head_ready c.args.self.now.world c.begin.new.self.world (c.args.number - 1) c.args.number c.in-Unbegun-Head.head _
    (subst (λ (s : Stage). IsReady c.args.self.now.world s (c.args.number - 1)) c.in-Unbegun-Head.is-0 c.requires.ready) c.begin.ensures.world within)

pub returns-in_ok-remember-in-Begun-Remembered-clause-ready : goal.returns-in_ok-remember-in-Begun-Remembered-clause-ready
returns-in_ok-remember-in-Begun-Remembered-clause-ready c =
    subst (λ (s : Stage). IsReady c.remember.new.self s c.args.number) (sym c.in-Begun-Remembered.is-0)
    (event_ready c.args.self.now.world c.remember.new.self c.in-Begun-Remembered.field-0-0 (c.args.number - 1) c.args.number c.in-Begun-Remembered.event
    (subst (λ (s : Stage). IsReady c.args.self.now.world s (c.args.number - 1)) c.in-Begun-Remembered.is-0 c.requires.ready) c.in_ok-remember-in-Begun-Remembered.ensures.ok)

pub returns-in-Begun-Side-clause-ready : goal.returns-in-Begun-Side-clause-ready
returns-in-Begun-Side-clause-ready c =
    subst (λ (s : Stage). OnOk c.note.result (IsReady c.note.new.world s c.args.number)) (sym c.in-Begun-Side.is-0)
    (on_ok_both c.note.result c.note.ensures.ok c.note.ensures.sound (λ ok sound.
    entry_ready c.args.self.now.world c.note.new.world c.in-Begun-Side.field-0-0 (c.args.number - 1) c.args.number c.in-Begun-Side.entry
    (subst (λ (s : Stage). IsReady c.args.self.now.world s (c.args.number - 1)) c.in-Begun-Side.is-0 c.requires.ready) sound ok))

pub returns-in-Begun-Entity-clause-ready : goal.returns-in-Begun-Entity-clause-ready
returns-in-Begun-Entity-clause-ready c =
    subst (λ (s : Stage). OnOk c.restore.result (IsReady c.restore.new.world s c.args.number)) (sym c.in-Begun-Entity.is-0)
    (on_ok_both c.restore.result c.restore.ensures.ok c.restore.ensures.sound (λ ok sound.
    let ready = subst (λ (s : Stage). IsReady c.args.self.now.world s (c.args.number - 1)) c.in-Begun-Entity.is-0 c.requires.ready in
    record_ready c.args.self.now.world c.restore.new.world c.in-Begun-Entity.field-0-0 (c.args.number - 1) c.args.number c.in-Begun-Entity.id c.in-Begun-Entity.entity
    ready sound ok (c.restore.ensures.by_one ready.by_one) c.restore.ensures.held))

pub returns-in-Begun-Entity-clause-full : goal.returns-in-Begun-Entity-clause-full
returns-in-Begun-Entity-clause-full c full =
    let lacks : LacksRoom (loading_of c.args.self.now.world (Begun c.in-Begun-Entity.field-0-0) (c.args.number - 1)) c.args.self.now.world (Entity c.in-Begun-Entity.id c.in-Begun-Entity.entity) =
    record { comes = (c.restore.ensures.full full).0; next = _; after = refl; over = (c.restore.ensures.full full).1 } in
    rw (c.in-Begun-Entity.is-0, c.in-Begun-Entity.is-1) lacks
