-- The value of a line that fits is one that is read back from its text.
use Rattle.std.proofs.Common.{ℕ, ℤ, pos, negsuc, ◌<◌, ◌^◌, Bool, true, false, Option, None, Some, IfSome, refl, arith}
use Rattle.std.specs.Int.{w64}
use Rattle.std.specs.Prelude.{FitsSigned}
use Rattle.entity_model.specs.{declared.event.Event.Event, declared.mapping.MappingVersion.MappingVersion}
use Rattle.entity_model.specs.declared.mapping.MappingVersion.TheVariants.{One, Two}
use Rattle.entity_state.specs.declared.record.Held.{Held}
use Rattle.entity_state.specs.declared.entry.Entry.TheVariants.{Late, Revision}
use Rattle.replay_model.specs.Records.{Bytes}
use Rattle.snapshot.specs.declared.line.Line.{Line}
use Rattle.snapshot.specs.declared.line.Line.TheVariants.{Head as Begins, Remembered, Entity, Side, End}
use Rattle.snapshot.specs.Words.{version_number}
use Rattle.snapshot.specs.LineData.{has_line_feed, held_members, if_some, nat_data, int_data, event_data, held_data, line_data}
use Rattle.snapshot.specs.{Fit.IsFitEvent, Fit.IsFitLine, Writable.AreWritable, Writable.IsWritable}

int_writable : (z : ℤ) → FitsSigned w64 z → IsWritable (int_data z)
int_writable (pos n) fits = let small : n < 2 ^ 63 = fits.sfits in omega arith
int_writable (negsuc n) fits = fits.sfits

int_some : (o : Option ℤ) → IfSome o (FitsSigned w64) → IsWritable (if_some int_data o)
int_some None fits = tt
int_some (Some z) fits = int_writable z fits

nat_some : (o : Option ℕ) → IfSome o (λ n. n < 2 ^ 64) → IsWritable (if_some nat_data o)
nat_some None fits = tt
nat_some (Some n) fits = fits

version_writable : (v : MappingVersion) → version_number v < 2 ^ 64
version_writable One = omega arith
version_writable Two = omega arith

event_writable : (e : Event) → IsFitEvent e → IsWritable (event_data e)
event_writable e fit =
    ((refl, (refl, (refl, tt))), (tt, ((refl, (refl, tt)), (tt, ((refl, tt), (int_writable e.time fit.time, (tt, (fit.rev, tt))))))))

event_some : (o : Option Event) → IfSome o IsFitEvent → IsWritable (if_some event_data o)
event_some None fits = tt
event_some (Some e) fits = event_writable e fits

held_some : (o : Option (Held Bytes)) → IfSome o (λ h. h.revision < 2 ^ 64) → IsWritable (if_some held_data o)
held_some None fits = tt
held_some (Some h) fits = by (has_line_feed h.content)
  where
    by : (b : Bool) → AreWritable (held_members b h)
    by true = ((refl, tt), (tt, (tt, (fits, tt))))
    by false = (tt, (fits, tt))

pub line_writable : (line : Line) → IsFitLine line → IsWritable (line_data line)
line_writable (Begins h) fit = (
  (refl, (refl, (refl, (refl, (refl, (refl, (refl, tt))))))),
  (
    fit.counts.asks,
    (
      (refl, (refl, (refl, (refl, (refl, (refl, tt)))))),
      (
        nat_some h.horizon fit.horizon,
        (
          (refl, (refl, (refl, (refl, (refl, tt))))),
          (
            fit.counts.lines,
            (
              (refl, (refl, (refl, (refl, tt)))),
              (
                version_writable h.mapping,
                (
                  (refl, (refl, (refl, tt))),
                  (
                    int_some h.mark fit.mark,
                    ((refl, (refl, tt)), (fit.counts.matches, ((refl, tt), (fit.counts.patches, (tt, (omega arith, tt)))))),
                  ),
                ),
              ),
            ),
          ),
        ),
      ),
    ),
  ),
)
line_writable (Remembered e) fit = event_writable e fit
line_writable (Entity x r) fit = (
  (refl, (refl, (refl, (refl, tt)))),
  (
    tt,
    (
      (refl, (refl, (refl, tt))),
      (
        held_some r.held fit.1.held,
        (
          (refl, (refl, tt)),
          (
            event_some r.reconciled fit.1.reconciled,
            ((refl, tt), (fit.1.rev, (tt, (tt, tt)))),
          ),
        ),
      ),
    ),
  ),
)
line_writable (Side (Late e)) fit = ((refl, tt), (tt, (tt, (event_writable e fit, tt))))
line_writable (Side (Revision e r cause)) fit = ((refl, (refl, tt)), (tt, ((refl, tt), (event_writable e fit.0, (tt, (fit.1, tt))))))
line_writable (End n) fit = (tt, (fit, tt))
