-- The deliveries are fit, and few.
use Rattle.std.proofs.Common.{[], ◌++◌, arith}
use Rattle.arguments.specs.Options.{max_bytes_of}
use Rattle.run_model.specs.{Headline.numbers_saved, Moment.horizon_at, Moment.saved_at, Moment.start_of}
use Rattle.run_model.specs.OneRun.{deliveries_of, replies_with}
use Rattle.session_laws.proofs.FitRuns.{few_told, input_fits, saved_within, told_input}
use Rattle.session_laws.proofs.{OneRun.first_stands, OneRun.next_stands, SavedLines.lines_few}
use Rattle.session_laws.proofs.premises.told_worlds_can_be_saved.Goals as goal

pub returns-clause-later : goal.returns-clause-later
returns-clause-later c = λ h earlier ds run before now stands ending open_still fit few small within.
    let saved = saved_at now.stage (numbers_saved ending) in
    let all = ds ++ deliveries_of ending in
    let there = next_stands h earlier ds run before now stands ending open_still in
    c.replays_can_be_saved.ensures.fits saved h (replies_with earlier ds ending) all there.world (record { asks = omega (arith, within.asks); matches = omega (arith, within.matches); patches = omega (arith, within.patches); lines = omega (arith, within.lines) }) small fit
    (omega (arith, few, lines_few h (replies_with earlier ds ending) saved all there.world))

pub returns-clause-first : goal.returns-clause-first
returns-clause-first c = λ run before now bytes first ending open_still left bounded small.
    let replies = ending.replayed.replay.played.replies in
    let few = few_told run before now bytes first ending left bounded in
    returns-clause-later c (horizon_at (start_of run before)) replies [] run before now (first_stands (start_of run before) first replies) ending open_still
    (input_fits (max_bytes_of run.choices) bytes ending.replayed.deliveries (told_input run before now bytes first ending left bounded)) (omega (arith, few)) small
    (saved_within run before now bytes first ending left bounded)

pub returns-clause-within : goal.returns-clause-within
returns-clause-within c = saved_within
