-- `feed` has room for a line for each character of a piece, and its session stays sound.
use Rattle.std.proofs.Common.{◌≤◌, ◌*◌, ap, length, subst, sym}
use native.Mathlib.Omega.{arith}
use Rattle.reader.specs.Reading.{asked}
use Rattle.beforeopen.proofs.Laws.Sizes.{asked-few}
use Rattle.frame.specs.declared.session.Fed.{Fed}
use Rattle.frame.specs.Session.{Sound}
use Rattle.frame.proofs.Laws.Feeding.{fed-sound}
use Rattle.schedule.proofs.ScheduleAnswerer.feed.Goals as goal
use Rattle.schedule.proofs.ScheduleAnswerer.feed.Goals.{Start, After-feed-fed}

fits : (c : Start) → 15 * length (asked c.args.self.now.session.reader c.args.piece.now) ≤ length c.args.out.now
fits c = omega (arith, asked-few c.args.piece.now c.args.self.now.session.reader, c.requires.room)

lines_fit : (c : After-feed-fed) → 15 * c.feed-fed.result.lines ≤ length c.args.out.now
lines_fit c =
    omega (
      arith,
      ap (λ (r : Fed). r.lines) c.feed-fed.ensures.0,
      asked-few c.args.piece.now c.args.self.now.session.reader,
      c.requires.room,
    )

pub feed-fed-requires-clause-piece_in_bounds_2 : goal.feed-fed-requires-clause-piece_in_bounds_2
feed-fed-requires-clause-piece_in_bounds_2 c =
    fits (goal.at.feed-fed-requires-clause-piece_in_bounds_2 c).Start

pub overflow_mul-result : goal.overflow_mul-result
overflow_mul-result c = omega (arith, lines_fit (goal.at.overflow_mul-result c).After-feed-fed, c.well_formed)

pub returns-clause-sound : goal.returns-clause-sound
returns-clause-sound c =
    subst (λ (r : Fed). Sound r.session) (sym c.feed-fed.ensures.0) (fed-sound _ _ c.requires.sound)

pub returns-clause-within : goal.returns-clause-within
returns-clause-within c = lines_fit (goal.at.returns-clause-within c).After-feed-fed
