-- `feed` has room for a line for each character of a piece, and its session stays sound.
use Rattle.std.proofs.Common.{ap, length, length-append, subst, sym}
use native.Mathlib.Omega.{arith}
use Rattle.beforeopen.proofs.Laws.Sizes.{asked-few}
use Rattle.deskfeed.specs.declared.session.Fed.{Fed}
use Rattle.deskfeed.specs.Session.{Sound}
use Rattle.deskfeed.proofs.Laws.Sessions.{fed-sound}
use Rattle.desk.proofs.DeskAnswerer.feed.Goals as goal

pub feed-fed-requires-clause-piece_in_bounds : goal.feed-fed-requires-clause-piece_in_bounds
feed-fed-requires-clause-piece_in_bounds c =
    omega (arith, asked-few c.args.piece.now c.args.self.now.session.reader, c.requires.room)

pub returns-clause-sound : goal.returns-clause-sound
returns-clause-sound c =
    subst (λ (r : Fed). Sound r.session) (sym c.feed-fed.ensures.0) (fed-sound _ _ c.requires.sound)

pub returns-clause-within : goal.returns-clause-within
returns-clause-within c =
    omega (arith, ap (λ (r : Fed). r.size) c.feed-fed.ensures.0, simp length-append at (ap length c.feed-fed.ensures.1))
