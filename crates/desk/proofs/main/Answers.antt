-- A session is sound from its beginning.
use Rattle.std.proofs.Common.{sym, subst}
use Rattle.deskfeed.specs.Session.{Sound}
use Rattle.deskfeed.proofs.Laws.Sessions.{start-sound}
use Rattle.desk.proofs.main.Goals as goal

pub run-requires-clause-sound : goal.run-requires-clause-sound
run-requires-clause-sound c = subst Sound (sym c.begin.ensures) start-sound
