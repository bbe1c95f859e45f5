-- `finish` meets its contract: nothing is left, or a line is answered as if it had its end mark.
use Rattle.deskfeed.proofs.Laws.Sessions.{last-room, nothing-told, one_told}
use Rattle.deskfeed.proofs.session.finish.Goals as goal

pub returns-then-session-eq0 : goal.returns-then-session-eq0
returns-then-session-eq0 c = nothing-told _ _ c.if-session-eq0.true

pub feed-requires : goal.feed-requires
feed-requires c =
    record {
      sound = c.requires.sound;
      piece_in_bounds = last-room c.args.session _ c.requires.in_bounds;
    }

pub returns : goal.returns
returns c = one_told _ _ _ _ c.if-session-eq0.false c.feed.ensures.0 c.feed.ensures.1
