-- `finish` meets its contract: a line left over is answered as if its end mark had come, and then
-- the session is closed.
use native.Mathlib.Omega.{arith}
use Rattle.frame.proofs.Laws.Feeding.{finish-one, room-for-two, last-room, finish-two}
use Rattle.closing.proofs.finish.Goals as goal

pub returns-then-session-eq0 : goal.returns-then-session-eq0
returns-then-session-eq0 c =
    finish-one c.args.session c.args.out.now _ (omega arith) c.if-session-eq0.true c.put_closing.ensures

pub feed-last-requires-clause-piece_in_bounds_2 : goal.feed-last-requires-clause-piece_in_bounds_2
feed-last-requires-clause-piece_in_bounds_2 c =
    let room = room-for-two c.args.session c.args.out.now c.if-session-eq0.false c.requires.reader_in_bounds in
    let l = last-room c.args.session c.args.out.now c.if-session-eq0.false in
    omega (arith, l, room)

pub returns : goal.returns
returns c =
    let s = c.args.session in
    let out = c.args.out.now in
    let room = room-for-two s out c.if-session-eq0.false c.requires.reader_in_bounds in
    finish-two s out c.if-session-eq0.false room _ c.feed-last.ensures.2 _ c.feed-last.ensures.0 _ c.put_closing-2.ensures
