-- `feed_open` meets its contract: what is asked in the piece is answered, on the open hub.
use mathlib.Core.Path.{◌∙◌}
use Rattle.frame.proofs.Laws.Feeding.{open_gives, open-prints}
use Rattle.frame.proofs.session.feed_open.Goals as goal

pub returns : goal.returns
returns c =
    let w = c in
    let r = w in
    let s = r in
    let e = r.read_piece-read.ensures in (
      open_gives s.args.session s.requires.reachable _ _ _ _ e.0 e.1 _ w.answer_requests-hub.ensures.0,
      e.1,
      w.answer_requests-hub.ensures.1
          ∙ open-prints s.args.session s.requires.reachable _ _ _ _ e.0 e.1 _,
    )
