-- `feed` meets its contract: what is printed and what is still to come are the whole.
use mathlib.Core.Path.{refl}
use Rattle.reader.proofs.Laws.Pieces.{char-kept, char-lost}
use Rattle.deskfeed.proofs.Laws.Feeding.{finished, line-end, line-room, onward, reply-printable, start}
use Rattle.deskfeed.proofs.session.feed.Goals as goal

pub loop-c-init : goal.loop-c-init
loop-c-init c = start c.args.session _ _ c.requires.sound c.requires.piece_in_bounds

pub loop-c-preserved-then-len-lt-KEPT : goal.loop-c-preserved-then-len-lt-KEPT
loop-c-preserved-then-len-lt-KEPT c =
    onward c.loop-c.invariant c.loop-c-test.true c.if-c-ne10.true (char-kept _ _ c.if-len-lt-KEPT.true)

pub loop-c-preserved-then-c-ne10 : goal.loop-c-preserved-then-c-ne10
loop-c-preserved-then-c-ne10 c =
    onward c.loop-c.invariant c.loop-c-test.true c.if-c-ne10.true (char-lost _ _ c.if-len-lt-KEPT.false)

pub put_line_text-size-requires : goal.put_line_text-size-requires
put_line_text-size-requires c =
    let u = c.loop-c.invariant in
    record {
      waiting_bound = (reply-printable _ _ _ u.printable c.reply_to-reply.ensures.value).few;
      at_in_bounds = line-room u c.loop-c-test.true c.if-c-ne10.false;
    }

pub loop-c-preserved : goal.loop-c-preserved
loop-c-preserved c =
    line-end c.loop-c.invariant c.loop-c-test.true c.if-c-ne10.false _ c.reply_to-reply.ensures.value _ _
    c.put_line_text-size.ensures.value.0 c.put_line_text-size.ensures.value.1 c.put_line_text-size.ensures.short refl

pub returns : goal.returns
returns c = finished c.args.session _ _ c.loop-c.invariant c.loop-c-test.false
