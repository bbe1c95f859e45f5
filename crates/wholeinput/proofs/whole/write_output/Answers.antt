-- `write_output` meets its contract: what is printed and what is still to come are the whole.
use native.Mathlib.Omega.{arith}
use mathlib.Core.Path.{◌∙◌}
use Rattle.std.proofs.Common.{rules}
use Rattle.wholeinput.proofs.Laws.Whole.{nothing-printed, before-end, piece-room, printed-on, few-lines}
use Rattle.wholeinput.proofs.Laws.Whole.{end-room, all-printed}
use Rattle.wholeinput.proofs.whole.write_output.Goals as goal

pub loop-piece-init : goal.loop-piece-init
loop-piece-init c =
    record {
      printing = nothing-printed _ _ c.requires.input_in_bounds c.begin-session.ensures (search rules);
      size = search rules;
    }

pub overflow_mul-lines : goal.overflow_mul-lines
overflow_mul-lines c = omega (arith, before-end c.loop-piece.invariant.printing, c.well_formed)

pub slice_bounds-feed-count : goal.slice_bounds-feed-count
slice_bounds-feed-count c = before-end c.loop-piece.invariant.printing

pub feed-fed-requires-clause-sound : goal.feed-fed-requires-clause-sound
feed-fed-requires-clause-sound c = c.loop-piece.invariant.printing.sound

pub feed-fed-requires-clause-piece_in_bounds_2 : goal.feed-fed-requires-clause-piece_in_bounds_2
feed-fed-requires-clause-piece_in_bounds_2 c =
    piece-room c.loop-piece.invariant.printing c.in-Some.piece.now c.next.new.self.rest.now c.in-Some.ensures.steps.1.0

pub overflow_add-lines : goal.overflow_add-lines
overflow_add-lines c =
    let few =
    few-lines c.loop-piece.invariant.printing _ _ c.in-Some.ensures.steps.1.0 _ c.feed-fed.ensures.2
    c.feed-fed.ensures.0 in
    omega (arith, few, c.well_formed)

pub loop-piece-preserved : goal.loop-piece-preserved
loop-piece-preserved c =
    record {
      printing = printed-on c.loop-piece.invariant.printing c.in-Some.piece.now c.next.new.self.rest.now
          c.in-Some.ensures.steps.1.0 _ c.feed-fed.ensures.2 c.feed-fed.ensures.0;
      size = c.in-Some.ensures.steps.0 ∙ c.loop-piece.invariant.size;
    }

pub finish-requires-clause-reader_in_bounds : goal.finish-requires-clause-reader_in_bounds
finish-requires-clause-reader_in_bounds c =
    end-room c.loop-piece.invariant.printing c.in-None.ensures.steps.1.0

pub returns : goal.returns
returns c = all-printed c.loop-piece.invariant.printing c.in-None.ensures.steps.1.0 _ c.finish.ensures.1
