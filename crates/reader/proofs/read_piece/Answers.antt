-- `read_piece` meets its contract: what is read and what is still to come are the whole.
use Rattle.std.proofs.Common.{rules, arith, sym, subst, ◌≡◌, ◌≤◌, ◌+◌, ◌*◌, length, refl, ℕ}
use Rattle.std.proofs.Math.ListN.{get_or}
use Rattle.std.proofs.Common.{length-take-le}
use borrow.Author.Tests.{eqb-false, eqb-true}
use mathlib.Core.Logic.{inl, inr}
use mathlib.Core.Path.{◌∙◌}
use Rattle.reader.specs.declared.Reader.{Reader}
use Rattle.reader.proofs.Laws.Pieces.{Upto, start, char-kept, char-lost, onward, line-room, line-end}
use Rattle.reader.proofs.Laws.Pieces.{call-room, call-end, none-left, one-left, end}
use Rattle.reader.proofs.read_piece.Goals as goal
use Rattle.reader.proofs.read_piece.Goals.{Else-call-lt16}

-- There is room for what a call asks.
call_fits : (c : Else-call-lt16) → 2 * c.loop-rest-2.count + 2 ≤ length c.loop-rest-2.requests
call_fits c =
    let feed : get_or c.loop-rest-2.rest.now 4 0 ≡ 10 = omega arith in
    call-room _ _ _ _ _ _ _ c.loop-rest-2.invariant.upto refl c.in-10.len_at_least
    feed _ c.call_by-call.ensures c.if-call-lt16.false

pub loop-rest-init : goal.loop-rest-init
loop-rest-init c = start _ _ _ c.requires.len_bound (search rules) c.requires.piece_in_bounds

pub loop-rest-preserved-then-len-lt-KEPT : goal.loop-rest-preserved-then-len-lt-KEPT
loop-rest-preserved-then-len-lt-KEPT c =
    onward _ _ _ _ _ _ _ c.loop-rest.invariant c.in-len1-up.len_at_least c.if-c-ne10.true _
    (char-kept _ _ c.if-len-lt-KEPT.true)

pub loop-rest-preserved-else-len-lt-KEPT : goal.loop-rest-preserved-else-len-lt-KEPT
loop-rest-preserved-else-len-lt-KEPT c =
    onward _ _ _ _ _ _ _ c.loop-rest.invariant c.in-len1-up.len_at_least c.if-c-ne10.true _
    (char-lost _ _ c.if-len-lt-KEPT.false)

pub slice_bounds-put_header-end : goal.slice_bounds-put_header-end
slice_bounds-put_header-end c =
    omega (arith, line-room _ _ _ _ _ _ _ c.loop-rest.invariant c.in-len1-up.len_at_least c.if-c-ne10.false)

pub loop-rest-2-init : goal.loop-rest-2-init
loop-rest-2-init c =
    record {
      upto = line-end _ _ _ _ _ _ _ c.loop-rest.invariant c.in-len1-up.len_at_least c.if-c-ne10.false _
          c.read_header-header.ensures _ c.put_header.ensures _ refl;
      one = inl refl;
      behind = omega arith;
    }

pub slice_bounds-put_header-end-in-10 : goal.slice_bounds-put_header-end-in-10
slice_bounds-put_header-end-in-10 c =
    omega (arith, call_fits (goal.at.slice_bounds-put_header-end-in-10 c).Else-call-lt16)

pub loop-rest-2-preserved : goal.loop-rest-2-preserved
loop-rest-2-preserved c =
    let feed : get_or c.loop-rest-2.rest.now 4 0 ≡ 10 = omega arith in
    record {
      upto = call-end _ _ _ _ _ _ _ c.loop-rest-2.invariant.upto refl
          c.in-10.len_at_least feed _ c.call_by-call.ensures c.if-call-lt16.false _ c.put_header-in-10.ensures
          c.loop-rest-2.last.now c.loop-rest.line c.loop-rest-2.invariant.one refl _ refl;
      one = inr (omega (arith, length-take-le {A = ℕ}));
      behind = omega (arith, length-take-le {A = ℕ});
    }

pub loop-rest-preserved-then-not-is_empty : goal.loop-rest-preserved-then-not-is_empty
loop-rest-preserved-then-not-is_empty c =
    subst
    (λ (r : Reader).
    Upto c.args.reader c.args.piece.now c.args.requests.now r c.loop-rest-2.requests c.loop-rest-2.count
    c.loop-rest-2.rest.now)
    (one-left c.loop-rest-2.last.now c.loop-rest.line _ c.loop-rest-2.invariant.one
    (eqb-false _ _ (sym c.is_empty.ensures ∙ c.if-not-is_empty.true)) c.copy_from_slice.ensures.after)
    c.loop-rest-2.invariant.upto

pub loop-rest-preserved : goal.loop-rest-preserved
loop-rest-preserved c =
    subst
    (λ (r : Reader).
    Upto c.args.reader c.args.piece.now c.args.requests.now r c.loop-rest-2.requests c.loop-rest-2.count
    c.loop-rest-2.rest.now)
    (none-left c.loop-rest-2.last.now c.loop-rest.line
    (eqb-true _ _ (sym c.is_empty.ensures ∙ c.if-not-is_empty.false)))
    c.loop-rest-2.invariant.upto

pub returns : goal.returns
returns c = end _ _ _ _ _ _ _ c.loop-rest.invariant (omega arith)
