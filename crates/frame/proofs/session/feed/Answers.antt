-- `feed` meets its contract: the early lines are answered one by one, and the rest on the open hub.
use borrow.Author.Tests.{not-true, not-false}
use mathlib.Core.Path.{◌≡◌, sym, ◌∙◌}
use mathlib.Core.Bool.{true}
use native.Mathlib.Omega.{arith}
use Rattle.line.specs.Program.{is_open}
use Rattle.frame.proofs.Laws.Feeding.{Early, lines-few, read-few, feeds-early, reachable-now}
use Rattle.frame.proofs.Laws.Feeding.{short-now, late-few, late-room, all-few, feeds-both}
use Rattle.frame.proofs.session.feed.Goals as goal
use Rattle.frame.proofs.session.feed.Goals.{After-until_open-begun, Else-not-is_open}

-- What the early part came to.
early : (u : After-until_open-begun)
    → let a = u.args in
    Early a.session a.piece.now a.out.now u.until_open-begun.result u.until_open-begun.new.out
early u =
    record {
      sound = u.requires.sound;
      room = u.requires.piece_in_bounds_2;
      begun = u.until_open-begun.ensures.0;
      said = u.until_open-begun.ensures.1;
    }

-- Behind it the hub is open.
now-open : (c : Else-not-is_open) → is_open c.until_open-begun.result.hub ≡ true
now-open c = sym c.is_open.ensures ∙ not-false _ c.if-not-is_open.false-raw

pub returns-then-not-is_open : goal.returns-then-not-is_open
returns-then-not-is_open c =
    feeds-early (early (goal.at.returns-then-not-is_open c).After-until_open-begun)
    (sym c.is_open.ensures ∙ not-true _ c.if-not-is_open.true-raw) _

pub overflow_mul-left : goal.overflow_mul-left
overflow_mul-left c =
    omega (arith, lines-few (early (goal.at.overflow_mul-left c).After-until_open-begun), c.well_formed)

pub slice_bounds-feed_open-count : goal.slice_bounds-feed_open-count
slice_bounds-feed_open-count c =
    omega (arith, read-few (early (goal.at.slice_bounds-feed_open-count c).After-until_open-begun))

pub slice_bounds-feed_open-start : goal.slice_bounds-feed_open-start
slice_bounds-feed_open-start c =
    omega (arith, read-few (early (goal.at.slice_bounds-feed_open-start c).After-until_open-begun))

pub slice_bounds-left-count : goal.slice_bounds-left-count
slice_bounds-left-count c =
    omega (arith, lines-few (early (goal.at.slice_bounds-left-count c).After-until_open-begun))

pub slice_bounds-left-start : goal.slice_bounds-left-start
slice_bounds-left-start c =
    omega (arith, lines-few (early (goal.at.slice_bounds-left-start c).After-until_open-begun))

pub feed_open-rest-requires : goal.feed_open-rest-requires
feed_open-rest-requires c =
    let p = goal.at.feed_open-rest-requires c in
    let k = early p.After-until_open-begun in
    let o = now-open p.Else-not-is_open in
    record {
      reachable = reachable-now k o;
      len_bound = short-now k o;
      piece_in_bounds = late-few k o _ c.requires.piece_in_bounds;
      piece_in_bounds_2 = late-room k o;
    }

pub overflow_add-result : goal.overflow_add-result
overflow_add-result c =
    let p = goal.at.overflow_add-result c in
    let y = c.feed_open-rest.ensures in
    let few = all-few (early p.After-until_open-begun) (now-open p.Else-not-is_open) _ y.0 y.1 y.2 in
    omega (arith, few, c.well_formed)

pub returns : goal.returns
returns c =
    let p = goal.at.returns c in
    let y = c.feed_open-rest.ensures in
    feeds-both (early p.After-until_open-begun) (now-open p.Else-not-is_open) _ y.0 y.1 y.2
