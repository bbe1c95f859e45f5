-- `read_frame` meets its contract: behind the radios of a frame are its kinds.
use mathlib.Core.Path.{sym, ap, ◌∙◌}
use mathlib.Core.Bool.{true}
use native.Mathlib.Omega.{arith}
use lib.Dec.{eqb}
use lib.ListN.{drop, get_or, length, take}
use Rattle.std.specs.Prelude.{Some}
use Rattle.hub.specs.declared.opening.Opening.{Opening}
use Rattle.hub.specs.Radios.{padded}
use Rattle.line.specs.Requests.{given_kinds, opening_asked}
use Rattle.line.proofs.Laws.Lines.{from}
use Rattle.line.proofs.Laws.Openings.{short, in_front, no-code, too-few, enough}
use Rattle.line.proofs.openings.read_frame.Goals as goal

pub returns-in_default : goal.returns-in_default
returns-in_default c = short _ c.in_default.len_below

pub returns-in_err-given : goal.returns-in_err-given
returns-in_err-given c =
    let l = c.args.bytes.now in
    c.from_residual.ensures
    ∙ no-code (get_or l 0 0) (get_or l 1 0) (get_or l 2 0) (drop 3 l) (sym c.radios_given.ensures ∙ c.in_err-given.was)
    ∙ ap opening_asked (in_front l c.in-len3-up.len_at_least)

pub returns-in_err-radios : goal.returns-in_err-radios
returns-in_err-radios c =
    let l = c.args.bytes.now in
    c.from_residual-in_err-radios.ensures
    ∙ too-few (get_or l 0 0) (get_or l 1 0) (get_or l 2 0) (drop 3 l) _ (sym c.radios_given.ensures ∙ c.in_ok-given.was)
    (omega (arith, c.in_err-radios.ensures.cases, ap length (from 3 l)))
    ∙ ap opening_asked (in_front l c.in-len3-up.len_at_least)

pub returns : goal.returns
returns c =
    let l = c.args.bytes.now in
    let g = c.in_ok-given.given in
    let cut = c.in_ok-radios.ensures.cases in
    ap (λ (o : Opening). Some o) c.given_kinds.ensures
    ∙ (λ i.
    Some
    (given_kinds ((cut.2 ∙ ap (drop g) (from 3 l)) i)
    (record {
      permits = get_or l 1 0;
      parties = get_or l 2 0;
      named = eqb (get_or l 0 0) 0x02;
      radios = (c.padded.ensures ∙ ap padded (cut.1 ∙ ap (take g) (from 3 l))) i;
      kinds = c.built_in.ensures i;
      counted = true;
    })))
    ∙ enough (get_or l 0 0) (get_or l 1 0) (get_or l 2 0) (drop 3 l) _ (sym c.radios_given.ensures ∙ c.in_ok-given.was)
    (omega (arith, cut.0, ap length (from 3 l)))
    ∙ ap opening_asked (in_front l c.in-len3-up.len_at_least)
