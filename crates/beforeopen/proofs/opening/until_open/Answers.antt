-- `until_open` meets its contract: what the characters read so far came to, and how far it is to the
-- line that opens a hub.
use Rattle.std.proofs.Common.{rules, arith, ◌≡◌, ◌+◌, ◌*◌, ◌≤◌, length, ℕ, List}
use mathlib.Core.Path.{sym, ap, ◌∙◌}
use Rattle.encoding.specs.Form.{as_text}
use Rattle.line.specs.Program.{unopened, before_open, reply_in}
use Rattle.line.specs.Requests.{request_of}
use Rattle.reader.specs.Reading.{line_in}
use Rattle.beforeopen.specs.Opening.{hub_opened}
use Rattle.beforeopen.proofs.Laws.Opening.{session-shut, already-open, start, ended, within-line, room-for-one}
use Rattle.beforeopen.proofs.Laws.Opening.{some-opened, none-opened, onward, opened}
use Rattle.beforeopen.proofs.opening.until_open.Goals as goal
use Rattle.beforeopen.proofs.opening.until_open.Goals.{Else-c-ne10, After-clear}

-- There is room for one line's reply.
one_fits : (c : Else-c-ne10) → 15 * c.loop-i.lines + 15 ≤ length c.loop-i.out
one_fits c = room-for-one c.loop-i.invariant c.loop-i-test.true c.if-c-ne10.false

-- What the line opens, and how it is answered.
line-opened : (c : After-clear) → c.answer_alone-answered.result ≡ hub_opened (request_of (line_in c.loop-i.current))
line-opened c =
    c.answer_alone-answered.ensures.0 ∙ ap (λ (l : List ℕ). hub_opened (request_of l)) c.kept.ensures

line-answered : (c : After-clear)
    → c.answer_alone-answered.new.out ≡ reply_in as_text (before_open (request_of (line_in c.loop-i.current))).reply
line-answered c =
    c.answer_alone-answered.ensures.1
    ∙ ap (λ (l : List ℕ). reply_in as_text (before_open (request_of l)).reply) c.kept.ensures

pub returns-then-is_open : goal.returns-then-is_open
returns-then-is_open c =
    already-open c.args.hub c.args.reader c.args.piece.now c.args.out.now (sym c.is_open.ensures ∙ c.if-is_open.true)

pub loop-i-init : goal.loop-i-init
loop-i-init c =
    start _ _ _ (record { size = search rules; short = c.requires.len_bound }) c.requires.piece_in_bounds

pub loop-i-preserved-then-c-ne10 : goal.loop-i-preserved-then-c-ne10
loop-i-preserved-then-c-ne10 c = within-line c.loop-i.invariant c.loop-i-test.true c.if-c-ne10.true c.keep.ensures

pub overflow_mul-lines : goal.overflow_mul-lines
overflow_mul-lines c = omega (arith, one_fits (goal.at.overflow_mul-lines c).Else-c-ne10, c.well_formed)

pub overflow_mul-lines-in-loop-i : goal.overflow_mul-lines-in-loop-i
overflow_mul-lines-in-loop-i c =
    omega (arith, one_fits (goal.at.overflow_mul-lines-in-loop-i c).Else-c-ne10, c.well_formed)

pub overflow_add-lines : goal.overflow_add-lines
overflow_add-lines c = omega (arith, one_fits (goal.at.overflow_add-lines c).Else-c-ne10, c.well_formed)

pub slice_bounds-answer_alone-end : goal.slice_bounds-answer_alone-end
slice_bounds-answer_alone-end c =
    omega (arith, one_fits (goal.at.slice_bounds-answer_alone-end c).Else-c-ne10)

pub returns-in-Some : goal.returns-in-Some
returns-in-Some c =
    let p = (goal.at.returns-in-Some c).After-clear in
    let none : c.args.hub ≡ unopened =
    session-shut _ c.requires.session_hub (sym c.is_open.ensures ∙ c.if-is_open.false) in
    let o = some-opened _ (line-opened p) c.in-Some.is in
    opened c.loop-i.invariant c.loop-i-test.true c.if-c-ne10.false (line-answered p) c.clear.ensures o.0 _ none _ o.1

pub loop-i-preserved : goal.loop-i-preserved
loop-i-preserved c =
    let p = (goal.at.loop-i-preserved c).After-clear in
    onward c.loop-i.invariant c.loop-i-test.true c.if-c-ne10.false (line-answered p) c.clear.ensures
    (none-opened _ (line-opened p) c.in_default.is)

pub returns : goal.returns
returns c =
    let none : c.args.hub ≡ unopened =
    session-shut _ c.requires.session_hub (sym c.is_open.ensures ∙ c.if-is_open.false) in
    ended c.loop-i.invariant c.loop-i-test.false _ none
