-- `line_fits` meets its contract: its tests are the clauses of the definition.
use Rattle.std.proofs.Common.{rules, ◌≡◌, true, sym, ◌∙◌}
use Rattle.screen.proofs.Laws.Check.{asked, asked-so, met-empty, met-full, unmet}
use Rattle.screenfit.proofs.line_fits.Goals as goal
use Rattle.screenfit.proofs.line_fits.Goals.{Then-has_desk}

pub returns-else-has_desk : goal.returns-else-has_desk
returns-else-has_desk c =
    let l = c.args.line.now in
    let e =
    asked-so l c.if-up_to_32.value c.if-up_to_32-2.value c.if-line-le32.value c.if-holders_below.value
    c.if-queue_fits.value c.if-holder_count-line.value c.if-rest_is_zero.value c.if-kinds_known.value (search rules) (search rules)
    (search rules) (search rules) (search rules) (search rules) (search rules) (search rules) in
    c.if-has_desk.false ∙ unmet l (sym e ∙ c.if-has_desk.false)

all-met : (c : Then-has_desk) → asked c.args.line.now ≡ true
all-met c =
    let l = c.args.line.now in
    let e =
    asked-so l c.if-up_to_32.value c.if-up_to_32-2.value c.if-line-le32.value c.if-holders_below.value
    c.if-queue_fits.value c.if-holder_count-line.value c.if-rest_is_zero.value c.if-kinds_known.value (search rules) (search rules)
    (search rules) (search rules) (search rules) (search rules) (search rules) (search rules) in
    sym e ∙ c.if-has_desk.true

pub returns-then-line-eq0 : goal.returns-then-line-eq0
returns-then-line-eq0 c = met-empty _ (all-met c.before) c.if-line-eq0.true

pub returns-else-line-eq0 : goal.returns-else-line-eq0
returns-else-line-eq0 c = met-full _ (all-met c.before.before) c.if-line-eq0.false _ c.holder_count-else-line-eq0.ensures
