-- `open_line` meets its contract: what an opening is answered says what it makes.
use Rattle.std.proofs.Common.{sym, ap, ◌∙◌}
use Rattle.hub.specs.declared.answers.Answer.{Answer}
use Rattle.screen.specs.declared.record.Line.{Line}
use Rattle.screen.specs.declared.record.Moved.{Moved}
use Rattle.screen.specs.Line.{opened_line}
use Rattle.screen.specs.Moves.{refused_move}
use Rattle.screen.proofs.Laws.Steps.{not_opened_lem, opens, with-printed}
use Rattle.screenmove.proofs.open_line.Goals as goal

abbrev opened : Line → Moved
opened l = record { answer = Answer.Opened; line = l }

pub returns-in-Err : goal.returns-in-Err
returns-in-Err c =
    with-printed (c.refused_move.ensures
    ∙ ap (refused_move _) (c.«open».ensures ∙ ap opened_line c.sized.ensures)
    ∙ sym (not_opened_lem c.args.o (sym c.check_opening.ensures.value ∙ c.in-Err.is)))

pub returns : goal.returns
returns c =
    with-printed (ap opened c.open-2.ensures
    ∙ sym (opens c.args.o (sym c.check_opening.ensures.value ∙ c.in_default.is)))
