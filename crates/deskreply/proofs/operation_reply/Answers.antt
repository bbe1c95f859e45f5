-- `operation_reply` meets its contract: 13, or the operation's own.
use mathlib.Core.Path.{sym, ◌∙◌}
use Rattle.deskreply.proofs.Laws.Replies.{does, not_yet_lem}
use Rattle.deskreply.proofs.operation_reply.Goals as goal

pub returns-then-not-is_open_line : goal.returns-then-not-is_open_line
returns-then-not-is_open_line c = c.code_reply.ensures ∙ sym (not_yet_lem _ _ _ (sym c.is_open_line.ensures ∙ c.if-not-is_open_line.true))

pub returns : goal.returns
returns c =
    does _ _ _ _ _ _ (sym c.is_open_line.ensures ∙ c.if-not-is_open_line.false)
    c.accepted_steps.ensures c.call-m.ensures.0 c.print_of.ensures
