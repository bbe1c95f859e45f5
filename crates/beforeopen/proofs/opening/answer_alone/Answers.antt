-- `answer_alone` meets its contract: a line that is no opening is refused, and opens nothing.
use mathlib.Core.Path.{sym, ap, ◌∙◌}
use Rattle.encoding.specs.Form.{as_text}
use Rattle.hub.proofs.Laws.Bools.{if-false}
use Rattle.line.specs.declared.request.Header.{Header}
use Rattle.line.specs.Program.{reply_in}
use Rattle.beforeopen.proofs.Laws.Opening.{refused-line}
use Rattle.line.specs.Requests.{request_of}
use Rattle.beforeopen.proofs.opening.answer_alone.Goals as goal

pub returns : goal.returns
returns c =
    let h = c.read_header-header.ensures in
    let z =
    refused-line (request_of c.args.line.now) _ _ (ap (λ (x : Header). x.code) h) (ap (λ (x : Header). x.party) h)
    c.if-header-eq-OPENING.false in
    (sym (if-false _ _ _ z.1), c.refuse.ensures ∙ ap (reply_in as_text) z.0)
