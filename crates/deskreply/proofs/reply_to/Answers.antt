-- `reply_to` meets its contract: the header tells what a line asks.
use mathlib.Core.Path.{◌≡◌, sym, ap, ◌∙◌}
use Rattle.line.specs.declared.request.Header.{Header}
use Rattle.line.specs.Requests.{request_of}
use Rattle.screen.specs.Codes.{operation_coded}
use Rattle.deskreply.specs.Replies.{asked_by, operation_reply, reply_to}
use Rattle.deskreply.proofs.Laws.Replies.{asks, asks_nothing, first_opening, is-opening, replied, second-opening}
use Rattle.deskreply.proofs.reply_to.Goals as goal

pub returns-then-is_open_line : goal.returns-then-is_open_line
returns-then-is_open_line c =
    let q = request_of c.args.text.now in
    let v : c.code_reply.result ≡ reply_to c.args.line (asked_by q) =
    c.code_reply.ensures
    ∙ sym (second-opening _ q (is-opening q
    (sym (ap (λ (h : Header). h.code) c.read_header-h.ensures) ∙ c.if-h-eq-OPENING.true))
    (sym c.is_open_line.ensures ∙ c.if-is_open_line.true)) in
    record { value = v; steps = replied _ _ v }

pub returns-then-h-eq-OPENING : goal.returns-then-h-eq-OPENING
returns-then-h-eq-OPENING c =
    let q = request_of c.args.text.now in
    let v : c.opening_reply.result ≡ reply_to c.args.line (asked_by q) =
    c.opening_reply.ensures
    ∙ sym (first_opening _ q _ c.read_opening.ensures
    (sym c.is_open_line.ensures ∙ c.if-is_open_line.false)) in
    record { value = v; steps = replied _ _ v }

pub returns-in-Ok : goal.returns-in-Ok
returns-in-Ok c =
    let q = request_of c.args.text.now in
    let e = ap (λ (h : Header). h.code) c.read_header-h.ensures in
    let v : c.operation_reply.result ≡ reply_to c.args.line (asked_by q) =
    c.operation_reply.ensures
    ∙ ap (operation_reply _ _) (ap (λ (h : Header). h.party) c.read_header-h.ensures)
    ∙ asks _ q _ (c.in-Ok.ensures ∙ ap operation_coded e) in
    record { value = v; steps = replied _ _ v }

pub returns-in-Err : goal.returns-in-Err
returns-in-Err c =
    let q = request_of c.args.text.now in
    let e = ap (λ (h : Header). h.code) c.read_header-h.ensures in
    let v : c.code_reply-in-Err.result ≡ reply_to c.args.line (asked_by q) =
    c.code_reply-in-Err.ensures
    ∙ asks_nothing _ q _ (λ k. c.if-h-eq-OPENING.false (e ∙ k))
    (c.in-Err.ensures ∙ ap operation_coded e) in
    record { value = v; steps = replied _ _ v }
