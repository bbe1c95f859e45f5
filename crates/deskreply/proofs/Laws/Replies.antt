-- What a line asks, told by its header, and what it is answered.
use Prim.Native.Nat.{ℕ}
use mathlib.Core.Path.{◌≡◌, refl, sym, ap, subst, ◌∙◌}
use mathlib.Core.Bool.{Bool, true, false, cond}
use native.Mathlib.Omega.{arith}
use Rattle.std.proofs.Common.{Option, Some, None, Ok, Err, eqb, is_some}
use Rattle.hub.specs.declared.moves.Op.{Op}
use Rattle.hub.specs.declared.opening.Opening.{Opening}
use Rattle.hub.specs.Answers.{Printed, printed}
use Rattle.encoding.specs.declared.answer.Print.{Print}
use Rattle.encoding.specs.Frame.{paper}
use Rattle.line.specs.Requests.{Request, header_of, is_opening, malformed, to_call, to_open}
use Rattle.screen.specs.declared.record.Line.{Line}
use Rattle.screen.specs.declared.record.Moved.{Moved}
use Rattle.screen.specs.declared.record.Operation.{Operation}
use Rattle.screen.specs.Moves.{line_move, line_opening}
use Rattle.screen.specs.declared.record.UnknownOperation.{UnknownOperation}
use Rattle.screen.specs.Codes.{operation_coded}
use Rattle.screen.specs.Steps.{accepted_steps}
use Rattle.screen.proofs.Laws.Steps.{never-accepted, some-if-accepted}
use Rattle.deskreply.specs.declared.DeskReply.{DeskReply}
use Rattle.deskreply.specs.Replies.{Asked, an_opening, an_operation, asked_by, code_reply, is_open_line, nothing}
use Rattle.deskreply.specs.Replies.{opening_reply, operation_reply, reply_to}

-- An opening.
pub is-opening : (q : Request) → (header_of q).code ≡ 0x01 → is_opening q ≡ true
is-opening malformed e = absurd (omega arith)
is-opening (to_open o) e = refl
is-opening (to_call c) e = go c.op e
  where
    go : (o : Op) → (header_of (to_call (record { op = o; party = c.party }))).code ≡ 0x01
        → is_opening (to_call c) ≡ true
    go Op.Acquire e = absurd (omega arith)
    go Op.Step e = absurd (omega arith)
    go Op.Cancel e = absurd (omega arith)
    go Op.Release e = absurd (omega arith)
    go Op.Radio e = absurd (omega arith)

pub second-opening : (l : Line) (q : Request) → is_opening q ≡ true → is_open_line l ≡ true
    → reply_to l (asked_by q) ≡ code_reply 13 None l
unfolding reply_to asked_by
second-opening l malformed e o = cc
second-opening l (to_open x) e o = rw o
second-opening l (to_call c) e o = cc

pub first_opening : (l : Line) (q : Request) (x : Opening) → to_open x ≡ q → is_open_line l ≡ false
    → reply_to l (asked_by q) ≡ opening_reply x
unfolding reply_to asked_by
first_opening l q x e o = sym (ap (λ (r : Request). reply_to l (asked_by r)) e) ∙ rw o

-- An operation, or nothing.
module _ (l : Line) where
  pub asks : (q : Request) (o : Operation) → Ok o ≡ operation_coded (header_of q).code
      → operation_reply l o (header_of q).party ≡ reply_to l (asked_by q)
  unfolding reply_to asked_by
  asks malformed o e = let z : ⊥ = cc in absurd z
  asks (to_open x) o e = let z : ⊥ = cc in absurd z
  asks (to_call c) o e = go c.op e
    where
      go : (p : Op) → Ok o ≡ operation_coded (header_of (to_call (record { op = p; party = c.party }))).code
          → operation_reply l o c.party ≡ reply_to l (asked_by (to_call (record { op = p; party = c.party })))
      go Op.Acquire e = let f : o ≡ Operation.Acquire = cc in rw f
      go Op.Step e = let z : ⊥ = cc in absurd z
      go Op.Cancel e = let f : o ≡ Operation.Cancel = cc in rw f
      go Op.Release e = let f : o ≡ Operation.Release = cc in rw f
      go Op.Radio e = let z : ⊥ = cc in absurd z

  pub asks_nothing : (q : Request) (u : UnknownOperation) → ((header_of q).code ≡ 0x01 → ⊥)
      → Err u ≡ operation_coded (header_of q).code → code_reply 12 None l ≡ reply_to l (asked_by q)
  unfolding reply_to asked_by
  asks_nothing malformed u a e = refl
  asks_nothing (to_open o) u a e = absurd (a refl)
  asks_nothing (to_call c) u a e = go c.op e
    where
      go : (p : Op) → Err u ≡ operation_coded (header_of (to_call (record { op = p; party = c.party }))).code
          → code_reply 12 None l ≡ reply_to l (asked_by (to_call (record { op = p; party = c.party })))
      go Op.Acquire e = let z : ⊥ = cc in absurd z
      go Op.Step e = refl
      go Op.Cancel e = let z : ⊥ = cc in absurd z
      go Op.Release e = let z : ⊥ = cc in absurd z
      go Op.Radio e = refl

  pub not_yet_lem : (o : Operation) (p : ℕ) → is_open_line l ≡ false → operation_reply l o p ≡ code_reply 13 (Some p) l
  unfolding operation_reply
  not_yet_lem o p e = rw e

  pub does : (o : Operation) (p : ℕ) (s : Option ℕ) (m : Moved) (y : Print) → is_open_line l ≡ true
      → s ≡ accepted_steps l o p
      → m ≡ line_move l o p
      → paper y ≡ printed m.answer
      → ◌≡◌ {A = DeskReply} (record { code = y.code; party = Some p; steps = s; line = m.line }) (operation_reply l o p)
  unfolding operation_reply
  does o p s m y e f g h =
      (λ i. record {
        code = (ap (λ (x : Printed). x.code) h ∙ ap (λ (x : Moved). (printed x.answer).code) g) i;
        party = Some p;
        steps = f i;
        line = (g i).line;
      })
      ∙ sym (rw e)

pub opens : (o : Opening) (m : Moved) (y : Print) → m ≡ line_opening o → paper y ≡ printed m.answer
    → code_reply y.code None m.line ≡ opening_reply o
unfolding opening_reply
opens o m y e h =
    (λ i.
    code_reply ((ap (λ (x : Printed). x.code) h ∙ ap (λ (x : Moved). (printed x.answer).code) e) i) None (e i).line)

-- There are steps exactly where the code is 20.
pub steps-told : (l : Line) (a : Asked) → is_some (reply_to l a).steps ≡ eqb (reply_to l a).code 0x20
unfolding reply_to opening_reply operation_reply
steps-told l nothing = refl
steps-told l (an_opening o) = go (is_open_line l)
  where
    go : (b : Bool) → is_some (cond b (code_reply 13 None l) (opening_reply o)).steps
        ≡ eqb (cond b (code_reply 13 None l) (opening_reply o)).code 0x20
    go true = refl
    go false = sym (never-accepted o)
steps-told l (an_operation o p) = go (is_open_line l)
  where
    own : DeskReply
    own =
        record {
          code = (printed (line_move l o p).answer).code;
          party = Some p;
          steps = accepted_steps l o p;
          line = (line_move l o p).line;
        }

    go : (b : Bool) → is_some (cond b own (code_reply 13 (Some p) l)).steps
        ≡ eqb (cond b own (code_reply 13 (Some p) l)).code 0x20
    go true = some-if-accepted l o p
    go false = refl

pub replied : {r : DeskReply} (l : Line) (a : Asked) → r ≡ reply_to l a → is_some r.steps ≡ eqb r.code 0x20
replied l a e = subst (λ (r : DeskReply). is_some r.steps ≡ eqb r.code 0x20) (sym e) (steps-told l a)
