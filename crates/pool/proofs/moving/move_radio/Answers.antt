-- `move_radio` meets its contract: each arm does what the definition says of its answers.
use mathlib.Core.Path.{◌≡◌, sym, ap, ◌∙◌}
use mathlib.Core.Logic.{⊎_elim}
use Prim.Native.Nat.{ℕ}
use Rattle.hub.specs.declared.answers.Answer.{Answer}
use Rattle.hub.specs.declared.record.Pool.{Pool}
use Rattle.hub.specs.Answers.{printed}
use Rattle.hub.specs.Radios.{hand_of, hand_to, laid_at, lay_at, moved, put_back}
use Rattle.pool.proofs.Laws.Answers.{stored, still}
use borrow.Enum.Refused.{opened as opened_keys}
use Rattle.pool.proofs.moving.move_radio.Goals as goal

-- What is done by an answer is done by one equal to it.
by : (p : ℕ) (q : Pool) {a b : Answer} {r : Pool} → a ≡ b → r ≡ moved (printed b) p q
    → r ≡ moved (printed a) p q
by p q e f = f ∙ ap (λ (a : Answer). moved (printed a) p q) (sym e)

pub returns-in-Fetched : goal.returns-in-Fetched
unfolding moved
returns-in-Fetched c = by c.args.party c.args.pool c.in-Fetched.is c.fetched.ensures

pub returns-in-Stored : goal.returns-in-Stored
returns-in-Stored c =
    let s = c.args in
    c.put_back.ensures ∙ ap (λ (r : ℕ). put_back r s.pool) c.hand_of.ensures
    ∙ stored s.party s.pool s.answer c.in-Stored.in-Stored-own.keys2

pub returns-in-Woke : goal.returns-in-Woke
unfolding moved
returns-in-Woke c =
    by c.args.party c.args.pool c.in-Woke.is
    (c.hand_to.ensures
    ∙ ap (λ (r : ℕ). hand_to c.in-Woke.q r c.args.pool) c.hand_of-in-Woke.ensures)

pub returns-in-DroppedPermit : goal.returns-in-DroppedPermit
unfolding moved
returns-in-DroppedPermit c =
    by c.args.party c.args.pool c.in-DroppedPermit.is
    (c.put_back-in-DroppedPermit.ensures ∙ ap (λ (r : ℕ). put_back r c.args.pool) c.laid_at.ensures)

pub returns-in_default : goal.returns-in_default
returns-in_default c =
    let s = c.args in
    still s.party s.pool s.answer (opened_keys c.in_default.in_default-own.keys9)

pub returns-in-TookPermit : goal.returns-in-TookPermit
unfolding moved
returns-in-TookPermit c =
    let s = c.args in
    ⊎_elim (λ e. by s.party s.pool e laid) (λ e. by s.party s.pool e laid) c.in-TookPermit.is
  where
    laid : c.hand_to-in-TookPermit.result ≡ hand_to c.args.party (laid_at c.args.pool c.in-TookPermit.t) c.args.pool
    laid =
        c.hand_to-in-TookPermit.ensures
        ∙ ap (λ (r : ℕ). hand_to c.args.party r c.args.pool) c.laid_at-in-TookPermit.ensures

pub returns-in-LeftPermit : goal.returns-in-LeftPermit
unfolding moved
returns-in-LeftPermit c =
    let s = c.args in
    ⊎_elim (λ e. by s.party s.pool e lay) (λ e. by s.party s.pool e lay) c.in-LeftPermit.is
  where
    lay : c.lay_at.result ≡ lay_at c.in-LeftPermit.t (hand_of c.args.pool c.args.party) c.args.pool
    lay = c.lay_at.ensures ∙ ap (λ (r : ℕ). lay_at c.in-LeftPermit.t r c.args.pool) c.hand_of-in-LeftPermit.ensures
