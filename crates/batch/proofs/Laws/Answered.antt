-- A response, as the admission or the table gives it.
use Prim.Native.Nat.{ℕ, ◌≤◌, ◌<◌}
use mathlib.Core.Path.{◌≡◌, refl, sym, ap, ◌∙◌}
use mathlib.Core.Bool.{Bool, true, false, cond}
use native.Mathlib.Omega.{arith}
use borrow.Author.Tests.{ltb-true}
use lib.Dec.{eqb, ltb}
use Rattle.hub.specs.declared.moves.Op.{Op}
use Rattle.hub.specs.declared.moves.Sight.{Sight}
use Rattle.hub.specs.declared.record.Hub.{Hub}
use Rattle.hub.specs.Answers.{plain, printed}
use Rattle.hub.specs.Calls.{answer_of, apply, is_full}
use Rattle.hub.specs.Fits.{fits}
use Rattle.hub.specs.Look.{look}
use Rattle.hub.specs.Moves.{Move}
use Rattle.hub.specs.Opening.{nobody}
use Rattle.hub.specs.Radios.{STORE}
use Rattle.hub.specs.Table.{decide}
use Rattle.hub.specs.Record.{with_pool}
use Rattle.encoding.specs.Frame.{is_call, op_of}
use Rattle.effects.specs.declared.effect.Effect.{Effect}
use Rattle.effects.specs.Effect.{effect_of}
use Rattle.line.specs.Program.{Response, reported, when_open, respond}
use Rattle.line.specs.Requests.{Request, malformed, to_open, to_call}
use Rattle.line.proofs.Laws.Schedules.{respond-open}
use Rattle.transition.proofs.Laws.Called.{Counted, counted, no-such-party, asks, radios_after}
use Rattle.transition.proofs.Laws.Called.{admitted as by-table}
use Rattle.transition.proofs.Laws.Ops.{as-asked}
use Rattle.transition.proofs.Laws.Radios.{few-stored}
use Rattle.transition.specs.Room.{full_for}
use Rattle.exchange.specs.declared.admission.Unasked.{Unasked}
use Rattle.exchange.specs.Admission.{admission_of, code_of, party_of}
use Rattle.hub.specs.declared.moves.Call.{Call}
use Rattle.std.specs.Prelude.{Result, Ok, Err}
use Rattle.batch.specs.Batch.{request_for, Reachable}
use Rattle.batch.proofs.Laws.Reachable.{reachable-fits, reachable-open}

-- A party that there is, on a record whose counts leave room.
pub record LetIn (h : Hub) (p : ℕ) : Type 0 where
  pub party : p < 32
  pub counts : Counted h
  pub store : h.control.opening.named ≡ true → h.control.pool.stored ≤ STORE

-- What is let in is what was asked, of one of the n parties.
pub is-admitted : (c x n : ℕ) (r : Result (Unit {0}) Unasked) → r ≡ admission_of c x n → r ≡ Ok (tt {0})
    → (code party : ℕ) → code ≡ c → party ≡ x
    → (ltb party n ≡ true) × (request_for c x ≡ to_call (asks (op_of code) party))
unfolding admission_of
is-admitted c x n r e t code party p q =
    let z = go (is_call c) (ltb x n) refl (eqb c 1) (sym t ∙ e) in (
      ap (λ (y : ℕ). ltb y n) q ∙ z.0,
      z.1 ∙ sym (λ i. to_call (asks (op_of (p i)) (q i))),
    )
  where
    go : (a b : Bool) → ltb x n ≡ b → (o : Bool)
        → Ok (tt {0}) ≡ cond a (cond b (Ok (tt {0})) (Err (Unasked.NoSuchParty x)))
        (cond o (Err Unasked.AlreadyOpen) (Err Unasked.Malformed))
        → (ltb x n ≡ true)
        × (cond a (to_call (asks (op_of c) x)) (cond o (to_open nobody) malformed) ≡ to_call (asks (op_of c) x))
    go true true eb o z = (eb, refl)
    go true false eb o z = absurd cc
    go false b eb true z = absurd cc
    go false b eb false z = absurd cc

-- What is decided once refusal 7 is asked of an ask alone is what the table decides.
pub effect-asked : (o : Op) (full b : Bool) (s : Sight) (r : Effect) → r ≡ effect_of (decide o b s) s
    → b ≡ full_for o full → r ≡ effect_of (decide o full s) s
effect-asked o full b s r e f =
    e
    ∙ ap (λ (b : Bool). effect_of (decide o b s) s) f
    ∙ ap (λ (m : Move). effect_of m s) (as-asked full s o)

module _ (hub : Hub) (c x : ℕ) (reached : Reachable hub) where
  fit : fits hub ≡ true
  fit = reachable-fits hub reached

  answers-open : (q : Request) → respond hub q ≡ when_open hub q
  answers-open q = respond-open hub q (reachable-open hub reached)

  -- The response to a request that is refused at once.
  abbrev turned-away : Unasked → Response
  turned-away why = record { reply = record { party = party_of why; answer = plain (code_of why) }; hub = hub }

  pub refused-response : (r : Result (Unit {0}) Unasked) (why : Unasked) → r ≡ admission_of c x hub.control.opening.parties
      → r ≡ Err why → respond hub (request_for c x) ≡ turned-away why
  unfolding when_open admission_of
  refused-response r why e z =
      answers-open (request_for c x)
      ∙ go (is_call c) (ltb x hub.control.opening.parties) refl (eqb c 1) (sym z ∙ e)
    where
      go : (a b : Bool) → ltb x hub.control.opening.parties ≡ b → (o : Bool)
          → Err why ≡ cond a (cond b (Ok (tt {0})) (Err (Unasked.NoSuchParty x)))
          (cond o (Err Unasked.AlreadyOpen) (Err Unasked.Malformed))
          → when_open hub (cond a (to_call (asks (op_of c) x)) (cond o (to_open nobody) malformed)) ≡ turned-away why
      go true true eb o w = absurd cc
      go true false eb o w =
          let same : Unasked.NoSuchParty x ≡ why = cc in
          ap (reported x) (sym (no-such-party hub x (op_of c) fit eb)) ∙ ap turned-away same
      go false b eb true w = let same : Unasked.AlreadyOpen ≡ why = cc in ap turned-away same
      go false b eb false w = let same : Unasked.Malformed ≡ why = cc in ap turned-away same

  -- A call that is admitted is the table's to answer.
  pub let-in : (d : Call) → ltb d.party hub.control.opening.parties ≡ true → LetIn hub d.party
  let-in d p =
      let n = counted hub fit in
      record {
        party = omega (arith, ltb-true d.party hub.control.opening.parties p, n.parties);
        counts = n;
        store = few-stored hub fit;
      }

  pub call-response : (d : Call) → ltb d.party hub.control.opening.parties ≡ true
      → let m = decide d.op (is_full hub.control.oldest hub.control.figures.issued hub.slots) (look hub d.party) in
      respond hub (to_call d)
      ≡ record {
        reply = record { party = d.party; answer = printed (answer_of m) };
        hub = with_pool (radios_after hub d.party (answer_of m)) (apply hub (look hub d.party) m);
      }
  unfolding when_open
  call-response d p = answers-open (to_call d) ∙ ap (reported d.party) (sym (by-table hub d.party d.op fit p))
