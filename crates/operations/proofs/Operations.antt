-- Each operation on a hub at rest comes to its closed form, refused or accepted, and leaves everybody at rest.
use Prim.Native.Nat.{ℕ, ◌+◌}
use mathlib.Core.Path.{◌≡◌, refl, sym, ap, subst, ◌∙◌}
use mathlib.Core.Bool.{Bool, true, false}
use mathlib.Core.Logic.{◌⊎◌, inl, inr}
use native.Mathlib.Omega.{arith}
use borrow.Author.Tests.{leb-false}
use lib.Dec.{ltb}
use Rattle.hub.specs.declared.answers.Answer.{Answer}
use Rattle.hub.specs.declared.answers.Refusal.{Refusal}
use Rattle.hub.specs.declared.moves.Call.{Call}
use Rattle.hub.specs.declared.moves.Op.{Op}
use Rattle.hub.specs.declared.moves.Sight.{Sight}
use Rattle.hub.specs.declared.record.Hub.{Hub}
use Rattle.hub.specs.declared.record.Phase.{Phase}
use Rattle.hub.specs.declared.record.Pool.{Pool}
use Rattle.hub.specs.Answers.{printed}
use Rattle.hub.specs.Basics.{count}
use Rattle.hub.specs.Calls.{answer_of, apply, called, checked, is_full, move_of}
use Rattle.hub.specs.Calm.{rests}
use Rattle.hub.specs.Look.{look, seen_by}
use Rattle.hub.specs.Moves.{Act, Move, Refuse}
use Rattle.hub.specs.Phases.{draws_ticket, is_holding, is_one_of, ticket_of}
use Rattle.hub.specs.Record.{phases_of, read_slot, with_pool}
use Rattle.hub.specs.Ring.{PLACES}
use Rattle.hub.specs.Table.{above_zero, acquire, below_zero, can_cancel, cancel, decide, given_up, release}
use Rattle.hub.proofs.Invariant.Schedules.{refusal-code}
use Rattle.hub.proofs.Laws.Phases.{one_of}
use Rattle.hub.proofs.Laws.Printed.{few-refusals}
use Rattle.hub.proofs.Laws.Radios.{unmoved}
use Rattle.operations.specs.declared.Operated.{Operated}
use Rattle.operations.specs.AtRest.{ComesTo, EndsAtRest, RefusalLeaves, acquired, by_move, is_operation}
use Rattle.operations.specs.AtRest.{operated_at_rest, released}
use Rattle.operations.specs.Operation.{operated, turns_down}
use Rattle.operations.proofs.Calls.{allowed, called-by, fits-now, still, to}
use Rattle.operations.proofs.Reached.{at_rest_lem, resting}
use Rattle.operations.proofs.Rest.{AtRest}
use Rattle.operations.proofs.Shapes.{Comes, ask-permit, ask-wait, give-back, give-up, hand-over}
use Rattle.operations.proofs.Waits.{next-waits}
use Rattle.operations.proofs.Walk.{operated-alone}

-- A refusal moves no radio: so a call that is refused leaves the record as it was, whoever is busy, and has no steps.
refused-by : (h : Hub) (c : Call) (r : Refusal) → move_of h c ≡ Refuse r
    → operated h c ≡ record { answer = Answer.Refused r; woken = 0xFF; steps = 0; hub = h }
unfolding apply
refused-by h c r e =
    operated-alone h c (Answer.Refused r)
    (called-by h c (Refuse r) e
    ∙ ap (λ (q : Pool). record { answer = Answer.Refused r; hub = with_pool q h })
    (still h.control.opening.named (printed (Answer.Refused r)) c.party h.control.pool
    (unmoved (printed (Answer.Refused r)) c.party h.control.pool (few-refusals r))))
    refl (refusal-code r)

-- An operation is refused or accepted.
abbrev Decided : Move → Type 0
Decided m = ((r : Refusal) × (m ≡ Refuse r)) ⊎ (answer_of m ≡ Answer.Accepted)

asks-decided : (x y z : Bool) (s : Sight) → Decided (acquire x y z s)
unfolding acquire
asks-decided false y z s = inl (Refusal.NotFree, refl)
asks-decided true true z s = inl (Refusal.Exhausted, refl)
asks-decided true false true s = inl (Refusal.Full, refl)
asks-decided true false false s = inr refl

cancel-decided : (x y : Bool) (f : Phase) (s : Sight) → Decided (cancel x y f s)
unfolding cancel
cancel-decided false y f s = inl (Refusal.NotWaiting, refl)
cancel-decided true true f s = inl (Refusal.NotCancellable, refl)
cancel-decided true false f s = inr refl

release-decided : (x : Bool) (s : Sight) → Decided (release x s)
unfolding release
release-decided false s = inl (Refusal.NotHolding, refl)
release-decided true s = inr refl

decided : (o : Op) (full : Bool) (s : Sight) → is_operation o ≡ true → Decided (decide o full s)
unfolding decide
decided Op.Acquire full s i = asks-decided _ _ _ s
decided Op.Step full s i = let z : ◌≡◌ {A = ℕ} 0 1 = cc in let w : ⊥ = omega arith in absurd w
decided Op.Cancel full s i = cancel-decided _ _ _ s
decided Op.Release full s i = release-decided _ s
decided Op.Radio full s i = let z : ◌≡◌ {A = ℕ} 0 1 = cc in let w : ⊥ = omega arith in absurd w

checked-decided : (x y : Bool) (m : Move) → Decided m → Decided (checked x y m)
unfolding checked
checked-decided false y m d = inl (Refusal.Unfit, refl)
checked-decided true false m d = inl (Refusal.NoSuchParty, refl)
checked-decided true true m d = d

pub refusal-leaves : RefusalLeaves
unfolding RefusalLeaves operated
refusal-leaves h c i t = go (checked-decided _ _ _ (decided c.op _ (look h c.party) i))
  where
    go : Decided (move_of h c)
        → operated h c ≡ record { answer = (called h c).answer; woken = 0xFF; steps = 0; hub = h }
    go (inl (r, e)) =
        refused-by h c r e
        ∙ ap (λ (m : Move). record { answer = answer_of m; woken = 0xFF; steps = 0; hub = h }) (sym e)
    go (inr e) =
        let z : true ≡ false = sym t ∙ ap turns_down e in
        let y : ◌≡◌ {A = ℕ} 0 1 = cc in let w : ⊥ = omega arith in absurd w

module _ (h : Hub) (a : AtRest h) where
  -- What a move comes to.
  abbrev By : Call → Move → Type 0
  By c m = move_of h c ≡ m → Comes h c (by_move m h c)

  refused : (c : Call) (r : Refusal) → By c (Refuse r)
  refused c r e = record { same = refused-by h c r e; rest = a.calm }

  abbrev full : Bool
  full = is_full h.control.oldest h.control.figures.issued h.slots

  -- No such party, or what the call decides.
  in-turn : (c : Call) (b : Bool) → ltb c.party h.control.opening.parties ≡ b
      → (b ≡ true → By c (decide c.op full (look h c.party)))
      → Comes h c (operated_at_rest h c)
  unfolding operated_at_rest checked
  in-turn c true e f = of _ (allowed h c (fits-now h a.fit) e) (f refl)
    where
      of : (m : Move) → move_of h c ≡ m → By c m → Comes h c (by_move (move_of h c) h c)
      of m i g = subst (λ (v : Move). Comes h c (by_move v h c)) (sym i) (g i)
  in-turn c false e f =
      let i : move_of h c ≡ Refuse Refusal.NoSuchParty =
      (λ j. checked (fits-now h a.fit j) (e j) (decide c.op full (look h c.party))) in
      subst (λ (v : Move). Comes h c (by_move v h c)) (sym i) (refused c Refusal.NoSuchParty i)

  module _ (p : ℕ) (present : ltb p h.control.opening.parties ≡ true) where
    abbrev phase : Phase
    phase = (read_slot h.slots p).phase

    asks : (x y z : Bool) → full ≡ z
        → By (record { op = Op.Acquire; party = p }) (acquire x y z (look h p))
    unfolding acquire seen_by
    asks false y z f e = refused _ Refusal.NotFree e
    asks true true z f e = refused _ Refusal.Exhausted e
    asks true false true f e = refused _ Refusal.Full e
    asks true false false f e = go (above_zero h.control.figures.counter) refl
      where
        go : (b : Bool) → above_zero h.control.figures.counter ≡ b
            → Comes h (record { op = Op.Acquire; party = p }) (acquired b h p)
        go true i = ask-permit h a p present e i
        go false i =
            ask-wait h a p present e i
            (omega (
              arith,
              leb-false (h.control.oldest + PLACES)
                  (h.control.figures.issued + count draws_ticket (phases_of h.slots)) f,
            ))

    -- Whoever can give up and is at rest waits.
    can-wait : can_cancel phase ≡ true → phase ≡ Phase.Waiting (ticket_of phase)
    unfolding is_one_of
    can-wait =
        resting (λ f. can_cancel f ≡ true → f ≡ Phase.Waiting (ticket_of f)) (λ i. cc) (λ i. cc) (λ t i. refl)
        phase (a.calm p)

    gives_up : (x y : Bool) → can_cancel phase ≡ x
        → By (record { op = Op.Cancel; party = p }) (cancel x y (given_up phase) (look h p))
    unfolding cancel seen_by given_up is_one_of
    gives_up false y i e = refused _ Refusal.NotWaiting e
    gives_up true true i e = refused _ Refusal.NotCancellable e
    gives_up true false i e =
        give-up h a p present (ticket_of phase) (can-wait i)
        (e ∙ ap (λ (f : Phase). Act (to (read_slot h.slots p) (given_up f) h.control.figures Answer.Accepted)) (can-wait i))

    gives_back : (x : Bool) → is_holding phase ≡ x
        → By (record { op = Op.Release; party = p }) (release x (look h p))
    unfolding release seen_by
    gives_back false i e = refused _ Refusal.NotHolding e
    gives_back true i e = go (below_zero h.control.figures.counter) refl
      where
        go : (b : Bool) → below_zero h.control.figures.counter ≡ b
            → Comes h (record { op = Op.Release; party = p }) (released b h p)
        go false j = give-back h a p present e j
        go true j =
            let q = next-waits h a j in
            hand-over h a p present e j (one_of Phase.Holding phase i) q.0 q.1

  -- Every operation.
  pub operation : (o : Op) (p : ℕ) → is_operation o ≡ true
      → Comes h (record { op = o; party = p }) (operated_at_rest h (record { op = o; party = p }))
  unfolding decide seen_by
  operation Op.Acquire p i =
      in-turn (record { op = Op.Acquire; party = p }) _ refl (λ e. asks p e _ _ full refl)
  operation Op.Step p i = let z : ◌≡◌ {A = ℕ} 0 1 = cc in let w : ⊥ = omega arith in absurd w
  operation Op.Cancel p i =
      in-turn (record { op = Op.Cancel; party = p }) _ refl (λ e. gives_up p e _ _ refl)
  operation Op.Release p i =
      in-turn (record { op = Op.Release; party = p }) _ refl (λ e. gives_back p e _ refl)
  operation Op.Radio p i = let z : ◌≡◌ {A = ℕ} 0 1 = cc in let w : ⊥ = omega arith in absurd w

pub comes-to : ComesTo
unfolding ComesTo
comes-to o e cs calm c i = (operation _ (at_rest_lem o e cs calm) c.op c.party i).same

pub ends-at-rest : EndsAtRest
unfolding EndsAtRest
ends-at-rest o e cs calm c i p =
    let x = operation _ (at_rest_lem o e cs calm) c.op c.party i in
    ap (λ (r : Operated). rests r.hub p) x.same ∙ x.rest p
