-- What is decided, once it is stored and tidied, is what the operation comes to.
use Prim.Native.Nat.{ℕ, zero, suc, ◌+◌, ◌≤◌}
use mathlib.Core.Path.{◌≡◌, refl, sym, ap, subst, ◌∙◌}
use mathlib.Core.Bool.{Bool, true, false, cond, ◌&&◌}
use mathlib.Core.List.{List, [], ◌∷◌}
use native.Mathlib.Omega.{arith}
use lib.Dec.{eqb, ltb}
use lib.ListN.{length}
use Rattle.hub.specs.declared.answers.Answer.{Answer}
use Rattle.hub.specs.declared.answers.Refusal.{Refusal}
use Rattle.hub.specs.declared.moves.Call.{Call}
use Rattle.hub.specs.declared.record.Figures.{Figures}
use Rattle.hub.specs.declared.record.Hub.{Hub}
use Rattle.hub.specs.declared.record.PartySlot.{PartySlot}
use Rattle.hub.specs.declared.record.Phase.{Phase}
use Rattle.hub.specs.declared.record.PlaceSlot.{PlaceSlot}
use Rattle.hub.specs.declared.record.Pool.{Pool}
use Rattle.hub.specs.Answers.{printed, refusal_code}
use Rattle.hub.specs.Calls.{checked, is_full, tidied}
use Rattle.hub.specs.Fits.{fits}
use Rattle.hub.specs.Kinds.{kind_in}
use Rattle.hub.specs.Look.{look, seen_by}
use Rattle.hub.specs.Phases.{at_rest, by_waiter, is_one_of, is_waiting}
use Rattle.hub.specs.Radios.{fetch, hand_of, hand_to, moved, pool_after, put_back}
use Rattle.hub.specs.Record.{PARTIES, read_slot, with_parts, with_phase, write_slot}
use Rattle.hub.specs.Ring.{read_place, read_seat, write_seat}
use Rattle.hub.specs.Table.{above_zero, acquire, below_zero, can_cancel, cancel, decide, given_up, release}
use Rattle.hub.proofs.Laws.Phases.{phases-alike}
use Rattle.hub.proofs.Laws.Seats.{same-seat}
use Rattle.encoding.specs.Frame.{op_of}
use Rattle.operations.specs.declared.Operated.{Operated}
use Rattle.operations.specs.AtRest.{acquired, by_move, cancelled, operated_at_rest, released}
use Rattle.transition.specs.Tidied.{tidied_by}
use Rattle.transition.proofs.Laws.Stored.{nobody, same-slot, tidied-all, tidied-none}
use Rattle.plan.specs.declared.Plan.{Plan}
use Rattle.plan.specs.declared.Seen.{Seen}
use Rattle.perform.specs.Bytes.{is_operation_code}
use Rattle.plan.specs.Plan.{after_acquire, after_return, plan_acquire, plan_cancel, plan_of, plan_release, radio_by}
use Rattle.plan.specs.Plan.{refused_by, ticket_for}
use Rattle.perform.proofs.Laws.Codes.{among-three}
use Rattle.perform.proofs.Laws.Plans.{asked-woken, cancelled-woken, released-woken}

-- At rest only a wait can be given up.
gives_up : (x : Phase) → at_rest x ≡ true → can_cancel x ≡ is_waiting x
unfolding is_one_of
gives_up x e =
    ap (λ (b : Bool). b && can_cancel x) (sym e)
    ∙ phases-alike (λ y. at_rest y && can_cancel y) (λ y. at_rest y && is_waiting y) (λ t. refl) x
    ∙ ap (λ (b : Bool). b && is_waiting x) e

-- A party's slot with another phase is the same whether or not somebody's phase was changed before.
phase-alone : (x y : Phase) (l : List PartySlot) (p q : ℕ)
    → with_phase x (read_slot (write_slot l q (with_phase y (read_slot l q))) p) ≡ with_phase x (read_slot l p)
unfolding read_slot write_slot
phase-alone x y [] p q = refl
phase-alone x y (s ∷ l) zero zero = refl
phase-alone x y (s ∷ l) zero (suc q) = refl
phase-alone x y (s ∷ l) (suc p) zero = refl
phase-alone x y (s ∷ l) (suc p) (suc q) = phase-alone x y l p q

-- The radios: a refusal, a wait and a give-up move none; one more step fetches, or puts back; a hand-over hands on.
module _ (p : ℕ) (r : Pool) where
  unmoved : (named : Bool) → pool_after named (printed Answer.Accepted) p r ≡ r
  unfolding pool_after moved
  unmoved true = refl
  unmoved false = refl

  fetched : (named : Bool)
      → pool_after named (printed (radio_by 0x10 (cond named 2 1) 0xFF)) p r ≡ cond named (fetch p r) r
  unfolding pool_after moved
  fetched true = refl
  fetched false = refl

  stored : (named : Bool)
      → pool_after named (printed (radio_by 0x13 (cond named 2 1) 0xFF)) p r
      ≡ cond named (put_back (hand_of r p) r) r
  unfolding pool_after moved
  stored true = refl
  stored false = refl

  handed : (named : Bool) (q : ℕ)
      → pool_after named (printed (Answer.Woke q 0)) p r ≡ cond named (hand_to q (hand_of r p) r) r
  unfolding pool_after moved
  handed true q = refl
  handed false q = refl

module _ (h : Hub) (p : ℕ) where
  abbrev pub call_by : ℕ → Call
  call_by c = record { op = op_of c; party = p }

  abbrev pub its_ticket : ℕ → ℕ
  its_ticket c = ticket_for c (read_slot h.slots p).phase h.control.figures

  -- What the operation of code c looks at.
  abbrev pub seen_of : ℕ → Seen
  seen_of c =
      record {
        party = p;
        kind = kind_in h.control.opening.kinds p;
        named = h.control.opening.named;
        slot = read_slot h.slots p;
        seat = read_seat h.places (its_ticket c);
        figures = h.control.figures;
      }

  abbrev pub full : Bool
  full = is_full h.control.oldest h.control.figures.issued h.slots

  abbrev pub plan_at : ℕ → Plan
  plan_at c = plan_of c full (seen_of c)

  abbrev made : Figures → List PlaceSlot → List PartySlot → Pool → Hub
  made f a l q = with_parts f h.control.oldest a l q h

  -- The slots, the places and the radios, once a plan of code c is stored.
  abbrev pub slots_by : Plan → List PartySlot
  slots_by e =
      write_slot
      (write_slot h.slots e.woken (with_phase Phase.Holding (read_slot h.slots e.woken))) p
      e.slot

  abbrev pub places_by : ℕ → Plan → List PlaceSlot
  places_by c e = write_seat h.places (its_ticket c) e.seat

  abbrev pub pool_by : ℕ → Plan → Pool
  pool_by c e = pool_after h.control.opening.named (printed (radio_by c e.steps e.woken)) p h.control.pool

  abbrev pub stored_by : ℕ → Plan → Hub
  stored_by c e = made e.figures (places_by c e) (slots_by e) (pool_by c e)

  -- What an operation came to, r, is what a plan says.
  pub record Comes (c : ℕ) (e : Plan) (r : Operated) : Type 0 where
    pub code : (printed r.answer).code ≡ e.code
    pub woken : r.woken ≡ e.woken
    pub steps : r.steps ≡ e.steps
    pub hub : tidied_by e.turns (stored_by c e) ≡ r.hub

  -- Whoever is woken has a number of one byte.
  pub woken-byte :
      (below_zero h.control.figures.counter ≡ true
      → by_waiter 0xFF (λ q. q) (read_place h.places h.control.figures.resumed) ≤ 0xFF)
      → (c : ℕ) → is_operation_code c ≡ true → (plan_at c).woken ≤ 0xFF
  woken-byte e =
      among-three (λ c. (plan_at c).woken ≤ 0xFF) (asked-woken (seen_of 0x10) _ _ _ _)
      (cancelled-woken (seen_of 0x12) _ _) (released-woken (seen_of 0x13) _ _ e)

  module _ (size : length h.slots ≡ PARTIES) where
    abbrev own : PartySlot
    own = read_slot h.slots p

    -- Nobody is woken.
    alone : (s : PartySlot)
        → write_slot (write_slot h.slots 0xFF (with_phase Phase.Holding (read_slot h.slots 0xFF))) p s
        ≡ write_slot h.slots p s
    alone s =
        ap (λ (l : List PartySlot). write_slot l p s) (sym (nobody h.slots 0xFF _ (omega arith)))

    abbrev turned_down : Refusal → Operated
    turned_down r = record { answer = Answer.Refused r; woken = 0xFF; steps = 0; hub = h }

    refused : (c : ℕ) (r : Refusal) → radio_by c 0 0xFF ≡ Answer.Accepted
        → Comes c (refused_by (refusal_code r) (seen_of c)) (turned_down r)
    refused c r e =
        record {
          code = refl;
          woken = refl;
          steps = refl;
          hub =
              tidied-none _
              ∙ (λ i. made h.control.figures (same-seat h.places (its_ticket c) i)
              ((alone own ∙ same-slot h.slots p) i)
              ((ap (λ (y : Answer). pool_after h.control.opening.named (printed y) p h.control.pool) e
              ∙ unmoved p h.control.pool h.control.opening.named) i));
        }

    takes : Comes 0x10 (plan_acquire true false false true (seen_of 0x10)) (acquired true h p)
    unfolding plan_acquire acquired
    takes =
        record {
          code = refl;
          woken = refl;
          steps = refl;
          hub =
              tidied-none _
              ∙ (λ i. made (after_acquire h.control.figures.issued h.control.figures)
              (same-seat h.places h.control.figures.issued i) (alone (with_phase Phase.Holding own) i)
              (fetched p h.control.pool h.control.opening.named i));
        }

    parks : Comes 0x10 (plan_acquire true false false false (seen_of 0x10)) (acquired false h p)
    unfolding plan_acquire acquired
    parks =
        record {
          code = refl;
          woken = refl;
          steps = refl;
          hub =
              tidied-none _
              ∙ (λ i. made (after_acquire (h.control.figures.issued + 1) h.control.figures) (acquired false h p).hub.places
              (alone (with_phase (Phase.Waiting h.control.figures.issued) own) i) (unmoved p h.control.pool h.control.opening.named i));
        }

    asks : (a b f z : Bool) → above_zero h.control.figures.counter ≡ z
        → Comes 0x10 (plan_acquire a b f z (seen_of 0x10)) (by_move (acquire a b f (look h p)) h (call_by 0x10))
    unfolding plan_acquire acquire
    asks false b f z e = refused 0x10 Refusal.NotFree refl
    asks true true f z e = refused 0x10 Refusal.Exhausted refl
    asks true false true z e = refused 0x10 Refusal.Full refl
    asks true false false true e =
        subst (λ (z : Bool). Comes 0x10 (plan_acquire true false false true (seen_of 0x10)) (acquired z h p))
        (sym e) takes
    asks true false false false e =
        subst (λ (z : Bool). Comes 0x10 (plan_acquire true false false false (seen_of 0x10)) (acquired z h p))
        (sym e) parks

    gives : Comes 0x12 (plan_cancel true false (seen_of 0x12)) (cancelled h p)
    unfolding plan_cancel cancelled
    gives =
        record {
          code = refl;
          woken = refl;
          steps = refl;
          hub =
              tidied-all _
              ∙ ap tidied
              (λ i. made (after_return h.control.figures.resumed h.control.figures)
              (places_by 0x12 (plan_cancel true false (seen_of 0x12))) (alone (with_phase Phase.Free own) i)
              (unmoved p h.control.pool h.control.opening.named i));
        }

    cancels : (a k : Bool) (x : Phase)
        → Comes 0x12 (plan_cancel a k (seen_of 0x12)) (by_move (cancel a k x (look h p)) h (call_by 0x12))
    unfolding plan_cancel cancel
    cancels false k x = refused 0x12 Refusal.NotWaiting refl
    cancels true true x = refused 0x12 Refusal.NotCancellable refl
    cancels true false x = gives

    returns : Comes 0x13 (plan_release true false (seen_of 0x13)) (released false h p)
    unfolding plan_release released
    returns =
        record {
          code = refl;
          woken = refl;
          steps = refl;
          hub =
              tidied-none _
              ∙ (λ i. made (after_return h.control.figures.resumed h.control.figures)
              (same-seat h.places h.control.figures.resumed i) (alone (with_phase Phase.Free own) i)
              (stored p h.control.pool h.control.opening.named i));
        }

    hands-over : Comes 0x13 (plan_release true true (seen_of 0x13)) (released true h p)
    unfolding plan_release released
    hands-over =
        let e = plan_release true true (seen_of 0x13) in
        record {
          code = refl;
          woken = refl;
          steps = refl;
          hub =
              tidied-all _
              ∙ ap tidied
              (λ i. made e.figures (places_by 0x13 e)
              (write_slot
              (write_slot h.slots e.woken (with_phase Phase.Holding (read_slot h.slots e.woken))) p
              (sym (phase-alone Phase.Free Phase.Holding h.slots p e.woken) i))
              (handed p h.control.pool h.control.opening.named e.woken i));
        }

    releases : (a z : Bool) → below_zero h.control.figures.counter ≡ z
        → Comes 0x13 (plan_release a z (seen_of 0x13)) (by_move (release a (look h p)) h (call_by 0x13))
    unfolding plan_release release
    releases false z e = refused 0x13 Refusal.NotHolding refl
    releases true true e =
        subst (λ (z : Bool). Comes 0x13 (plan_release true true (seen_of 0x13)) (released z h p)) (sym e) hands-over
    releases true false e =
        subst (λ (z : Bool). Comes 0x13 (plan_release true false (seen_of 0x13)) (released z h p)) (sym e) returns

    module _ (fit : fits h ≡ true) where
      -- 4, before the call's own refusals.
      pub no-such-party : (c : ℕ) → ltb p h.control.opening.parties ≡ false
          → operated_at_rest h (call_by c) ≡ turned_down Refusal.NoSuchParty
      unfolding operated_at_rest checked
      no-such-party c n = rw (fit, n)

      module _ (n : ltb p h.control.opening.parties ≡ true) (rest : at_rest (read_slot h.slots p).phase ≡ true) where
        by-table : (c : ℕ)
            → by_move (decide (op_of c) full (look h p)) h (call_by c) ≡ operated_at_rest h (call_by c)
        unfolding operated_at_rest checked
        by-table c = rw (fit, n)

        abbrev AsPlanned : ℕ → Type 0
        AsPlanned c = Comes c (plan_at c) (operated_at_rest h (call_by c))

        ask : AsPlanned 0x10
        unfolding decide seen_by
        ask = subst (Comes 0x10 (plan_at 0x10)) (by-table 0x10) (asks _ _ _ _ refl)

        give-up : AsPlanned 0x12
        unfolding decide seen_by
        give-up =
            let x = (read_slot h.slots p).phase in
            subst (Comes 0x12 (plan_at 0x12)) (by-table 0x12)
            (subst (λ (b : Bool).
            Comes 0x12 (plan_at 0x12) (by_move (cancel b (eqb (kind_in h.control.opening.kinds p) 3) (given_up x) (look h p)) h (call_by 0x12)))
            (sym (gives_up x rest)) (cancels _ _ _))

        give-back : AsPlanned 0x13
        unfolding decide seen_by
        give-back = subst (Comes 0x13 (plan_at 0x13)) (by-table 0x13) (releases _ _ refl)

        pub as-planned : (c : ℕ) → is_operation_code c ≡ true → AsPlanned c
        as-planned = among-three AsPlanned ask give-up give-back
