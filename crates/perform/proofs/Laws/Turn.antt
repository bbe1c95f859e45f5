-- One turn of the loop of `perform_operations`, over the values that it reads: the operation comes to its closed form, what
-- is decided is what it comes to, and what is stored is the record from which the tidying starts.
use mathlib.Core.Path.{◌≡◌, sym, ap, subst, ◌∙◌}
use mathlib.Core.Bool.{Bool, true}
use mathlib.Core.List.{List, [], ◌∷◌}
use native.Mathlib.Omega.{arith}
use borrow.Author.Tests.{le-ltb, lt-ltb}
use Prim.Native.Nat.{ℕ, ◌+◌, ◌*◌, ◌/◌, ◌%◌, ◌≤◌, ◌<◌}
use lib.Dec.{leb}
use lib.ListN.{length, get_or, set}
use Rattle.hub.specs.declared.answers.Answer.{Answer}
use Rattle.hub.specs.declared.answers.Refusal.{Refusal}
use Rattle.hub.specs.declared.moves.Call.{Call}
use Rattle.hub.specs.declared.record.Hub.{Hub}
use Rattle.hub.specs.declared.record.PartySlot.{PartySlot}
use Rattle.hub.specs.declared.record.Phase.{Phase}
use Rattle.hub.specs.declared.record.Pool.{Pool}
use Rattle.hub.specs.Fits.{fits}
use Rattle.hub.specs.Kinds.{kind_in}
use Rattle.hub.specs.Record.{PARTIES, control_of, empty_seat, of_fields, read_slot, with_phase, write_slot}
use Rattle.hub.specs.Ring.{PLACES, read_seat, write_seat}
use Rattle.encoding.specs.Frame.{op_of}
use Rattle.operations.specs.declared.Operated.{Operated}
use Rattle.operations.specs.AtRest.{operated_at_rest}
use Rattle.operations.specs.Operation.{operated}
use Rattle.transition.specs.Tidied.{tidied_by}
use Rattle.transition.proofs.Laws.Called.{Counted, counted}
use Rattle.transition.proofs.Laws.Stored.{still}
use Rattle.transition.specs.Room.{full_for}
use Rattle.plan.specs.declared.Plan.{Plan}
use Rattle.plan.specs.declared.Seen.{Seen}
use Rattle.plan.specs.Plan.{operation_of, plan_of}
use Rattle.perform.specs.Bytes.{answer_bytes, is_operation_code, with_answer}
use Rattle.perform.proofs.Laws.Answers.{Upto, answered, call_at, code_here}
use Rattle.perform.proofs.Laws.Codes.{an-operation}
use Rattle.perform.proofs.Laws.Comes.{Comes, as-planned, no-such-party, plan_at, pool_by, stored_by}
use Rattle.perform.proofs.Laws.Comes.{full, seen_of, its_ticket, woken-byte}
use Rattle.perform.proofs.Laws.Plans.{as-asked, few-turns}
use Rattle.perform.proofs.Laws.Rested.{closed, next-in-line, rested-fits, room-at-rest}

-- The figures of the record at the head of a turn leave room.
module _ (h₀ : Hub) (l out₀ : List ℕ) (h : Hub) (out : List ℕ) (i : ℕ) (u : Upto h₀ l out₀ h out i) where
  -- The record fits.
  pub fit : fits h ≡ true
  fit = rested-fits h u.rested

  pub counts : Counted h
  counts = counted h fit

  -- The operation that is read.
  module _ (size : length h.slots ≡ PARTIES) (more : i < length l / 2) (code party : ℕ)
      (code-is : code ≡ get_or l (2 * i) 0) (party-is : party ≡ get_or l (2 * i + 1) 0) where
    abbrev call : Call
    call = record { op = op_of code; party = party }

    call-is : call ≡ call_at l i
    call-is = (λ j. record { op = op_of (code-is j); party = party-is j })

    valid : is_operation_code code ≡ true
    valid = ap is_operation_code code-is ∙ code_here _ _ _ _ _ _ u more

    -- The operation comes to its closed form.
    rests-on : operated h call ≡ operated_at_rest h call
    rests-on = closed h u.rested call (an-operation code valid)

    -- A party that there is not is refused at once.
    pub turned_down : h.control.opening.parties ≤ party → (out' : List ℕ)
        → out' ≡ with_answer i (4 ∷ 0xFF ∷ 0 ∷ []) out → Upto h₀ l out₀ h out' (i + 1)
    turned_down p out' w =
        let down : operated h call ≡ record {
          answer = Answer.Refused Refusal.NoSuchParty;
          woken = 0xFF;
          steps = 0;
          hub = h;
        } =
        rests-on ∙ no-such-party h party size fit code (le-ltb _ _ p) in
        answered _ _ _ _ _ _ u more call _ _ _ call-is w (ap answer_bytes (sym down))
        (ap (λ (r : Operated). r.hub) (sym down))

    -- What is decided is what it comes to.
    module _ (inside : party < h.control.opening.parties) (index : ℕ) (index-is : index ≡ its_ticket h party code % PLACES)
        (room : Bool) (room-is : room ≡ full_for (operation_of code) (leb (h.control.oldest + PLACES) h.control.figures.issued))
        (plan : Plan)
        (decided : plan ≡ plan_of code room (record {
          party = party;
          kind = get_or h.control.opening.kinds party 0;
          named = h.control.opening.named;
          slot = read_slot h.slots party;
          seat = get_or h.places index empty_seat;
          figures = h.control.figures;
        })) where
      plan-is : plan ≡ plan_at h party code
      unfolding read_seat kind_in
      plan-is =
          let sight : ℕ → Seen = λ t.
          record {
            party = party;
            kind = get_or h.control.opening.kinds party 0;
            named = h.control.opening.named;
            slot = read_slot h.slots party;
            seat = get_or h.places t empty_seat;
            figures = h.control.figures;
          } in
          decided
          ∙ (λ i. plan_of code (room-is i) (sight (index-is i)))
          ∙ ap (λ (b : Bool). plan_of code (full_for (operation_of code) b) (seen_of h party code))
          (room-at-rest h u.rested h.control.oldest h.control.figures.issued)
          ∙ as-asked code (full h party) (seen_of h party code)

      comes : Comes h party code plan (operated h call)
      comes =
          let made = as-planned h party size fit (lt-ltb _ _ inside) (u.rested.calm party) code valid in
          subst (λ (p : Plan). Comes h party code p (operated h call)) (sym plan-is)
          (subst (Comes h party code (plan_at h party code)) (sym rests-on) made)

      pub turns-most : plan.turns ≤ 256
      turns-most = omega (arith, ap (λ (p : Plan). p.turns) plan-is, few-turns (seen_of h party code) code (full h party))

      byte : plan.woken % 256 ≡ plan.woken
      byte =
          let small = woken-byte h party (next-in-line h u.rested) code valid in
          omega (arith, small, ap (λ (p : Plan). p.woken) plan-is)

      -- The answer that is written.
      worded : plan.code ∷ plan.woken % 256 ∷ plan.steps ∷ [] ≡ answer_bytes (operated h call)
      worded =
          let e = comes in
          (λ i. sym e.code i ∷ (byte ∙ sym e.woken) i ∷ sym e.steps i ∷ [])

      -- The record that the tidying starts from.
      module _ (slots : List PartySlot)
          (slots-are : slots ≡ write_slot h.slots plan.woken (with_phase Phase.Holding (read_slot h.slots plan.woken)))
          (pool : Pool) (pool-is : pool ≡ pool_by h party code plan) where
        abbrev pub untidied : Hub
        untidied =
            of_fields (set h.places index plan.seat) (write_slot slots party plan.slot)
            (control_of h.control.opening plan.figures h.control.oldest pool)

        stored : untidied ≡ stored_by h party code plan
        unfolding write_seat
        stored =
            (λ i. of_fields (set h.places (index-is i) plan.seat) (write_slot (slots-are i) party plan.slot)
            (control_of h.control.opening plan.figures h.control.oldest (pool-is i)))

        -- One more operation is performed: its answer is written, and v is the record that is left.
        pub one_more : (v : Hub) (out' : List ℕ) → v ≡ tidied_by plan.turns untidied
            → out' ≡ with_answer i (plan.code ∷ plan.woken % 256 ∷ plan.steps ∷ []) out
            → Upto h₀ l out₀ v out' (i + 1)
        one_more v out' e w =
            answered _ _ _ _ _ _ u more call (plan.code ∷ plan.woken % 256 ∷ plan.steps ∷ []) out' v
            call-is w worded (e ∙ ap (tidied_by plan.turns) stored ∙ comes.hub)

        -- The slots stay as many.
        pub still-32 : length (write_slot slots party plan.slot) ≡ PARTIES
        still-32 =
            let q = plan.woken in
            still h.slots slots q party (with_phase Phase.Holding (read_slot h.slots q)) plan.slot slots-are ∙ size
