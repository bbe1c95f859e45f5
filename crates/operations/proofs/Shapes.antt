-- The five ways that an accepted operation goes on a hub at rest, each from its call to its end.
use Prim.Native.Nat.{ℕ, ◌+◌, ◌<◌}
use mathlib.Core.Path.{◌≡◌, refl, sym, ap, subst, ◌∙◌}
use mathlib.Core.Bool.{Bool, true, false, cond, ◌&&◌}
use mathlib.Core.List.{List, [], ◌∷◌}
use mathlib.Core.Logic.{◌≢◌}
use native.Mathlib.Omega.{arith}
use borrow.Author.Tests.{eqb-true, le-leb, ltb-true}
use lib.Dec.{eqb, ltb}
use lib.IntN.{pred_ℤ, suc_ℤ}
use lib.ListN.{length}
use Rattle.hub.specs.declared.answers.Answer.{Answer}
use Rattle.hub.specs.declared.moves.Call.{Call}
use Rattle.hub.specs.declared.moves.Op.{Op}
use Rattle.hub.specs.declared.record.Figures.{Figures}
use Rattle.hub.specs.declared.record.Hub.{Hub}
use Rattle.hub.specs.declared.record.Phase.{Phase}
use Rattle.hub.specs.declared.record.Place.{Place}
use Rattle.hub.specs.declared.record.Outcome.{Outcome}
use Rattle.hub.specs.declared.record.PartySlot.{PartySlot}
use Rattle.hub.specs.declared.record.PlaceSlot.{PlaceSlot}
use Rattle.hub.specs.declared.record.Pool.{Pool}
use Rattle.hub.specs.Answers.{printed}
use Rattle.hub.specs.Calls.{apply, called, move_of, ring_of, tidied, with_ring}
use Rattle.hub.specs.Calm.{rests, step_by}
use Rattle.hub.specs.Ledger.{at_counter}
use Rattle.hub.specs.Look.{look, seen_by}
use Rattle.hub.specs.Moves.{Act, Move, Wake}
use Rattle.hub.specs.Phases.{at_rest, by_ticket, by_waiter, is_cancelled, is_done, is_one_of, is_place_of, is_waiting, ticket_of}
use Rattle.hub.specs.Radios.{hand_of, hand_to, moved, pool_after}
use Rattle.hub.specs.Record.{empty_seat, free_slot, read_slot, with_figures, with_parts, with_phase, with_place, with_pool, write_slot}
use Rattle.hub.specs.Ring.{PLACES, Ring, read_place, read_seat, write_seat}
use Rattle.hub.specs.Table.{above_zero, below_zero, step_aborting, step_acquiring, step_cancelling, step_fetching}
use Rattle.hub.specs.Table.{resume_waiter, row_in, step_in, step_releasing, step_resuming, step_resuming_at, step_storing}
use Rattle.hub.specs.Table.{step_suspending, step_ticketed, with_begun, with_counter, with_issued, with_permit}
use Rattle.hub.specs.Table.{with_resumed, without_permit}
use Rattle.hub.proofs.Laws.Seats.{written-not, written-size}
use Rattle.operations.specs.declared.Operated.{Operated}
use Rattle.operations.specs.AtRest.{acquired, came, cancelled, one_step, phase_to, place_to}
use Rattle.operations.specs.AtRest.{radios_by, released}
use Rattle.operations.specs.Operation.{operated}
use Rattle.operations.proofs.Calls.{Fit, acts, begins, called-by, fits-now, now, onward, puts, quiet, radios}
use Rattle.operations.proofs.Calls.{other-slot, phase-now, rests-now, seat-now, slot-in, slot-now, step_by_lem, still, tidied-now}
use Rattle.operations.proofs.Calls.{tidied-same, to, written-around, written-length, written-rests}
use Rattle.operations.proofs.Rest.{AtRest, above_zero_lem}
use Rattle.operations.proofs.Ring.{Drawn, Tidy, done-between, drawn-stays}
use Rattle.operations.proofs.Waits.{not-cancelled, waiter-inside, waiting-below}
use Rattle.operations.proofs.Walk.{operated-by, stop, walk, woken_by}

-- An operation comes to r, and everybody is at rest in it.
pub record Comes (h : Hub) (c : Call) (r : Operated) : Type 0 where
  pub same : operated h c ≡ r
  pub rest : (q : ℕ) → rests r.hub q ≡ true

module _ (h : Hub) (a : AtRest h) (p : ℕ) (present : ltb p h.control.opening.parties ≡ true) where
  inside : p < length h.slots
  inside = omega (arith, a.slots, a.few, ltb-true p h.control.opening.parties present)

  tidy : Tidy (ring_of h)
  tidy = record { size = a.places; unskipped = a.unskipped; unretired = a.unretired }

  -- The record with figures f and party p in phase x.
  abbrev here : Figures → Phase → Hub
  here = now h p inside present

  abbrev figures : Figures
  figures = h.control.figures

  -- The counter is told of one more.
  abbrev told_more : Figures
  told_more = with_counter (suc_ℤ figures.counter) figures

  -- The call, and steps that move nothing else.
  call : (o : Op) (f : Figures) (x : Phase) → f.resumed ≡ figures.resumed
      → move_of h (record { op = o; party = p }) ≡ Act (to (read_slot h.slots p) x f Answer.Accepted)
      → called h (record { op = o; party = p }) ≡ record { answer = Answer.Accepted; hub = here f x }
  unfolding moved
  call o f x e m =
      begins h p inside present o f x Answer.Accepted m
      ∙ ap (λ (k : Hub). record { answer = Answer.Accepted; hub = k })
      (quiet h p inside present tidy f x e Answer.Accepted refl)

  step : (f : Figures) (x : Phase) (f' : Figures) (x' : Phase) (y : Answer) → Fit (here f x)
      → f'.resumed ≡ figures.resumed → moved (printed y) p h.control.pool ≡ h.control.pool
      → step_in x (look (here f x) p) ≡ Act (to (slot-in h p inside present f x) x' f' y)
      → called (here f x) (step_by p) ≡ record { answer = y; hub = here f' x' }
  step f x f' x' y fit e m s =
      acts h p inside present f x (fits-now (here f x) fit) f' x' y s
      ∙ ap (λ (k : Hub). record { answer = y; hub = k }) (quiet h p inside present tidy f' x' e y m)

  -- A step that moves a radio.
  step-radio : (f : Figures) (x : Phase) (f' : Figures) (x' : Phase) (y : Answer) → Fit (here f x)
      → f'.resumed ≡ figures.resumed → step_in x (look (here f x) p) ≡ Act (to (slot-in h p inside present f x) x' f' y)
      → called (here f x) (step_by p)
      ≡ record { answer = y; hub = with_pool (radios h p inside present y) (here f' x') }
  step-radio f x f' x' y fit e s =
      acts h p inside present f x (fits-now (here f x) fit) f' x' y s
      ∙ ap (λ (k : Hub). record { answer = y; hub = with_pool (radios h p inside present y) k })
      (tidied-now h p inside present tidy f' x' e)

  at-rest-now : (f : Figures) (x : Phase) → at_rest x ≡ true → (q : ℕ) → rests (here f x) q ≡ true
  at-rest-now f x e = written-rests h.slots p _ inside e a.calm

  -- A call and one step, and on a hub with radios a step more.
  module _ (o : Op) (f₁ f₂ : Figures) (x₁ x₂ x₃ : Phase) (y₂ y₃ : Answer)
      (c₁ : called h (record { op = o; party = p }) ≡ record { answer = Answer.Accepted; hub = here f₁ x₁ })
      (b₁ : at_rest x₁ ≡ false)
      (c₂ : called (here f₁ x₁) (step_by p)
      ≡ record { answer = y₂; hub = here f₂ (cond h.control.opening.named x₂ x₃) })
      (w₂ : woken_by (y₂ ∷ []) ≡ 0xFF) (b₂ : at_rest x₂ ≡ false)
      (c₃ : h.control.opening.named ≡ true
      → called (here f₂ x₂) (step_by p)
      ≡ record { answer = y₃; hub = with_pool (radios h p inside present y₃) (here f₂ x₃) })
      (w₃ : woken_by (y₂ ∷ y₃ ∷ []) ≡ 0xFF) (b₃ : at_rest x₃ ≡ true) where
    one-or-two : Comes h (record { op = o; party = p })
        (came 0xFF (one_step h) (with_pool (radios h p inside present y₃) (here f₂ x₃)))
    unfolding pool_after
    one-or-two =
        record { same = go h.control.opening.named refl; rest = at-rest-now f₂ x₃ b₃ }
      where
        last : {b : Bool} → h.control.opening.named ≡ b
            → called (here f₁ x₁) (step_by p) ≡ record { answer = y₂; hub = here f₂ (cond b x₂ x₃) }
        last i = c₂ ∙ ap (λ (b : Bool). record { answer = y₂; hub = here f₂ (cond b x₂ x₃) }) i

        go : (b : Bool) → h.control.opening.named ≡ b
            → operated h (record { op = o; party = p })
            ≡ came 0xFF (one_step h) (with_pool (radios h p inside present y₃) (here f₂ x₃))
        go false i =
            operated-by h (record { op = o; party = p }) Answer.Accepted c₁ refl
            (walk (rests-now h p inside present f₁ x₁ b₁) (last i) (stop (rests-now h p inside present f₂ x₃ b₃)))
            (omega arith)
            ∙ (λ j.
            record {
              answer = Answer.Accepted;
              woken = w₂ j;
              steps = cond (sym i j) 2 1;
              hub = with_pool (pool_after (sym i j) (printed y₃) p h.control.pool) (here f₂ x₃);
            })
        go true i =
            operated-by h (record { op = o; party = p }) Answer.Accepted c₁ refl
            (walk (rests-now h p inside present f₁ x₁ b₁) (last i)
            (walk (rests-now h p inside present f₂ x₂ b₂) (c₃ i)
            (stop (at-rest-now f₂ x₃ b₃ p))))
            (omega arith)
            ∙ (λ j.
            record {
              answer = Answer.Accepted;
              woken = w₃ j;
              steps = cond (sym i j) 2 1;
              hub = with_pool (radios h p inside present y₃) (here f₂ x₃);
            })

  -- A place written and no radio moved.
  no-radio : (y : Answer) (k : Hub) → k.control.pool ≡ h.control.pool → moved (printed y) p h.control.pool ≡ h.control.pool
      → with_pool (radios h p inside present y) k ≡ k
  no-radio y k e u =
      ap (λ (q : Pool). with_pool q k)
      (still h.control.opening.named (printed y) p h.control.pool u ∙ sym e)

  -- Ask.
  module _ (m : move_of h (record { op = Op.Acquire; party = p })
      ≡ Act (to (read_slot h.slots p) Phase.Acquiring (with_begun (figures.begun + 1) figures) Answer.Accepted)) where
    abbrev asked : Figures
    asked = with_begun (figures.begun + 1) figures

    abbrev told-less : Figures
    told-less = with_counter (pred_ℤ figures.counter) asked

    ask-call : called h (record { op = Op.Acquire; party = p })
        ≡ record { answer = Answer.Accepted; hub = here asked Phase.Acquiring }
    ask-call = call Op.Acquire asked Phase.Acquiring refl m

    -- With a permit at the counter: 21, and 36.
    module _ (e : above_zero figures.counter ≡ true) where
      permit-21 : called (here asked Phase.Acquiring) (step_by p)
          ≡ record { answer = Answer.Acquired; hub = here told-less (with_permit h.control.opening.named) }
      unfolding row_in step_acquiring seen_by moved
      permit-21 =
          step asked Phase.Acquiring told-less (with_permit h.control.opening.named) Answer.Acquired
          (onward h _ _ _ a.fit ask-call) refl refl
          (ap (λ (b : Bool). step_acquiring Phase.Suspending b (look (here asked Phase.Acquiring) p)) e)

      permit-36 : h.control.opening.named ≡ true
          → called (here told-less Phase.Fetching) (step_by p)
          ≡ record {
            answer = Answer.Fetched;
            hub = with_pool (radios h p inside present Answer.Fetched) (here told-less Phase.Holding);
          }
      unfolding row_in step_fetching seen_by
      permit-36 i =
          step-radio told-less Phase.Fetching told-less Phase.Holding Answer.Fetched
          (onward _ _ _ _ (onward h _ _ _ a.fit ask-call)
          (permit-21 ∙ ap (λ (b : Bool). record { answer = Answer.Acquired; hub = here told-less (with_permit b) }) i))
          refl
          (ap (λ (b : Bool). step_fetching b (look (here told-less Phase.Fetching) p))
          (le-leb 1 h.control.pool.stored
          (omega (
            arith,
            a.stored i,
            ltb-true 0 (at_counter figures.counter) (sym (above_zero_lem figures.counter) ∙ e),
          ))))

      pub ask-permit : Comes h (record { op = Op.Acquire; party = p }) (acquired true h p)
      unfolding acquired is_one_of pool_after moved
      ask-permit =
          one-or-two Op.Acquire asked told-less Phase.Acquiring Phase.Fetching Phase.Holding Answer.Acquired Answer.Fetched
          ask-call refl permit-21 refl refl permit-36 refl refl

    -- With none: 22, 23, 24.
    module _ (e : above_zero figures.counter ≡ false) (room : figures.issued < h.control.oldest + PLACES) where
      abbrev ticket : ℕ
      ticket = figures.issued

      abbrev drew : Figures
      drew = with_issued (ticket + 1) told-less

      wait-22 : called (here asked Phase.Acquiring) (step_by p)
          ≡ record { answer = Answer.MustWait; hub = here told-less Phase.Suspending }
      unfolding row_in step_acquiring seen_by moved
      wait-22 =
          step asked Phase.Acquiring told-less Phase.Suspending Answer.MustWait
          (onward h _ _ _ a.fit ask-call) refl refl
          (ap (λ (b : Bool). step_acquiring Phase.Suspending b (look (here asked Phase.Acquiring) p)) e)

      wait-23 : called (here told-less Phase.Suspending) (step_by p)
          ≡ record { answer = Answer.DrewTicket ticket; hub = here drew (Phase.Ticketed ticket) }
      unfolding row_in step_suspending seen_by moved
      wait-23 =
          step told-less Phase.Suspending drew (Phase.Ticketed ticket) (Answer.DrewTicket ticket)
          (onward _ _ _ _ (onward h _ _ _ a.fit ask-call) wait-22) refl refl refl

      -- the record that it leaves, which is tidy
      abbrev parked : Hub
      parked = place_to ticket (Place.Waiting p) (here drew (Phase.Waiting ticket))

      parked-tidy : Tidy (ring_of parked)
      unfolding is_place_of
      parked-tidy =
          record {
            size = written-size h.places a.places ticket _;
            unskipped =
                and-false (ltb figures.resumed (h.control.oldest + PLACES)) _
                (written-not h.places a.places ticket figures.resumed (with_place (Place.Waiting p) (read_seat h.places ticket))
                is_cancelled refl (not-cancelled h a));
            unretired =
                written-not h.places a.places ticket h.control.oldest (with_place (Place.Waiting p) (read_seat h.places ticket))
                is_done refl a.unretired;
          }
        where
          and-false : (b d : Bool) → d ≡ false → b && d ≡ false
          and-false true d i = i
          and-false false d i = refl

      wait-24 : called (here drew (Phase.Ticketed ticket)) (step_by p)
          ≡ record { answer = Answer.Parked ticket; hub = parked }
      unfolding row_in step_ticketed seen_by moved
      wait-24 =
          puts h p inside present drew (Phase.Ticketed ticket)
          (fits-now (here drew (Phase.Ticketed ticket))
          (onward _ _ _ _ (onward _ _ _ _ (onward h _ _ _ a.fit ask-call) wait-22) wait-23))
          ticket (Place.Waiting p) (Phase.Waiting ticket) (Answer.Parked ticket) (λ A d g. refl)
          (ap
          (λ (b : Place).
          step_ticketed (Phase.Waiting ticket) ticket b (look (here drew (Phase.Ticketed ticket)) p))
          (seat-now h p inside present drew (Phase.Ticketed ticket) ∙ a.spare room))
          ∙ ap (λ (k : Hub). record { answer = Answer.Parked ticket; hub = k })
          (ap (with_pool (radios h p inside present (Answer.Parked ticket))) (tidied-same parked parked-tidy)
          ∙ no-radio (Answer.Parked ticket) parked refl refl)

      pub ask-wait : Comes h (record { op = Op.Acquire; party = p }) (acquired false h p)
      unfolding acquired is_one_of
      ask-wait =
          record {
            same =
                operated-by h (record { op = Op.Acquire; party = p }) Answer.Accepted ask-call refl
                (walk (rests-now h p inside present asked Phase.Acquiring refl) wait-22
                (walk (rests-now h p inside present told-less Phase.Suspending refl) wait-23
                (walk (rests-now h p inside present drew (Phase.Ticketed ticket) refl) wait-24
                (stop (rests-now h p inside present drew (Phase.Waiting ticket) refl)))))
                (omega arith);
            rest = at-rest-now drew (Phase.Waiting ticket) refl;
          }

  -- Give up: 2E, 30.
  module _ (t : ℕ) (waits : (read_slot h.slots p).phase ≡ Phase.Waiting t)
      (m : move_of h (record { op = Op.Cancel; party = p })
      ≡ Act (to (read_slot h.slots p) (Phase.Aborting t) figures Answer.Accepted)) where
    up-call : called h (record { op = Op.Cancel; party = p })
        ≡ record { answer = Answer.Accepted; hub = here figures (Phase.Aborting t) }
    up-call = call Op.Cancel figures (Phase.Aborting t) refl m

    up-2E : called (here figures (Phase.Aborting t)) (step_by p)
        ≡ record { answer = Answer.MustCancel; hub = here told_more (Phase.Cancelling t) }
    unfolding row_in step_aborting seen_by moved
    up-2E =
        step figures (Phase.Aborting t) told_more (Phase.Cancelling t) Answer.MustCancel
        (onward h _ _ _ a.fit up-call) refl refl
        (ap (λ (b : Bool). step_aborting t b (look (here figures (Phase.Aborting t)) p))
        (waiting-below h a p t waits))

    abbrev gone : Hub
    gone = tidied (place_to t Place.Cancelled (here told_more Phase.Free))

    up-30 : called (here told_more (Phase.Cancelling t)) (step_by p)
        ≡ record { answer = Answer.MarkedCancelled t; hub = gone }
    unfolding row_in step_cancelling seen_by moved tidied
    up-30 =
        puts h p inside present told_more (Phase.Cancelling t)
        (fits-now (here told_more (Phase.Cancelling t))
        (onward _ _ _ _ (onward h _ _ _ a.fit up-call) up-2E))
        t Place.Cancelled Phase.Free (Answer.MarkedCancelled t) (λ A d g. refl)
        (ap (λ (b : Place). step_cancelling t b (look (here told_more (Phase.Cancelling t)) p))
        (seat-now h p inside present told_more (Phase.Cancelling t) ∙ (a.waits p t waits).0))
        ∙ ap (λ (k : Hub). record { answer = Answer.MarkedCancelled t; hub = k })
        (no-radio (Answer.MarkedCancelled t) gone refl refl)

    pub give-up : Comes h (record { op = Op.Cancel; party = p }) (cancelled h p)
    unfolding cancelled is_one_of tidied
    give-up =
        record {
          same =
              operated-by h (record { op = Op.Cancel; party = p }) Answer.Accepted up-call refl
              (walk (rests-now h p inside present figures (Phase.Aborting t) refl) up-2E
              (walk (rests-now h p inside present told_more (Phase.Cancelling t) refl) up-30
              (stop (rests-now h p inside present told_more Phase.Free refl))))
              (omega arith)
              ∙ ap (λ (f : Phase). came 0xFF 2 (tidied (place_to (ticket_of f) Place.Cancelled (here told_more Phase.Free))))
              (sym waits);
          rest = at-rest-now told_more Phase.Free refl;
        }

  -- Give back.
  module _ (m : move_of h (record { op = Op.Release; party = p })
      ≡ Act (to (read_slot h.slots p) Phase.Releasing figures Answer.Accepted)) where
    give-call : called h (record { op = Op.Release; party = p })
        ≡ record { answer = Answer.Accepted; hub = here figures Phase.Releasing }
    give-call = call Op.Release figures Phase.Releasing refl m

    -- With nobody waiting: 26, and 38.
    module _ (e : below_zero figures.counter ≡ false) where
      give-26 : called (here figures Phase.Releasing) (step_by p)
          ≡ record { answer = Answer.Returned; hub = here told_more (without_permit h.control.opening.named) }
      unfolding row_in step_releasing seen_by moved
      give-26 =
          step figures Phase.Releasing told_more (without_permit h.control.opening.named) Answer.Returned
          (onward h _ _ _ a.fit give-call) refl refl
          (ap (λ (b : Bool). step_releasing b (look (here figures Phase.Releasing) p)) e)

      give-38 : h.control.opening.named ≡ true
          → called (here told_more Phase.Storing) (step_by p)
          ≡ record {
            answer = Answer.Stored;
            hub = with_pool (radios h p inside present Answer.Stored) (here told_more Phase.Free);
          }
      unfolding row_in step_storing seen_by
      give-38 i =
          step-radio told_more Phase.Storing told_more Phase.Free Answer.Stored
          (onward _ _ _ _ (onward h _ _ _ a.fit give-call)
          (give-26 ∙ ap (λ (b : Bool). record { answer = Answer.Returned; hub = here told_more (without_permit b) }) i))
          refl refl

      pub give-back : Comes h (record { op = Op.Release; party = p }) (released false h p)
      unfolding released is_one_of pool_after moved
      give-back =
          one-or-two Op.Release figures told_more Phase.Releasing Phase.Storing Phase.Free Answer.Returned Answer.Stored
          give-call refl give-26 refl refl give-38 refl refl

    -- With somebody waiting: 27, 28, 2A.
    module _ (e : below_zero figures.counter ≡ true) (holds : (read_slot h.slots p).phase ≡ Phase.Holding)
        (q : ℕ) (next : (read_slot h.slots q).phase ≡ Phase.Waiting figures.resumed) where
      abbrev due : ℕ
      due = figures.resumed

      abbrev taken : Figures
      taken = with_resumed (due + 1) told_more

      hand-27 : called (here figures Phase.Releasing) (step_by p)
          ≡ record { answer = Answer.MustResume; hub = here told_more Phase.Resuming }
      unfolding row_in step_releasing seen_by moved
      hand-27 =
          step figures Phase.Releasing told_more Phase.Resuming Answer.MustResume
          (onward h _ _ _ a.fit give-call) refl refl
          (ap (λ (b : Bool). step_releasing b (look (here figures Phase.Releasing) p)) e)

      -- the tidying passes the cancelled tickets after the one that is handed
      abbrev handing : Hub
      handing = tidied (here taken (Phase.ResumingAt due))

      hand-28 : called (here told_more Phase.Resuming) (step_by p)
          ≡ record { answer = Answer.StartedResume due; hub = handing }
      unfolding row_in step_resuming seen_by moved tidied
      hand-28 =
          acts h p inside present told_more Phase.Resuming
          (fits-now (here told_more Phase.Resuming) (onward _ _ _ _ (onward h _ _ _ a.fit give-call) hand-27))
          taken (Phase.ResumingAt due) (Answer.StartedResume due) refl
          ∙ ap (λ (k : Hub). record { answer = Answer.StartedResume due; hub = k })
          (no-radio (Answer.StartedResume due) handing refl refl)

      handing-phase : (read_slot handing.slots p).phase ≡ Phase.ResumingAt due
      unfolding tidied
      handing-phase = phase-now h p inside present taken (Phase.ResumingAt due)

      -- the ring before that tidying
      abbrev ring : Ring
      ring = record { resumed = due + 1; oldest = h.control.oldest; places = h.places }

      ring-drawn : Drawn due ring
      ring-drawn = record { size = a.places; above = omega (arith, a.oldest); below = omega arith }

      waited : read_place h.places due ≡ Place.Waiting q
      waited = (a.waits q due next).0

      undone : is_done (read_place h.places due) ≡ false
      unfolding is_place_of
      undone = ap is_done waited

      other : p ≢ q
      other z =
          let i : Phase.Holding ≡ Phase.Waiting due =
          sym holds ∙ ap (λ (r : ℕ). (read_slot h.slots r).phase) z ∙ next in
          let y : ◌≡◌ {A = ℕ} 0 1 = cc in omega arith

      handing-place : (look handing p).seat.place ≡ Place.Waiting q
      unfolding seen_by tidied
      handing-place =
          ap (λ (f : Phase). (by_ticket empty_seat (read_seat handing.places) f).place) handing-phase
          ∙ ap (λ (x : PlaceSlot). x.place) (drawn-stays due ring ring-drawn a.oldest undone)
          ∙ waited

      waiter-seen : (look handing p).waiter ≡ read_slot h.slots q
      unfolding seen_by tidied
      waiter-seen =
          ap (by_waiter free_slot (read_slot handing.slots)) handing-place
          ∙ other-slot h.slots p _ q (λ z. other (sym z))

      handing-waiter : is_waiting (look handing p).waiter.phase ≡ true
      unfolding is_one_of
      handing-waiter = ap (λ (x : PartySlot). is_waiting x.phase) waiter-seen ∙ ap is_waiting next

      abbrev wakes : Move
      wakes =
          Wake q (with_phase Phase.Holding (look handing p).waiter) (with_place Place.Done (look handing p).seat)
          (to (look handing p).slot Phase.Free handing.control.figures (Answer.Woke q due))

      handing-row : step_in (Phase.ResumingAt due) (look handing p) ≡ wakes
      unfolding row_in step_resuming_at resume_waiter seen_by
      handing-row =
          ap (λ (b : Place). step_resuming_at due (is_waiting (look handing p).waiter.phase) b (look handing p)) handing-place
          ∙ ap (λ (b : Bool). resume_waiter b q due (look handing p)) handing-waiter

      -- the record that it leaves
      abbrev served : Hub
      served =
          with_pool (radios h p inside present (Answer.Woke q due))
          (tidied
          (place_to due Place.Done (phase_to p Phase.Free (phase_to q Phase.Holding (with_figures taken h)))))

      -- the record before the last tidying, with these places and slots
      abbrev leaving : List PlaceSlot → List PartySlot → Hub
      leaving l s = with_parts handing.control.figures handing.control.oldest l s h.control.pool h

      -- the waiter holds, and the party is free
      slots-left : write_slot (write_slot handing.slots q (with_phase Phase.Holding (look handing p).waiter)) p
          (with_phase Phase.Free (look handing p).slot)
          ≡ (phase_to p Phase.Free (phase_to q Phase.Holding (with_figures taken h))).slots
      unfolding seen_by tidied
      slots-left =
          written-around h.slots p _ q _ _ other
          ∙ (λ i.
          write_slot (write_slot h.slots q (with_phase Phase.Holding (waiter-seen i))) p
          (with_phase Phase.Free (slot-now h p inside present taken (Phase.ResumingAt due) i)))
          ∙ ap
          (λ (s : PartySlot).
          write_slot (write_slot h.slots q (with_phase Phase.Holding (read_slot h.slots q))) p (with_phase Phase.Free s))
          (sym (other-slot h.slots q (with_phase Phase.Holding (read_slot h.slots q)) p other))

      abbrev woke : Hub → Outcome
      woke k =
          record {
            answer = Answer.Woke q due;
            hub = with_pool (radios h p inside present (Answer.Woke q due)) k;
          }

      hand-2A : called handing (step_by p) ≡ record { answer = Answer.Woke q due; hub = served }
      unfolding apply seen_by tidied
      hand-2A =
          called-by handing (step_by p) wakes
          (step_by_lem handing p (Phase.ResumingAt due)
          (fits-now handing (onward _ _ _ _ (onward _ _ _ _ (onward h _ _ _ a.fit give-call) hand-27) hand-28))
          present handing-phase
          ∙ handing-row)
          ∙ (λ i.
          woke
          (tidied
          (leaving
          (by_ticket handing.places
          (λ u.
          write_seat handing.places u
          (with_place Place.Done (by_ticket empty_seat (read_seat handing.places) (handing-phase i))))
          (handing-phase i))
          (slots-left i))))
          ∙ ap
          (λ (r : Ring).
          woke
          (with_ring
          (place_to due Place.Done (phase_to p Phase.Free (phase_to q Phase.Holding (with_figures taken h))))
          r))
          (done-between due ring ring-drawn a.oldest undone)

      served-rests : (r : ℕ) → rests served r ≡ true
      unfolding tidied is_one_of
      served-rests =
          written-rests _ p _
          (omega (arith, inside, written-length h.slots q (with_phase Phase.Holding (read_slot h.slots q)))) refl
          (written-rests h.slots q _
          (waiter-inside h a q due next) refl a.calm)

      woken-shown : cond (eqb q 0xFF) 0xFF q ≡ q
      woken-shown = go (eqb q 0xFF) refl
        where
          go : (b : Bool) → eqb q 0xFF ≡ b → cond b 0xFF q ≡ q
          go true i = sym (eqb-true q 0xFF i)
          go false i = refl

      pub hand-over : Comes h (record { op = Op.Release; party = p }) (released true h p)
      unfolding released is_one_of tidied pool_after moved
      hand-over =
          subst (Comes h (record { op = Op.Release; party = p }))
          (ap closed (sym (ap (by_waiter 0xFF (λ x. x)) waited)))
          (record {
            same =
                operated-by h (record { op = Op.Release; party = p }) Answer.Accepted give-call refl
                (walk (rests-now h p inside present figures Phase.Releasing refl) hand-27
                (walk (rests-now h p inside present told_more Phase.Resuming refl) hand-28
                (walk (ap at_rest handing-phase) hand-2A (stop (served-rests p)))))
                (omega arith)
                ∙ (λ i. came (woken-shown i) 3 served);
            rest = served-rests;
          })
        where
          closed : ℕ → Operated
          closed z =
              came z 3
              (tidied
              (radios_by (λ r. hand_to z (hand_of r p) r)
              (place_to due Place.Done
              (phase_to p Phase.Free (phase_to z Phase.Holding (with_figures taken h))))))
