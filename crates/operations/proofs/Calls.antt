-- Single calls, on a record that is as one at rest was but for one party's phase and the figures.
use Prim.Native.Nat.{ℕ, ◌<◌}
use mathlib.Core.Path.{◌≡◌, refl, sym, ap, subst, ◌∙◌}
use mathlib.Core.Bool.{Bool, true, false}
use mathlib.Core.List.{List, [], ◌∷◌}
use mathlib.Core.Logic.{◌≢◌}
use native.Mathlib.Decide.{ℕ_discrete}
use lib.Dec.{ltb}
use lib.ListN.{length, length-set, set}
use lib.Seq.{get_or-set_other, get_or-set_same, set_comm, set-set}
use Rattle.hub.specs.declared.answers.Answer.{Answer}
use Rattle.hub.specs.declared.moves.Call.{Call}
use Rattle.hub.specs.declared.moves.Op.{Op}
use Rattle.hub.specs.declared.record.Figures.{Figures}
use Rattle.hub.specs.declared.record.Hub.{Hub}
use Rattle.hub.specs.declared.record.Outcome.{Outcome}
use Rattle.hub.specs.declared.record.PartySlot.{PartySlot}
use Rattle.hub.specs.declared.record.Phase.{Phase}
use Rattle.hub.specs.declared.record.Place.{Place}
use Rattle.hub.specs.declared.record.PlaceSlot.{PlaceSlot}
use Rattle.hub.specs.declared.record.Pool.{Pool}
use Rattle.hub.specs.Answers.{Printed, printed}
use Rattle.hub.specs.Calls.{answer_of, apply, called, checked, is_full, move_of, ring_of, tidied, with_ring}
use Rattle.hub.specs.Calm.{rests, step_by}
use Rattle.hub.specs.Fits.{fits}
use Rattle.hub.specs.Look.{look, seen_by}
use Rattle.hub.specs.Moves.{Change, Move, Act, Put}
use Rattle.hub.specs.Phases.{at_rest, by_ticket}
use Rattle.hub.specs.Radios.{moved, pool_after}
use Rattle.hub.specs.Record.{empty_seat, free_slot, read_slot, with_figures, with_phase, with_place, with_places, with_pool, with_slots, write_slot}
use Rattle.hub.specs.Ring.{Ring, read_seat, write_seat}
use Rattle.hub.specs.Schedule.{run}
use Rattle.hub.specs.Table.{decide, step_in}
use Rattle.operations.specs.AtRest.{phase_to, place_to}
use Rattle.operations.proofs.Ring.{Tidy, tidy-same}

-- Slots read after one was written.
module _ (l : List PartySlot) (p : ℕ) (s : PartySlot) where
  pub written-slot : p < length l → read_slot (write_slot l p s) p ≡ s
  unfolding read_slot write_slot
  written-slot = get_or-set_same l p s free_slot

  pub other-slot : (q : ℕ) → q ≢ p → read_slot (write_slot l p s) q ≡ read_slot l q
  unfolding read_slot write_slot
  other-slot q = get_or-set_other l p q s free_slot

  pub written_twice : (x : PartySlot) → write_slot (write_slot l p s) p x ≡ write_slot l p x
  unfolding write_slot
  written_twice x = set-set l p s x

  pub written-length : length (write_slot l p s) ≡ length l
  unfolding write_slot
  written-length = length-set l p s

  -- With another slot written in between.
  pub written-around : (q : ℕ) (x y : PartySlot) → p ≢ q
      → write_slot (write_slot (write_slot l p s) q x) p y ≡ write_slot (write_slot l q x) p y
  unfolding write_slot
  written-around q x y d = ap (λ (k : List PartySlot). set k p y) (set_comm l p q s x d) ∙ set-set (set l q x) p s y

  -- All at rest, and one more.
  pub written-rests : p < length l → at_rest s.phase ≡ true
      → ((q : ℕ) → at_rest (read_slot l q).phase ≡ true)
      → (q : ℕ) → at_rest (read_slot (write_slot l p s) q).phase ≡ true
  written-rests i e f q = go (ℕ_discrete q p)
    where
      go : Dec (q ≡ p) → at_rest (read_slot (write_slot l p s) q).phase ≡ true
      go (yes z) =
          ap (λ (x : PartySlot). at_rest x.phase) (ap (read_slot (write_slot l p s)) z ∙ written-slot i) ∙ e
      go (no z) = ap (λ (x : PartySlot). at_rest x.phase) (other-slot q z) ∙ f q

-- All that calls lead to fits.
abbrev pub Fit : Hub → Type 0
Fit h = (cs : List Call) → fits (run h cs) ≡ true

pub fits-now : (h : Hub) → Fit h → fits h ≡ true
unfolding run
fits-now h f = f []

pub onward : (h : Hub) (c : Call) (y : Answer) (h' : Hub) → Fit h
    → called h c ≡ record { answer = y; hub = h' } → Fit h'
unfolding run
onward h c y h' f e cs = sym (ap (λ (o : Outcome). fits (run o.hub cs)) e) ∙ f (c ∷ cs)

-- A call on a record that fits.
module _ (h : Hub) (c : Call) where
  pub allowed : fits h ≡ true → ltb c.party h.control.opening.parties ≡ true
      → move_of h c ≡ decide c.op (is_full h.control.oldest h.control.figures.issued h.slots) (look h c.party)
  unfolding checked
  allowed f b = λ i.
      checked (f i) (b i)
      (decide c.op (is_full h.control.oldest h.control.figures.issued h.slots) (look h c.party))

  pub called-by : (m : Move) → move_of h c ≡ m
      → called h c
      ≡ record {
        answer = answer_of m;
        hub =
            with_pool (pool_after h.control.opening.named (printed (answer_of m)) c.party h.control.pool)
            (apply h (look h c.party) m);
      }
  called-by m e =
      ap
      (λ (v : Move).
      record {
        answer = answer_of v;
        hub =
            with_pool (pool_after h.control.opening.named (printed (answer_of v)) c.party h.control.pool)
            (apply h (look h c.party) v);
      })
      e

pub step_by_lem : (h : Hub) (p : ℕ) (x : Phase) → fits h ≡ true → ltb p h.control.opening.parties ≡ true
    → (read_slot h.slots p).phase ≡ x → move_of h (step_by p) ≡ step_in x (look h p)
unfolding decide seen_by
step_by_lem h p x f b e =
    allowed h (step_by p) f b ∙ ap (λ (g : Phase). step_in g (look h p)) e

-- An answer that moves no radio.
pub still : (b : Bool) (y : Printed) (p : ℕ) (q : Pool) → moved y p q ≡ q → pool_after b y p q ≡ q
unfolding pool_after
still true y p q e = e
still false y p q e = refl

-- Nothing to tidy.
pub tidied-same : (h : Hub) → Tidy (ring_of h) → tidied h ≡ h
unfolding tidied
tidied-same h e = λ i. with_ring h (tidy-same (ring_of h) e i)

-- A party's slot s in phase x, the figures and the answer.
abbrev pub to : PartySlot → Phase → Figures → Answer → Change
to s x f y = record { slot = with_phase x s; figures = f; answer = y }

module _ (h : Hub) (p : ℕ) (inside : p < length h.slots) (present : ltb p h.control.opening.parties ≡ true)
  where
    -- The record, with figures f and party p in phase x.
    abbrev pub now : Figures → Phase → Hub
    now f x = phase_to p x (with_figures f h)

    -- The radios after an answer.
    abbrev pub radios : Answer → Pool
    radios y = pool_after h.control.opening.named (printed y) p h.control.pool

    -- Its slot there, which is as it was but for the phase.
    abbrev pub slot-in : Figures → Phase → PartySlot
    slot-in f x = read_slot (now f x).slots p

    pub slot-now : (f : Figures) (x : Phase) → slot-in f x ≡ with_phase x (read_slot h.slots p)
    slot-now f x = written-slot h.slots p _ inside

    pub phase-now : (f : Figures) (x : Phase) → (slot-in f x).phase ≡ x
    phase-now f x = ap (λ (s : PartySlot). s.phase) (slot-now f x)

    -- Its phase changed again.
    again : (f : Figures) (x x' : Phase)
        → write_slot (now f x).slots p (with_phase x' (slot-in f x))
        ≡ write_slot h.slots p (with_phase x' (read_slot h.slots p))
    again f x x' =
        written_twice h.slots p _ _
        ∙ ap (λ (s : PartySlot). write_slot h.slots p (with_phase x' s)) (slot-now f x)

    pub rests-now : (f : Figures) (x : Phase) {b : Bool} → at_rest x ≡ b → rests (now f x) p ≡ b
    rests-now f x e = ap at_rest (phase-now f x) ∙ e

    pub seat-now : (f : Figures) (x : Phase)
        → (look (now f x) p).seat.place ≡ (by_ticket empty_seat (read_seat h.places) x).place
    unfolding seen_by
    seat-now f x = ap (λ (g : Phase). (by_ticket empty_seat (read_seat h.places) g).place) (phase-now f x)

    -- The call that begins an operation, before the tidying.
    pub begins : (o : Op) (f : Figures) (x : Phase) (y : Answer)
        → move_of h (record { op = o; party = p }) ≡ Act (to (read_slot h.slots p) x f y)
        → called h (record { op = o; party = p }) ≡ record { answer = y; hub = with_pool (radios y) (tidied (now f x)) }
    unfolding apply seen_by
    begins o f x y e = called-by h (record { op = o; party = p }) _ e

    module _ (f : Figures) (x : Phase) (fit : fits (now f x) ≡ true) where
      -- A step that changes the phase to x', and the figures.
      pub acts : (f' : Figures) (x' : Phase) (y : Answer)
          → step_in x (look (now f x) p) ≡ Act (to (slot-in f x) x' f' y)
          → called (now f x) (step_by p)
          ≡ record { answer = y; hub = with_pool (radios y) (tidied (now f' x')) }
      unfolding apply seen_by
      acts f' x' y e =
          called-by (now f x) (step_by p) _ (step_by_lem (now f x) p x fit present (phase-now f x) ∙ e)
          ∙ ap
          (λ (l : List PartySlot).
          record { answer = y; hub = with_pool (radios y) (tidied (with_slots l (with_figures f' h))) })
          (again f x x')

      -- One that changes the place of its ticket t, too.
      pub puts : (t : ℕ) (a : Place) (x' : Phase) (y : Answer) → ((A : Type 0) (d : A) (g : ℕ → A) → by_ticket d g x ≡ g t)
          → step_in x (look (now f x) p) ≡ Put (with_place a (look (now f x) p).seat) (to (slot-in f x) x' f y)
          → called (now f x) (step_by p)
          ≡ record { answer = y; hub = with_pool (radios y) (tidied (place_to t a (now f x'))) }
      unfolding apply seen_by
      puts t a x' y b e =
          called-by (now f x) (step_by p) _ (step_by_lem (now f x) p x fit present (phase-now f x) ∙ e)
          ∙ (λ i.
          record {
            answer = y;
            hub = with_pool (radios y)
                (tidied
                (with_places
                ((ap (λ (g : Phase). by_ticket h.places (put g) g) (phase-now f x)
                ∙ b (List PlaceSlot) h.places (put x)
                ∙ ap (λ (s : PlaceSlot). write_seat h.places t (with_place a s)) (b PlaceSlot empty_seat (read_seat h.places))) i)
                (with_slots (again f x x' i)
                (with_figures f h))));
          })
        where
          -- the place of a ticket u, by what party p sees in phase g
          put : Phase → ℕ → List PlaceSlot
          put g u = write_seat h.places u (with_place a (by_ticket empty_seat (read_seat h.places) g))

    -- Where nothing is drawn to resume the tidying does nothing; and where no radio moves either, that is all.
    module _ (tidy : Tidy (ring_of h)) (f : Figures) (x : Phase) (same : f.resumed ≡ h.control.figures.resumed) where
      pub tidied-now : tidied (now f x) ≡ now f x
      tidied-now = tidied-same (now f x) (subst (λ (n : ℕ). Tidy (ring n)) (sym same) tidy)
        where
          ring : ℕ → Ring
          ring n = record { resumed = n; oldest = h.control.oldest; places = h.places }

      pub quiet : (y : Answer) → moved (printed y) p h.control.pool ≡ h.control.pool
          → with_pool (radios y) (tidied (now f x)) ≡ now f x
      quiet y e =
          ap (λ (q : Pool). with_pool q (tidied (now f x))) (still h.control.opening.named (printed y) p h.control.pool e)
          ∙ ap (with_pool h.control.pool) tidied-now
