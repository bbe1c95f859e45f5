-- What a row of the table has to show.
use Prim.Native.Nat.{ℕ, ◌+◌, ◌-◌, ◌≤◌, ◌<◌}
use mathlib.Core.Path.{◌≡◌, refl, sym, ap, subst, ◌∙◌}
use mathlib.Core.Bool.{Bool, true, false, not, ◌&&◌}
use mathlib.Core.List.{List}
use native.Mathlib.Omega.{arith}
use lib.Dec.{ltb, eqb}
use lib.ListN.{length, set, length-set, length-map, get_or-map}
use lib.Seq.{get_or-set_same, get_or-set_other}
use Rattle.hub.specs.declared.answers.Answer.{Answer}
use Rattle.hub.specs.declared.record.Phase.{Phase}
use Rattle.hub.specs.declared.record.Place.{Place}
use Rattle.hub.specs.declared.record.PlaceSlot.{PlaceSlot}
use Rattle.hub.specs.Answers.{printed, refusal_code}
use Rattle.hub.specs.Basics.{bit, weight}
use Rattle.hub.specs.Ledger.{phase_in}
use Rattle.hub.specs.Phases.{at_rest, is_one_of}
use Rattle.hub.specs.Queue.{write}
use Rattle.hub.proofs.Laws.Lists.{weight-set}
use Rattle.hub.proofs.Laws.Ranges.{sum-set}
use Rattle.hub.proofs.Invariant.Rows.{write_same, write-other}
use Rattle.hub.proofs.Invariant.Weights.{drawing, stand, stand-le, TICKETS}
use Rattle.hub.proofs.Invariant.Tickets.{Shift, Names, inside}
use Rattle.latch.specs.declared.moves.LatchOp.{LatchOp}
use Rattle.latch.specs.declared.record.LatchFigures.{LatchFigures}
use Rattle.latch.specs.declared.record.LatchSlot.{LatchSlot}
use Rattle.latched.specs.Claims.{lets_go}
use Rattle.latch.specs.Ledger.{is_down, slot_after, slot_in, slots_after, waiters_after}
use Rattle.latch.specs.Moves.{Move}
use Rattle.latch.specs.Moves.{Refuse, Act, Put, Wake}
use Rattle.latch.specs.Queue.{Queue, phases, places, acted, placed, with_parts, woken}
use Rattle.latch.specs.Record.{free_slot, phases_of, write_slot}
use Rattle.latch.proofs.Laws.Slots.{write-phase}
use Rattle.latched.proofs.Invariant.Weights.{sum}
use Rattle.latched.proofs.Invariant.Keep.{Inv, ShiftIn, LocalIn, Beside, keep}

-- Only an await begins something.
abbrev pub is_await : LatchOp → ℕ
is_await LatchOp.Await = 1
is_await LatchOp.Step = 0
is_await LatchOp.Cancel = 0
is_await LatchOp.CountDown = 0

-- The answer r to party p's call reports how the queue went from m to m': the ledger moves as the queue does, and
-- whoever is let go is so at the mark.
pub record Reports (o : LatchOp) (p : ℕ) (r : Answer) (m m' : Queue) : Type 0 where
  pub success : ltb (printed r).code 0x20 ≡ false
  pub moved : m'.slots ≡ slots_after o p m.figures.waiters (printed r) m.slots
  pub waiters : m'.figures.waiters
      ≡ waiters_after (printed r).code (slot_in m.slots p) m.figures.waiters
  pub count : m'.figures.count ≡ m.figures.count - bit (is_down (printed r).code)
  pub freed : bit (lets_go (printed r).code) ≤ 1 - m.figures.count
  pub begins : m'.figures.begun ≡ m.figures.begun + is_await o
  pub room : m'.figures.issued + sum drawing m' + m.figures.begun
      ≤ m.figures.issued + sum drawing m + m'.figures.begun

pub record Next (o : LatchOp) (p : ℕ) (r : Answer) (m m' : Queue) : Type 0 where
  pub inv : Inv m'
  pub parties : m'.parties ≡ m.parties
  pub reports : Reports o p r m m'

-- Is it no refusal by 1, which the table gives where it has no row?
abbrev pub is_listed : Move → Bool
is_listed (Refuse r) = not (eqb (refusal_code r) 1)
is_listed (Act c) = true
is_listed (Put a c) = true
is_listed (Wake q s a c) = true

-- A step is refused to those at rest alone. So are those from n up.
abbrev pub rests_if : LatchOp → Phase → Bool
rests_if LatchOp.Await f = true
rests_if LatchOp.Step f = at_rest f
rests_if LatchOp.Cancel f = true
rests_if LatchOp.CountDown f = true

pub absent-rests : (o : LatchOp) (f : Phase) → f ≡ Phase.Free → rests_if o f ≡ true
unfolding is_one_of
absent-rests LatchOp.Await f e = refl
absent-rests LatchOp.Step f e = ap at_rest e
absent-rests LatchOp.Cancel f e = refl
absent-rests LatchOp.CountDown f e = refl

-- A good move, before the tidying: no refusal by 1, nor of a busy party's step, and otherwise the above.
abbrev pub Good : LatchOp → ℕ → Queue → Phase → Move → Type 0
Good o p m f (Refuse r) = is_listed (Refuse r) && rests_if o f ≡ true
Good o p m f (Act c) = Next o p c.answer m (acted m p c)
Good o p m f (Put a c) = Next o p c.answer m (acted (placed m f a) p c)
Good o p m f (Wake q s a c) = Next o p c.answer m (acted (placed (woken m q s) f a) p c)

-- What a row's answer owes to the ledger, the figures going from e to h.
pub record Says (o : LatchOp) (r : Answer) (e h : LatchFigures) : Type 0 where
  pub begins : h.begun ≡ e.begun + is_await o
  pub count : h.count ≡ e.count - bit (is_down (printed r).code)
  pub freed : bit (lets_go (printed r).code) ≤ 1 - e.count

-- A queue with one slot, the cells and the figures set.
abbrev pub set-in : Queue → ℕ → LatchSlot → (ℕ → PlaceSlot) → LatchFigures → Queue
set-in m p s g h = with_parts h g (write_slot m.slots p s) m

module _ (m : Queue) (p : ℕ) (f s : LatchSlot) (t : ℕ) (i : p < length (phases m))
    (e : slot_in m.slots p ≡ f) where
  -- everybody's phase then
  set-phases : phases_of (write_slot m.slots p s) ≡ set (phases m) p s.phase
  set-phases = write-phase m.slots p s

  within : p < length m.slots
  within = omega (arith, length-map m.slots (λ (x : LatchSlot). x.phase))

  own-phase : phase_in (phases m) p ≡ f.phase
  own-phase =
      get_or-map (λ (x : LatchSlot). x.phase) m.slots p free_slot
      ∙ ap (λ (x : LatchSlot). x.phase) e

  -- what concerns the party alone
  shift-slot : (g : ℕ → PlaceSlot) (h : LatchFigures) (b a : Place)
      → Shift (phases m) (phases (set-in m p s g h)) (places m) (places (set-in m p s g h)) p f.phase
      s.phase t b a
      → ShiftIn m (set-in m p s g h) p f s t b a
  unfolding write_slot
  shift-slot g h b a sh =
      record {
        phases = sh;
        was = e;
        now = get_or-set_same m.slots p s free_slot within;
        others = λ q y. get_or-set_other m.slots p q s free_slot y;
        sums = λ w. omega (arith, weight-set w m.slots p s free_slot within, ap w e);
      }

  phase-sums : (w : Phase → ℕ)
      → weight w (phases_of (write_slot m.slots p s)) + w f.phase ≡ weight w (phases m) + w s.phase
  phase-sums w =
      subst
      (λ (l : List Phase). weight w l + w f.phase ≡ weight w (phases m) + w s.phase)
      (sym set-phases)
      (omega (arith, weight-set w (phases m) p s.phase Phase.Free i, ap w own-phase))

  pub shift-place : (b : Place) (a : PlaceSlot) (h : LatchFigures) → places m t ≡ b → t < TICKETS
      → ShiftIn m (set-in m p s (write m.cells t a) h) p f s t b a.place
  shift-place b a h e' j =
      shift-slot (write m.cells t a) h b a.place
      (record {
        size = ap length set-phases ∙ simp length-set;
        was = own-phase;
        now =
            ap (λ (l : List Phase). phase_in l p) set-phases
            ∙ get_or-set_same (phases m) p s.phase Phase.Free i;
        others = λ q y.
            ap (λ (l : List Phase). phase_in l q) set-phases
            ∙ get_or-set_other (phases m) p q s.phase Phase.Free y;
        sums = phase-sums;
        cell_was = e';
        cell_now = ap (λ (c : PlaceSlot). c.place) (write_same m.cells t a);
        cell_others = λ u y. ap (λ (c : PlaceSlot). c.place) (write-other m.cells t a u y);
        cell_sums = λ w.
            omega (
              arith,
              sum-set (λ u. w (places m u)) (λ u. w (write m.cells t a u).place) 0 TICKETS t
                  (omega arith) (omega arith)
                  (λ u y. ap (λ (c : PlaceSlot). w c.place) (sym (write-other m.cells t a u y))),
              ap w e',
              ap (λ (c : PlaceSlot). w c.place) (write_same m.cells t a),
            );
      })

  pub shift-phase : (b : Place) (h : LatchFigures) → places m t ≡ b
      → ShiftIn m (set-in m p s m.cells h) p f s t b b
  shift-phase b h e' =
      shift-slot m.cells h b b
      (record {
        size = ap length set-phases ∙ simp length-set;
        was = own-phase;
        now =
            ap (λ (l : List Phase). phase_in l p) set-phases
            ∙ get_or-set_same (phases m) p s.phase Phase.Free i;
        others = λ q y.
            ap (λ (l : List Phase). phase_in l q) set-phases
            ∙ get_or-set_other (phases m) p q s.phase Phase.Free y;
        sums = phase-sums;
        cell_was = e';
        cell_now = e';
        cell_others = λ u y. refl;
        cell_sums = λ w. refl;
      })

-- A party's row on the cell of one ticket, and on none.
module _ (m : Queue) (p : ℕ) (l : p < m.parties) (inv : Inv m) where
  -- What the answer tells of the slots and of the waiters.
  abbrev pub Tells : LatchOp → LatchSlot → LatchSlot → Answer → LatchFigures → Type 0
  Tells o f x r h =
      (slots_after o p m.figures.waiters (printed r) m.slots
      ≡ set m.slots p (slot_after o m.figures.waiters (slot_in m.slots p) (printed r)))
      × (slot_after o m.figures.waiters f (printed r) ≡ x)
      × (h.waiters ≡ waiters_after (printed r).code f m.figures.waiters)
      × (ltb (printed r).code 0x20 ≡ false)

  told : (o : LatchOp) (f x : LatchSlot) (r : Answer) (h : LatchFigures) → slot_in m.slots p ≡ f
      → Tells o f x r h
      → slots_after o p m.figures.waiters (printed r) m.slots ≡ set m.slots p x
  told o f x r h e te =
      te.0
      ∙ ap (λ g. set m.slots p (slot_after o m.figures.waiters g (printed r))) e
      ∙ ap (λ g. set m.slots p g) te.1

  row : {o : LatchOp} {f x : LatchSlot} {t : ℕ} {b a : Place} (m' : Queue) (r : Answer)
      → ShiftIn m m' p f x t b a → m'.slots ≡ set m.slots p x → m'.parties ≡ m.parties
      → LocalIn m m'.figures f x t b a → Beside t m.figures m'.figures
      → Names p t x.phase b a → Says o r m.figures m'.figures
      → Tells o f x r m'.figures → Next o p r m m'
  row {o} {f} {x} {t} {b} {a} m' r sh ps st lo be nm sa te =
      record {
        inv = keep m m' p f x t b a inv sh lo be nm l st;
        parties = st;
        reports =
            record {
              success = te.3;
              moved = ps ∙ sym (told o f x r m'.figures sh.was te);
              waiters =
                  te.2
                  ∙ ap (λ g. waiters_after (printed r).code g m.figures.waiters) (sym sh.was);
              count = sa.count;
              freed = sa.freed;
              begins = sa.begins;
              room = omega (arith, sh.phases.sums drawing, lo.drawn);
            };
      }

  -- On the cell of ticket t; the figures stay.
  pub place-row : {o : LatchOp} {f : LatchSlot} {b : Place} {r : Answer} (s : LatchSlot) (a : PlaceSlot) (t : ℕ)
      → slot_in m.slots p ≡ f → places m t ≡ b → t < TICKETS
      → LocalIn m m.figures f s t b a.place
      → Names p t s.phase b a.place → Says o r m.figures m.figures
      → Tells o f s r m.figures
      → Next o p r m (set-in m p s (write m.cells t a) m.figures)
  place-row {o} {f} {b} {r} s a t e e' j lo nm sa te =
      row _ r (shift-place m p f s t (inside inv.tickets p l) e b a m.figures e' j)
      (unfold write_slot in refl) refl lo (λ u z. (refl, refl)) nm sa te

  -- On no cell. The ticket t is one that the row says something of.
  pub phase-row : {o : LatchOp} {f : LatchSlot} {h : LatchFigures} {r : Answer} (s : LatchSlot) (t : ℕ)
      → slot_in m.slots p ≡ f
      → LocalIn m h f s t (places m t) (places m t) → Beside t m.figures h
      → Names p t s.phase (places m t) (places m t)
      → Says o r m.figures h → Tells o f s r h
      → Next o p r m (set-in m p s m.cells h)
  phase-row {o} {f} {h} {r} s t e lo be nm sa te =
      row _ r (shift-phase m p f s t (inside inv.tickets p l) e (places m t) h refl)
      (unfold write_slot in refl) refl lo be nm sa te

  -- A cell that the row leaves alone: its party stands there as before, or this one still does.
  pub names-kept : (t : ℕ) (f x : Phase) → phase_in (phases m) p ≡ f → stand t f ≤ stand t x
      → Names p t x (places m t) (places m t)
  names-kept t f x e z = kept (places m t) refl
    where
      kept : (a : Place) → places m t ≡ a → Names p t x a a
      kept Place.Empty i = tt
      kept (Place.Waiting q) i = (
        λ w.
            omega (
              arith,
              inv.tickets.named t q i,
              ap (stand t) (ap (phase_in (phases m)) w ∙ e),
              stand-le t x,
            ),
        λ w. refl,
      )
      kept Place.Permit i = tt
      kept Place.Cancelled i = tt
      kept Place.Refused i = tt
      kept Place.Done i = tt
