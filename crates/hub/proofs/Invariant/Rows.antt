-- What a row of the table has to show.
use Prim.Native.Nat.{ℕ, ◌+◌, ◌≤◌, ◌<◌}
use mathlib.Core.Path.{◌≡◌, refl, sym, ap, subst, fun_ext, ◌∙◌}
use mathlib.Core.Bool.{true, false, ◌&&◌}
use mathlib.Core.List.{List, [], ◌∷◌}
use mathlib.Core.Logic.{◌≢◌}
use native.Mathlib.Decide.{ℕ_discrete}
use native.Mathlib.Omega.{arith}
use lib.Dec.{ltb, eqb}
use lib.IntN.{ℤ}
use lib.ListN.{get_or, length, set, length-set}
use lib.Seq.{get_or-set_same, get_or-set_other, set-get_or}
use borrow.Author.Tests.{eq-eqb, ne_eqb}
use Rattle.hub.specs.declared.answers.Answer.{Answer}
use Rattle.hub.specs.Moves.{Move}
use Rattle.hub.specs.Moves.{Refuse, Tell, Act, Put, Wake}
use Rattle.hub.specs.declared.moves.Op.{Op}
use Rattle.hub.specs.declared.record.Figures.{Figures}
use Rattle.hub.specs.declared.record.PartySlot.{PartySlot}
use Rattle.hub.specs.declared.record.Phase.{Phase}
use Rattle.hub.specs.declared.record.Place.{Place}
use Rattle.hub.specs.declared.record.PlaceSlot.{PlaceSlot}
use Rattle.hub.specs.Answers.{printed}
use Rattle.hub.specs.Basics.{weight}
use Rattle.hub.specs.Demand3.{AllBelow}
use Rattle.hub.specs.Ledger.{phase_in, phase_after, phases_after, counter_after, served_after}
use Rattle.hub.specs.Ledger.{gives, takes, leaves, clears, marks_refused, meets_refused}
use Rattle.hub.specs.Queue.{Queue, phases, places, write, acted, placed, with_parts, woken}
use Rattle.hub.specs.Record.{write_slot}
use Rattle.hub.proofs.Laws.Bools.{if-true, if-false}
use Rattle.hub.proofs.Laws.Lists.{weight-set}
use Rattle.hub.proofs.Laws.Ranges.{sum-set}
use Rattle.hub.proofs.Laws.Slots.{write-phase}
use Rattle.hub.proofs.Laws.Table.{is_listed}
use Rattle.hub.proofs.Invariant.Weights.{holding, resuming, refusing, drawing, suspending, live, handing}
use Rattle.hub.proofs.Invariant.Weights.{cancelling, radioed, own, hand, stand, stand-le, refuse, stage, above}
use Rattle.hub.proofs.Invariant.Weights.{permit_cell, refused_cell, sum, cell_sum, TICKETS}
use Rattle.hub.proofs.Invariant.Tickets.{Names, inside}
use Rattle.hub.proofs.Invariant.Keep.{Inv, ShiftIn, LocalIn, BesideIn, keep}
use Rattle.hub.proofs.Invariant.Potential.{Nearer, to_calm, allowed, rests_if}

-- A cell read after one was written.
pub write_same : (g : ℕ → PlaceSlot) (t : ℕ) (a : PlaceSlot) → write g t a t ≡ a
unfolding write
write_same g t a = if-true (eqb t t) a (g t) (eq-eqb t t refl)

pub write-other : (g : ℕ → PlaceSlot) (t : ℕ) (a : PlaceSlot) (u : ℕ) → u ≢ t
    → write g t a u ≡ g u
unfolding write
write-other g t a u d = if-false (eqb u t) a (g u) (ne_eqb u t d)

pub write-twice : (g : ℕ → PlaceSlot) (t : ℕ) (b a : PlaceSlot)
    → write (write g t b) t a ≡ write g t a
write-twice g t b a = fun_ext (λ u. go u (ℕ_discrete u t))
  where
    go : (u : ℕ) → Dec (u ≡ t) → write (write g t b) t a u ≡ write g t a u
    go u (yes z) =
        subst (λ (v : ℕ). write (write g t b) t a v ≡ write g t a v) (sym z)
        (write_same (write g t b) t a ∙ sym (write_same g t a))
    go u (no d) =
        write-other (write g t b) t a u d ∙ write-other g t b u d ∙ sym (write-other g t a u d)

-- The answer r to party p's call reports how the queue went from m to m': the ledger's figures
-- move as the queue's do.
abbrev pub is_acquire : Op → ℕ
is_acquire Op.Acquire = 1
is_acquire Op.Step = 0
is_acquire Op.Cancel = 0
is_acquire Op.Release = 0
is_acquire Op.Radio = 0

pub record Reports (o : Op) (p : ℕ) (r : Answer) (m m' : Queue) : Type 0 where
  pub success : ltb (printed r).code 0x20 ≡ false
  pub moved : phases m' ≡ phases_after m.opening.named o p (printed r) (phases m)
  pub held : sum holding m' + takes (printed r).code ≡ sum holding m + gives (printed r).code
  pub permits : cell_sum permit_cell m' + clears (printed r).code
      ≡ cell_sum permit_cell m + leaves (printed r).code
  pub refusals : cell_sum refused_cell m' + meets_refused (printed r).code
      ≡ cell_sum refused_cell m + marks_refused (printed r).code
  pub counter : m'.figures.counter ≡ counter_after (printed r).code m.figures.counter
  pub resumed : m.figures.resumed ≤ m'.figures.resumed
  pub begins : m'.figures.begun ≡ m.figures.begun + is_acquire o
  pub room : m'.figures.issued + sum drawing m' + m.figures.begun
      ≤ m.figures.issued + sum drawing m + m'.figures.begun
  pub nearer : Nearer o (phase_in (phases m) p) (sum to_calm m) (sum to_calm m') (sum drawing m)
      (sum drawing m') m.figures m'.figures
  pub serves : (xs : List ℕ) → AllBelow m.figures.resumed xs
      → AllBelow m'.figures.resumed (served_after p (printed r) (phases m) xs)

pub record Next (k : ℕ) (o : Op) (p : ℕ) (r : Answer) (m m' : Queue) : Type 0 where
  pub inv : Inv k m'
  pub opening : m'.opening ≡ m.opening
  pub reports : Reports o p r m m'

-- A good move, before the tidying: no refusal by 1, nor of a busy party's step, and otherwise the above.
abbrev pub Good : ℕ → Op → ℕ → Queue → Phase → Move → Type 0
Good k o p m f (Refuse r) = is_listed (Refuse r) && rests_if o f ≡ true
Good k o p m f (Tell y) = Next k o p y m m
Good k o p m f (Act c) = Next k o p c.answer m (acted m p c)
Good k o p m f (Put a c) = Next k o p c.answer m (acted (placed m f a) p c)
Good k o p m f (Wake q s a c) =
    Next k o p c.answer m (acted (placed (woken m q s) f a) p c)

-- What a row's answer owes to the ledger and to calm: phase f to x, cell b to a, the figures e to h.
pub record Says (o : Op) (f x : Phase) (b a : Place) (r : Answer) (e h : Figures) : Type 0 where
  pub begins : h.begun ≡ e.begun + is_acquire o
  pub nearer : Nearer o f (to_calm f) (to_calm x) (drawing f) (drawing x) e h
  pub held : holding x + takes (printed r).code ≡ holding f + gives (printed r).code
  pub permits : permit_cell a + clears (printed r).code ≡ permit_cell b + leaves (printed r).code
  pub refusals : refused_cell a + meets_refused (printed r).code
      ≡ refused_cell b + marks_refused (printed r).code

-- A queue with one slot, the cells and the figures set.
abbrev pub set-in : Queue → ℕ → PartySlot → (ℕ → PlaceSlot) → Figures → Queue
set-in m p s g h = with_parts h g (write_slot m.slots p s) m.pool m

module _ (m : Queue) (p : ℕ) (f : Phase) (s : PartySlot) (t : ℕ) (i : p < length (phases m))
    (e : phase_in (phases m) p ≡ f) where
  -- everybody's phase then
  set-phases : phases (set-in m p s m.cells m.figures) ≡ set (phases m) p s.phase
  set-phases = write-phase m.slots p s

  pub shift-place : (b : Place) (a : PlaceSlot) (h : Figures) → places m t ≡ b → t < TICKETS
      → ShiftIn m (set-in m p s (write m.cells t a) h) p f s.phase t b a.place
  shift-place b a h e' j =
      record {
        size = ap length set-phases ∙ simp length-set;
        was = e;
        now =
            ap (λ (l : List Phase). phase_in l p) set-phases
            ∙ get_or-set_same (phases m) p s.phase Phase.Free i;
        others = λ q y.
            ap (λ (l : List Phase). phase_in l q) set-phases
            ∙ get_or-set_other (phases m) p q s.phase Phase.Free y;
        sums = λ w.
            subst
            (λ (l : List Phase). weight w l + w f ≡ weight w (phases m) + w s.phase)
            (sym set-phases)
            (omega (arith, weight-set w (phases m) p s.phase Phase.Free i, ap w e));
        cell_was = e';
        cell_now = ap (λ (c : PlaceSlot). c.place) (write_same m.cells t a);
        cell_others = λ u y. ap (λ (c : PlaceSlot). c.place) (write-other m.cells t a u y);
        cell_sums = λ w.
            omega (
              arith,
              sum-set (λ u. w (places m u)) (λ u. w (write m.cells t a u).place) 0 TICKETS t
                  (omega arith) (omega arith)
                  (λ u y. ap (λ (c : PlaceSlot). w c.place) (sym (write-other m.cells t a u y))),
              ap w e',
              ap (λ (c : PlaceSlot). w c.place) (write_same m.cells t a),
            );
      }

  pub shift-phase : (b : Place) (h : Figures) → places m t ≡ b
      → ShiftIn m (set-in m p s m.cells h) p f s.phase t b b
  shift-phase b h e' =
      record {
        size = ap length set-phases ∙ simp length-set;
        was = e;
        now =
            ap (λ (l : List Phase). phase_in l p) set-phases
            ∙ get_or-set_same (phases m) p s.phase Phase.Free i;
        others = λ q y.
            ap (λ (l : List Phase). phase_in l q) set-phases
            ∙ get_or-set_other (phases m) p q s.phase Phase.Free y;
        sums = λ w.
            subst
            (λ (l : List Phase). weight w l + w f ≡ weight w (phases m) + w s.phase)
            (sym set-phases)
            (omega (arith, weight-set w (phases m) p s.phase Phase.Free i, ap w e));
        cell_was = e';
        cell_now = e';
        cell_others = λ u y. refl;
        cell_sums = λ w. refl;
      }

-- What the invariant counts of a phase, and of ticket t.
abbrev pub weights_of : ℕ → Phase → List ℕ
weights_of t f =
    holding f ∷ resuming f ∷ refusing f ∷ drawing f ∷ suspending f ∷ live f ∷ handing f ∷ cancelling f
    ∷ own t f ∷ hand t f ∷ stand t f ∷ refuse t f ∷ stage t f ∷ above t f ∷ []

-- A party's row on the cell of one ticket, and on none.
module _ (k : ℕ) (m : Queue) (p : ℕ) (l : p < m.opening.parties) (inv : Inv k m) where
  -- What the answer tells of the phases and of the counter.
  abbrev pub Tells : Op → Phase → Phase → Answer → ℤ → Type 0
  Tells o f x r c =
      (phases_after m.opening.named o p (printed r) (phases m)
      ≡ set (phases m) p (phase_after m.opening.named o (phase_in (phases m) p) (printed r)))
      × (phase_after m.opening.named o f (printed r) ≡ x)
      × (c ≡ counter_after (printed r).code m.figures.counter)
      × (ltb (printed r).code 0x20 ≡ false)

  abbrev pub Serves : ℕ → Answer → Type 0
  Serves d r =
      (xs : List ℕ) → AllBelow m.figures.resumed xs
      → AllBelow d (served_after p (printed r) (phases m) xs)

  told : (o : Op) (f x : Phase) (r : Answer) (c : ℤ) → phase_in (phases m) p ≡ f → Tells o f x r c
      → phases_after m.opening.named o p (printed r) (phases m) ≡ set (phases m) p x
  told o f x r c e te =
      te.0
      ∙ ap (λ g. set (phases m) p (phase_after m.opening.named o g (printed r))) e
      ∙ ap (λ g. set (phases m) p g) te.1

  row : {o : Op} {f x : Phase} {t : ℕ} {b a : Place} (m' : Queue) (r : Answer)
      → ShiftIn m m' p f x t b a → phases m' ≡ set (phases m) p x → m'.opening ≡ m.opening
      → LocalIn m m'.figures f x t b a → BesideIn m m'.figures f x t → Names p t x b a
      → Says o f x b a r m.figures m'.figures
      → Tells o f x r m'.figures.counter
      → Serves m'.figures.resumed r → Next k o p r m m'
  row {o} {f} {x} {t} {b} {a} m' r sh ps st lo be nm sa te sv =
      record {
        inv = keep k m m' p f x t b a inv sh lo be nm l st;
        opening = st;
        reports =
            record {
              success = te.3;
              moved = ps ∙ sym (told o f x r _ sh.was te);
              held = omega (arith, sh.sums holding, sa.held);
              permits = omega (arith, sh.cell_sums permit_cell, sa.permits);
              refusals = omega (arith, sh.cell_sums refused_cell, sa.refusals);
              counter = te.2;
              resumed = lo.later;
              begins = sa.begins;
              room = omega (arith, sh.sums drawing, lo.drawn);
              nearer =
                  omega (
                    arith,
                    sh.sums to_calm,
                    sh.sums drawing,
                    ap (allowed o) sh.was,
                    sa.nearer,
                  );
              serves = sv;
            };
      }

  -- On the cell of ticket t; the figures stay.
  pub place-row : {o : Op} {f : Phase} {b : Place} {r : Answer} (s : PartySlot) (a : PlaceSlot) (t : ℕ)
      → phase_in (phases m) p ≡ f → places m t ≡ b → t < TICKETS
      → LocalIn m m.figures f s.phase t b a.place
      → BesideIn m m.figures f s.phase t → Names p t s.phase b a.place
      → Says o f s.phase b a.place r m.figures m.figures
      → Tells o f s.phase r m.figures.counter → Serves m.figures.resumed r
      → Next k o p r m (set-in m p s (write m.cells t a) m.figures)
  place-row {o} {f} {b} {r} s a t e e' j lo be nm sa te sv =
      row _ r (shift-place m p f s t (inside inv.tickets p l) e b a m.figures e' j)
      (write-phase m.slots p s) refl lo be nm sa te sv

  -- On no cell. The ticket t is one that the row says something of.
  pub phase-row : {o : Op} {f : Phase} {h : Figures} {r : Answer} (s : PartySlot) (t : ℕ)
      → phase_in (phases m) p ≡ f
      → LocalIn m h f s.phase t (places m t) (places m t) → BesideIn m h f s.phase t
      → Names p t s.phase (places m t) (places m t)
      → Says o f s.phase (places m t) (places m t) r m.figures h
      → Tells o f s.phase r h.counter → Serves h.resumed r
      → Next k o p r m (set-in m p s m.cells h)
  phase-row {o} {f} {h} {r} s t e lo be nm sa te sv =
      row _ r (shift-phase m p f s t (inside inv.tickets p l) e (places m t) h refl)
      (write-phase m.slots p s) refl lo be nm sa te sv

  -- An answer that moves nothing.
  pub tell-row : {o : Op} {f : Phase} {r : Answer} → phase_in (phases m) p ≡ f
      → Says o f f Place.Empty Place.Empty r m.figures m.figures
      → Tells o f f r m.figures.counter → Serves m.figures.resumed r
      → Next k o p r m m
  tell-row {o} {f} {r} e sa te sv =
      record {
        inv = inv;
        opening = refl;
        reports =
            record {
              success = te.3;
              moved =
                  sym (told o f f r _ e te ∙ ap (set (phases m) p) (sym e)
                  ∙ set-get_or (phases m) p Phase.Free);
              held = omega (arith, sa.held);
              permits = omega (arith, sa.permits);
              refusals = omega (arith, sa.refusals);
              counter = te.2;
              resumed = omega arith;
              begins = sa.begins;
              room = omega arith;
              nearer = omega (arith, ap (allowed o) e, sa.nearer);
              serves = sv;
            };
      }

  -- A cell that the row leaves alone: its party stands there as before, or this one still does.
  pub names-kept : (t : ℕ) (f x : Phase) → phase_in (phases m) p ≡ f → stand t f ≤ stand t x
      → Names p t x (places m t) (places m t)
  names-kept t f x e z = kept (places m t) refl
    where
      kept : (a : Place) → places m t ≡ a → Names p t x a a
      kept Place.Empty i = tt
      kept (Place.Waiting q) i = (
        λ w.
            omega (
              arith,
              inv.tickets.named t q i,
              ap (stand t) (ap (phase_in (phases m)) w ∙ e),
              stand-le t x,
            ),
        λ w. refl,
      )
      kept Place.Permit i = tt
      kept Place.Cancelled i = tt
      kept Place.Refused i = tt
      kept Place.Done i = tt

  -- Between phases of which the invariant counts the same, the second none of radios; the figures stay.
  pub still-row : {o : Op} {f : Phase} {r : Answer} (s : PartySlot) → phase_in (phases m) p ≡ f
      → ((t : ℕ) → weights_of t f ≡ weights_of t s.phase) → radioed s.phase ≡ 0
      → Says o f s.phase Place.Empty Place.Empty r m.figures m.figures
      → Tells o f s.phase r m.figures.counter → Serves m.figures.resumed r
      → Next k o p r m (set-in m p s m.cells m.figures)
  still-row {o} {f} {r} s e z v sa te sv =
      phase-row s t e
      (record {
        owing = omega (arith, at t 0, at t 4, at t 5);
        permits = omega (arith, at t 0, at t 1, at t 2);
        line = omega (arith, at t 1, at t 4, at t 6, at t 7);
        drawn = omega (arith, at t 3);
        begun = λ i. i;
        owned = omega (arith, at t 8);
        handed = omega (arith, at t 9);
        low = omega (arith, at t 12, inv.tickets.at t);
        high = omega (arith, at t 12, inv.tickets.at t);
        away = λ u y. (sym (at u 8), sym (at u 9), sym (at u 12), sym (at u 11), omega (arith, at u 10));
        later = omega arith;
        refusal = omega (arith, at t 11);
        radios = omega (arith, v);
      })
      (record { numbers = λ u y. (refl, refl); order = λ u y i. omega (arith, at u 4, at u 13) })
      (names-kept t f s.phase e (omega (arith, at t 10)))
      (record {
        begins = sa.begins;
        nearer = sa.nearer;
        held = sa.held;
        permits = omega (arith, sa.permits);
        refusals = omega (arith, sa.refusals);
      })
      te sv
    where
      t : ℕ
      t = m.figures.issued

      at : (u i : ℕ) → get_or (weights_of u f) i 0 ≡ get_or (weights_of u s.phase) i 0
      at u i = ap (λ (l : List ℕ). get_or l i 0) (z u)
