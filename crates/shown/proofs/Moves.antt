-- One operation: what it comes to at a hub at rest, and the screen's move on a line that shows that hub.
use Prim.Native.Nat.{ℕ, ◌≤◌, ◌<◌}
use mathlib.Core.Path.{◌≡◌, refl, sym, ap, ap₂, subst, ◌∙◌}
use mathlib.Core.Bool.{Bool, true, false, cond}
use mathlib.Core.List.{List, [], ◌∷◌, ◌++◌, map}
use mathlib.Core.Logic.{◌≢◌, ◌⊎◌, inl, inr}
use native.Mathlib.Omega.{arith}
use borrow.Author.Tests.{ltb-true}
use lib.Dec.{eqb, leb, ltb}
use lib.ListN.{length, drop, set, length-map}
use lib.Seq.{get_or-set_other, map-set_same, set_comm}
use Rattle.hub.specs.declared.answers.Answer.{Answer}
use Rattle.hub.specs.declared.answers.Refusal.{Refusal}
use Rattle.hub.specs.declared.record.Hub.{Hub}
use Rattle.hub.specs.declared.record.Phase.{Phase}
use Rattle.hub.specs.Calls.{checked, is_full, tidied}
use Rattle.hub.specs.Fits.{fits}
use Rattle.hub.specs.Kinds.{kind_in}
use Rattle.hub.specs.Ledger.{phase_in}
use Rattle.hub.specs.Look.{look, seen_by}
use Rattle.hub.specs.Phases.{is_free, is_holding, is_one_of, is_waiting, ticket_of}
use Rattle.hub.specs.Record.{MAX_BEGUN, PARTIES, read_slot, write_slot}
use Rattle.hub.specs.Schedule.{run}
use Rattle.hub.specs.Table.{below_zero, can_cancel, decide, given_up}
use Rattle.hub.specs.Table as table
use Rattle.hub.proofs.Laws.Lists.{map-set}
use Rattle.hub.proofs.Laws.Phases.{one_of}
use Rattle.hub.proofs.Laws.Slots.{read-phase, write-phase}
use Rattle.operations.specs.declared.Operated.{Operated}
use Rattle.operations.specs.AtRest.{acquired, by_move, cancelled, operated_at_rest, released}
use Rattle.operations.proofs.Rest.{AtRest}
use Rattle.screen.specs.declared.record.Line.{Line}
use Rattle.screen.specs.declared.record.Moved.{Moved}
use Rattle.screen.specs.declared.record.Operation.{Operation}
use Rattle.screen.specs.Line.{waiters, with_holding, with_waiters}
use Rattle.screen.specs.Moves.{acquire, call_of, cancel, checked_move, has_permit, has_waiter, is_accepted, line_move}
use Rattle.screen.specs.Moves.{next_waiter, own_move, refused_move, release, without}
use Rattle.screen.specs.Steps.{TO_HAND_OVER, TO_WAIT, own_steps, own_woken, to_counter}
use Rattle.screen.proofs.Laws.Fit.{fits as fits_line}
use Rattle.screen.proofs.Reached.Sound.{Sound, waiters-of}
use Rattle.shown.specs.Parties.{waiters_from, waiters_of}
use Rattle.shown.specs.Shows.{is_six_or_seven}
use Rattle.shown.proofs.Parties.{without-behind}
use Rattle.shown.proofs.Waiters.{comes, leaves, stays}
use Rattle.shown.proofs.Rest.{phases, apart, between, calm, cancel-at-rest, next, next_at}
use Rattle.shown.proofs.Seen.{SameOpening, Seen, holds_same, waits-same, free-same, permit-same}
use Rattle.shown.proofs.Seen.{line_first, next-same, waiter-same}

-- What an operation came to at the hub, and the screen's move.
pub record Same (x : Operated) (l : Line) (o : Operation) (y : Moved) : Type 0 where
  pub answer : x.answer ≡ y.answer
  pub woken : x.woken ≡ cond (is_accepted y.answer) (own_woken l o) 0xFF
  pub steps : x.steps ≡ cond (is_accepted y.answer) (own_steps l o) 0
  pub seen : Seen x.hub y.line

-- A record whose phases are ls, and a line with others that hold; with others that wait.
module _ (h : Hub) (l : Line) (o : SameOpening h.control.opening l) (ls : List Phase) (e : phases h ≡ ls) where
  other-holders : (hs : List Bool) → hs ≡ map is_holding ls
      → waiters l ≡ waiters_from 0 h.control.figures.issued ls → Seen h (with_holding hs l)
  unfolding waiters waiters_of
  other-holders hs f w =
      record {
        opened = o;
        holding = f ∙ ap (map is_holding) (sym e);
        waiters = w ∙ ap (waiters_from 0 h.control.figures.issued) (sym e);
      }

  other-waiters : (ws : List ℕ) → length ws ≤ PARTIES → l.holding ≡ map is_holding ls
      → ws ≡ waiters_from 0 h.control.figures.issued ls → Seen h (with_waiters ws l)
  unfolding waiters_of
  other-waiters ws i f w =
      record {
        opened = o;
        holding = f ∙ ap (map is_holding) (sym e);
        waiters = waiters-of l l.holding ws i ∙ w ∙ ap (waiters_from 0 h.control.figures.issued) (sym e);
      }

-- A refusal.
refused-same : (h : Hub) (l : Line) (o : Operation) (r : Refusal) → Seen h l
    → is_accepted (Answer.Refused r) ≡ false
    → Same (record { answer = Answer.Refused r; woken = 0xFF; steps = 0; hub = h }) l o (refused_move r l)
refused-same h l o r s e =
    record {
      answer = refl;
      woken = ap (λ (b : Bool). cond b (own_woken l o) 0xFF) (sym e);
      steps = ap (λ (b : Bool). cond b (own_steps l o) 0) (sym e);
      seen = s;
    }

-- A party that is free, or holds, does not wait; one that is free, or waits, does not hold.
not-waiting : (f : Phase) → (is_free f ≡ true) ⊎ (is_holding f ≡ true) → is_waiting f ≡ false
unfolding is_one_of
not-waiting f (inl e) = ap is_waiting (one_of Phase.Free f e)
not-waiting f (inr e) = ap is_waiting (one_of Phase.Holding f e)

not-holding : (f : Phase) → (is_free f ≡ true) ⊎ (is_waiting f ≡ true) → is_holding f ≡ false
unfolding is_one_of
not-holding f (inl e) = ap is_holding (one_of Phase.Free f e)
not-holding f (inr e) = ap is_holding (one_of (Phase.Waiting 0) f e)

module _ (h : Hub) (l : Line) (r : AtRest h) (g : Sound l) (s : Seen h l) (p : ℕ) where
  abbrev now : Phase
  now = phase_in (phases h) p

  -- Only one party's holding changes.
  holding-set : (x : Phase) → set l.holding p (is_holding x) ≡ map is_holding (set (phases h) p x)
  holding-set x =
      ap (λ (b : List Bool). set b p (is_holding x)) s.holding ∙ sym (map-set is_holding (phases h) p x)

  holding-kept : (x : Phase) → is_holding x ≡ is_holding now
      → l.holding ≡ map is_holding (set (phases h) p x)
  holding-kept x e = s.holding ∙ sym (map-set_same is_holding (phases h) p x Phase.Free e)

  -- Those that wait are the same.
  waiting_kept : (x : Phase) → is_waiting x ≡ false → is_waiting now ≡ false
      → waiters l ≡ waiters_from 0 h.control.figures.issued (set (phases h) p x)
  unfolding waiters_of
  waiting_kept x i j = s.waiters ∙ sym (stays (phases h) p x i j 0 h.control.figures.issued)

  -- Ask, with a permit there or without.
  acquire-same : p < PARTIES → is_free now ≡ true → (b : Bool) → has_permit l ≡ b
      → (acquire true b l p).line.waiting ≤ PARTIES
      → Same (acquired b h p) l Operation.Acquire (acquire true b l p)
  unfolding acquired acquire waiters_of own_steps own_woken is_one_of
  acquire-same i f true e j =
      record {
        answer = refl;
        woken = refl;
        steps = ap₂ (λ (b c : Bool). cond c (to_counter b) TO_WAIT) (sym s.opened.named) (sym e);
        seen =
            other-holders _ l s.opened (set (phases h) p Phase.Holding)
            (write-phase h.slots p _) (set l.holding p true) (holding-set Phase.Holding)
            (waiting_kept Phase.Holding refl (not-waiting now (inl f)));
      }
  acquire-same i f false e j =
      record {
        answer = refl;
        woken = refl;
        steps = ap (λ (c : Bool). cond c (to_counter l.named) TO_WAIT) (sym e);
        seen =
            other-waiters _ l s.opened
            (set (phases h) p (Phase.Waiting h.control.figures.issued)) (write-phase h.slots p _)
            (waiters l ++ p ∷ []) j
            (holding-kept (Phase.Waiting h.control.figures.issued) (sym (not-holding now (inl f))))
            (ap (λ (w : List ℕ). w ++ p ∷ []) s.waiters
            ∙ sym (comes (phases h) h.control.figures.resumed h.control.figures.issued (between h r) p inside
            (not-waiting now (inl f))));
      }
    where
      inside : p < length (phases h)
      inside = omega (arith, length-map h.slots (λ x. x.phase), r.slots)

  -- Give up.
  cancel-same : is_waiting now ≡ true → (cancel true false l p).line.waiting ≤ PARTIES
      → Same (cancelled h p) l Operation.Cancel (cancel true false l p)
  unfolding cancelled cancel tidied waiters_of own_steps own_woken is_one_of
  cancel-same f j =
      record {
        answer = refl;
        woken = refl;
        steps = refl;
        seen =
            other-waiters _ l s.opened (set (phases h) p Phase.Free)
            (write-phase h.slots p _) (without p (waiters l)) j
            (holding-kept Phase.Free (sym (not-holding now (inr f))))
            (ap (without p) s.waiters
            ∙ sym (leaves (phases h) (apart h r) p (ticket_of now) e Phase.Free refl h.control.figures.issued
            (between h r p (ticket_of now) e).1));
      }
    where
      e : now ≡ Phase.Waiting (ticket_of now)
      e = one_of (Phase.Waiting 0) now f

  -- Give back, with nobody waiting or somebody.
  release-same : is_holding now ≡ true → (b : Bool) → below_zero h.control.figures.counter ≡ b → has_waiter l ≡ b
      → (release true b l p).line.waiting ≤ PARTIES
      → Same (released b h p) l Operation.Release (release true b l p)
  unfolding released release tidied waiters_of own_steps own_woken is_one_of
  release-same f false z e j =
      record {
        answer = refl;
        woken = ap (λ (c : Bool). cond c (next_waiter l) 0xFF) (sym e);
        steps = ap₂ (λ (b c : Bool). cond c TO_HAND_OVER (to_counter b)) (sym s.opened.named) (sym e);
        seen =
            other-holders _ l s.opened (set (phases h) p Phase.Free)
            (write-phase h.slots p _) (set l.holding p false) (holding-set Phase.Free)
            (waiting_kept Phase.Free refl (not-waiting now (inr f)));
      }
  release-same f true z e j =
      record {
        answer = refl;
        woken = sym (next-same h l r g s z) ∙ ap (λ (c : Bool). cond c (next_waiter l) 0xFF) (sym e);
        steps = ap (λ (c : Bool). cond c TO_HAND_OVER (to_counter l.named)) (sym e);
        seen =
            other-waiters _ (with_holding (set (set l.holding p false) (next_waiter l) true) l)
            s.opened (set (set (phases h) q Phase.Holding) p Phase.Free)
            (write-phase (write_slot h.slots q _) p _
            ∙ ap (λ (x : List Phase). set x p Phase.Free) (write-phase h.slots q _))
            (drop 1 (waiters l)) j
            (ap₂ (λ (b : List Bool) (n : ℕ). set (set b p false) n true) s.holding (next-same h l r g s z)
            ∙ ap (λ (b : List Bool). set b q true) (sym (map-set is_holding (phases h) p Phase.Free))
            ∙ sym (map-set is_holding (set (phases h) p Phase.Free) q Phase.Holding)
            ∙ ap (map is_holding) (set_comm (phases h) p q Phase.Free Phase.Holding differs))
            (ap (drop 1) (s.waiters ∙ line_first h l r g s z)
            ∙ sym (stays (set (phases h) q Phase.Holding) p Phase.Free refl
            (ap is_waiting (get_or-set_other (phases h) q p Phase.Holding Phase.Free differs)
            ∙ not-waiting now (inr f)) 0 h.control.figures.issued
            ∙ leaves (phases h) (apart h r) q h.control.figures.resumed first Phase.Holding refl
            h.control.figures.issued (between h r q h.control.figures.resumed first).1
            ∙ ap (without q) (line_first h l r g s z) ∙ without-behind [] q _ refl));
      }
    where
      q : ℕ
      q = next_at h

      first : phase_in (phases h) q ≡ Phase.Waiting h.control.figures.resumed
      first = next h r z

      -- who holds is not who waits
      differs : p ≢ q
      differs d =
          let y : true ≡ false = sym f ∙ ap is_holding (ap (phase_in (phases h)) d ∙ first) in
          let n : ◌≡◌ {A = ℕ} 0 1 = cc in
          omega arith

  -- As long as the hub does not answer 6 or 7, and the queue has room for the move.
  abbrev Follows : Operated → Operation → Moved → Type 0
  Follows x o y = is_six_or_seven x.answer ≡ false → y.line.waiting ≤ PARTIES → Same x l o y

  -- The tests of an ask, of a give-up and of a give-back, one after the other.
  acquire-by : p < PARTIES → (b : Bool) → is_free now ≡ b → (e full : Bool)
      → Follows (by_move (table.acquire b e full (look h p)) h (call_of Operation.Acquire p)) Operation.Acquire
      (acquire b (has_permit l) l p)
  unfolding table.acquire acquire
  acquire-by i false f e full n j = refused-same h l Operation.Acquire Refusal.NotFree s refl
  acquire-by i true f true full n j = absurd (let z : ◌≡◌ {A = ℕ} 0 1 = cc in omega arith)
  acquire-by i true f false true n j = absurd (let z : ◌≡◌ {A = ℕ} 0 1 = cc in omega arith)
  acquire-by i true f false false n j =
      subst (λ (b : Bool). Same (acquired b h p) l Operation.Acquire (acquire true (has_permit l) l p))
      (permit-same h l r g s) (acquire-same i f (has_permit l) refl j)

  cancel-by : (b : Bool) → is_waiting now ≡ b → (k : Bool) (x : Phase)
      → Follows (by_move (table.cancel b k x (look h p)) h (call_of Operation.Cancel p)) Operation.Cancel
      (cancel b k l p)
  unfolding table.cancel cancel
  cancel-by false f k x n j = refused-same h l Operation.Cancel Refusal.NotWaiting s refl
  cancel-by true f true x n j = refused-same h l Operation.Cancel Refusal.NotCancellable s refl
  cancel-by true f false x n j = cancel-same f j

  release-by : (b : Bool) → is_holding now ≡ b
      → Follows (by_move (table.release b (look h p)) h (call_of Operation.Release p)) Operation.Release
      (release b (has_waiter l) l p)
  unfolding table.release release
  release-by false f n j = refused-same h l Operation.Release Refusal.NotHolding s refl
  release-by true f n j =
      subst (λ (b : Bool). Same (released b h p) l Operation.Release (release true (has_waiter l) l p))
      (waiter-same h l r g s) (release-same f (has_waiter l) (sym (waiter-same h l r g s)) refl j)

  -- What is decided where there is such a party.
  own_same : p < PARTIES → (o : Operation) (full : Bool)
      → Follows (by_move (decide (call_of o p).op full (look h p)) h (call_of o p)) o (own_move l o p)
  unfolding decide own_move seen_by
  own_same i Operation.Acquire full =
      let e = leb MAX_BEGUN h.control.figures.begun in
      subst
      (λ (b : Bool).
      Follows (by_move (table.acquire b e full (look h p)) h (call_of Operation.Acquire p)) Operation.Acquire
      (own_move l Operation.Acquire p))
      (free-same h l r g s p ∙ ap is_free (sym (read-phase h.slots p)))
      (acquire-by i _ (sym (free-same h l r g s p)) e full)
  own_same i Operation.Cancel full =
      let x = given_up (read_slot h.slots p).phase in
      subst
      (λ (ks : List ℕ).
      Follows (by_move (table.cancel (can_cancel (read_slot h.slots p).phase) (eqb (kind_in ks p) 3) x (look h p)) h
      (call_of Operation.Cancel p)) Operation.Cancel (own_move l Operation.Cancel p))
      s.opened.kinds
      (subst
      (λ (b : Bool).
      Follows (by_move (table.cancel b (eqb (kind_in l.kinds p) 3) x (look h p)) h (call_of Operation.Cancel p))
      Operation.Cancel (own_move l Operation.Cancel p))
      (waits-same h l r g s p ∙ sym (cancel-at-rest now (calm h r p))
      ∙ ap can_cancel (sym (read-phase h.slots p)))
      (cancel-by _ (sym (waits-same h l r g s p)) (eqb (kind_in l.kinds p) 3) x))
  own_same i Operation.Release full =
      subst
      (λ (b : Bool).
      Follows (by_move (table.release b (look h p)) h (call_of Operation.Release p)) Operation.Release
      (own_move l Operation.Release p))
      (holds_same h l r g s p ∙ ap is_holding (sym (read-phase h.slots p)))
      (release-by _ (sym (holds_same h l r g s p)))

  -- What the hub decides, once it fits and has the party or has not.
  abbrev hub_by : Bool → Bool → Operation → Operated
  hub_by fit there o =
      by_move
      (checked fit there
      (decide (call_of o p).op (is_full h.control.oldest h.control.figures.issued h.slots) (look h p)))
      h (call_of o p)

  checked-same : (o : Operation) (b : Bool) → ltb p h.control.opening.parties ≡ b
      → Follows (hub_by true b o) o (checked_move true b l (own_move l o p))
  unfolding checked checked_move
  checked-same o false e = λ n j. refused-same h l o Refusal.NoSuchParty s refl
  checked-same o true e =
      own_same (omega (arith, ltb-true p h.control.opening.parties e, r.few)) o
      (is_full h.control.oldest h.control.figures.issued h.slots)

  fitting-same : (o : Operation)
      → Follows (hub_by (fits h) (ltb p h.control.opening.parties) o) o (line_move l o p)
  unfolding line_move run
  fitting-same o =
      let fit : fits h ≡ true = r.fit [] in
      let there = ltb p h.control.opening.parties in
      let own = own_move l o p in
      subst (λ (b : Bool). Follows (hub_by b there o) o (line_move l o p)) (sym fit)
      (subst (λ (b : Bool). Follows (hub_by true there o) o (checked_move b (ltb p l.parties) l own))
      (sym (fits_line l g.fit))
      (subst (λ (n : ℕ). Follows (hub_by true there o) o (checked_move true (ltb p n) l own)) (sym s.opened.parties)
      (checked-same o there refl)))

  -- Every operation.
  pub operation-same : (o : Operation) → Follows (operated_at_rest h (call_of o p)) o (line_move l o p)
  unfolding operated_at_rest
  operation-same Operation.Acquire = fitting-same Operation.Acquire
  operation-same Operation.Cancel = fitting-same Operation.Cancel
  operation-same Operation.Release = fitting-same Operation.Release
