-- How long until calm: each step of a busy party takes one from the potential, and at the start that was
-- at most 5 for each party and twice the bracket.
use Prim.Native.Nat.{ℕ, zero, suc, ◌+◌, ◌-◌, ◌*◌, ◌≤◌}
use mathlib.Core.Path.{◌≡◌, refl, sym, ap, subst, ◌∙◌}
use mathlib.Core.Bool.{Bool, true, false}
use mathlib.Core.List.{List, [], ◌∷◌}
use native.Mathlib.Omega.{arith}
use lib.Dec.{ltb}
use lib.ListN.{length}
use Rattle.hub.specs.declared.answers.Answer.{Answer}
use Rattle.hub.specs.declared.moves.Call.{Call}
use Rattle.hub.specs.declared.moves.Op.{Op}
use Rattle.hub.specs.declared.moves.Sight.{Sight}
use Rattle.hub.specs.declared.opening.Opening.{Opening}
use Rattle.hub.specs.declared.record.Figures.{Figures}
use Rattle.hub.specs.declared.record.Hub.{Hub}
use Rattle.hub.specs.declared.record.PartySlot.{PartySlot}
use Rattle.hub.specs.declared.record.Phase.{Phase}
use Rattle.hub.specs.declared.record.Phase.TheVariants.{Acquiring, Suspending}
use Rattle.hub.specs.declared.record.Phase.TheVariants.{AcquiringMarked, SuspendingMarked}
use Rattle.hub.specs.Answers.{printed}
use Rattle.hub.specs.Basics.{bit, count, weight}
use Rattle.hub.specs.Calls.{answer_of, called, checked, move_of}
use Rattle.hub.specs.Calm.{Busy, rests, step_by, step_refused, drawn_and_to_draw, steps_to_calm}
use Rattle.hub.specs.Calm.{BusySteps, stepped, NoneRefused, ReachesCalm, Settles, ComesToRest}
use Rattle.hub.specs.Ledger.{phase_in}
use Rattle.hub.specs.Look.{look, seen_by}
use Rattle.hub.specs.Moves.{Move, Refuse, Tell, Act, Put, Wake}
use Rattle.hub.specs.Opening.{fresh, opening}
use Rattle.hub.specs.Phases.{at_rest, draws_ticket, is_one_of}
use Rattle.hub.specs.Queue.{Queue, phases}
use Rattle.hub.specs.Queue as queue
use Rattle.hub.specs.Record.{phases_of}
use Rattle.hub.specs.Refinement.{is_seven}
use Rattle.hub.specs.Schedule.{run}
use Rattle.hub.specs.Table.{decide}
use Rattle.hub.proofs.Laws.Bools.{second}
use Rattle.hub.proofs.Laws.Opening.{kept-opening, run-opening}
use Rattle.hub.proofs.Laws.Table.{is_listed}
use Rattle.hub.proofs.Invariant.Weights.{drawing, radioed, pick, sum, count-pick}
use Rattle.hub.proofs.Invariant.Tickets.{drawing-most, resumed-most}
use Rattle.hub.proofs.Invariant.Keep.{Inv}
use Rattle.hub.proofs.Invariant.Potential.{to_calm, most-to-calm, potential}
use Rattle.hub.proofs.Invariant.Rows.{Good, Next}
use Rattle.hub.proofs.Invariant.Schedules.{move-good, tidied-keeps}
use Rattle.hub.proofs.Window.Shown.{Reached, look-same}
use Rattle.hub.proofs.Window.Reached.{reached-fits}
use Rattle.hub.proofs.Window.Followed.{Follows, follows, called-reached, not-seven}
use Rattle.hub.proofs.Demand3.{schedule, start}

apart : {b : Bool} → b ≡ true → b ≡ false → ⊥
apart x y = let z : ◌≡◌ {A = ℕ} 0 1 = cc in omega arith

-- The bracket is not cut off.
room_for : (k : ℕ) (m : Queue) → Inv k m → m.figures.resumed ≤ m.figures.issued + sum drawing m
room_for k m inv = omega (arith, resumed-most inv.tickets, drawing-most inv.tickets)

-- One step at the queue.
module _ (k : ℕ) (m : Queue) (inv : Inv k m) (unnamed : m.opening.named ≡ false) (p : ℕ)
    (busy : at_rest (queue.look m p).slot.phase ≡ false) where
  -- not refused by r, and m'' is one nearer
  abbrev Calms : Answer → Queue → Type 0
  Calms r m'' = (ltb (printed r).code 0x20 ≡ false) × (potential m'' + 1 ≤ potential m)

  -- nobody is at the radios
  no-radio : radioed (phase_in (phases m) p) ≡ 0
  no-radio = omega (arith, inv.radios p, ap bit unnamed)

  told : (r : Answer) (m' : Queue) → Next k Op.Step p r m m' → Calms r m'
  told r m' g = (
    g.reports.success,
    omega (arith, g.reports.nearer, no-radio, room_for k m inv, room_for k m' g.inv),
  )

  -- the tidying takes no party and only raises what is handed
  after : (r : Answer) (m' : Queue) → Next k Op.Step p r m m' → Calms r (queue.tidied m')
  after r m' g =
      let t = tidied-keeps k m' g.inv in
      let x = told r m' g in (
        x.0,
        omega (
          arith,
          x.1,
          room_for k m' g.inv,
          room_for k (queue.tidied m') t.0,
          ap (λ (l : List PartySlot). weight to_calm (phases_of l)) t.1.slots,
          ap (λ (l : List PartySlot). weight drawing (phases_of l)) t.1.slots,
          t.1.issued,
          t.1.resumed,
        ),
      )

  moved : (v : Move) → Good k Op.Step p m (queue.look m p).slot.phase v
      → Calms (answer_of v) (queue.apply m (queue.look m p) v)
  unfolding queue.apply seen_by
  moved (Refuse r) g = absurd (apart (second (is_listed (Refuse r)) _ g) busy)
  moved (Tell y) g = told y m g
  moved (Act x) g = after x.answer _ g
  moved (Put a x) g = after x.answer _ g
  moved (Wake q s a x) g = after x.answer _ g

  step-calms : Calms (answer_of (queue.move_of m (step_by p))) (queue.next m (step_by p))
  step-calms = moved _ (move-good k m inv (step_by p) _ refl)

-- And at the hub, which does the same: a step is never answered 7.
module _ (k : ℕ) (k₁ : 1 ≤ k) (k₂ : k ≤ 32) where
  -- The record h was reached, and shows a queue that is at most w steps from calm.
  record Within (h : Hub) (w : ℕ) : Type 0 where
    pub queue : Queue
    pub reached : Reached k h queue
    pub unnamed : h.control.opening.named ≡ false
    pub near : potential queue ≤ w

  move_same : (h : Hub) (m : Queue) (p : ℕ) → Reached k h m
      → move_of h (step_by p) ≡ queue.move_of m (step_by p)
  unfolding decide
  move_same h m p r = λ i.
      checked (reached-fits k h m r k₁ k₂ i) (ltb p (r.tracks.shows.opening i).parties)
      (decide Op.Step false (look-same k h m r.tracks p i))

  -- A busy party's step is not refused, and leads one step nearer.
  one-step : (h : Hub) (w : ℕ) → Within h w → (p : ℕ) → Busy h p
      → (step_refused h p ≡ false) × (1 ≤ w) × Within (called h (step_by p)).hub (w - 1)
  one-step h w x p b = (
    granted,
    omega (arith, s.1, x.near),
    record {
      queue = queue.next m (step_by p);
      reached = called-reached k h m r (step_by p) _ (f.alike (go _ refl)).0;
      unnamed = ap (λ (o : Opening). o.named) (kept-opening h _ _) ∙ x.unnamed;
      near = omega (arith, s.1, x.near);
    },
  )
    where
      m : Queue
      m = x.queue

      r : Reached k h m
      r = x.reached

      s : (ltb (printed (answer_of (queue.move_of m (step_by p)))).code 0x20 ≡ false)
          × (potential (queue.next m (step_by p)) + 1 ≤ potential m)
      s =
          step-calms k m r.tracks.inv
          (sym (ap (λ (o : Opening). o.named) r.tracks.shows.opening) ∙ x.unnamed) p
          (sym (ap (λ (v : Sight). at_rest v.slot.phase) (look-same k h m r.tracks p))
          ∙ unfold seen_by in b)

      granted : step_refused h p ≡ false
      granted = ap (λ (v : Move). ltb (printed (answer_of v)).code 0x20) (move_same h m p r) ∙ s.0

      f : Follows k h m (step_by p) (look h p) (move_of h (step_by p))
      f = follows k h m r (step_by p) k₁ k₂

      go : (c : Bool) → is_seven (called h (step_by p)).answer ≡ c
          → is_seven (called h (step_by p)).answer ≡ false
      go false i = i
      go true i = absurd (not-seven (called h (step_by p)).answer granted i)

  -- Any number of them.
  steps : (h : Hub) (w : ℕ) (ps : List ℕ) → Within h w → BusySteps h ps
      → NoneRefused h ps × (length ps ≤ w) × Within (stepped h ps) (w - length ps)
  unfolding BusySteps NoneRefused stepped
  steps h w [] x b = (tt, omega arith, subst (Within h) (omega arith) x)
  steps h w (p ∷ ps) x b =
      let y = one-step h w x p b.0 in
      let z = steps (called h (step_by p)).hub (w - 1) ps y.2 b.1 in (
        (y.0, z.0),
        omega (arith, y.1, z.1),
        subst (Within _) (omega arith) z.2,
      )

  -- So they come to rest.
  settles : (h : Hub) (w : ℕ) (ps : List ℕ) → steps_to_calm h ≡ w → Within h w → BusySteps h ps
      → Settles h ps
  settles h w ps e x b =
      let y = steps h w ps x b in
      record {
        onward = λ p c. (one-step _ _ y.2 p c).0;
        at_end = λ n p. go p (λ c. apart (n p) (one-step _ _ y.2 p c).0) _ refl;
        in_time = λ n p. go p (λ c. omega (arith, e, n, y.1, (one-step _ _ y.2 p c).1)) _ refl;
      }
    where
      go : (p : ℕ) → (Busy (stepped h ps) p → ⊥) → (c : Bool) → rests (stepped h ps) p ≡ c
          → rests (stepped h ps) p ≡ true
      go p f true i = i
      go p f false i = absurd (f i)

-- At the start: five for each party, and twice the bracket.
parties-most : (n : ℕ) (l : List Phase) → ((i : ℕ) → n ≤ i → phase_in l i ≡ Phase.Free)
    → weight to_calm l ≤ 5 * n
unfolding weight pick is_one_of
parties-most n [] e = omega arith
parties-most zero (x ∷ l) e =
    omega (arith, ap to_calm (e 0 (omega arith)), parties-most zero l (λ i j. e (suc i) (omega arith)))
parties-most (suc n) (x ∷ l) e =
    omega (arith, most-to-calm x, parties-most n l (λ i j. e (suc i) (omega arith)))

-- A record that a schedule leaves on a hub without radios.
module _ (o : Opening) (e : (opening o).answer ≡ Answer.Opened) (unnamed : o.named ≡ false)
    (cs : List Call) where
  abbrev hub : Hub
  hub = run (opening o).hub cs

  m : Queue
  m = (schedule o e cs).queue

  reached : Reached o.permits hub m
  unfolding m
  reached = (schedule o e cs).reached

  -- what the record shows of the bracket
  drawn : drawn_and_to_draw hub ≡ m.figures.issued + sum drawing m
  drawn =
      omega (
        arith,
        ap (λ (f : Figures). f.issued) reached.tracks.shows.figures,
        ap (λ (l : List PartySlot). count draws_ticket (phases_of l)) reached.tracks.shows.slots,
        count-pick (Acquiring ∷ Suspending ∷ AcquiringMarked ∷ SuspendingMarked ∷ []) (phases m),
      )

  whole : hub.control.figures.resumed ≤ drawn_and_to_draw hub
  whole =
      omega (
        arith,
        drawn,
        ap (λ (f : Figures). f.resumed) reached.tracks.shows.figures,
        room_for o.permits m reached.tracks.inv,
      )

  within : Within o.permits (start o e).permits.0 (start o e).permits.1 hub (steps_to_calm hub)
  unfolding steps_to_calm fresh
  within =
      record {
        queue = m;
        reached = reached;
        unnamed =
            ap (λ (x : Opening). x.named)
            (run-opening (opening o).hub cs ∙ ap (λ (h : Hub). h.control.opening) (start o e).hub)
            ∙ unnamed;
        near =
            omega (
              arith,
              drawn,
              ap (λ (f : Figures). f.resumed) reached.tracks.shows.figures,
              ap (λ (x : Opening). x.parties) reached.tracks.shows.opening,
              parties-most m.opening.parties (phases m) reached.tracks.inv.tickets.beyond,
            );
      }

pub reaches-calm : ReachesCalm
unfolding ReachesCalm
reaches-calm o e n cs = (
  whole o e n cs,
  λ ps b.
      let s = (start o e).permits in
      let y = steps o.permits s.0 s.1 _ _ ps (within o e n cs) b in
      (y.0, y.1),
)

pub comes-to-rest : ComesToRest
unfolding ComesToRest
comes-to-rest o e n cs ps b =
    let s = (start o e).permits in
    settles o.permits s.0 s.1 _ _ ps refl (within o e n cs) b
